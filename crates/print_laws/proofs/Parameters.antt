-- The canonical texts of paths and of the parameters of signals and methods.
use Rattle.std.proofs.Common.{◌≡◌, ℕ, ◌||◌, Bool, true, false, List, [], ◌∷◌, ◌++◌, map, codes, Option, Some, None, refl, sym, ap, subst, ◌∙◌, append-nil}
use Rattle.std.proofs.lemmas.List.{map-append}
use Rattle.piece_laws.specs.Pieces.{Piece, token, space, pieces_text, lexeme_text, past, past_all, placed, AreLawfulTokens, IsLawfulLexeme}
use Rattle.print_laws.proofs.Apart.{Other}
use Rattle.print_laws.proofs.Expressions.{join_more, comma_text}
use Rattle.print_laws.proofs.Following.{begins_line, name_begins}
use Rattle.print_laws.proofs.Runs.{Run, placed_append, run_of, touching, spaced_by}
use Rattle.print_laws.proofs.Signs.{lawful_as, lawful_left, lawful_right, name_is_text, touches_mark, paren_touches, dot_touches}
use Rattle.print_laws.proofs.Spellings.{parens_text}
use Rattle.qml_ast.specs.Alike.{signal_param_apart, method_param_apart}
use Rattle.qml_ast.specs.declared.param.MethodParam.{MethodParam}
use Rattle.qml_ast.specs.declared.param.SignalParam.{SignalParam}
use Rattle.qml_ast.specs.declared.path.Path.{Path}
use Rattle.qml_ast.specs.declared.span.Span.{Span}
use Rattle.qml_grammar.specs.Canonical.{path_text, signal_param_text, signal_params_text}
use Rattle.qml_grammar.specs.CanonicalExpressions.{join}
use Rattle.qml_grammar.specs.DocumentGrammar.{IsName, is_own_word, IsPath, one as one_name, two as two_names, IsSignalParam, param, AreSignalParams, one as one_signal, more as more_signals, AreMethodParams, one as one_method, more as more_methods, AreMethodParens, none as no_methods, some as some_methods, AreSignalParens, nothing, none as no_signals, some as some_signals}
use Rattle.qml_grammar.specs.Lexemes.{Lexeme, mark, Token, is_word, is_word_lexeme, name_of_lexeme, is_mark}
use Rattle.qml_grammar.specs.Marks.{mark_text, mark_number, same_mark}
use Rattle.qml_grammar.specs.declared.mark.Mark.TheVariants.{OpenParen, CloseParen, Comma, Dot}
use Rattle.qml_grammar.specs.declared.word.Word.TheVariants as ww

-- Paths

-- the pieces of a path, the first one of which is a token
pub record PathSpelling (p : Path) : Type 0 where
  pub first : Lexeme
  pub behind : List Piece
  pub last : Lexeme
  pub run : Run first last (token first ∷ behind)
  pub begins : begins_line first ≡ true
  pub text_is : pieces_text (token first ∷ behind) ≡ path_text p
  pub spelled : (at : Span) → IsPath (placed at (token first ∷ behind)) p

last_of_own : (a b c d e f g h i : Bool) → (a || b || c || d || e || f || g || h || i) ≡ false → i ≡ false
last_of_own a b c d e f g h true k = absurd (all_true a b c d e f g h k)
  where
    or_true : (x : Bool) → (x || true) ≡ true
    or_true true = refl
    or_true false = refl

    under : (x y : Bool) → y ≡ true → (x || y) ≡ true
    under x true e = or_true x
    under x false e = absurd cc

    all_true : (a b c d e f g h : Bool) → (a || b || c || d || e || f || g || h || true) ≡ false → ⊥
    all_true a b c d e f g h k = let all : (a || b || c || d || e || f || g || h || true) ≡ true = or_true _ in cc
last_of_own a b c d e f g h false k = refl

pub own_no_else : (t : Token) → is_own_word (Some t) ≡ false → is_word_lexeme ww.Else t.lexeme ≡ false
own_no_else t h = last_of_own (is_word ww.Id (Some t)) (is_word ww.Property (Some t)) (is_word ww.ReadOnly (Some t)) (is_word ww.Signal (Some t)) (is_word ww.Function (Some t)) (is_word ww.Default (Some t)) (is_word ww.Enum (Some t)) (is_word ww.Required (Some t)) (is_word ww.Else (Some t)) h

one_path_text : (l : Lexeme) (n : List ℕ) → lexeme_text l ≡ n → pieces_text (token l ∷ []) ≡ n ++ []
one_path_text l n h = ap (λ s. s ++ []) h

one_path : (l : Lexeme) (n : List ℕ) → ((at : Span) → is_own_word (Some (record { lexeme = l; span = at })) ≡ false) → IsLawfulLexeme l → name_of_lexeme l ≡ Some n → PathSpelling (record { first = n; second = None })
one_path l n own law h = record {
  first = l;
  behind = [];
  last = l;
  run = run_of l law;
  begins = name_begins l n h (own_no_else (record { lexeme = l; span = record { line = 0; col = 0 } }) (own (record { line = 0; col = 0 })));
  text_is = one_path_text l n (name_is_text l n h);
  spelled = λ at. one_name (record { lexeme = l; span = at }) n refl refl (own at) h;
}

two_path_text : (l r : Lexeme) (n m : List ℕ) → lexeme_text l ≡ n → lexeme_text r ≡ m → pieces_text (token l ∷ token (mark Dot) ∷ token r ∷ []) ≡ n ++ (codes "." ++ m)
unfolding mark_text
two_path_text l r n m h k = rw (h, k) (ap (λ s. n ++ 46 ∷ s) (append-nil m))

pub two_path : (l r : Lexeme) (n m : List ℕ) → ((at : Span) → is_own_word (Some (record { lexeme = l; span = at })) ≡ false) → IsLawfulLexeme l → IsLawfulLexeme r → name_of_lexeme l ≡ Some n → name_of_lexeme r ≡ Some m →
    ((ts : List Token) (t o u : Token) → ts ≡ t ∷ o ∷ u ∷ [] → is_own_word (Some t) ≡ false → IsName t n → is_mark Dot (Some o) ≡ true → IsName u m → IsPath ts (record { first = n; second = Some m })) →
    PathSpelling (record { first = n; second = Some m })
unfolding same_mark mark_number
two_path l r n m own law_l law_r h k makes = record {
  first = l;
  behind = token (mark Dot) ∷ token r ∷ [];
  last = r;
  run = touching (run_of l law_l) (touching (run_of (mark Dot) tt) (run_of r law_r) (dot_touches r m k)) (touches_mark l Dot refl);
  begins = name_begins l n h (own_no_else (record { lexeme = l; span = record { line = 0; col = 0 } }) (own (record { line = 0; col = 0 })));
  text_is = two_path_text l r n m (name_is_text l n h) (name_is_text r m k);
  spelled = λ at.
      let dot : Span = past at (token l) in
      makes _ (record { lexeme = l; span = at }) (record { lexeme = mark Dot; span = dot }) (record { lexeme = r; span = past dot (token (mark Dot)) }) refl (own at) h refl k;
}

pub path_prints : {ts : List Token} {p : Path} → IsPath ts p → AreLawfulTokens ts → PathSpelling p
path_prints (one_name t n ts_is p_is own is) law = rw p_is (one_path t.lexeme n (λ at. own) (lawful_as ts_is law).0 is)
path_prints (two_names t o u n m ts_is p_is own is dot second allowed) law =
    let laws : AreLawfulTokens (t ∷ o ∷ u ∷ []) = lawful_as ts_is law in
    rw p_is (two_path t.lexeme u.lexeme n m (λ at. own) laws.0 laws.1.1.0 is second (λ us a b c us_is a_own a_is b_dot c_is. two_names a b c n m us_is refl a_own a_is b_dot c_is allowed))

-- Lists with commas between them

-- their pieces, with others that differ in places at most
pub record ListSpelling {A : Type 0} (apart : A → A) (text : A → List ℕ) (xs : List A) (Are : List Token → List A → Type 0) : Type 0 where
  pub pieces : List Piece
  pub first : Lexeme
  pub last : Lexeme
  pub run : Run first last pieces
  pub text_is : pieces_text pieces ≡ join (codes ", ") (map text xs)
  pub spelled : (at : Span) → Other (map apart) xs (Are (placed at pieces))

-- one of a list
pub record OneSpelling {A : Type 0} (apart : A → A) (text : A → List ℕ) (x : A) (Is : List Token → A → Type 0) : Type 0 where
  pub pieces : List Piece
  pub first : Lexeme
  pub last : Lexeme
  pub run : Run first last pieces
  pub text_is : pieces_text pieces ≡ text x
  pub spelled : (at : Span) → Other apart x (Is (placed at pieces))

-- a list in parentheses
pub record ParensSpelling {A : Type 0} (apart : A → A) (text : List ℕ) (xs : List A) (Are : List Token → List A → Type 0) : Type 0 where
  pub pieces : List Piece
  pub run : Run (mark OpenParen) (mark CloseParen) pieces
  pub text_is : pieces_text pieces ≡ codes "(" ++ (text ++ codes ")")
  pub spelled : (at : Span) → Other (map apart) xs (Are (placed at pieces))

module _ {A : Type 0} (apart : A → A) (text : A → List ℕ) (Is : List Token → A → Type 0) (Are : List Token → List A → Type 0) where
  listed_one : (x : A) → OneSpelling apart text x Is → ((ts : List Token) (y : A) → Is ts y → Are ts (y ∷ [])) → ListSpelling apart text (x ∷ []) Are
  listed_one x p makes = record {
    pieces = p.pieces;
    first = p.first;
    last = p.last;
    run = p.run;
    text_is = p.text_is;
    spelled = λ at. let o = p.spelled at in record { other = o.other ∷ []; alike = ap (λ y. y ∷ []) o.alike; is = makes (placed at p.pieces) o.other o.is };
  }

  join_behind : (w : A) (ws : List A) (z : A) → join (codes ", ") (map text (w ∷ ws ++ z ∷ [])) ≡ join (codes ", ") (map text (w ∷ ws)) ++ (codes ", " ++ text z)
  join_behind w ws z = ap (λ ys. join (codes ", ") (text w ∷ ys)) (map-append text ws (z ∷ [])) ∙ join_more (codes ", ") (text w) (map text ws) (text z)

  listed_more : (ys : List A) (w : A) (ws : List A) (z : A) → ys ≡ w ∷ ws → ListSpelling apart text ys Are → OneSpelling apart text z Is →
      ((ts us : List Token) (o : Token) (vs : List Token) (ys : List A) (y : A) → ts ≡ us ++ o ∷ vs → is_mark Comma (Some o) ≡ true → Are us ys → Is vs y → Are ts (ys ++ y ∷ [])) → ListSpelling apart text (ys ++ z ∷ []) Are
  unfolding same_mark mark_number
  listed_more ys w ws z ys_is p q makes = record {
    pieces = p.pieces ++ token (mark Comma) ∷ space ∷ q.pieces;
    first = p.first;
    last = q.last;
    run = touching p.run (spaced_by (run_of (mark Comma) tt) q.run) (touches_mark p.last Comma refl);
    text_is = comma_text p.pieces q.pieces (join (codes ", ") (map text ys)) (text z) p.text_is q.text_is ∙ rw ys_is (sym (join_behind w ws z));
    spelled = λ at.
        let comma : Token = record { lexeme = mark Comma; span = past_all at p.pieces } in
        let on : Span = past (past comma.span (token (mark Comma))) space in
        let r = p.spelled at in
        let s = q.spelled on in
        record {
          other = r.other ++ s.other ∷ [];
          alike = map-append apart r.other (s.other ∷ []) ∙ (rw (r.alike, s.alike) (sym (map-append apart ys (z ∷ []))));
          is = makes (placed at (p.pieces ++ token (mark Comma) ∷ space ∷ q.pieces)) (placed at p.pieces) comma (placed on q.pieces) r.other s.other (placed_append at p.pieces (token (mark Comma) ∷ space ∷ q.pieces)) refl r.is s.is;
        };
  }

  -- in parentheses
  parens_listed : (xs : List A) (Parens : List Token → List A → Type 0) → ListSpelling apart text xs Are →
      ((ts : List Token) (o : Token) (us : List Token) (z : Token) (ys : List A) → ts ≡ o ∷ us ++ z ∷ [] → is_mark OpenParen (Some o) ≡ true → Are us ys → is_mark CloseParen (Some z) ≡ true → Parens ts ys) →
      ParensSpelling apart (join (codes ", ") (map text xs)) xs Parens
  unfolding same_mark mark_number mark_text
  parens_listed xs Parens p makes = record {
    pieces = token (mark OpenParen) ∷ p.pieces ++ token (mark CloseParen) ∷ [];
    run = touching (touching (run_of (mark OpenParen) tt) p.run (paren_touches p.first)) (run_of (mark CloseParen) tt) (touches_mark p.last CloseParen refl);
    text_is = parens_text p.pieces (join (codes ", ") (map text xs)) p.text_is;
    spelled = λ at.
        let inside : Span = past at (token (mark OpenParen)) in
        let r = p.spelled inside in
        record {
          other = r.other;
          alike = r.alike;
          is = makes (placed at (token (mark OpenParen) ∷ p.pieces ++ token (mark CloseParen) ∷ [])) (record { lexeme = mark OpenParen; span = at }) (placed inside p.pieces) (record { lexeme = mark CloseParen; span = past_all inside p.pieces }) r.other (placed_append at (token (mark OpenParen) ∷ p.pieces) (token (mark CloseParen) ∷ [])) refl r.is refl;
        };
  }

-- Parameters of signals

signal_param_spelled : (l r : Lexeme) (k n : List ℕ) (a b : Span) → IsLawfulLexeme l → IsLawfulLexeme r → name_of_lexeme l ≡ Some k → name_of_lexeme r ≡ Some n → OneSpelling signal_param_apart signal_param_text (record { kind = k; name = n; kind_span = a; name_span = b }) IsSignalParam
signal_param_spelled l r k n a b law_l law_r h j = record {
  pieces = token l ∷ space ∷ token r ∷ [];
  first = l;
  last = r;
  run = spaced_by (run_of l law_l) (run_of r law_r);
  text_is = ap (λ s. lexeme_text l ++ 32 ∷ s) (append-nil (lexeme_text r) ∙ name_is_text r n j) ∙ ap (λ s. s ++ 32 ∷ n) (name_is_text l k h);
  spelled = λ at.
      let second : Span = past (past at (token l)) space in
      record {
        other = record { kind = k; name = n; kind_span = at; name_span = second };
        alike = refl;
        is = param (record { lexeme = l; span = at }) (record { lexeme = r; span = second }) k n refl refl h j;
      };
}

signal_param_prints : {ts : List Token} {x : SignalParam} → IsSignalParam ts x → AreLawfulTokens ts → OneSpelling signal_param_apart signal_param_text x IsSignalParam
signal_param_prints (param t u k n ts_is x_is kind_is name_is) law =
    let laws : AreLawfulTokens (t ∷ u ∷ []) = lawful_as ts_is law in
    rw x_is (signal_param_spelled t.lexeme u.lexeme k n t.span u.span laws.0 laws.1.0 kind_is name_is)

signals_some : {ts : List Token} {xs : List SignalParam} → AreSignalParams ts xs → (w : SignalParam) × (ws : List SignalParam) × (xs ≡ w ∷ ws)
signals_some (one_signal x xs_is p) = (x, [], xs_is)
signals_some (more_signals us o vs ys z ts_is xs_is p comma q) = let e = signals_some p in (e.0, e.1 ++ z ∷ [], xs_is ∙ ap (λ l. l ++ z ∷ []) e.2)

signals_listed : {ts : List Token} {xs : List SignalParam} → AreSignalParams ts xs → AreLawfulTokens ts → ListSpelling signal_param_apart signal_param_text xs AreSignalParams
signals_listed (one_signal x xs_is p) law =
    rw xs_is (listed_one signal_param_apart signal_param_text IsSignalParam AreSignalParams x (signal_param_prints p law) (λ ts y q. one_signal y refl q))
signals_listed (more_signals us o vs ys z ts_is xs_is p comma q) law =
    let laws : AreLawfulTokens (us ++ o ∷ vs) = lawful_as ts_is law in
    let e = signals_some p in
    rw xs_is (listed_more signal_param_apart signal_param_text IsSignalParam AreSignalParams ys e.0 e.1 z e.2 (signals_listed p (lawful_left us (o ∷ vs) laws)) (signal_param_prints q (lawful_right us (o ∷ vs) laws).1) (λ ts bs c ds es y ts_is is are one. more_signals bs c ds es y ts_is refl are is one))

-- Parameters of methods

IsMethodParam : List Token → MethodParam → Type 0
IsMethodParam ts x = (t : Token) × (ts ≡ t ∷ []) × (x ≡ record { name = x.name; span = t.span }) × IsName t x.name

method_param_spelled : (l : Lexeme) (n : List ℕ) (a : Span) → IsLawfulLexeme l → name_of_lexeme l ≡ Some n → OneSpelling method_param_apart (λ p. p.name) (record { name = n; span = a }) IsMethodParam
unfolding IsMethodParam
method_param_spelled l n a law h = record {
  pieces = token l ∷ [];
  first = l;
  last = l;
  run = run_of l law;
  text_is = append-nil (lexeme_text l) ∙ name_is_text l n h;
  spelled = λ at. record {
    other = record { name = n; span = at };
    alike = refl;
    is = (record { lexeme = l; span = at }, refl, refl, h);
  };
}

one_method_of : (ts : List Token) (y : MethodParam) → IsMethodParam ts y → AreMethodParams ts (y ∷ [])
unfolding IsMethodParam
one_method_of ts y q = one_method q.0 y.name q.1 (ap (λ z. z ∷ []) q.2) q.3

more_method_of : (ts us : List Token) (o : Token) (vs : List Token) (ys : List MethodParam) (y : MethodParam) → ts ≡ us ++ o ∷ vs → is_mark Comma (Some o) ≡ true → AreMethodParams us ys → IsMethodParam vs y → AreMethodParams ts (ys ++ y ∷ [])
unfolding IsMethodParam
more_method_of ts us o vs ys y ts_is comma are q = more_methods us o q.0 ys y.name (ts_is ∙ ap (λ ws. us ++ o ∷ ws) q.1) (ap (λ z. ys ++ z ∷ []) q.2) are comma q.3

methods_some : {ts : List Token} {xs : List MethodParam} → AreMethodParams ts xs → (w : MethodParam) × (ws : List MethodParam) × (xs ≡ w ∷ ws)
methods_some (one_method t n ts_is xs_is is) = (record { name = n; span = t.span }, [], xs_is)
methods_some (more_methods us o t ys n ts_is xs_is p comma is) = let e = methods_some p in (e.0, e.1 ++ record { name = n; span = t.span } ∷ [], xs_is ∙ ap (λ l. l ++ record { name = n; span = t.span } ∷ []) e.2)

methods_listed : {ts : List Token} {xs : List MethodParam} → AreMethodParams ts xs → AreLawfulTokens ts → ListSpelling method_param_apart (λ p. p.name) xs AreMethodParams
methods_listed (one_method t n ts_is xs_is is) law =
    rw xs_is (listed_one method_param_apart (λ p. p.name) IsMethodParam AreMethodParams (record { name = n; span = t.span }) (method_param_spelled t.lexeme n t.span (lawful_as ts_is law).0 is) one_method_of)
methods_listed (more_methods us o t ys n ts_is xs_is p comma is) law =
    let laws : AreLawfulTokens (us ++ o ∷ t ∷ []) = lawful_as ts_is law in
    let e = methods_some p in
    rw xs_is (listed_more method_param_apart (λ p. p.name) IsMethodParam AreMethodParams ys e.0 e.1 (record { name = n; span = t.span }) e.2 (methods_listed p (lawful_left us (o ∷ t ∷ []) laws)) (method_param_spelled t.lexeme n t.span (lawful_right us (o ∷ t ∷ []) laws).1.0 is) more_method_of)

-- a method's parentheses
abbrev pub MethodParens : List MethodParam → Type 0
MethodParens xs = ParensSpelling method_param_apart (join (codes ", ") (map (λ (p : MethodParam). p.name) xs)) xs AreMethodParens

no_method_parens : MethodParens []
unfolding same_mark mark_number mark_text
no_method_parens = record {
  pieces = token (mark OpenParen) ∷ token (mark CloseParen) ∷ [];
  run = touching (run_of (mark OpenParen) tt) (run_of (mark CloseParen) tt) refl;
  text_is = refl;
  spelled = λ at. record {
    other = [];
    alike = refl;
    is = no_methods (record { lexeme = mark OpenParen; span = at }) (record { lexeme = mark CloseParen; span = past at (token (mark OpenParen)) }) refl refl refl refl;
  };
}

pub method_parens_print : {ts : List Token} {xs : List MethodParam} → AreMethodParens ts xs → AreLawfulTokens ts → MethodParens xs
method_parens_print (no_methods o z ts_is xs_is open_is close_is) law = rw xs_is no_method_parens
method_parens_print {xs = xs} (some_methods o us z ts_is open_is are close_is) law =
    parens_listed method_param_apart (λ p. p.name) IsMethodParam AreMethodParams xs AreMethodParens (methods_listed are (lawful_left us (z ∷ []) (lawful_as ts_is law).1)) (λ ts a vs b ys us_is o_is q z_is. some_methods a vs b us_is o_is q z_is)

-- a signal's parentheses, if it takes anything
pub record SignalParens (xs : List SignalParam) : Type 0 where
  pub pieces : List Piece
  pub joins : (a b : Lexeme) (ps : List Piece) → Run a b ps → (l : Lexeme) × Run a l (ps ++ pieces)
  pub text_is : pieces_text pieces ≡ signal_params_text xs
  pub spelled : (at : Span) (next : Option Token) → is_mark OpenParen next ≡ false → Other (map signal_param_apart) xs (AreSignalParens (placed at pieces) next)

no_signal_parens : SignalParens []
no_signal_parens = record {
  pieces = [];
  joins = λ a b ps r. (b, subst (Run a b) (sym (append-nil ps)) r);
  text_is = refl;
  spelled = λ at next stops. record { other = []; alike = refl; is = nothing refl refl stops };
}

some_signals_text : (w : SignalParam) (ws xs : List SignalParam) → xs ≡ w ∷ ws → codes "(" ++ (join (codes ", ") (map signal_param_text xs) ++ codes ")") ≡ signal_params_text xs
some_signals_text w ws xs h = rw h refl

signal_parens_of : (xs : List SignalParam) (w : SignalParam) (ws : List SignalParam) → xs ≡ w ∷ ws → ParensSpelling signal_param_apart (join (codes ", ") (map signal_param_text xs)) xs (λ ts ys. (next : Option Token) → AreSignalParens ts next ys) → SignalParens xs
unfolding same_mark mark_number
signal_parens_of xs w ws xs_is p = record {
  pieces = p.pieces;
  joins = λ a b ps r. (mark CloseParen, touching r p.run (touches_mark b OpenParen refl));
  text_is = p.text_is ∙ some_signals_text w ws xs xs_is;
  spelled = λ at next stops. let r = p.spelled at in record { other = r.other; alike = r.alike; is = r.is next };
}

pub signal_parens_print : {ts : List Token} {next : Option Token} {xs : List SignalParam} → AreSignalParens ts next xs → AreLawfulTokens ts → SignalParens xs
signal_parens_print (nothing ts_is xs_is stops) law = rw xs_is no_signal_parens
signal_parens_print (no_signals o z ts_is xs_is open_is close_is) law = rw xs_is no_signal_parens
signal_parens_print {xs = xs} (some_signals o us z ts_is open_is are close_is) law =
    let e = signals_some are in
    signal_parens_of xs e.0 e.1 e.2 (parens_listed signal_param_apart signal_param_text IsSignalParam AreSignalParams xs (λ ts ys. (next : Option Token) → AreSignalParens ts next ys) (signals_listed are (lawful_left us (z ∷ []) (lawful_as ts_is law).1)) (λ ts a vs b ys us_is o_is q z_is next. some_signals a vs b us_is o_is q z_is))
