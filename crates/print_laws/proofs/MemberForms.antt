-- The canonical text of each form of member.
use Rattle.std.proofs.Common.{◌≡◌, ℕ, true, false, List, [], ◌∷◌, ◌++◌, map, codes, Option, Some, refl, sym, ap, ◌∙◌, append_assoc, append-nil}
use Rattle.std.specs.Prelude.{option_map}
use Rattle.piece_laws.specs.Pieces.{Piece, token, space, pieces_text, lexeme_text, past, past_all, placed, IsLawfulLexeme}
use Rattle.print_laws.proofs.Apart.{alike-Id, alike-Property, alike-Signal, alike-Init, alike-Handler, alike-Method, alike-Child}
use Rattle.print_laws.proofs.Claims.{StmtSpelling}
use Rattle.print_laws.proofs.Following.{name_begins, type_no_word}
use Rattle.print_laws.proofs.Parameters.{PathSpelling, MethodParens, SignalParens}
use Rattle.print_laws.proofs.Runs.{Run, text_append, placed_append, run_of, touching, spaced_by}
use Rattle.print_laws.proofs.Signs.{name_is_text, touches_mark}
use Rattle.print_laws.proofs.Statements.{BlockSpelling}
use Rattle.print_laws.proofs.Values.{ObjectSpelling, ValueSpelling, MaybeValueSpelling, ShortMemberSpelling, MemberSpelling}
use Rattle.qml_ast.specs.declared.decl.Decl.{Decl}
use Rattle.qml_ast.specs.declared.decl.Init.{Init}
use Rattle.qml_ast.specs.declared.decl.Member.TheVariants as mm
use Rattle.qml_ast.specs.declared.param.MethodParam.{MethodParam}
use Rattle.qml_ast.specs.declared.param.SignalParam.{SignalParam}
use Rattle.qml_ast.specs.declared.path.Path.{Path}
use Rattle.qml_ast.specs.declared.span.Span.{Span}
use Rattle.qml_ast.specs.declared.stmt.Stmt.{Stmt}
use Rattle.qml_grammar.specs.Canonical.{init_text, stmt_text, path_text, signal_params_text, braced, maybe_text}
use Rattle.qml_grammar.specs.CanonicalExpressions.{join}
use Rattle.qml_grammar.specs.DocumentGrammar.{id, property, fixed, signal, initialised, handled, method, child}
use Rattle.qml_grammar.specs.Lexemes.{Lexeme, word, mark, Token, is_word, name_of_lexeme}
use Rattle.qml_grammar.specs.Marks.{mark_text, mark_number, same_mark}
use Rattle.qml_grammar.specs.Names.{is_handler_path}
use Rattle.qml_grammar.specs.Words.{word_text, word_number, same_word}
use Rattle.qml_grammar.specs.declared.mark.Mark.TheVariants.{OpenParen, CloseBrace, Colon}
use Rattle.qml_grammar.specs.declared.word.Word.TheVariants as ww
use Rattle.qml_grammar.proofs.MemberForms.{member-Id-lined, member-Property-lined, member-Signal-lined, member-Init-lined, member-Handler-lined, member-Method-lined, member-Child-lined}

-- `id`

id_text : (l : Lexeme) (n : List ℕ) → lexeme_text l ≡ n → pieces_text (token (word ww.Id) ∷ token (mark Colon) ∷ space ∷ token l ∷ []) ≡ codes "id: " ++ n
unfolding word_text mark_text
id_text l n h = ap (λ s. codes "id: " ++ s) (append-nil (lexeme_text l) ∙ h)

pub id_spelling : (d levels : ℕ) (l : Lexeme) (n : List ℕ) (there : Span) → IsLawfulLexeme l → name_of_lexeme l ≡ Some n → ShortMemberSpelling d levels (mm.Id n there)
unfolding same_mark mark_number same_word word_number
id_spelling d levels l n there law h = record {
  pieces = token (word ww.Id) ∷ token (mark Colon) ∷ space ∷ token l ∷ [];
  first = word ww.Id;
  last = l;
  begins = refl;
  run = touching (run_of (word ww.Id) tt) (spaced_by (run_of (mark Colon) tt) (run_of l law)) refl;
  text_is = id_text l n (name_is_text l n h) ∙ sym (member-Id-lined n there levels);
  spelled = λ e at next le starts.
      let colon : Span = past at (token (word ww.Id)) in
      let on : Span = past (past colon (token (mark Colon))) space in
      record {
        other = mm.Id n on;
        alike = alike-Id n on there;
        is = id (record { lexeme = word ww.Id; span = at }) (record { lexeme = mark Colon; span = colon }) (record { lexeme = l; span = on }) n refl refl refl refl h;
      };
}

-- Properties

-- a token that is the kind of a property
abbrev pub IsKind : Lexeme → List ℕ → Type 0
IsKind l k = (name_of_lexeme l ≡ Some k) × ((at : Span) → is_word ww.Alias (Some (record { lexeme = l; span = at })) ≡ false)

property_text : (l r : Lexeme) (k n v : List ℕ) (ps : List Piece) → lexeme_text l ≡ k → lexeme_text r ≡ n → pieces_text ps ≡ v → pieces_text (token (word ww.Property) ∷ space ∷ token l ∷ space ∷ token r ∷ ps) ≡ codes "property " ++ (k ++ (codes " " ++ (n ++ v)))
unfolding word_text
property_text l r k n v ps h j i = rw (h, j, i) refl

fixed_text : (ps : List Piece) (t : List ℕ) → pieces_text ps ≡ t → pieces_text (token (word ww.ReadOnly) ∷ space ∷ ps) ≡ codes "readonly " ++ t
unfolding word_text
fixed_text ps t h = ap (λ s. codes "readonly " ++ s) h

property_run : (l r : Lexeme) → IsLawfulLexeme l → IsLawfulLexeme r → Run (word ww.Property) r (token (word ww.Property) ∷ space ∷ token l ∷ space ∷ token r ∷ [])
property_run l r law_l law_r = spaced_by (run_of (word ww.Property) tt) (spaced_by (run_of l law_l) (run_of r law_r))

pub property_spelling : (d levels : ℕ) (l r : Lexeme) (k n : List ℕ) (x : Option Init) (a b c : Span) → IsLawfulLexeme l → IsLawfulLexeme r → IsKind l k → name_of_lexeme r ≡ Some n → MaybeValueSpelling d levels x → ShortMemberSpelling d levels (mm.Property false k n x a b c)
unfolding same_word word_number
property_spelling d levels l r k n x a b c law_l law_r kind h p =
    let joined = p.joins (word ww.Property) r (token (word ww.Property) ∷ space ∷ token l ∷ space ∷ token r ∷ []) (property_run l r law_l law_r) in
    record {
      pieces = token (word ww.Property) ∷ space ∷ token l ∷ space ∷ token r ∷ p.pieces;
      first = word ww.Property;
      last = joined.0;
      begins = refl;
      run = joined.1;
      text_is = property_text l r k n (maybe_text (codes ": ") (λ (f : ℕ → List ℕ). f levels) (option_map init_text x)) p.pieces (name_is_text l k kind.0) (name_is_text r n h) p.text_is ∙ sym (member-Property-lined false k n x a b c levels);
      spelled = λ e at next le starts.
          let second : Span = past (past at (token (word ww.Property))) space in
          let third : Span = past (past second (token l)) space in
          let on : Span = past third (token r) in
          let o = p.spelled e on third next le starts in
          record {
            other = mm.Property false k n o.other second o.is.0 third;
            alike = alike-Property false k n o.other x second o.is.0 third a b c o.alike;
            is = property (record { lexeme = word ww.Property; span = at }) (record { lexeme = l; span = second }) (record { lexeme = r; span = third }) (placed on p.pieces) k n o.other o.is.0 refl refl refl kind.0 (kind.1 second) h o.is.1;
          };
    }

pub fixed_spelling : (d levels : ℕ) (l r : Lexeme) (k n : List ℕ) (x : Option Init) (a b c : Span) → IsLawfulLexeme l → IsLawfulLexeme r → IsKind l k → name_of_lexeme r ≡ Some n → MaybeValueSpelling d levels x → ShortMemberSpelling d levels (mm.Property true k n x a b c)
unfolding same_word word_number
fixed_spelling d levels l r k n x a b c law_l law_r kind h p =
    let joined = p.joins (word ww.ReadOnly) r (token (word ww.ReadOnly) ∷ space ∷ token (word ww.Property) ∷ space ∷ token l ∷ space ∷ token r ∷ []) (spaced_by (run_of (word ww.ReadOnly) tt) (property_run l r law_l law_r)) in
    let value : List ℕ = maybe_text (codes ": ") (λ (f : ℕ → List ℕ). f levels) (option_map init_text x) in
    record {
      pieces = token (word ww.ReadOnly) ∷ space ∷ token (word ww.Property) ∷ space ∷ token l ∷ space ∷ token r ∷ p.pieces;
      first = word ww.ReadOnly;
      last = joined.0;
      begins = refl;
      run = joined.1;
      text_is = fixed_text (token (word ww.Property) ∷ space ∷ token l ∷ space ∷ token r ∷ p.pieces) (codes "property " ++ (k ++ (codes " " ++ (n ++ value)))) (property_text l r k n value p.pieces (name_is_text l k kind.0) (name_is_text r n h) p.text_is) ∙ sym (member-Property-lined true k n x a b c levels);
      spelled = λ e at next le starts.
          let first : Span = past (past at (token (word ww.ReadOnly))) space in
          let second : Span = past (past first (token (word ww.Property))) space in
          let third : Span = past (past second (token l)) space in
          let on : Span = past third (token r) in
          let o = p.spelled e on third next le starts in
          record {
            other = mm.Property true k n o.other second o.is.0 third;
            alike = alike-Property true k n o.other x second o.is.0 third a b c o.alike;
            is = fixed (record { lexeme = word ww.ReadOnly; span = at }) (record { lexeme = word ww.Property; span = first }) (record { lexeme = l; span = second }) (record { lexeme = r; span = third }) (placed on p.pieces) k n o.other o.is.0 refl refl refl refl kind.0 (kind.1 second) h o.is.1;
          };
    }

-- Signals

signal_text : (l : Lexeme) (n v : List ℕ) (ps : List Piece) → lexeme_text l ≡ n → pieces_text ps ≡ v → pieces_text (token (word ww.Signal) ∷ space ∷ token l ∷ ps) ≡ codes "signal " ++ (n ++ v)
unfolding word_text
signal_text l n v ps h k = rw (h, k) refl

pub signal_spelling : (d levels : ℕ) (l : Lexeme) (n : List ℕ) (xs : List SignalParam) (there : Span) → IsLawfulLexeme l → name_of_lexeme l ≡ Some n → SignalParens xs → ShortMemberSpelling d levels (mm.Signal n xs there)
unfolding same_word word_number
signal_spelling d levels l n xs there law h p =
    let joined = p.joins (word ww.Signal) l (token (word ww.Signal) ∷ space ∷ token l ∷ []) (spaced_by (run_of (word ww.Signal) tt) (run_of l law)) in
    record {
      pieces = token (word ww.Signal) ∷ space ∷ token l ∷ p.pieces;
      first = word ww.Signal;
      last = joined.0;
      begins = refl;
      run = joined.1;
      text_is = signal_text l n (signal_params_text xs) p.pieces (name_is_text l n h) p.text_is ∙ sym (member-Signal-lined n xs there levels);
      spelled = λ e at next le starts.
          let second : Span = past (past at (token (word ww.Signal))) space in
          let o = p.spelled (past second (token l)) next starts.no_paren in
          record {
            other = mm.Signal n o.other second;
            alike = alike-Signal n o.other xs second there o.alike;
            is = signal (record { lexeme = word ww.Signal; span = at }) (record { lexeme = l; span = second }) (placed (past second (token l)) p.pieces) n o.other refl refl refl h o.is;
          };
    }

-- Initialisers and handlers

after_path_text : (ps qs : List Piece) (t s : List ℕ) → pieces_text ps ≡ t → pieces_text qs ≡ s → pieces_text (ps ++ token (mark Colon) ∷ space ∷ qs) ≡ t ++ (codes ": " ++ s)
unfolding mark_text
after_path_text ps qs t s h k = text_append ps (token (mark Colon) ∷ space ∷ qs) ∙ rw (h, k) refl

pub init_spelling : (d levels : ℕ) (p : Path) (x : Init) (a b : Span) → is_handler_path p ≡ false → PathSpelling p → ValueSpelling d levels x → ShortMemberSpelling d levels (mm.Init p x a b)
unfolding same_mark mark_number
init_spelling d levels p x a b no_handler q v =
    let path : List Piece = token q.first ∷ q.behind in
    record {
      pieces = path ++ token (mark Colon) ∷ space ∷ v.pieces;
      first = q.first;
      last = v.last;
      begins = q.begins;
      run = touching q.run (spaced_by (run_of (mark Colon) tt) v.run) (touches_mark q.last Colon refl);
      text_is = after_path_text path v.pieces (path_text p) (init_text x levels) q.text_is v.text_is ∙ sym (member-Init-lined p x a b levels);
      spelled = λ e at next le starts.
          let colon : Span = past_all at path in
          let on : Span = past (past colon (token (mark Colon))) space in
          let o = v.spelled e on next le starts in
          record {
            other = mm.Init p o.other o.is.0 at;
            alike = alike-Init p o.other x o.is.0 at a b o.alike;
            is = initialised (record { lexeme = q.first; span = at }) (placed (past at (token q.first)) q.behind) (record { lexeme = mark Colon; span = colon }) (placed on v.pieces) p o.other o.is.0 (placed_append at path (token (mark Colon) ∷ space ∷ v.pieces)) refl (q.spelled at) no_handler refl o.is.1;
          };
    }

pub handler_spelling : (d levels : ℕ) (p : Path) (x : Stmt) (there : Span) (before : Option Token) → is_handler_path p ≡ true → is_word ww.Else before ≡ false → PathSpelling p → StmtSpelling d levels before x → ShortMemberSpelling d levels (mm.Handler p x there)
unfolding same_mark mark_number
handler_spelling d levels p x there before handler no_else q s =
    let path : List Piece = token q.first ∷ q.behind in
    record {
      pieces = path ++ token (mark Colon) ∷ space ∷ s.pieces;
      first = q.first;
      last = s.last;
      begins = q.begins;
      run = touching q.run (spaced_by (run_of (mark Colon) tt) s.run) (touches_mark q.last Colon refl);
      text_is = after_path_text path s.pieces (path_text p) (stmt_text x levels) q.text_is s.text_is ∙ sym (member-Handler-lined p x there levels);
      spelled = λ e at next le starts.
          let colon : Span = past_all at path in
          let on : Span = past (past colon (token (mark Colon))) space in
          record {
            other = mm.Handler p x at;
            alike = alike-Handler p x at there;
            is = handled (record { lexeme = q.first; span = at }) (placed (past at (token q.first)) q.behind) (record { lexeme = mark Colon; span = colon }) (placed on s.pieces) p x (placed_append at path (token (mark Colon) ∷ space ∷ s.pieces)) refl (q.spelled at) handler refl (s.spelled e on next le (starts.no_else ∙ sym no_else));
          };
    }

-- Methods

method_text : (l : Lexeme) (n t s : List ℕ) (ps qs : List Piece) → lexeme_text l ≡ n → pieces_text ps ≡ codes "(" ++ (t ++ codes ")") → pieces_text qs ≡ s →
    pieces_text (token (word ww.Function) ∷ space ∷ token l ∷ (ps ++ space ∷ qs)) ≡ codes "function " ++ (n ++ (codes "(" ++ (t ++ codes ") ") ++ s))
unfolding word_text
method_text l n t s ps qs h k j =
    let spaced : (40 ∷ (t ++ 41 ∷ [])) ++ 32 ∷ s ≡ (40 ∷ (t ++ 41 ∷ 32 ∷ [])) ++ s = append_assoc (40 ∷ t) (41 ∷ []) (32 ∷ s) ∙ sym (append_assoc (40 ∷ t) (41 ∷ 32 ∷ []) s) in
    let inside : pieces_text (ps ++ space ∷ qs) ≡ (40 ∷ (t ++ 41 ∷ 32 ∷ [])) ++ s = text_append ps (space ∷ qs) ∙ (rw (k, j) refl ∙ spaced) in
    rw h (ap (λ u. codes "function " ++ (n ++ u)) inside)

pub method_spelling : (d levels : ℕ) (l : Lexeme) (n : List ℕ) (xs : List MethodParam) (ys : List Stmt) (there : Span) → IsLawfulLexeme l → name_of_lexeme l ≡ Some n → MethodParens xs → BlockSpelling d levels ys → MemberSpelling d levels (mm.Method n xs ys there)
unfolding same_mark mark_number same_word word_number
method_spelling d levels l n xs ys there law h p b = record {
  pieces = token (word ww.Function) ∷ space ∷ token l ∷ (p.pieces ++ space ∷ b.pieces);
  first = word ww.Function;
  last = mark CloseBrace;
  begins = refl;
  run = touching (spaced_by (run_of (word ww.Function) tt) (run_of l law)) (spaced_by p.run b.run) (touches_mark l OpenParen refl);
  text_is = method_text l n (join (codes ", ") (map (λ (q : MethodParam). q.name) xs)) (braced (map stmt_text ys) levels) p.pieces b.pieces (name_is_text l n h) p.text_is b.text_is ∙ sym (member-Method-lined n xs ys there levels);
  spelled = λ e at next le below.
      let second : Span = past (past at (token (word ww.Function))) space in
      let third : Span = past second (token l) in
      let on : Span = past (past_all third p.pieces) space in
      let t : Token = record { lexeme = word ww.Function; span = at } in
      let u : Token = record { lexeme = l; span = second } in
      let o = p.spelled third in
      record {
        other = mm.Method n o.other ys second;
        alike = alike-Method n o.other xs ys second there o.alike;
        is = method t u (placed third p.pieces) (placed on b.pieces) n o.other ys (ap (λ ts. t ∷ u ∷ ts) (placed_append third p.pieces (space ∷ b.pieces))) refl refl h o.is (b.spelled e on le);
      };
}

-- Children

pub child_spelling : (d levels : ℕ) (x : Decl) → ObjectSpelling d levels x → MemberSpelling d levels (mm.Child x)
child_spelling d levels x p = record {
  pieces = p.pieces;
  first = p.first;
  last = mark CloseBrace;
  begins = name_begins p.first p.name p.named (type_no_word ww.Else p.first p.name p.named p.upper);
  run = p.run;
  text_is = p.text_is ∙ sym (member-Child-lined x levels);
  spelled = λ e at next le below.
      let o = p.spelled e at le in
      record { other = mm.Child o.other; alike = alike-Child o.other x o.alike; is = child o.other refl o.is };
}
