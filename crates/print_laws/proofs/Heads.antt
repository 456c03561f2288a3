-- The canonical texts of what stands in parentheses at the head of an `if`, a `while` and a `for`.
use Rattle.std.proofs.Common.{◌≡◌, ℕ, ◌≤◌, false, List, [], ◌∷◌, ◌++◌, codes, Option, Some, None, refl, sym, ap, subst, ◌∙◌, append_assoc, append-nil}
use Rattle.piece_laws.specs.Pieces.{Piece, token, space, pieces_text, past, past_all, placed, is_operator_mark, AreLawfulTokens}
use Rattle.print_laws.proofs.Changes.{Stops, semicolon_stops, paren_stops, whole_prints}
use Rattle.print_laws.proofs.Runs.{Run, text_append, placed_append, run_of, touching, spaced_by}
use Rattle.print_laws.proofs.Shorts.{simple_prints}
use Rattle.print_laws.proofs.Signs.{lawful_as, lawful_left, lawful_right, touches_mark, plain_mark_touches, paren_touches}
use Rattle.print_laws.proofs.Spellings.{parens_text}
use Rattle.qml_ast.specs.declared.expr.Expr.{Expr}
use Rattle.qml_ast.specs.declared.span.Span.{Span}
use Rattle.qml_ast.specs.declared.stmt.Stmt.{Stmt}
use Rattle.qml_grammar.specs.Canonical.{Lined, stmt_lined, maybe_text}
use Rattle.qml_grammar.specs.CanonicalExpressions.{expr_text}
use Rattle.qml_grammar.specs.Lexemes.{Lexeme, mark, Token}
use Rattle.qml_grammar.specs.Marks.{mark_text, mark_number, same_mark}
use Rattle.qml_grammar.specs.StatementGrammar.{IsMaybeSimple, none as no_simple, some as a_simple, IsMaybeWhole, none as no_whole, some as a_whole, IsCondition, parens, AreParts, parts}
use Rattle.qml_grammar.specs.declared.mark.Mark.{Mark}
use Rattle.qml_grammar.specs.declared.mark.Mark.TheVariants.{OpenParen, CloseParen, Semicolon, Dot}

-- what stands between `(` and `)`, with these
pub record Headed (text : List ℕ) (Is : ℕ → List Token → Type 0) (d : ℕ) : Type 0 where
  pub pieces : List Piece
  pub run : Run (mark OpenParen) (mark CloseParen) pieces
  pub text_is : pieces_text pieces ≡ text
  pub spelled : (e : ℕ) (at : Span) → d ≤ e → Is e (placed at pieces)

-- Conditions

pub condition_prints : {d : ℕ} {ts : List Token} {x : Expr} → IsCondition 200 d ts x → AreLawfulTokens ts → Headed (codes "(" ++ (expr_text x ++ codes ")")) (λ e us. IsCondition 200 e us x) d
unfolding same_mark mark_number
condition_prints {d = d} {x = x} (parens o us z ts_is open_is p close_is) law =
    let q = whole_prints p (lawful_left us (z ∷ []) (lawful_as ts_is law).1) in
    record {
      pieces = token (mark OpenParen) ∷ q.pieces ++ token (mark CloseParen) ∷ [];
      run = touching (touching (run_of (mark OpenParen) tt) q.run (paren_touches q.first)) (run_of (mark CloseParen) tt) (touches_mark q.last CloseParen refl);
      text_is = parens_text q.pieces (expr_text x) q.text_is;
      spelled = λ e at le.
          let inside : Span = past at (token (mark OpenParen)) in
          let end : Token = record { lexeme = mark CloseParen; span = past_all inside q.pieces } in
          parens (record { lexeme = mark OpenParen; span = at }) (placed inside q.pieces) end (placed_append at (token (mark OpenParen) ∷ q.pieces) (token (mark CloseParen) ∷ [])) refl (q.spelled e inside le (Some end) (paren_stops end.span).goes) refl;
    }

-- What may be missing between two marks

pub record Filling (text : List ℕ) (Is : ℕ → List Token → Option Token → Type 0) (d : ℕ) : Type 0 where
  pub pieces : List Piece
  pub joins : (a : Lexeme) (m n : Mark) (ps : List Piece) → is_operator_mark m ≡ false → same_mark m Dot ≡ false → is_operator_mark n ≡ false → Run a (mark m) ps → Run a (mark n) (ps ++ pieces ++ token (mark n) ∷ [])
  pub text_is : pieces_text pieces ≡ text
  pub spelled : (e : ℕ) (at : Span) (next : Option Token) → d ≤ e → Stops next → Is e (placed at pieces) next

touches_plain : (m n : Mark) → is_operator_mark n ≡ false → (a : Lexeme) (ps : List Piece) → Run a (mark m) ps → Run a (mark n) (ps ++ token (mark n) ∷ [])
touches_plain m n h a ps r = touching r (run_of (mark n) tt) (touches_mark (mark m) n h)

pub nothing_filled : (d : ℕ) (Is : ℕ → List Token → Option Token → Type 0) → ((e : ℕ) (next : Option Token) → Is e [] next) → Filling [] Is d
nothing_filled d Is is = record {
  pieces = [];
  joins = λ a m n ps plain no_dot plain_next r. subst (λ qs. Run a (mark n) (qs ++ token (mark n) ∷ [])) (sym (append-nil ps)) (touches_plain m n plain_next a ps r);
  text_is = refl;
  spelled = λ e at next le stops. is e next;
}

-- what stands directly behind the mark before it
pub touching_filled : {a b : Lexeme} {ps : List Piece} (d : ℕ) (t : List ℕ) (Is : ℕ → List Token → Option Token → Type 0) → Run a b ps → pieces_text ps ≡ t → ((e : ℕ) (at : Span) (next : Option Token) → d ≤ e → Stops next → Is e (placed at ps) next) → Filling ([] ++ t) Is d
touching_filled {a = a} {b = b} {ps = ps} d t Is r text is = record {
  pieces = ps;
  joins = λ c m n qs plain no_dot plain_next s. touching (touching s r (plain_mark_touches m a plain no_dot)) (run_of (mark n) tt) (touches_mark b n plain_next);
  text_is = text;
  spelled = is;
}

-- what stands behind a space
pub spaced_filled : {a b : Lexeme} {ps : List Piece} (d : ℕ) (t : List ℕ) (Is : ℕ → List Token → Option Token → Type 0) → Run a b ps → pieces_text ps ≡ t → ((e : ℕ) (at : Span) (next : Option Token) → d ≤ e → Stops next → Is e (placed at ps) next) → Filling (codes " " ++ t) Is d
spaced_filled {a = a} {b = b} {ps = ps} d t Is r text is = record {
  pieces = space ∷ ps;
  joins = λ c m n qs plain no_dot plain_next s. touching (spaced_by s r) (run_of (mark n) tt) (touches_mark b n plain_next);
  text_is = ap (λ s. 32 ∷ s) text;
  spelled = λ e at next le stops. is e (past at space) next le stops;
}

-- the text of a statement in the head of a `for`
abbrev pub bare_text : Stmt → List ℕ
bare_text s = (stmt_lined s).bare

abbrev pub IsSimpleIn : Option Stmt → ℕ → List Token → Option Token → Type 0
IsSimpleIn x e ts next = IsMaybeSimple 200 e ts next x

abbrev pub IsWholeIn : Option Expr → ℕ → List Token → Option Token → Type 0
IsWholeIn x e ts next = IsMaybeWhole 200 e ts next x

first_filled : {d : ℕ} {ts : List Token} {next : Option Token} {x : Option Stmt} → IsMaybeSimple 200 d ts next x → AreLawfulTokens ts → Filling (maybe_text [] bare_text x) (IsSimpleIn x) d
first_filled {d = d} (no_simple ts_is x_is) law = rw x_is (nothing_filled d (IsSimpleIn None) (λ e next. no_simple refl refl))
first_filled {d = d} (a_simple y x_is p) law =
    let b = simple_prints p law in
    rw x_is (touching_filled d (bare_text y) (IsSimpleIn (Some y)) b.run (b.text_is ∙ ap (λ (l : Lined). l.bare) (sym b.lined)) (λ e at next le stops. a_simple y refl (b.spelled e at next le stops)))

last_filled : {d : ℕ} {ts : List Token} {next : Option Token} {x : Option Stmt} → IsMaybeSimple 200 d ts next x → AreLawfulTokens ts → Filling (maybe_text (codes " ") bare_text x) (IsSimpleIn x) d
last_filled {d = d} (no_simple ts_is x_is) law = rw x_is (nothing_filled d (IsSimpleIn None) (λ e next. no_simple refl refl))
last_filled {d = d} (a_simple y x_is p) law =
    let b = simple_prints p law in
    rw x_is (spaced_filled d (bare_text y) (IsSimpleIn (Some y)) b.run (b.text_is ∙ ap (λ (l : Lined). l.bare) (sym b.lined)) (λ e at next le stops. a_simple y refl (b.spelled e at next le stops)))

test_filled : {d : ℕ} {ts : List Token} {next : Option Token} {x : Option Expr} → IsMaybeWhole 200 d ts next x → AreLawfulTokens ts → Filling (maybe_text (codes " ") expr_text x) (IsWholeIn x) d
test_filled {d = d} (no_whole ts_is x_is) law = rw x_is (nothing_filled d (IsWholeIn None) (λ e next. no_whole refl refl))
test_filled {d = d} (a_whole y x_is p) law =
    let q = whole_prints p law in
    rw x_is (spaced_filled d (expr_text y) (IsWholeIn (Some y)) q.run q.text_is (λ e at next le stops. a_whole y refl (q.spelled e at le next stops.goes)))

-- The head of a `for`

abbrev pub parts_text : Option Stmt → Option Expr → Option Stmt → List ℕ
parts_text a x b = codes "(" ++ (maybe_text [] bare_text a ++ (codes ";" ++ (maybe_text (codes " ") expr_text x ++ (codes ";" ++ (maybe_text (codes " ") bare_text b ++ codes ")")))))

-- the pieces of the three parts, with what stands between them
parts_pieces : List Piece → List Piece → List Piece → List Piece
parts_pieces ps qs rs = (((token (mark OpenParen) ∷ []) ++ ps ++ token (mark Semicolon) ∷ []) ++ qs ++ token (mark Semicolon) ∷ []) ++ rs ++ token (mark CloseParen) ∷ []

part_text : (ps qs : List Piece) (m : Mark) (t s : List ℕ) → pieces_text ps ≡ t → pieces_text qs ≡ s → pieces_text (ps ++ qs ++ token (mark m) ∷ []) ≡ t ++ s ++ mark_text m
part_text ps qs m t s h k = text_append (ps ++ qs) (token (mark m) ∷ []) ∙ (ap (λ u. u ++ (mark_text m ++ [])) (text_append ps qs ∙ rw (h, k) refl) ∙ ap (λ u. t ++ s ++ u) (append-nil (mark_text m)))

nested : (t s u : List ℕ) → 40 ∷ t ++ 59 ∷ [] ++ s ++ 59 ∷ [] ++ u ++ 41 ∷ [] ≡ 40 ∷ (t ++ 59 ∷ (s ++ 59 ∷ (u ++ 41 ∷ [])))
nested t s u = simp append_assoc

parts_pieces_text : (ps qs rs : List Piece) (t s u : List ℕ) → pieces_text ps ≡ t → pieces_text qs ≡ s → pieces_text rs ≡ u → pieces_text (parts_pieces ps qs rs) ≡ codes "(" ++ (t ++ (codes ";" ++ (s ++ (codes ";" ++ (u ++ codes ")")))))
unfolding mark_text parts_pieces
parts_pieces_text ps qs rs t s u h k l =
    let one : List Piece = (token (mark OpenParen) ∷ []) ++ ps ++ token (mark Semicolon) ∷ [] in
    let two : List Piece = one ++ qs ++ token (mark Semicolon) ∷ [] in
    part_text two rs CloseParen _ u (part_text one qs Semicolon _ s (part_text (token (mark OpenParen) ∷ []) ps Semicolon (40 ∷ []) t refl h) k) l ∙ nested t s u

-- one more part, and the mark behind it
put_behind : {A : Type 0} (ls bs : List A) (x y : A) (cs : List A) → ls ≡ bs ++ x ∷ [] → ls ++ cs ++ y ∷ [] ≡ (bs ++ x ∷ cs) ++ y ∷ []
put_behind ls bs x y cs h = ap (λ ds. ds ++ cs ++ y ∷ []) h ∙ ap (λ ds. ds ++ y ∷ []) (append_assoc bs (x ∷ []) cs)

placed_part : (at : Span) (ps qs : List Piece) (m : Mark) → placed at (ps ++ qs ++ token (mark m) ∷ []) ≡ placed at ps ++ placed (past_all at ps) qs ++ record { lexeme = mark m; span = past_all at (ps ++ qs) } ∷ []
placed_part at ps qs m = placed_append at (ps ++ qs) (token (mark m) ∷ []) ∙ ap (λ ts. ts ++ record { lexeme = mark m; span = past_all at (ps ++ qs) } ∷ []) (placed_append at ps qs)

parts_spelled : (e : ℕ) (a : Option Stmt) (x : Option Expr) (b : Option Stmt) (ps qs rs : List Piece) (at : Span) → ((here : Span) (next : Option Token) → Stops next → IsMaybeSimple 200 e (placed here ps) next a) →
    ((here : Span) (next : Option Token) → Stops next → IsMaybeWhole 200 e (placed here qs) next x) → ((here : Span) (next : Option Token) → Stops next → IsMaybeSimple 200 e (placed here rs) next b) →
    AreParts 200 e (placed at (parts_pieces ps qs rs)) a x b
unfolding parts_pieces same_mark mark_number
parts_spelled e a x b ps qs rs at first test last =
    let one : List Piece = (token (mark OpenParen) ∷ []) ++ ps ++ token (mark Semicolon) ∷ [] in
    let two : List Piece = one ++ qs ++ token (mark Semicolon) ∷ [] in
    let inside : Span = past at (token (mark OpenParen)) in
    let o : Token = record { lexeme = mark OpenParen; span = at } in
    let p : Token = record { lexeme = mark Semicolon; span = past_all inside ps } in
    let q : Token = record { lexeme = mark Semicolon; span = past_all at (one ++ qs) } in
    let z : Token = record { lexeme = mark CloseParen; span = past_all at (two ++ rs) } in
    let us : List Token = placed inside ps in
    let vs : List Token = placed (past_all at one) qs in
    let ws : List Token = placed (past_all at two) rs in
    let ones : placed at one ≡ (o ∷ us) ++ p ∷ [] = placed_append at (token (mark OpenParen) ∷ ps) (token (mark Semicolon) ∷ []) in
    let twos : placed at two ≡ ((o ∷ us) ++ p ∷ vs) ++ q ∷ [] = placed_part at one qs Semicolon ∙ put_behind (placed at one) (o ∷ us) p q vs ones in
    let all : placed at (two ++ rs ++ token (mark CloseParen) ∷ []) ≡ (((o ∷ us) ++ p ∷ vs) ++ q ∷ ws) ++ z ∷ [] = placed_part at two rs CloseParen ∙ put_behind (placed at two) ((o ∷ us) ++ p ∷ vs) q z ws twos in
    parts o us p vs q ws z all refl (first inside (Some p) (semicolon_stops p.span)) refl (test (past_all at one) (Some q) (semicolon_stops q.span)) refl (last (past_all at two) (Some z) (paren_stops z.span)) refl

pub parts_print : {d : ℕ} {ts : List Token} {a : Option Stmt} {x : Option Expr} {b : Option Stmt} → AreParts 200 d ts a x b → AreLawfulTokens ts → Headed (parts_text a x b) (λ e us. AreParts 200 e us a x b) d
unfolding parts_pieces same_mark mark_number
parts_print {d = d} {a = a} {x = x} {b = b} (parts o us p vs q ws z ts_is open_is first first_end test test_end last close_is) law =
    let laws : AreLawfulTokens (o ∷ us ++ p ∷ vs ++ q ∷ ws) = lawful_left (o ∷ us ++ p ∷ vs ++ q ∷ ws) (z ∷ []) (lawful_as ts_is law) in
    let front : AreLawfulTokens (o ∷ us ++ p ∷ vs) = lawful_left (o ∷ us ++ p ∷ vs) (q ∷ ws) laws in
    let f = first_filled first (lawful_left us (p ∷ vs) front.1) in
    let g = test_filled test (lawful_right (o ∷ us) (p ∷ vs) front).1 in
    let h = last_filled last (lawful_right (o ∷ us ++ p ∷ vs) (q ∷ ws) laws).1 in
    record {
      pieces = parts_pieces f.pieces g.pieces h.pieces;
      run = h.joins (mark OpenParen) Semicolon CloseParen _ refl refl refl (g.joins (mark OpenParen) Semicolon Semicolon _ refl refl refl (f.joins (mark OpenParen) OpenParen Semicolon (token (mark OpenParen) ∷ []) refl refl refl (run_of (mark OpenParen) tt)));
      text_is = parts_pieces_text f.pieces g.pieces h.pieces _ _ _ f.text_is g.text_is h.text_is;
      spelled = λ e at le. parts_spelled e a x b f.pieces g.pieces h.pieces at (λ here next stops. f.spelled e here next le stops) (λ here next stops. g.spelled e here next le stops) (λ here next stops. h.spelled e here next le stops);
    }
