-- Spellings of expressions put together: tokens alone, parentheses, and texts where only what binds tightly may
-- stand bare.
use Rattle.std.proofs.Common.{◌≡◌, ℕ, suc, pred, ◌≤◌, ◌⊎◌, inl, inr, nat_lt, Bool, true, false, List, [], ◌∷◌, ◌++◌, codes, refl, sym, ap, subst, ◌∙◌, arith, append-nil}
use Rattle.std.proofs.lemmas.Bool.{ltb-true, ltb-false}
use Rattle.grammar_laws.proofs.Behind.{if_true, if_false}
use Rattle.piece_laws.specs.Pieces.{Piece, token, pieces_text, lexeme_text, past, past_all, placed, is_mark_piece, IsLawfulLexeme}
use Rattle.print_laws.proofs.Binding.{loosen, primary_binds}
use Rattle.print_laws.proofs.Claims.{IsBinding, Spelling, Bound, Printable}
use Rattle.print_laws.proofs.Runs.{text_append, placed_append, run_of, touching}
use Rattle.print_laws.proofs.Signs.{no_mark_opens, touches_mark, paren_touches}
use Rattle.qml_ast.specs.declared.expr.Expr.{Expr}
use Rattle.qml_ast.specs.declared.span.Span.{Span}
use Rattle.qml_grammar.specs.CanonicalExpressions.{Printed, printed}
use Rattle.qml_grammar.specs.ExpressionGrammar.{IsPrimary, parens}
use Rattle.qml_grammar.specs.Lexemes.{Lexeme, mark, Token}
use Rattle.qml_grammar.specs.Marks.{mark_text, mark_number, same_mark}
use Rattle.qml_grammar.specs.declared.mark.Mark.TheVariants.{OpenParen, CloseParen}

pub as_text : {Is : ℕ → List Token → Type 0} {d : ℕ} {s t : List ℕ} → s ≡ t → Spelling s Is d → Spelling t Is d
as_text {Is = Is} {d = d} e p = subst (λ u. Spelling u Is d) e p

-- one token
abbrev pub token_spelling : (d : ℕ) (l : Lexeme) (t : List ℕ) (Is : ℕ → List Token → Type 0) → IsLawfulLexeme l → is_mark_piece l ≡ false → lexeme_text l ≡ t → ((e : ℕ) (at : Span) → Is e (record { lexeme = l; span = at } ∷ [])) → Spelling t Is d
token_spelling d l t Is law no_mark text is = record {
  pieces = token l ∷ [];
  first = l;
  last = l;
  run = run_of l law;
  opening = no_mark_opens l no_mark;
  text_is = append-nil (lexeme_text l) ∙ text;
  spelled = λ e at le. is e at;
}

-- Levels of binding

pub printable_as : (least d k : ℕ) (x : Expr) (p : Printed) → printed x ≡ p → least ≤ p.strength → Spelling p.text (λ e ts. IsBinding p.strength e k ts x) d → Printable least d k x
printable_as least d k x p h le s = record {
  inside = d;
  bare = subst (λ (q : Printed). Spelling q.text (λ e ts. IsBinding q.strength e k ts x) d) (sym h) s;
  fits = inr (subst (λ (q : Printed). least ≤ q.strength) (sym h) le, omega arith);
}

fits_looser : (least s c d : ℕ) → (suc c ≤ d) ⊎ ((suc least ≤ s) × (c ≤ d)) → (suc c ≤ d) ⊎ ((least ≤ s) × (c ≤ d))
fits_looser least s c d (inl h) = inl h
fits_looser least s c d (inr h) = inr (omega (arith, h.0), h.1)

pub looser : (least d k : ℕ) (x : Expr) → Printable (suc least) d k x → Printable least d k x
looser least d k x p = record { inside = p.inside; bare = p.bare; fits = fits_looser least (printed x).strength p.inside d p.fits }

fits_inside : (least s c d : ℕ) → (suc c ≤ d) ⊎ ((least ≤ s) × (c ≤ d)) → c ≤ d
fits_inside least s c d (inl h) = omega arith
fits_inside least s c d (inr h) = h.1

-- what stands in parentheses one level further in
pub enclosed : (least c d k : ℕ) (x : Expr) → d ≡ suc c → Printable 0 c k x → Printable least d k x
enclosed least c d k x d_is p =
    let h : p.inside ≤ c = fits_inside 0 (printed x).strength p.inside c p.fits in
    record { inside = p.inside; bare = p.bare; fits = inl (omega arith) }

-- Parentheses

pub parens_text : (ps : List Piece) (t : List ℕ) → pieces_text ps ≡ t → pieces_text ((token (mark OpenParen) ∷ ps) ++ token (mark CloseParen) ∷ []) ≡ codes "(" ++ (t ++ codes ")")
unfolding mark_text
parens_text ps t h = text_append (token (mark OpenParen) ∷ ps) (token (mark CloseParen) ∷ []) ∙ ap (λ s. 40 ∷ s ++ 41 ∷ []) h

parens_spelled : (s c e k : ℕ) (x : Expr) (at : Span) (ps : List Piece) → suc c ≤ e → IsBinding s (pred e) k (placed (past at (token (mark OpenParen))) ps) x → IsPrimary e k (placed at ((token (mark OpenParen) ∷ ps) ++ token (mark CloseParen) ∷ [])) x
unfolding same_mark mark_number
parens_spelled s c e k x at ps le p =
    let inside : Span = past at (token (mark OpenParen)) in
    parens (pred e) (record { lexeme = mark OpenParen; span = at }) (placed inside ps) (record { lexeme = mark CloseParen; span = past_all inside ps }) (omega arith) (placed_append at (token (mark OpenParen) ∷ ps) (token (mark CloseParen) ∷ [])) refl (loosen 0 s (pred e) k (placed inside ps) x (omega arith) p) refl

in_parentheses : (least s c d k : ℕ) (x : Expr) (t : List ℕ) → suc c ≤ d → Spelling t (λ e ts. IsBinding s e k ts x) c → Spelling (codes "(" ++ (t ++ codes ")")) (λ e ts. IsBinding least e k ts x) d
unfolding same_mark mark_number
in_parentheses least s c d k x t le p = record {
  pieces = (token (mark OpenParen) ∷ p.pieces) ++ token (mark CloseParen) ∷ [];
  first = mark OpenParen;
  last = mark CloseParen;
  run = touching (touching (run_of (mark OpenParen) tt) p.run (paren_touches p.first)) (run_of (mark CloseParen) tt) (touches_mark p.last CloseParen refl);
  opening = refl;
  text_is = parens_text p.pieces t p.text_is;
  spelled = λ e at h. primary_binds least e k (placed at ((token (mark OpenParen) ∷ p.pieces) ++ token (mark CloseParen) ∷ [])) x (parens_spelled s c e k x at p.pieces (omega arith) (p.spelled (pred e) (past at (token (mark OpenParen))) (omega arith)));
}

loosened : (least s c d k : ℕ) (x : Expr) (t : List ℕ) → least ≤ s → c ≤ d → Spelling t (λ e ts. IsBinding s e k ts x) c → Spelling t (λ e ts. IsBinding least e k ts x) d
loosened least s c d k x t le fits p = record {
  pieces = p.pieces;
  first = p.first;
  last = p.last;
  run = p.run;
  opening = p.opening;
  text_is = p.text_is;
  spelled = λ e at h. loosen least s e k (placed at p.pieces) x le (p.spelled e at (omega arith));
}

enclosed_by : (least s c d : ℕ) → suc s ≤ least → (suc c ≤ d) ⊎ ((least ≤ s) × (c ≤ d)) → suc c ≤ d
enclosed_by least s c d below (inl h) = h
enclosed_by least s c d below (inr h) = absurd (omega (arith, h.0))

bound_by : (b : Bool) (least d k : ℕ) (x : Expr) → nat_lt (printed x).strength least ≡ b → Printable least d k x → Bound least d k x
bound_by true least d k x h p =
    let le : suc p.inside ≤ d = enclosed_by least (printed x).strength p.inside d (ltb-true (printed x).strength least h) p.fits in
    as_text (sym (if_true _ _ h refl)) (in_parentheses least (printed x).strength p.inside d k x (printed x).text le p.bare)
bound_by false least d k x h p =
    as_text (sym (if_false _ _ h refl)) (loosened least (printed x).strength p.inside d k x (printed x).text (ltb-false (printed x).strength least h) (fits_inside least (printed x).strength p.inside d p.fits) p.bare)

-- the text of an expression where only what binds as tightly as this may stand bare
pub bound_of : {least d k : ℕ} {x : Expr} → Printable least d k x → Bound least d k x
bound_of {least = least} {d = d} {k = k} {x = x} p = bound_by (nat_lt (printed x).strength least) least d k x refl p
