-- The canonical texts of what stands in braces: each part on lines of its own.
use Rattle.std.proofs.Common.{◌≡◌, ℕ, suc, ◌*◌, ◌≤◌, List, [], ◌∷◌, ◌++◌, replicate, codes, Option, Some, refl, sym, ap, ◌∙◌, append_assoc}
use Rattle.piece_laws.specs.Pieces.{Piece, token, line, pieces_text, past, past_all, placed}
use Rattle.print_laws.proofs.Runs.{Run, text_append, placed_append, run_of, lined_by}
use Rattle.qml_ast.specs.declared.span.Span.{Span}
use Rattle.qml_grammar.specs.Canonical.{new_line, indent, all_lines, braced}
use Rattle.qml_grammar.specs.ExpressionGrammar.{IsMark}
use Rattle.qml_grammar.specs.Lexemes.{Lexeme, mark, Token}
use Rattle.qml_grammar.specs.Marks.{mark_text, mark_number, same_mark}
use Rattle.qml_grammar.specs.StatementGrammar.{follow}
use Rattle.qml_grammar.specs.declared.mark.Mark.TheVariants.{OpenBrace, CloseBrace}

-- the text of such lines behind a `{`
abbrev pub lines_text : ℕ → List (ℕ → List ℕ) → List ℕ
lines_text levels fs = new_line ++ (all_lines (suc levels) fs ++ (indent levels ++ codes "}"))

-- the tokens of such lines behind a `{`, the first of which stands on the line below
pub record Ended (Is : List Token → Option Token → Type 0) (first : Lexeme) (at : Span) (ts : List Token) : Type 0 where
  pub inside : List Token
  pub close : Token
  pub text : ts ≡ inside ++ close ∷ []
  pub closes : IsMark close CloseBrace
  pub place : Span
  pub starts : follow inside (Some close) ≡ Some (record { lexeme = first; span = place })
  pub below : place.line ≡ suc at.line
  pub is : Is inside (Some close)

-- the pieces of such lines behind a `{`
pub record Tail (text : List ℕ) (Is : ℕ → List Token → Option Token → Type 0) (d : ℕ) : Type 0 where
  pub pieces : List Piece
  pub first : Lexeme
  pub joins : (a b : Lexeme) (ps : List Piece) → Run a b ps → Run a (mark CloseBrace) (ps ++ pieces)
  pub text_is : pieces_text pieces ≡ text
  pub spelled : (e : ℕ) (at : Span) → d ≤ e → Ended (Is e) first at (placed at pieces)

-- no lines
pub empty_text : (levels : ℕ) → pieces_text (line levels ∷ token (mark CloseBrace) ∷ []) ≡ lines_text levels []
unfolding mark_text
empty_text levels = refl

pub close_is : (at : Span) → IsMark (record { lexeme = mark CloseBrace; span = at }) CloseBrace
unfolding same_mark mark_number
close_is at = refl

abbrev pub empty_tail : (d levels : ℕ) (Is : ℕ → List Token → Option Token → Type 0) → ((e : ℕ) (next : Option Token) → Is e [] next) → Tail (lines_text levels []) Is d
empty_tail d levels Is is = record {
  pieces = line levels ∷ token (mark CloseBrace) ∷ [];
  first = mark CloseBrace;
  joins = λ a b ps r. lined_by levels r (run_of (mark CloseBrace) tt);
  text_is = empty_text levels;
  spelled = λ e at le.
      let z : Token = record { lexeme = mark CloseBrace; span = past at (line levels) } in
      record { inside = []; close = z; text = refl; closes = close_is z.span; place = z.span; starts = refl; below = refl; is = is e (Some z) };
}

-- one more
lined_text : (i x r t : List ℕ) → (10 ∷ i) ++ (x ++ (10 ∷ (r ++ t))) ≡ 10 ∷ (i ++ (x ++ 10 ∷ []) ++ r ++ t)
lined_text i x r t = simp append_assoc

pub more_text : (levels : ℕ) (f : ℕ → List ℕ) (fs : List (ℕ → List ℕ)) (ps qs : List Piece) → pieces_text ps ≡ f (suc levels) → pieces_text qs ≡ lines_text levels fs → pieces_text (line (suc levels) ∷ (ps ++ qs)) ≡ lines_text levels (f ∷ fs)
more_text levels f fs ps qs h k =
    ap (λ s. (10 ∷ replicate (4 * suc levels) 32) ++ s) (text_append ps qs ∙ rw (h, k) refl) ∙ lined_text (indent (suc levels)) (f (suc levels)) (all_lines (suc levels) fs) (indent levels ++ codes "}")

pub placed_both : (at : Span) (ps qs : List Piece) (us : List Token) (z : Token) → placed (past_all at ps) qs ≡ us ++ z ∷ [] → placed at (ps ++ qs) ≡ placed at ps ++ us ++ z ∷ []
placed_both at ps qs us z h = placed_append at ps qs ∙ (ap (λ ts. placed at ps ++ ts) h ∙ sym (append_assoc (placed at ps) us (z ∷ [])))

pub follow_first : {a b : Lexeme} {ps : List Piece} (at : Span) (us : List Token) (next : Option Token) → Run a b ps → follow (placed at ps ++ us) next ≡ Some (record { lexeme = a; span = at })
follow_first at us next r = ap (λ qs. follow (placed at qs ++ us) next) r.begins

-- what is said of the tokens of the first lines and of those of the others says it of all
abbrev pub Joining : (Is Js : ℕ → List Token → Option Token → Type 0) (first : Lexeme) (d : ℕ) (ps : List Piece) → Type 0
Joining Is Js first d ps = (e : ℕ) (at : Span) (us : List Token) (z : Token) (place : Span) → d ≤ e → IsMark z CloseBrace → follow us (Some z) ≡ Some (record { lexeme = first; span = place }) → place.line ≡ suc (past_all at ps).line → Is e us (Some z) → Js e (placed at ps ++ us) (Some z)

abbrev pub more_tail : {a b : Lexeme} {ps : List Piece} (d levels : ℕ) (f : ℕ → List ℕ) (fs : List (ℕ → List ℕ)) (Is Js : ℕ → List Token → Option Token → Type 0) → Run a b ps → pieces_text ps ≡ f (suc levels) →
    (t : Tail (lines_text levels fs) Is d) → Joining Is Js t.first d ps → Tail (lines_text levels (f ∷ fs)) Js d
more_tail {a = a} {b = b} {ps = ps} d levels f fs Is Js r text t joining = record {
  pieces = line (suc levels) ∷ (ps ++ t.pieces);
  first = a;
  joins = λ c l qs s. lined_by (suc levels) s (t.joins a b ps r);
  text_is = more_text levels f fs ps t.pieces text t.text_is;
  spelled = λ e at le.
      let here : Span = past at (line (suc levels)) in
      let n : Ended (Is e) t.first (past_all here ps) (placed (past_all here ps) t.pieces) = t.spelled e (past_all here ps) le in
      record {
        inside = placed here ps ++ n.inside;
        close = n.close;
        text = placed_both here ps t.pieces n.inside n.close n.text;
        closes = n.closes;
        place = here;
        starts = follow_first here n.inside (Some n.close) r;
        below = refl;
        is = joining e here n.inside n.close n.place le n.closes n.starts n.below n.is;
      };
}

-- with its `{`
pub braced_text : (levels : ℕ) (fs : List (ℕ → List ℕ)) (ps : List Piece) → pieces_text ps ≡ lines_text levels fs → pieces_text (token (mark OpenBrace) ∷ ps) ≡ braced fs levels
unfolding mark_text
braced_text levels fs ps h = ap (λ s. 123 ∷ s) h
