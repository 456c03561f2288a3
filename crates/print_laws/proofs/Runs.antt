-- Runs of pieces: lists that begin and end with a token, whose pieces may stand beside each other.
use Rattle.std.proofs.Common.{◌≡◌, ℕ, pred, ◌&&◌, Bool, true, false, List, [], ◌∷◌, ◌++◌, length, slice_get, Option, Some, refl, sym, ap, ◌∙◌, arith, append_assoc, length-append}
use Rattle.std.proofs.lemmas.Grind.{flat_map-append}
use Rattle.piece_laws.specs.Pieces.{Piece, token, space, line, piece_text, pieces_text, past, past_all, placed, may_touch, may_stand_before, are_spaced, IsLawfulLexeme, IsLawfulPiece, AreLawfulPieces}
use Rattle.qml_ast.specs.declared.span.Span.{Span}
use Rattle.qml_grammar.specs.Lexemes.{Lexeme, Token, head, last_of}
use Rattle.qml_grammar.specs.StatementGrammar.{follow}

-- Lists put together

pub text_append : (ps qs : List Piece) → pieces_text (ps ++ qs) ≡ pieces_text ps ++ pieces_text qs
text_append ps qs = flat_map-append piece_text ps qs

pub past_append : (at : Span) (ps qs : List Piece) → past_all at (ps ++ qs) ≡ past_all (past_all at ps) qs
past_append at [] qs = refl
past_append at (p ∷ ps) qs = past_append (past at p) ps qs

pub placed_append : (at : Span) (ps qs : List Piece) → placed at (ps ++ qs) ≡ placed at ps ++ placed (past_all at ps) qs
placed_append at [] qs = refl
placed_append at (token l ∷ ps) qs = ap (λ ts. record { lexeme = l; span = at } ∷ ts) (placed_append (past at (token l)) ps qs)
placed_append at (space ∷ ps) qs = placed_append (past at space) ps qs
placed_append at (line levels ∷ ps) qs = placed_append (past at (line levels)) ps qs

pub lawful_append : (ps qs : List Piece) → AreLawfulPieces ps → AreLawfulPieces qs → AreLawfulPieces (ps ++ qs)
lawful_append [] qs h k = k
lawful_append (p ∷ ps) qs h k = (h.0, lawful_append ps qs h.1 k)

both_hold : {a b : Bool} → a ≡ true → b ≡ true → (a && b) ≡ true
both_hold h k = rw (h, k)

left_holds : (a b : Bool) → (a && b) ≡ true → a ≡ true
left_holds true b h = refl
left_holds false b h = h

right_holds : (a b : Bool) → (a && b) ≡ true → b ≡ true
right_holds true b h = h
right_holds false b h = absurd cc

pub spaced_append : (ps : List Piece) (a b : Piece) (qs : List Piece) → are_spaced (ps ++ a ∷ []) ≡ true → may_stand_before a b ≡ true → are_spaced (b ∷ qs) ≡ true → are_spaced ((ps ++ a ∷ []) ++ b ∷ qs) ≡ true
spaced_append [] a b qs h m k = both_hold m k
spaced_append (p ∷ []) a b qs h m k = both_hold (left_holds (may_stand_before p a) true h) (both_hold m k)
spaced_append (p ∷ r ∷ ps) a b qs h m k =
    both_hold (left_holds (may_stand_before p r) (are_spaced (r ∷ ps ++ a ∷ [])) h) (spaced_append (r ∷ ps) a b qs (right_holds (may_stand_before p r) (are_spaced (r ∷ ps ++ a ∷ [])) h) m k)

-- Runs

-- the pieces begin with the one token and end with the other one
pub record Run (first last : Lexeme) (ps : List Piece) : Type 0 where
  pub behind : List Piece
  pub begins : ps ≡ token first ∷ behind
  pub before : List Piece
  pub ends : ps ≡ before ++ token last ∷ []
  pub spaced : are_spaced ps ≡ true
  pub lawful : AreLawfulPieces ps

pub run_of : (l : Lexeme) → IsLawfulLexeme l → Run l l (token l ∷ [])
run_of l h = record { behind = []; begins = refl; before = []; ends = refl; spaced = refl; lawful = (h, tt) }

-- two runs, the first tokens of which may touch
pub touching : {a b c d : Lexeme} {ps qs : List Piece} → Run a b ps → Run c d qs → may_touch b c ≡ true → Run a d (ps ++ qs)
touching {b = b} {c = c} {d = d} {ps = ps} {qs = qs} r s m = record {
  behind = r.behind ++ qs;
  begins = ap (λ xs. xs ++ qs) r.begins;
  before = ps ++ s.before;
  ends = ap (λ xs. ps ++ xs) s.ends ∙ sym (append_assoc ps s.before (token d ∷ []));
  spaced = rw (r.ends, s.begins) (spaced_append r.before (token b) (token c) s.behind (ap are_spaced (sym r.ends) ∙ r.spaced) m (ap are_spaced (sym s.begins) ∙ s.spaced));
  lawful = lawful_append ps qs r.lawful s.lawful;
}

-- two runs with a piece between them that may stand between any
apart_by : {a b c d : Lexeme} {ps qs : List Piece} (p : Piece) → may_stand_before (token b) p ≡ true → may_stand_before p (token c) ≡ true → IsLawfulPiece p → Run a b ps → Run c d qs → Run a d (ps ++ p ∷ qs)
apart_by {b = b} {c = c} {d = d} {ps = ps} {qs = qs} p m n law r s = record {
  behind = r.behind ++ p ∷ qs;
  begins = ap (λ xs. xs ++ p ∷ qs) r.begins;
  before = ps ++ p ∷ s.before;
  ends = ap (λ xs. ps ++ p ∷ xs) s.ends ∙ sym (append_assoc ps (p ∷ s.before) (token d ∷ []));
  spaced = rw (r.ends, s.begins) (spaced_append r.before (token b) p (token c ∷ s.behind) (ap are_spaced (sym r.ends) ∙ r.spaced) m (both_hold n (ap are_spaced (sym s.begins) ∙ s.spaced)));
  lawful = lawful_append ps (p ∷ qs) r.lawful (law, s.lawful);
}

pub spaced_by : {a b c d : Lexeme} {ps qs : List Piece} → Run a b ps → Run c d qs → Run a d (ps ++ space ∷ qs)
spaced_by r s = apart_by space refl refl tt r s

pub lined_by : {a b c d : Lexeme} {ps qs : List Piece} (levels : ℕ) → Run a b ps → Run c d qs → Run a d (ps ++ line levels ∷ qs)
lined_by levels r s = apart_by (line levels) refl refl tt r s

-- The tokens of runs

pub head_placed : {a b : Lexeme} {ps : List Piece} (at : Span) → Run a b ps → head (placed at ps) ≡ Some (record { lexeme = a; span = at })
head_placed at r = ap (λ qs. head (placed at qs)) r.begins

pub follow_placed : {a b : Lexeme} {ps : List Piece} (at : Span) (next : Option Token) → Run a b ps → follow (placed at ps) next ≡ Some (record { lexeme = a; span = at })
follow_placed at next r = ap (λ qs. follow (placed at qs) next) r.begins

last_in : (ts : List Token) (t : Token) → slice_get (ts ++ t ∷ []) (length ts) ≡ Some t
last_in [] t = refl
last_in (u ∷ ts) t = last_in ts t

pub last_append : (ts : List Token) (t : Token) → last_of (ts ++ t ∷ []) ≡ Some t
last_append ts t =
    let e : pred (length (ts ++ t ∷ [])) ≡ length ts = omega (arith, length-append ts (t ∷ [])) in
    ap (slice_get (ts ++ t ∷ [])) e ∙ last_in ts t

-- the last token of a run, which stands on the line where the run ends
pub record Last (l : Lexeme) (at : Span) (ps : List Piece) : Type 0 where
  pub place : Span
  pub is : last_of (placed at ps) ≡ Some (record { lexeme = l; span = place })
  pub lined : (past_all at ps).line ≡ place.line

last_of_pieces : (l : Lexeme) (at : Span) (ps qs : List Piece) → ps ≡ qs ++ token l ∷ [] → Last l at ps
last_of_pieces l at ps qs e = record {
  place = past_all at qs;
  is = ap (λ rs. last_of (placed at rs)) e ∙ (ap last_of (placed_append at qs (token l ∷ [])) ∙ last_append (placed at qs) (record { lexeme = l; span = past_all at qs }));
  lined = ap (λ rs. (past_all at rs).line) e ∙ ap (λ (s : Span). s.line) (past_append at qs (token l ∷ []));
}

pub last_placed : {a b : Lexeme} {ps : List Piece} (at : Span) → Run a b ps → Last b at ps
last_placed {b = b} {ps = ps} at r = last_of_pieces b at ps r.before r.ends
