-- The tokens of a text and their places are in order.
use Rattle.std.proofs.Common.{◌≡◌, ℕ, zero, suc, ◌+◌, ◌-◌, ◌<◌, ◌≤◌, inl, inr, List, [], ◌∷◌, length, get_or, sym, refl, ◌∙◌, subst, arith}
use Rattle.std.specs.List.{AllByRecursion}
use Rattle.std.proofs.lemmas.Bool.Decides.{eqb_tells}
use Rattle.qml_lex.specs.Laws.{StandInOrder, IsBefore, PlacesRise}
use Rattle.qml_lex.specs.Places.{place_of}
use Rattle.qml_lex.specs.Reading.{HasTokens, at_end, past_blank, past_lexeme, IsReadAs, first_offset}
use Rattle.qml_lex.specs.declared.token.Token.{Token}
use Rattle.qml_ast.specs.declared.span.Span.{Span}
use Rattle.qml_lex.proofs.Placing.{line_after_line_end, line_after_other, column_after_other}

-- tokens behind an offset are behind an earlier one
behind_earlier : (bytes : List ℕ) (i j : ℕ) (tokens : List Token) → i ≤ j → StandInOrder bytes j tokens → StandInOrder bytes i tokens
behind_earlier bytes i j [] h stand = tt
behind_earlier bytes i j (token ∷ tokens) h stand =
    (record { behind = omega (arith, stand.0.behind); some = stand.0.some; within = stand.0.within; placed = stand.0.placed }, stand.1)

stand_from : (bytes : List ℕ) (offset : ℕ) (tokens : List Token) → HasTokens bytes offset tokens → StandInOrder bytes offset tokens
stand_from bytes offset tokens (at_end _ _ is nil) = rw nil tt
stand_from bytes offset tokens (past_blank _ n next _ is w e d) =
    behind_earlier bytes offset next tokens (omega arith) (stand_from bytes next tokens d)
stand_from bytes offset tokens (past_lexeme _ n next kind _ following is w e t d) =
    let P : List Token → Type 0 = λ ts. StandInOrder bytes offset ts in
    let Q : ℕ → Type 0 = λ i. StandInOrder bytes i following in
    subst P (sym t) (record { behind = omega arith; some = omega (arith, w.0); within = w.1; placed = refl }, subst Q e (stand_from bytes next following d))

pub tokens_stand_in_order : (bytes : List ℕ) (tokens : List Token) → IsReadAs bytes tokens → StandInOrder bytes 0 tokens
tokens_stand_in_order bytes tokens h = behind_earlier bytes 0 (first_offset bytes) tokens (omega arith) (stand_from bytes (first_offset bytes) tokens h.tokens_are)

-- the place of the next byte comes behind
next_place : (bytes : List ℕ) (i : ℕ) → i < length bytes → IsBefore (place_of bytes i) (place_of bytes (i + 1))
next_place bytes i h = elim (eqb_tells (get_or bytes i 0) 10) [
  | inl ends ↦ inl (omega (arith, line_after_line_end bytes i h ends.1))
  | inr other ↦ inr (sym (line_after_other bytes i h other.1), omega (arith, column_after_other bytes i h other.1))
]

before_trans : (a b c : Span) → IsBefore a b → IsBefore b c → IsBefore a c
before_trans a b c (inl h) (inl g) = inl (omega arith)
before_trans a b c (inl h) (inr g) = inl (omega (arith, g.0))
before_trans a b c (inr h) (inl g) = inl (omega (arith, h.0))
before_trans a b c (inr h) (inr g) = inr (h.0 ∙ g.0, omega (arith, h.1, g.1))

-- a later byte comes behind, by how much later it is
later_place : (bytes : List ℕ) (i k : ℕ) → i + suc k ≤ length bytes → IsBefore (place_of bytes i) (place_of bytes (i + suc k))
later_place bytes i zero h = next_place bytes i (omega arith)
later_place bytes i (suc k) h =
    let e : i + suc k + 1 ≡ i + suc (suc k) = omega arith in
    let P : ℕ → Type 0 = λ j. IsBefore (place_of bytes i) (place_of bytes j) in
    subst P e (before_trans (place_of bytes i) (place_of bytes (i + suc k)) (place_of bytes (i + suc k + 1)) (later_place bytes i k (omega arith)) (next_place bytes (i + suc k) (omega arith)))

place_before : (bytes : List ℕ) (i j : ℕ) → i < j → j ≤ length bytes → IsBefore (place_of bytes i) (place_of bytes j)
place_before bytes i j h g =
    let e : i + suc (j - i - 1) ≡ j = omega arith in
    let P : ℕ → Type 0 = λ k. IsBefore (place_of bytes i) (place_of bytes k) in
    subst P e (later_place bytes i (j - i - 1) (omega arith))

-- all the tokens that stand behind a place come after it
all_behind : (bytes : List ℕ) (i offset : ℕ) (place : Span) (tokens : List Token) → place ≡ place_of bytes i → i < offset → StandInOrder bytes offset tokens → AllByRecursion (λ later. IsBefore place later.span) tokens
all_behind bytes i offset place [] is h stand = tt
all_behind bytes i offset place (token ∷ tokens) is h stand =
    let P : Span → Type 0 = λ later. IsBefore place later in
    let Q : Span → Type 0 = λ earlier. IsBefore earlier (place_of bytes token.start) in (
      subst P (sym stand.0.placed) (subst Q (sym is) (place_before bytes i token.start (omega (arith, stand.0.behind)) (omega (arith, stand.0.some, stand.0.within)))),
      all_behind bytes i token.end place tokens is (omega (arith, stand.0.behind, stand.0.some)) stand.1,
    )

rise : (bytes : List ℕ) (offset : ℕ) (tokens : List Token) → StandInOrder bytes offset tokens → PlacesRise tokens
rise bytes offset [] stand = tt
rise bytes offset (token ∷ tokens) stand =
    (all_behind bytes token.start token.end token.span tokens stand.0.placed stand.0.some stand.1, rise bytes token.end tokens stand.1)

pub places_rise : (bytes : List ℕ) (tokens : List Token) → IsReadAs bytes tokens → PlacesRise tokens
places_rise bytes tokens h = rise bytes 0 tokens (tokens_stand_in_order bytes tokens h)
