-- Evaluations as trees of what they read.
use Rattle.std.specs.Prelude.{◌≡◌, List, [], ◌∷◌, Result, Ok, Err}

-- What is left of an evaluation: it gives its value, it faults, or it asks for a place's value and goes on with it.
pub data Run (P V F : Type 0) : Type 0 where
  gives : V → Run P V F
  faults : F → Run P V F
  asks : P → (V → Run P V F) → Run P V F

module _ {P V F : Type 0} where
  -- the value or the fault, where the places have these values
  abbrev pub answer : Run P V F → (P → V) → Result V F
  answer (gives v) values = Ok v
  answer (faults f) values = Err f
  answer (asks q next) values = answer (next (values q)) values

  -- the places that are read, in order, where the places have these values
  abbrev pub reads : Run P V F → (P → V) → List P
  reads (gives v) values = []
  reads (faults f) values = []
  reads (asks q next) values = q ∷ reads (next (values q)) values

-- the place is among those that are read
pub data IsRead {P V F : Type 0} (values : P → V) (p : P) : Run P V F → Type 0 where
  now : {r : Run P V F} (q : P) (next : V → Run P V F) → r ≡ asks q next → p ≡ q → IsRead values p r
  later : {r : Run P V F} (q : P) (next : V → Run P V F) → r ≡ asks q next → IsRead values p (next (values q)) → IsRead values p r
