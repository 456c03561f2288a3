-- What holds of a settled state, without any order of evaluation.
use Rattle.std.specs.Prelude.{◌≡◌, List, [], ◌∷◌, Ok, Err}
use Rattle.settling.specs.Runs.{Run, answer, IsRead}
use Rattle.settling.specs.Cells.{Cell, plain, resting, fresh, under_way, stopped, active, marked, suspended, Becomes}
use Rattle.settling.specs.Spaces.{Space, values}

module _ {P V F : Type 0} where
  -- An active place has the value of its expression where the places have these values, or its expression faults and the place has that mark.
  -- Of a place without an expression, or a suspended one, nothing is asked.
  abbrev pub Equation : Run P V F → (P → V) → Cell V F → Type 0
  Equation r values (plain k) = Unit {0}
  Equation r values (resting k) = Unit {0}
  Equation r values (fresh k) = ⊥
  Equation r values (under_way k) = ⊥
  Equation r values (stopped k) = ⊥
  Equation r values (active v) = answer r values ≡ Ok v
  Equation r values (marked v f) = answer r values ≡ Err f
  Equation r values (suspended k) = Unit {0}

module _ {S P V F : Type 0} (space : Space S P V F) (tree : P → Run P V F) where
  -- the equation of the place holds over this same state
  abbrev pub Holds : S → P → Type 0
  Holds s p = Equation (tree p) (values space s) (space.at s p)

  -- The expression of one place reads the other place.
  abbrev pub Reads : S → P → P → Type 0
  Reads s p q = IsRead (values space s) q (tree p)

  -- from the first place on, each one's expression reads the next of these, and the last one's reads the end
  abbrev pub IsPath : S → P → List P → P → Type 0
  IsPath s p [] end = Reads s p end
  IsPath s p (q ∷ qs) end = Reads s p q × IsPath s q qs end

  -- the expression of the place reads the first of these, each one's the next, and the last one's the place
  abbrev pub IsChain : S → P → List P → Type 0
  IsChain s p chain = IsPath s p chain p

module _ {S P V F : Type 0} (space : Space S P V F) where
  -- each place has taken some steps from the one state to the other
  abbrev pub Later : S → S → Type 0
  Later s t = (q : P) → Becomes (space.at s q) (space.at t q)
