-- Values in a slab, with the slab's key of each serial.
use Rattle.std.specs.Prelude.{◌≢◌, ℕ, Option, None, Some, IsSome, List, [], ◌∷◌, slice_index_or}
use Rattle.std.specs.Map.{keys_of}
use Rattle.arena.specs.Arena.{AreGiven}

-- no serial has this key
abbrev pub Avoids : ℕ → List (ℕ × ℕ) → Type 0
Avoids key [] = Unit {0}
Avoids key (e ∷ es) = (e.1 ≢ key) × Avoids key es

module _ {T : Type 0} where
  -- what lies under a key
  abbrev pub slot_at : List (Option T) → ℕ → Option T
  slot_at slots key = slice_index_or slots key None

  -- a serial with its value, before the others
  abbrev pub listed : ℕ → Option T → List (ℕ × T) → List (ℕ × T)
  listed serial None rest = rest
  listed serial (Some thing) rest = (serial, thing) ∷ rest

  -- the values, each with its serial
  abbrev pub things : List (Option T) → List (ℕ × ℕ) → List (ℕ × T)
  things slots [] = []
  things slots (e ∷ es) = listed e.0 (slot_at slots e.1) (things slots es)

  -- each serial has a key with a value, and another key than the others
  abbrev pub HasEach : List (Option T) → List (ℕ × ℕ) → Type 0
  HasEach slots [] = Unit {0}
  HasEach slots (e ∷ es) = IsSome (slot_at slots e.1) × Avoids e.1 es × HasEach slots es

  -- the serials are those that were given and are there
  pub record IsHeld (last : ℕ) (slots : List (Option T)) (es : List (ℕ × ℕ)) : Type 0 where
    pub given : AreGiven last (keys_of es)
    pub each : HasEach slots es
