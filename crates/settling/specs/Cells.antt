-- What a place has, and how far it has come within a settle.
use Rattle.std.specs.Prelude.{◌≡◌, Bool, true, false, Option, Some, None}

-- a place's last value, and the mark of its last fault, if it has one
pub record Kept (V F : Type 0) : Type 0 where
  pub value : V
  pub mark : Option F

-- A place without an expression; one that stands suspended from before; one that wasn't visited so far;
-- one whose evaluation is under way; one that was read while its evaluation was under way; one that has the value of
-- its expression; one whose expression faulted, with the last value; one whose evaluation was stopped.
pub data Cell (V F : Type 0) : Type 0 where
  plain : Kept V F → Cell V F
  resting : Kept V F → Cell V F
  fresh : Kept V F → Cell V F
  under_way : Kept V F → Cell V F
  stopped : Kept V F → Cell V F
  active : V → Cell V F
  marked : V → F → Cell V F
  suspended : Kept V F → Cell V F

module _ {V F : Type 0} where
  -- the value that the place has, which is the last one until there is a new one
  abbrev pub value_of : Cell V F → V
  value_of (plain k) = k.value
  value_of (resting k) = k.value
  value_of (fresh k) = k.value
  value_of (under_way k) = k.value
  value_of (stopped k) = k.value
  value_of (active v) = v
  value_of (marked v f) = v
  value_of (suspended k) = k.value

  -- the mark of the last fault, which a suspension leaves and a good evaluation clears
  abbrev pub mark_of : Cell V F → Option F
  mark_of (plain k) = k.mark
  mark_of (resting k) = k.mark
  mark_of (fresh k) = k.mark
  mark_of (under_way k) = k.mark
  mark_of (stopped k) = k.mark
  mark_of (active v) = None
  mark_of (marked v f) = Some f
  mark_of (suspended k) = k.mark

  -- The value that a visit gives at once. A place that is not visited so far has none, nor has one whose evaluation is under way.
  abbrev pub clean : Cell V F → Option V
  clean (plain k) = Some k.value
  clean (resting k) = Some k.value
  clean (fresh k) = None
  clean (under_way k) = None
  clean (stopped k) = Some k.value
  clean (active v) = Some v
  clean (marked v f) = Some v
  clean (suspended k) = Some k.value

  abbrev pub is_fresh : Cell V F → Bool
  is_fresh (fresh k) = true
  is_fresh _ = false

  -- its evaluation is under way, read meanwhile or not
  abbrev pub is_open : Cell V F → Bool
  is_open (under_way k) = true
  is_open (stopped k) = true
  is_open _ = false

  -- its evaluation was stopped in this settle
  abbrev pub is_suspended : Cell V F → Bool
  is_suspended (suspended k) = true
  is_suspended _ = false

  -- it was read in this settle while its evaluation was under way
  abbrev pub is_halted : Cell V F → Bool
  is_halted (stopped k) = true
  is_halted (suspended k) = true
  is_halted _ = false

  -- it has an expression, and isn't suspended
  abbrev pub is_active : Cell V F → Bool
  is_active (active v) = true
  is_active (marked v f) = true
  is_active _ = false

  -- neither is fresh nor has an evaluation that is under way
  abbrev pub is_ended : Cell V F → Bool
  is_ended (fresh k) = false
  is_ended (under_way k) = false
  is_ended (stopped k) = false
  is_ended _ = true

  -- the place has the value of its expression
  abbrev pub is_valued : Cell V F → Bool
  is_valued (active v) = true
  is_valued _ = false

  abbrev pub is_plain : Cell V F → Bool
  is_plain (plain k) = true
  is_plain _ = false

  -- so it may be as a settle begins
  abbrev pub is_ready : Cell V F → Bool
  is_ready (under_way k) = false
  is_ready (stopped k) = false
  is_ready (suspended k) = false
  is_ready _ = true

  -- one step of a place
  pub data Step (c d : Cell V F) : Type 0 where
    begins : (k : Kept V F) → c ≡ fresh k → d ≡ under_way k → Step c d
    stops : (k : Kept V F) → c ≡ under_way k → d ≡ stopped k → Step c d
    ends : (k : Kept V F) (v : V) → c ≡ under_way k → d ≡ active v → Step c d
    fails : (k : Kept V F) (f : F) → c ≡ under_way k → d ≡ marked k.value f → Step c d
    suspends : (k : Kept V F) → c ≡ stopped k → d ≡ suspended k → Step c d

-- any number of steps of a place
pub data Becomes {V F : Type 0} : Cell V F → Cell V F → Type 0 where
  stays : {c d : Cell V F} → d ≡ c → Becomes c d
  goes_on : {c d : Cell V F} (m : Cell V F) → Step c m → Becomes m d → Becomes c d
