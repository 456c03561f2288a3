-- How a pool keeps its slots: those that are free are linked both ways.
use Rattle.std.specs.Prelude.{◌≡◌, ℕ, zero, suc, ◌+◌, ◌≤◌, List, [], ◌∷◌, map, length, Option, Some, None, slice_get}
use Rattle.links.specs.declared.number.Number.{Number}
use Rattle.links.specs.declared.slot.FreeLink.{FreeLink}
use Rattle.links.specs.declared.slot.Slot.{Slot}
use Rattle.links.specs.declared.slot.Slot.TheVariants.{Free, Full}
use Rattle.links.specs.Packed.{no_number, number_of}
use Rattle.links.specs.Slots.{IsApart, empty_count}
use Rattle.links.specs.Cells.{previous_at}

-- the list with another element at a place, if it has one there
abbrev pub changed_at : {A : Type 0} → (A → A) → ℕ → List A → List A
changed_at f i [] = []
changed_at f zero (x ∷ xs) = f x ∷ xs
changed_at f (suc i) (x ∷ xs) = x ∷ changed_at f i xs

module _ {T : Type 0} where
  -- what a slot has
  abbrev pub value_of : Slot T → Option T
  value_of (Free link) = None
  value_of (Full value) = Some value

  abbrev pub values_of : List (Slot T) → List (Option T)
  values_of slots = map value_of slots

  -- the free slots before and after one that is free
  abbrev pub neighbours_of : Option (Slot T) → Option (Option ℕ × Option ℕ)
  neighbours_of None = None
  neighbours_of (Some (Free link)) = Some (number_of link.previous, number_of link.next)
  neighbours_of (Some (Full value)) = None

  abbrev pub free_in : List (Slot T) → ℕ → Option (Option ℕ × Option ℕ)
  free_in slots number = neighbours_of (slice_get slots number)

  -- the slot with another free one after it, if it is free
  abbrev pub next_free : Number → Slot T → Slot T
  next_free next (Free link) = Free (record link { next = next })
  next_free next (Full value) = Full value

  -- the slot with another free one before it, if it is free
  abbrev pub previous_free : Number → Slot T → Slot T
  previous_free previous (Free link) = Free (record link { previous = previous })
  previous_free previous (Full value) = Full value

  abbrev pub after_previous : List (Slot T) → Option ℕ → Number → List (Slot T)
  after_previous slots None next = slots
  after_previous slots (Some at) next = changed_at (next_free next) at slots

  abbrev pub before_next : List (Slot T) → Option ℕ → Number → List (Slot T)
  before_next slots None previous = slots
  before_next slots (Some at) previous = changed_at (previous_free previous) at slots

  -- the slots once the free ones beside a link are next to each other
  abbrev pub bypassed : List (Slot T) → FreeLink → List (Slot T)
  bypassed slots link = before_next (after_previous slots (number_of link.previous) link.next) (number_of link.next) link.previous

-- the first free slot once the ones beside a link are next to each other
abbrev pub first_bypassed : Number → Option ℕ → Number → Number
first_bypassed first None next = next
first_bypassed first (Some _) next = first

-- the numbers in order, of which each knows the one before and the one after it
pub record IsRing (free : ℕ → Option (Option ℕ × Option ℕ)) (order : List ℕ) : Type 0 where
  pub apart : IsApart order
  pub knows : (i number : ℕ) → slice_get order i ≡ Some number → free number ≡ Some (previous_at order i, slice_get order (suc i))
  pub stands : (number : ℕ) (link : Option ℕ × Option ℕ) → free number ≡ Some link → (i : ℕ) × (slice_get order i ≡ Some number)

-- a pool knows the first of its free slots and how many they are, and has room for the spare values
pub record HasRoom {T : Type 0} (slots : List (Slot T)) (first : Number) (free spare capacity : ℕ) : Type 0 where
  pub order : List ℕ
  pub first_is : number_of first ≡ slice_get order 0
  pub ring : IsRing (free_in slots) order
  pub free_is : free ≡ empty_count (values_of slots)
  pub free_fit : free ≤ spare
  pub room : length slots + spare ≤ free + capacity
  pub small : length slots + spare ≤ free + no_number
