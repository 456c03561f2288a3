-- How far from the window's edge items stand.
use Rattle.std.specs.Prelude.{ℕ, ◌-◌, ◌*◌, ◌^◌, ℤ, pos, neg_ℤ, ◌≤ℤ◌}

-- a place that is that of an item's edge where so many levels are left
abbrev pub IsNear : ℕ → ℤ → Type 0
IsNear levels place = (neg_ℤ (pos ((258 - levels) * 2 ^ 31)) ≤ℤ place) × (place ≤ℤ pos ((258 - levels) * 2 ^ 31))

-- a place that is at most 2^40 pixels from the window's edge
abbrev pub IsWithin : ℤ → Type 0
IsWithin place = (neg_ℤ (pos (2 ^ 40)) ≤ℤ place) × (place ≤ℤ pos (2 ^ 40))
