-- Which of several areas has a point.
use Rattle.std.specs.Prelude.{◌≡◌, ℕ, ℤ, Bool, true, false, ◌&&◌, if◌then◌else◌, int_le, int_lt, Option, Some, None, List, [], ◌∷◌, ◌++◌, All}
use Rattle.std.specs.Option.{option_or}
use Rattle.input_grab.specs.declared.area.Area.{Area}

-- the place is at or after where a range begins, and before it ends
abbrev pub is_within : ℤ → ℤ → ℤ → Bool
is_within begin place end = int_le begin place && int_lt place end

-- the area has the column and the row
abbrev pub has_point : Area → ℤ → ℤ → Bool
has_point area x y = is_within area.left x area.right && is_within area.top y area.bottom

-- the serial of the area that has the point, if it has it
abbrev pub serial_at : Area → ℤ → ℤ → Option ℕ
serial_at area x y = if has_point area x y then Some area.serial else None

-- the serial of the topmost area that has the point: each area lies under those after it
unfoldable pub topmost : List Area → ℤ → ℤ → Option ℕ
topmost [] x y = None
topmost (area ∷ above) x y = option_or (topmost above x y) (serial_at area x y)

-- an area of this serial has the point, and no area above it does
pub record IsTopmost (areas : List Area) (x y : ℤ) (serial : ℕ) : Type 0 where
  pub below : List Area
  pub area : Area
  pub above : List Area
  pub parts : areas ≡ below ++ area ∷ above
  pub has : has_point area x y ≡ true
  pub named : area.serial ≡ serial
  pub free : All (λ other. has_point other x y ≡ false) above
