-- That what an evaluation came to is told in one way only.
use Rattle.std.specs.Prelude.{◌≡◌, ℕ, ℤ, Bool, true, false, Option, None, Some, Result, refl}
use Rattle.std.specs.Coded.{Coded, Coded-set, code_by, coded_ℕ, coded_ℤ, coded_bool, coded×, coded_option, coded_result}
use Rattle.qml_ast.specs.declared.place.Place.{Place}
use Rattle.qml_ast.specs.declared.place.Side.{Side}
use Rattle.qml_ast.specs.declared.place.Side.TheVariants.{Set, Shown}
use Rattle.item_equations.specs.declared.children.Extent.{Extent}
use Rattle.item_equations.specs.declared.stop.Stop.{Stop}
use Rattle.item_equations.specs.declared.stop.Stop.TheVariants.{Overflow, Needs}

abbrev is_shown : Side → Bool
is_shown Set = false
is_shown Shown = true

abbrev side_of : Bool → Side
side_of false = Set
side_of true = Shown

side_again : (side : Side) → side_of (is_shown side) ≡ side
side_again Set = refl
side_again Shown = refl

abbrev place_code : Coded Place
place_code =
    code_by (ℕ × (ℕ × Bool)) (coded× coded_ℕ (coded× coded_ℕ coded_bool)) (λ p. (p.serial, (p.slot, is_shown p.side)))
    (λ t. record { serial = t.0; slot = t.1.0; side = side_of t.1.1 }) (λ p. λ i. record { serial = p.serial; slot = p.slot; side = side_again p.side i })

-- a place that is needed, or none
abbrev needed : Stop → Option Place
needed Overflow = None
needed (Needs place) = Some place

abbrev stop_of : Option Place → Stop
stop_of None = Overflow
stop_of (Some place) = Needs place

stop_again : (stop : Stop) → stop_of (needed stop) ≡ stop
stop_again Overflow = refl
stop_again (Needs place) = refl

abbrev stop_code : Coded Stop
stop_code = code_by (Option Place) (coded_option place_code) needed stop_of stop_again

abbrev extent_code : Coded Extent
extent_code = code_by (ℤ × ℤ) (coded× coded_ℤ coded_ℤ) (λ e. (e.begin, e.end)) (λ t. record { begin = t.0; end = t.1 }) (λ _. refl)

pub least-prop : (r s : Result (Option ℤ) Stop) → IsProp (r ≡ s)
least-prop = Coded-set (coded_result (coded_option coded_ℤ) stop_code)

pub extent-prop : (r s : Result (Option Extent) Stop) → IsProp (r ≡ s)
extent-prop = Coded-set (coded_result (coded_option extent_code) stop_code)
