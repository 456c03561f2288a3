-- The items in an item are met one after another.
use Rattle.std.proofs.Common.{◌≡◌, ℕ, zero, suc, ◌+◌, ◌<◌, ◌≤◌, ℤ, List, [], ◌∷◌, length, refl, ap, ◌∙◌, arith}
use Rattle.std.specs.Prelude.{Option, drop}
use Rattle.std.specs.List.{slice_index_or}
use Rattle.item_equations.specs.Asking.{gives, bind}
use Rattle.item_equations.specs.Children.{least_with, least_from, extent_with, extent_from}
use Rattle.item_equations.specs.Family.{Family}
use Rattle.item_equations.specs.declared.axis.Axis.{Axis}
use Rattle.item_equations.specs.declared.children.Extent.{Extent}

one_more : (i : ℕ) → suc i ≡ i + 1
one_more i = omega arith

least_more : (family : Family) (axis : Axis) (item : ℕ) (before : Option ℤ) (objects : List ℕ) (i : ℕ) → i < length objects →
    least_from family axis item before (drop i objects)
    ≡ bind (least_with family axis item before (slice_index_or objects i 0)) (λ found. least_from family axis item found (drop (suc i) objects))
unfolding least_from
least_more family axis item before [] i h = absurd (omega arith)
least_more family axis item before (o ∷ os) zero h = refl
least_more family axis item before (o ∷ os) (suc i) h = least_more family axis item before os i (omega arith)

pub least_next : (family : Family) (axis : Axis) (item : ℕ) (before : Option ℤ) (objects : List ℕ) (i : ℕ) → i < length objects →
    least_from family axis item before (drop i objects)
    ≡ bind (least_with family axis item before (slice_index_or objects i 0)) (λ found. least_from family axis item found (drop (i + 1) objects))
least_next family axis item before objects i h =
    least_more family axis item before objects i h
    ∙ ap (λ n. bind (least_with family axis item before (slice_index_or objects i 0)) (λ found. least_from family axis item found (drop n objects))) (one_more i)

pub least_done : (family : Family) (axis : Axis) (item : ℕ) (before : Option ℤ) (objects : List ℕ) (i : ℕ) → length objects ≤ i →
    least_from family axis item before (drop i objects) ≡ gives before
unfolding least_from
least_done family axis item before [] zero h = refl
least_done family axis item before [] (suc i) h = refl
least_done family axis item before (o ∷ os) zero h = absurd (omega arith)
least_done family axis item before (o ∷ os) (suc i) h = least_done family axis item before os i (omega arith)

pub ruleset least_steps = (least_next, least_done)

extent_more : (family : Family) (axis : Axis) (item : ℕ) (before : Option Extent) (objects : List ℕ) (i : ℕ) → i < length objects →
    extent_from family axis item before (drop i objects)
    ≡ bind (extent_with family axis item before (slice_index_or objects i 0)) (λ found. extent_from family axis item found (drop (suc i) objects))
unfolding extent_from
extent_more family axis item before [] i h = absurd (omega arith)
extent_more family axis item before (o ∷ os) zero h = refl
extent_more family axis item before (o ∷ os) (suc i) h = extent_more family axis item before os i (omega arith)

pub extent_next : (family : Family) (axis : Axis) (item : ℕ) (before : Option Extent) (objects : List ℕ) (i : ℕ) → i < length objects →
    extent_from family axis item before (drop i objects)
    ≡ bind (extent_with family axis item before (slice_index_or objects i 0)) (λ found. extent_from family axis item found (drop (i + 1) objects))
extent_next family axis item before objects i h =
    extent_more family axis item before objects i h
    ∙ ap (λ n. bind (extent_with family axis item before (slice_index_or objects i 0)) (λ found. extent_from family axis item found (drop n objects))) (one_more i)

pub extent_done : (family : Family) (axis : Axis) (item : ℕ) (before : Option Extent) (objects : List ℕ) (i : ℕ) → length objects ≤ i →
    extent_from family axis item before (drop i objects) ≡ gives before
unfolding extent_from
extent_done family axis item before [] zero h = refl
extent_done family axis item before [] (suc i) h = refl
extent_done family axis item before (o ∷ os) zero h = absurd (omega arith)
extent_done family axis item before (o ∷ os) (suc i) h = extent_done family axis item before os i (omega arith)

pub ruleset extent_steps = (extent_next, extent_done)
