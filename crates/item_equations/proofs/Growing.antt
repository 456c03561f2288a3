-- What was met stays met, and an evaluation goes on from there.
use Rattle.std.proofs.Common.{◌≡◌, ℕ, zero, suc, ◌+◌, ◌<◌, ℤ, List, [], ◌∷◌, length, refl, sym, ap, ◌∙◌, arith}
use Rattle.std.specs.Prelude.{Option, None, Some, Result, Ok, Err, take, drop}
use Rattle.std.specs.List.{slice_index_or}
use Rattle.qml_ast.specs.declared.place.Place.{Place}
use Rattle.qml_ast.specs.declared.value.Value.{Value}
use Rattle.item_equations.specs.Asking.{Asking, gives, overflows, asks, arrive, walk, bind, bind_to}
use Rattle.item_equations.specs.Children.{least_with, least_from, extent_with, extent_from}
use Rattle.item_equations.specs.Family.{Family}
use Rattle.item_equations.specs.Progress.{IsMet, SeesMore, nothing_met}
use Rattle.item_equations.specs.declared.axis.Axis.{Axis}
use Rattle.item_equations.specs.declared.children.Extent.{Extent}
use Rattle.item_equations.specs.declared.native.Native.{Native}
use Rattle.item_equations.specs.declared.native.Native.TheVariants as native
use Rattle.item_equations.specs.declared.progress.Progress.{Progress}
use Rattle.item_equations.specs.declared.stop.Stop.{Stop}
use Rattle.item_equations.proofs.Walks.{walk_bind}

-- ---- where more is seen
module _ (see later : Place → Option Value) (more : SeesMore see later) where
  -- what was given is given still
  pub walk_grows : {A : Type 0} (m : Asking A) (x : A) → walk see m ≡ Ok x → walk later m ≡ Ok x
  unfolding walk
  walk_grows (gives y) x h = h
  walk_grows overflows x h = absurd cc
  walk_grows (asks p next) x h = by (see p) refl (λ v g. walk_grows (next v) x g) h
    where
      by : (o : Option Value) → see p ≡ o → ((v : Value) → walk see (next v) ≡ Ok x → walk later (next v) ≡ Ok x) →
          arrive o p (λ v. walk see (next v)) ≡ Ok x → arrive (later p) p (λ v. walk later (next v)) ≡ Ok x
      by None e each g = absurd cc
      by (Some v) e each g = ap (λ o. arrive o p (λ w. walk later (next w))) (more p v e) ∙ each v g

  -- what was met is met still
  pub met_grows : (family : Family) (n : Native) (item : ℕ) (far : Progress) → IsMet see family n item far → IsMet later family n item far
  met_grows family (native.Place axis) item far h = tt
  met_grows family (native.Size axis) item far h = tt
  met_grows family (native.ImplicitSize axis) item far h = tt
  met_grows family (native.Inherited slot) item far h = tt
  met_grows family (native.ChildrenPlace axis) item far h = walk_grows (least_from family axis item None (take far.met (family.owned item))) far.least h
  met_grows family (native.ChildrenSize axis) item far h = walk_grows (extent_from family axis item None (take far.met (family.owned item))) far.extent h

-- ---- objects that are met one after another
module _ {X : Type 0} (see : Place → Option Value) (step : X → ℕ → Asking X) (from : X → List ℕ → Asking X)
    (none : (x : X) → from x [] ≡ gives x) (one : (x : X) (o : ℕ) (os : List ℕ) → from x (o ∷ os) ≡ bind (step x o) (λ y. from y os)) where
  abbrev along : Result X Stop → List ℕ → Result X Stop
  along r os = bind_to r (λ y. walk see (from y os))

  first_of : (x : X) (o : ℕ) (os : List ℕ) → walk see (from x (o ∷ os)) ≡ along (walk see (step x o)) os
  first_of x o os = ap (walk see) (one x o os) ∙ walk_bind see (step x o) (λ y. from y os)

  none_of : (x : X) → walk see (from x []) ≡ Ok x
  unfolding walk
  none_of x = ap (walk see) (none x)

  same : {x y : X} → ◌≡◌ {A = Result X Stop} (Ok x) (Ok y) → y ≡ x
  same h = cc

  -- what is left of the objects goes on from what was found of the first ones
  goes_on : (x y : X) (i : ℕ) (os : List ℕ) → walk see (from x (take i os)) ≡ Ok y → walk see (from x os) ≡ walk see (from y (drop i os))
  unfolding bind_to
  goes_on x y zero os h = ap (λ z. walk see (from z os)) (sym (same (sym (none_of x) ∙ h)))
  goes_on x y (suc i) [] h = ap (λ z. walk see (from z [])) (sym (same (sym (none_of x) ∙ h)))
  goes_on x y (suc i) (o ∷ os) h = first_of x o os ∙ by (walk see (step x o)) (λ z g. goes_on z y i os g) (sym (first_of x o (take i os)) ∙ h)
    where
      by : (r : Result X Stop) → ((z : X) → walk see (from z (take i os)) ≡ Ok y → walk see (from z os) ≡ walk see (from y (drop i os))) →
          along r (take i os) ≡ Ok y → along r os ≡ walk see (from y (drop i os))
      by (Ok z) each g = each z g
      by (Err stop) each g = absurd cc

  -- one object more was met
  one_further : (x y z : X) (i : ℕ) (os : List ℕ) → i < length os → walk see (from x (take i os)) ≡ Ok y → walk see (step y (slice_index_or os i 0)) ≡ Ok z →
      walk see (from x (take (suc i) os)) ≡ Ok z
  unfolding bind_to
  one_further x y z i [] s h g = absurd (omega arith)
  one_further x y z zero (o ∷ os) s h g =
      let here : y ≡ x = same (sym (none_of x) ∙ h) in
      first_of x o [] ∙ ap (λ w. along (walk see (step w o)) []) (sym here) ∙ ap (λ r. along r []) g ∙ by
    where
      by : along (Ok z) [] ≡ Ok z
      by = none_of z
  one_further x y z (suc i) (o ∷ os) s h g = first_of x o (take (suc i) os) ∙ by (walk see (step x o)) (λ w e. one_further w y z i os (omega arith) e g) (sym (first_of x o (take i os)) ∙ h)
    where
      by : (r : Result X Stop) → ((w : X) → walk see (from w (take i os)) ≡ Ok y → walk see (from w (take (suc i) os)) ≡ Ok z) →
          along r (take i os) ≡ Ok y → along r (take (suc i) os) ≡ Ok z
      by (Ok w) each e = each w e
      by (Err stop) each e = absurd cc

-- ---- for the least place, and for the extent
next_number : (i : ℕ) → suc i ≡ i + 1
next_number i = omega arith

module _ (see : Place → Option Value) (family : Family) (axis : Axis) (item : ℕ) where
  least_none : (x : Option ℤ) → least_from family axis item x [] ≡ gives x
  unfolding least_from
  least_none x = refl

  least_one : (x : Option ℤ) (o : ℕ) (os : List ℕ) → least_from family axis item x (o ∷ os) ≡ bind (least_with family axis item x o) (λ y. least_from family axis item y os)
  unfolding least_from
  least_one x o os = refl

  pub least_on : (x y : Option ℤ) (i : ℕ) (os : List ℕ) → walk see (least_from family axis item x (take i os)) ≡ Ok y →
      walk see (least_from family axis item x os) ≡ walk see (least_from family axis item y (drop i os))
  least_on x y i os h = goes_on see (least_with family axis item) (least_from family axis item) least_none least_one x y i os h

  pub least_further : (x y z : Option ℤ) (i : ℕ) (os : List ℕ) → i < length os → walk see (least_from family axis item x (take i os)) ≡ Ok y →
      walk see (least_with family axis item y (slice_index_or os i 0)) ≡ Ok z → walk see (least_from family axis item x (take (i + 1) os)) ≡ Ok z
  least_further x y z i os s h g =
      ap (λ n. walk see (least_from family axis item x (take n os))) (sym (next_number i))
      ∙ one_further see (least_with family axis item) (least_from family axis item) least_none least_one x y z i os s h g

  extent_none : (x : Option Extent) → extent_from family axis item x [] ≡ gives x
  unfolding extent_from
  extent_none x = refl

  extent_one : (x : Option Extent) (o : ℕ) (os : List ℕ) → extent_from family axis item x (o ∷ os) ≡ bind (extent_with family axis item x o) (λ y. extent_from family axis item y os)
  unfolding extent_from
  extent_one x o os = refl

  pub extent_on : (x y : Option Extent) (i : ℕ) (os : List ℕ) → walk see (extent_from family axis item x (take i os)) ≡ Ok y →
      walk see (extent_from family axis item x os) ≡ walk see (extent_from family axis item y (drop i os))
  extent_on x y i os h = goes_on see (extent_with family axis item) (extent_from family axis item) extent_none extent_one x y i os h

  pub extent_further : (x y z : Option Extent) (i : ℕ) (os : List ℕ) → i < length os → walk see (extent_from family axis item x (take i os)) ≡ Ok y →
      walk see (extent_with family axis item y (slice_index_or os i 0)) ≡ Ok z → walk see (extent_from family axis item x (take (i + 1) os)) ≡ Ok z
  extent_further x y z i os s h g =
      ap (λ n. walk see (extent_from family axis item x (take n os))) (sym (next_number i))
      ∙ one_further see (extent_with family axis item) (extent_from family axis item) extent_none extent_one x y z i os s h g

-- ---- of no objects nothing is found
pub nothing_is_met : (see : Place → Option Value) (family : Family) (n : Native) (item : ℕ) → IsMet see family n item nothing_met
unfolding walk least_from extent_from
nothing_is_met see family (native.Place axis) item = tt
nothing_is_met see family (native.Size axis) item = tt
nothing_is_met see family (native.ImplicitSize axis) item = tt
nothing_is_met see family (native.Inherited slot) item = tt
nothing_is_met see family (native.ChildrenPlace axis) item = refl
nothing_is_met see family (native.ChildrenSize axis) item = refl
