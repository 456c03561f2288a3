-- How far the evaluation of an equation came that stopped at a place without a value.
use Rattle.std.specs.Prelude.{◌≡◌, ℕ, Option, None, Some, Ok, List, take}
use Rattle.std.specs.Coded.{Unit-prop}
use Rattle.qml_ast.specs.declared.place.Place.{Place}
use Rattle.qml_ast.specs.declared.value.Value.{Value}
use Rattle.item_equations.specs.Asking.{walk}
use Rattle.item_equations.specs.Children.{least_from, extent_from}
use Rattle.item_equations.specs.Codes.{least-prop, extent-prop}
use Rattle.item_equations.specs.Family.{Family}
use Rattle.item_equations.specs.declared.axis.Axis.{Axis}
use Rattle.item_equations.specs.declared.native.Native.{Native}
use Rattle.item_equations.specs.declared.native.Native.TheVariants as native
use Rattle.item_equations.specs.declared.progress.Progress.{Progress}

abbrev pub nothing_met : Progress
nothing_met = record { met = 0; least = None; extent = None }

module _ (see : Place → Option Value) (family : Family) where
  -- the values that are seen give what was found of the first of these objects
  abbrev pub IsLeast : Axis → ℕ → List ℕ → Progress → Type 0
  IsLeast axis item objects far = walk see (least_from family axis item None (take far.met objects)) ≡ Ok far.least

  abbrev pub IsExtent : Axis → ℕ → List ℕ → Progress → Type 0
  IsExtent axis item objects far = walk see (extent_from family axis item None (take far.met objects)) ≡ Ok far.extent

  -- The values that are seen give what was found of the objects that were met. Of an equation that begins anew nothing is asked.
  abbrev pub IsMet : Native → ℕ → Progress → Type 0
  IsMet (native.Place axis) item far = Unit {0}
  IsMet (native.Size axis) item far = Unit {0}
  IsMet (native.ImplicitSize axis) item far = Unit {0}
  IsMet (native.Inherited slot) item far = Unit {0}
  IsMet (native.ChildrenPlace axis) item far = IsLeast axis item (family.owned item) far
  IsMet (native.ChildrenSize axis) item far = IsExtent axis item (family.owned item) far

  pub IsMet-prop : (n : Native) (item : ℕ) (far : Progress) → IsProp (IsMet n item far)
  IsMet-prop (native.Place axis) item far = Unit-prop
  IsMet-prop (native.Size axis) item far = Unit-prop
  IsMet-prop (native.ImplicitSize axis) item far = Unit-prop
  IsMet-prop (native.Inherited slot) item far = Unit-prop
  IsMet-prop (native.ChildrenPlace axis) item far = least-prop _ _
  IsMet-prop (native.ChildrenSize axis) item far = extent-prop _ _

-- what is seen is seen later, too
abbrev pub SeesMore : (Place → Option Value) → (Place → Option Value) → Type 0
SeesMore see later = (p : Place) (v : Value) → see p ≡ Some v → later p ≡ Some v
