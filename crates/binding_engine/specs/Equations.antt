-- The expressions of places, as trees of what they read.
use Rattle.std.specs.Prelude.{ℕ, Bool, true, false, ◌&&◌, if◌then◌else◌, Option, None, Some, is_some, unwrap_or, List, [], filter}
use Rattle.type_table.specs.Slots.{is_item}
use Rattle.type_table.specs.declared.slot.SlotInfo.{SlotInfo}
use Rattle.qml_ast.specs.declared.eval_fault.EvalFault.TheVariants.{WrongKind}
use Rattle.qml_ast.specs.declared.place.Place.{Place}
use Rattle.qml_ast.specs.declared.place.Side.{Side}
use Rattle.qml_ast.specs.declared.place.Side.TheVariants.{Set, Shown}
use Rattle.qml_ast.specs.declared.value.Value.{Value}
use Rattle.expr_eval.specs.Shapes.{Shape}
use Rattle.expr_eval.specs.Trees.{Tree, tree}
use Rattle.settling.specs.Runs.{gives, faults}
use Rattle.item_equations.specs.Asking.{as_tree}
use Rattle.item_equations.specs.Family.{Family}
use Rattle.item_equations.specs.Native.{native_of}
use Rattle.item_equations.specs.Native as items
use Rattle.item_equations.specs.declared.native.Native.{Native}
use Rattle.object_tree.specs.declared.instance.Instance.{Instance}
use Rattle.object_tree.specs.declared.property.Binding.{Binding}
use Rattle.object_tree.specs.Handlers.{callable_at}
use Rattle.object_tree.specs.Looking.{looked_up, member_of}
use Rattle.object_tree.specs.Places.{places_of}
use Rattle.object_tree.specs.Reading.{instance_at, item_parent_at, owned_by, is_given_at, binding_at, info_at, is_place, value_read}
use Rattle.object_tree.specs.Store.{Store}
use Rattle.object_tree.specs.Taking.{taken}

-- What a store means to expressions, whatever its places hold.
abbrev pub shape_of : Store → Shape
shape_of store = record {
  look = λ frame name. looked_up frame name store;
  member = λ serial g name. member_of serial g name store;
  method = λ serial number. callable_at serial number store;
  as_read = value_read store;
}

-- the value that a slot takes; what it does not take is the fault of the expression
abbrev pub given : Option Value → Tree
given None = faults WrongKind
given (Some v) = gives v

abbrev pub taken_in : Option SlotInfo → Store → Value → Option Value
taken_in None store v = None
taken_in (Some info) store v = taken store info.kind v

-- the value of a bound place: that of its expression, as its slot takes it
unfoldable pub bound_tree : Store → Place → Binding → Tree
bound_tree store place binding =
    tree (shape_of store) binding.expr binding.frame [] (λ v. given (taken_in (info_at place store) store v))

-- How items stand in each other. No place's value has a part in it.
abbrev pub family_of : Store → Family
family_of store = record {
  parent = λ item. item_parent_at item store;
  owned = λ item. owned_by item store;
  is_set = λ place. is_given_at place store;
}

-- what an item's slot shows by its own equation
unfoldable pub native_tree : Store → Native → ℕ → Tree
native_tree store native item = as_tree (value_read store) (items.equation (family_of store) native item)

abbrev pub is_shown : Side → Bool
is_shown Set = false
is_shown Shown = true

-- what an item shows of some slots follows from an equation of its own
abbrev pub native_in : Option Instance → Place → Option Native
native_in None place = None
native_in (Some instance) place = if is_item instance.built_in && is_shown place.side then native_of place.slot else None

abbrev pub native_at : Store → Place → Option Native
native_at store place = if is_place place store then native_in (instance_at place.serial store) place else None

-- the content item, which no object owns, has no equations
abbrev pub has_owner : Option Instance → Bool
has_owner None = false
has_owner (Some instance) = is_some instance.object.parent

abbrev pub equation_by : Store → Place → Option Binding → Option Native → Option Tree
equation_by store place (Some binding) native = Some (bound_tree store place binding)
equation_by store place None (Some native) = Some (native_tree store native place.serial)
equation_by store place None None = None

-- the expression of a place that is bound or native
unfoldable pub equation : Store → Place → Option Tree
equation store place =
    if has_owner (instance_at place.serial store) then equation_by store place (binding_at place store) (native_at store place) else None

abbrev pub has_equation : Store → Place → Bool
has_equation store place = is_some (equation store place)

-- the same expression, for places that have one
abbrev pub tree_at : Store → Place → Tree
tree_at store place = unwrap_or (equation store place) (faults WrongKind)

-- the places that have an expression, in order
abbrev pub equated : Store → List Place
equated store = filter (has_equation store) (places_of store)
