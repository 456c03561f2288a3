-- The objects of one making, in their order.
use Rattle.std.specs.Prelude.{ℕ, ◌+◌, ◌-◌, ◌^◌, min, Bool, true, false, ◌&&◌, if◌then◌else◌, Option, None, Some, option_map, List, [], ◌∷◌, ◌++◌, map, fold, length, slice_get}
use Rattle.arena.specs.Arena.{with_next}
use Rattle.type_table.specs.Names.{signals, methods}
use Rattle.type_table.specs.Slots.{is_item}
use Rattle.type_table.specs.declared.built_in.BuiltIn.{BuiltIn}
use Rattle.type_table.specs.declared.item_slots.TheConstants.{PARENT}
use Rattle.qml_ast.specs.declared.value.Value.TheVariants as value
use Rattle.qml_types.specs.declared.component.Base.{Base, fold-Base}
use Rattle.qml_types.specs.declared.component.Base.TheVariants as base
use Rattle.qml_types.specs.declared.component.Base.TheOpen.{Base-F, ComponentType-F, ObjectDecl-F}
use Rattle.qml_types.specs.declared.component.ComponentType.{ComponentType, roll-ComponentType, fold-ComponentType}
use Rattle.qml_types.specs.declared.component.ObjectDecl.{ObjectDecl, out-ObjectDecl, roll-ObjectDecl, fold-ObjectDecl}
use Rattle.object_tree.specs.declared.context.Context.{Context}
use Rattle.object_tree.specs.declared.instance.Instance.{Instance}
use Rattle.object_tree.specs.declared.property.Property.{Property}
use Rattle.object_tree.specs.Names.{with_name}
use Rattle.object_tree.specs.Reading.{instance_at}
use Rattle.object_tree.specs.Store.{Store}
use Rattle.object_tree.specs.Writing.{with_item, with_instance, with_property}
use Rattle.object_tree.specs.Making.{new_properties, layered, given_object, is_child}

-- ---- an object of a built-in type
abbrev pub depth_below : Option Instance → ℕ
depth_below None = 0
depth_below (Some i) = min (i.depth + 1) (2 ^ 32 - 1)

abbrev pub stands_in_item : Option Instance → Bool
stands_in_item None = false
stands_in_item (Some i) = is_item i.built_in

abbrev pub new_instance : ℕ → ℕ → ℕ → ℕ → BuiltIn → Instance
new_instance settle serial parent depth t = record {
  object = record { serial = serial; parent = Some parent };
  built_in = t;
  depth = depth;
  layers = [];
  names = [];
  signals = length (signals t);
  methods = length (methods t);
  item_parent = None;
  children = [];
  properties = new_properties settle serial t;
}

abbrev pub shown_as_parent : ℕ → Property → Property
shown_as_parent parent property = record property { shown = record property.shown { value = value.Obj parent } }

-- an item that is a child of an item has it as its parent
abbrev pub in_parent : Bool → ℕ → Instance → Instance
in_parent is_visual parent instance =
    if is_visual then with_property (shown_as_parent parent) PARENT (record instance { item_parent = Some parent }) else instance

abbrev pub is_visual_in : Bool → BuiltIn → Option Instance → Bool
is_visual_in as_child t above = as_child && (is_item t && stands_in_item above)

abbrev pub with_child : ℕ → Instance → Instance
with_child serial instance = record instance { children = instance.children ++ (serial ∷ []) }

-- the serial that the next object has
abbrev pub next_serial : Store → ℕ
next_serial store = store.objects.last + 1

abbrev pub with_object : Instance → Store → Store
with_object instance store = record store { objects = with_next store.objects instance }

unfoldable pub born : BuiltIn → ℕ → Bool → Store → Store
born t parent as_child store =
    with_instance (with_child (next_serial store)) parent
    (with_object
    (in_parent (is_visual_in as_child t (instance_at parent store)) parent
    (new_instance store.settle (next_serial store) parent (depth_below (instance_at parent store)) t))
    store)

-- ---- contexts
abbrev pub with_id : ℕ → Option (List ℕ) → Context → Context
with_id serial None context = context
with_id serial (Some id) context = record context { ids = with_name context.ids id serial }

-- one object more
abbrev pub with_serial : ℕ → Option (List ℕ) → Context → Context
with_serial serial id context = with_id serial id (record context { serials = context.serials ++ (serial ∷ []) })

abbrev pub new_context : ComponentType → Option ℕ → Context
new_context component around = record { component = component; around = around; serials = []; ids = [] }

-- the number of the last context that was made
abbrev pub last_context : Store → ℕ
last_context store = length store.contexts

abbrev pub with_context : Context → Store → Store
with_context context store = record store { contexts = store.contexts ++ (context ∷ []) }

-- the store with f of the context of that number
abbrev pub with_changed_context : (Context → Context) → ℕ → Store → Store
with_changed_context f number store = record store { contexts = with_item f (number - 1) store.contexts }

abbrev pub context_at : ℕ → Store → Option Context
context_at number store = slice_get store.contexts (number - 1)

abbrev pub serials_of : Option Context → List ℕ
serials_of None = []
serials_of (Some context) = context.serials

abbrev pub serial_in : List ℕ → Option ℕ → ℕ
serial_in serials None = 0
serial_in serials (Some owner) = elim (slice_get serials owner) [ None ↦ 0 | Some serial ↦ serial ]

-- ---- one object of a component
-- what the component declares of the object, which is the next one in its context
unfoldable pub declared : ComponentType → ObjectDecl → ℕ → ℕ → Store → Store
declared component decl number serial store =
    with_instance (layered store.settle (record { component = component; index = length (serials_of (context_at number store)); context = number }) decl) serial
    (with_changed_context (with_serial serial (out-ObjectDecl decl).id) number store)

-- how a component, or what an object is made of first, adds to a store: first the root, in an object and as its child or not; and
-- then, given the number of the context and the root, what stands in the root
pub record Grower : Type 0 where
  pub rooted : ℕ → Bool → Option ℕ → Store → Store
  pub below : ℕ → ℕ → Store → Store

pub record BaseGrower : Type 0 where
  pub base : Base
  pub grower : Grower

pub record ComponentGrower : Type 0 where
  pub component : ComponentType
  pub grower : Grower

pub record ObjectGrower : Type 0 where
  pub decl : ObjectDecl
  pub base : Grower

-- the root: first as what it is made of, and then as this component declares it, in a context of its own
abbrev pub declared_last : ComponentType → ObjectDecl → ℕ → Store → Store
declared_last component decl serial store = declared component decl (last_context store) serial store

abbrev pub root_declared : ComponentType → ObjectDecl → Option ℕ → ℕ → Store → Store
root_declared component decl around serial store = declared_last component decl serial (with_context (new_context component around) store)

abbrev pub rooted_by : ComponentType → List ObjectGrower → ℕ → Bool → Option ℕ → Store → Store
rooted_by component [] parent as_child around store = store
rooted_by component (root ∷ objects) parent as_child around store =
    root_declared component root.decl around (next_serial store) (root.base.rooted parent as_child None store)

abbrev pub owner_in : ObjectDecl → ℕ → Store → ℕ
owner_in decl number store = serial_in (serials_of (context_at number store)) (out-ObjectDecl decl).owner

-- one more object of a component, in its owner: first as what it is made of
abbrev pub object_rooted : ℕ → ObjectDecl → Grower → Store → Store
object_rooted number decl base store = base.rooted (owner_in decl number store) (is_child (out-ObjectDecl decl).role) None store

-- then as the component declares it
abbrev pub object_placed : ComponentType → ℕ → ObjectDecl → Grower → Store → Store
object_placed component number decl base store =
    with_instance (given_object number (next_serial store) (out-ObjectDecl decl).role) (owner_in decl number store)
    (declared component decl number (next_serial store) (object_rooted number decl base store))

-- and what stands in it by what it is made of
unfoldable pub object_grown : ComponentType → ℕ → ObjectDecl → Grower → Store → Store
object_grown component number decl base store =
    base.below (last_context (object_rooted number decl base store)) (next_serial store) (object_placed component number decl base store)

abbrev pub with_grown : ComponentType → ℕ → Store → ObjectGrower → Store
with_grown component number store object = object_grown component number object.decl object.base store

abbrev pub below_by : ComponentType → List ObjectGrower → ℕ → ℕ → Store → Store
below_by component [] number serial store = store
below_by component (root ∷ objects) number serial store = fold (with_grown component number) (root.base.below (number - 1) serial store) objects

abbrev pub grown_by : ComponentType → List ObjectGrower → Grower
grown_by component objects = record { rooted = rooted_by component objects; below = below_by component objects }

-- ---- all levels
abbrev pub built_in_grower : BuiltIn → Grower
built_in_grower t = record { rooted = λ parent as_child around. born t parent as_child; below = λ number serial store. store }

abbrev pub base_step : Base-F BaseGrower ComponentGrower ObjectGrower → BaseGrower
base_step (Base-F.BuiltIn t) = record { base = base.BuiltIn t; grower = built_in_grower t }
base_step (Base-F.Document c) = record { base = base.Document c.component; grower = c.grower }

abbrev pub decl_in : ObjectGrower → ObjectDecl
decl_in object = object.decl

abbrev pub component_in : ComponentGrower → ComponentType
component_in component = component.component

-- the component itself
abbrev pub component_again : ComponentType-F BaseGrower ComponentGrower ObjectGrower → ComponentType
component_again component = roll-ComponentType (record { file = component.file; objects = map decl_in component.objects; sizes = component.sizes })

abbrev pub component_step : ComponentType-F BaseGrower ComponentGrower ObjectGrower → ComponentGrower
component_step component = record { component = component_again component; grower = grown_by (component_again component) component.objects }

abbrev pub object_step : ObjectDecl-F BaseGrower ComponentGrower ObjectGrower → ObjectGrower
object_step object = record {
  decl = roll-ObjectDecl (record {
    base = object.base.base;
    owner = object.owner;
    role = object.role;
    id = object.id;
    slots = object.slots;
    signals = object.signals;
    methods = object.methods;
    inits = object.inits;
    handlers = object.handlers;
    inner = option_map component_in object.inner;
    span = object.span;
  });
  base = object.base.grower;
}

abbrev pub component_grower : ComponentType → ComponentGrower
component_grower = fold-ComponentType BaseGrower ComponentGrower ObjectGrower base_step component_step object_step

abbrev pub base_grower : Base → BaseGrower
base_grower = fold-Base BaseGrower ComponentGrower ObjectGrower base_step component_step object_step

abbrev pub object_grower : ObjectDecl → ObjectGrower
object_grower = fold-ObjectDecl BaseGrower ComponentGrower ObjectGrower base_step component_step object_step

-- how a component adds to a store
unfoldable pub grower_of : ComponentType → Grower
grower_of component = (component_grower component).grower

-- how what objects are made of first adds to a store
unfoldable pub grower_under : Base → Grower
grower_under base = (base_grower base).grower

-- one whole making: its root, in an object, and what stands in it. Around it may be a context
unfoldable pub grown : ComponentType → ℕ → Option ℕ → Store → Store
grown component parent around store = grown_below component (next_serial store) ((grower_of component).rooted parent true around store)
  where
    grown_below : ComponentType → ℕ → Store → Store
    grown_below component serial store = (grower_of component).below (last_context store) serial store
