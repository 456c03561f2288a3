-- What names stand for.
use Rattle.std.specs.Prelude.{ℕ, zero, suc, bytes_eq, codes, if◌then◌else◌, Option, None, Some, option_and_then, option_map, List, length, slice_get}
use Rattle.std.specs.Option.{option_or}
use Rattle.type_table.specs.Names.{signals, methods, place_in}
use Rattle.type_table.specs.Slots.{find_slot, has_group}
use Rattle.type_table.specs.declared.slot.Slot.{Slot}
use Rattle.qml_types.specs.Scope.{dotted}
use Rattle.qml_ast.specs.declared.place.Side.TheVariants.{Shown}
use Rattle.expr_eval.specs.declared.found.Found.{Found}
use Rattle.expr_eval.specs.declared.found.Found.TheVariants as found
use Rattle.expr_eval.specs.declared.found.Frame.{Frame}
use Rattle.expr_eval.specs.declared.found.GlobalName.TheVariants as global
use Rattle.expr_eval.specs.declared.found.GroupName.{GroupName}
use Rattle.expr_eval.specs.declared.found.GroupName.TheVariants as group
use Rattle.object_tree.specs.declared.context.Context.{Context}
use Rattle.object_tree.specs.declared.instance.Feature.{Feature}
use Rattle.object_tree.specs.declared.instance.Feature.TheVariants as feature
use Rattle.object_tree.specs.declared.instance.Instance.{Instance}
use Rattle.object_tree.specs.Growing.{context_at}
use Rattle.object_tree.specs.Names.{named}
use Rattle.object_tree.specs.Reading.{instance_at, is_live}
use Rattle.object_tree.specs.Store.{Store}

-- ---- members of an object
abbrev pub group_name : GroupName → List ℕ
group_name group.Anchors = codes "anchors"
group_name group.Border = codes "border"
group_name group.ChildrenRect = codes "childrenRect"

abbrev pub group_named : List ℕ → Option GroupName
group_named name =
    if bytes_eq name (codes "anchors") then Some group.Anchors
    else (if bytes_eq name (codes "border") then Some group.Border
    else (if bytes_eq name (codes "childrenRect") then Some group.ChildrenRect else None))

-- expressions read what a slot shows
abbrev pub shown : ℕ → ℕ → Found
shown serial slot = found.Place (record { serial = serial; slot = slot; side = Shown })

abbrev pub shown_slot : ℕ → Slot → Found
shown_slot serial slot = shown serial slot.index

abbrev pub feature_found : ℕ → Feature → Found
feature_found serial (feature.Slot slot) = shown serial slot
feature_found serial (feature.Signal number) = found.Signal serial number
feature_found serial (feature.Method number) = found.Method serial number

-- what a declared name stands for
abbrev pub declared_member : ℕ → List ℕ → Instance → Option Found
declared_member serial name instance = option_map (feature_found serial) (named name instance.names)

-- a signal, a method or a group of the built-in type
abbrev pub other_member : ℕ → List ℕ → Instance → Option Found
other_member serial name instance =
    option_or (option_map (found.Signal serial) (place_in (signals instance.built_in) name))
    (option_or (option_map (found.Method serial) (place_in (methods instance.built_in) name))
    (if has_group instance.built_in name then option_map (found.Group serial) (group_named name) else None))

-- what a member of the object stands for; slots come first
abbrev pub member_named : ℕ → List ℕ → Instance → Option Found
member_named serial name instance =
    option_or (option_map (shown_slot serial) (find_slot instance.built_in name))
    (option_or (declared_member serial name instance) (other_member serial name instance))

abbrev pub group_member : ℕ → GroupName → List ℕ → Instance → Option Found
group_member serial g name instance = option_map (shown_slot serial) (find_slot instance.built_in (dotted (group_name g) name))

abbrev pub member_in : ℕ → Option GroupName → List ℕ → Instance → Option Found
member_in serial None name instance = member_named serial name instance
member_in serial (Some g) name instance = group_member serial g name instance

-- nothing has that name
abbrev pub or_none : Option Found → Found
or_none None = found.None
or_none (Some f) = f

-- what a member of an object, or of a group of it, stands for
unfoldable pub member_of : ℕ → Option GroupName → List ℕ → Store → Found
member_of serial g name store = or_none (option_and_then (member_in serial g name) (instance_at serial store))

-- ---- names in expressions
-- an object that is no more is null
abbrev pub object_found : Store → ℕ → Found
object_found store serial = if is_live serial store then found.Object serial else found.Object 0

-- the object that has the name as its id
abbrev pub id_found : List ℕ → Context → Store → Option Found
id_found name context store = option_map (object_found store) (named name context.ids)

abbrev pub member_at : ℕ → List ℕ → Store → Option Found
member_at serial name store = option_and_then (member_named serial name) (instance_at serial store)

abbrev pub root_of : Context → Option ℕ
root_of context = slice_get context.serials 0

abbrev pub root_member : List ℕ → Context → Store → Option Found
root_member name context store = option_and_then (λ serial. member_at serial name store) (root_of context)

-- what the name stands for in a context: an id, a member of the object that the expression stands in, or one of the context's root
abbrev pub found_here : List ℕ → ℕ → Context → Store → Option Found
found_here name scope context store = option_or (id_found name context store) (option_or (member_at scope name store) (root_member name context store))

-- the same, and then in the contexts round it, of which there are so many at most
abbrev pub found_in : ℕ → List ℕ → ℕ → Option ℕ → Store → Option Found
found_in zero name scope number store = None
found_in (suc left) name scope None store = None
found_in (suc left) name scope (Some number) store = within (context_at number store) (λ around. found_in left name scope around store)
  where
    within : Option Context → (Option ℕ → Option Found) → Option Found
    within None beyond = None
    within (Some context) beyond = option_or (found_here name scope context store) (beyond context.around)

abbrev pub global_named : List ℕ → Found
global_named name =
    if bytes_eq name (codes "Qt") then found.Global global.Qt
    else (if bytes_eq name (codes "Math") then found.Global global.Math
    else (if bytes_eq name (codes "console") then found.Global global.Console
    else (if bytes_eq name (codes "Loader") then found.Global global.Loader else found.None)))

-- what a name stands for in an expression of a frame; what nothing else has is sought among the names that are known everywhere
unfoldable pub looked_up : Frame → List ℕ → Store → Found
looked_up frame name store = elim (found_in (length store.contexts) name frame.scope (Some frame.context) store) [ None ↦ global_named name | Some f ↦ f ]
