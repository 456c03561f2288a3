-- The unlawful declarations of an object, a rule after another. Each rule says which declarations are unlawful by
-- it, with the fault and its place.
use Rattle.std.specs.Prelude.{ℕ, ◌+◌, Bool, true, false, ◌&&◌, ◌||◌, not, ◌==◌, nat_eq, Option, None, Some, is_some, option_map, option_and_then, List, [], ◌∷◌, ◌++◌, map, fold, bytes_eq, if◌then◌else◌}
use Rattle.std.specs.Cmp.Lexicographic.{pointwise}
use Rattle.std.specs.List.{flat_map, list_any}
use Rattle.type_table.specs.declared.built_in.BuiltIn.{BuiltIn}
use Rattle.type_table.specs.declared.built_in.BuiltIn.TheVariants as built_in
use Rattle.type_table.specs.declared.slot.Kind.{Kind}
use Rattle.type_table.specs.declared.slot.Kind.TheVariants as kind
use Rattle.qml_ast.specs.declared.expr.Expr.{Expr}
use Rattle.qml_ast.specs.declared.fault.DocFault.{DocFault}
use Rattle.qml_ast.specs.declared.fault.DocFault.TheVariants.{UnknownType, UnknownProperty, BadId, DuplicateId, DuplicateName, WrongLiteral, ReadOnly}
use Rattle.qml_ast.specs.declared.param.MethodParam.{MethodParam}
use Rattle.qml_ast.specs.declared.param.SignalParam.{SignalParam}
use Rattle.qml_ast.specs.declared.path.Path.{Path}
use Rattle.qml_ast.specs.declared.span.Span.{Span}
use Rattle.qml_ast.specs.declared.value.LineRef.{LineRef}
use Rattle.qml_ast.specs.declared.value.Value.{Value}
use Rattle.qml_ast.specs.declared.value.Value.TheVariants as value
use Rattle.qml_types.specs.declared.component.Base.{Base}
use Rattle.qml_types.specs.declared.component.Base.TheVariants as base
use Rattle.qml_types.specs.declared.features.Feature.{Feature}
use Rattle.qml_types.specs.declared.features.Feature.TheVariants.{Slot, Signal, Method}
use Rattle.qml_types.specs.declared.features.SlotFacts.{SlotFacts}
use Rattle.qml_types.specs.Faults.{told}
use Rattle.qml_types.specs.Features.{Features, with_feature, view_of}
use Rattle.qml_types.specs.Known.{KnownTypes, type_named, kind_named}
use Rattle.qml_types.specs.Parts.{Claim, Reading, Given, expression, object, Part, identity, property, signal, initialiser, handler, method, child, literal_of}
use Rattle.qml_types.specs.Scope.{Scope, slot_of, type_has, is_handler, begins_upper, dotted}

-- ---- what a literal is taken by
-- a slot of this kind takes this literal. Whether a text spells a colour shows only when it is evaluated
unfoldable pub takes : Kind → Value → Bool
takes kind.Int (value.Int n) = true
takes kind.Bool (value.Bool b) = true
takes kind.Str (value.Str text) = true
takes kind.Str (value.Int n) = true
takes kind.Str (value.Bool b) = true
takes kind.Str (value.Color argb) = true
takes kind.Color (value.Color argb) = true
takes kind.Color (value.Str text) = true
takes kind.Obj (value.Obj serial) = true
takes kind.Obj (value.Line None) = true
takes kind.Component (value.Obj serial) = serial == 0
takes kind.Line (value.Line line) = true
takes kind.Var v = true
takes k v = false

-- a slot of this kind takes an object
unfoldable pub takes_object : Kind → Bool
takes_object kind.Obj = true
takes_object kind.Component = true
takes_object kind.Var = true
takes_object k = false

-- ---- components
-- the type is Component, or stands on it
unfoldable pub is_component : Option Base → Bool
is_component None = false
is_component (Some b) = elim (view_of b).built_in [ built_in.Component ↦ true | _ ↦ false ]

-- the type is Component itself
unfoldable pub is_plain_component : Option Base → Bool
is_plain_component (Some (base.BuiltIn built_in.Component)) = true
is_plain_component _ = false

-- An object that is given to a slot of that kind declares what a Component has in it: the slot is for components,
-- and the object is none.
unfoldable pub is_wrapped : KnownTypes → Option Kind → Reading → Bool
is_wrapped known (Some kind.Component) reading = not (is_component (type_named known reading.name))
is_wrapped known _ reading = false

-- ---- names that are given twice
-- a name is among these
abbrev pub among : List (List ℕ) → List ℕ → Bool
among names name = list_any (pointwise nat_eq name) names

-- the names with this one, which goes last unless it is there
abbrev pub with_name : List (List ℕ) → List ℕ → List (List ℕ)
with_name names name = if among names name then names else names ++ (name ∷ [])

-- the faults of names that were given before, among these seen or here
abbrev pub repeated : List (List ℕ) → List Claim → List DocFault
repeated seen [] = []
repeated seen (claim ∷ claims) =
    (if among seen claim.name then claim.again ∷ [] else []) ++ repeated (with_name seen claim.name) claims

-- the names that were given and the first fault, with one name more
unfoldable pub note : List (List ℕ) × Option DocFault → Claim → List (List ℕ) × Option DocFault
note state claim = (with_name state.0 claim.name, told state.1 (if among state.0 claim.name then claim.again ∷ [] else []))

-- ---- the members' parts
-- a path as it is written
abbrev pub path_text : Path → List ℕ
path_text path = elim path.second [ None ↦ path.first | Some second ↦ dotted path.first second ]

-- what a member declares
abbrev pub own_feature : KnownTypes → Part → Features
own_feature known (property fixed k name given kind_at value_at at) =
    (name, Slot (record { kind = kind_named known k; read_only = fixed })) ∷ []
own_feature known (signal name params at) = (name, Signal) ∷ []
own_feature known (method name params body at) = (name, Method) ∷ []
own_feature known _ = []

-- what an object's members declare; of a name that is declared twice the first declaration counts
abbrev pub own_features : KnownTypes → List Part → Features
own_features known parts = fold with_feature [] (flat_map (own_feature known) parts)

-- the names that a member declares, or the paths that it initialises, with the fault of a second one
abbrev pub declared_claim : Part → List Claim
declared_claim (property fixed k name given kind_at value_at at) = record { name = name; again = DuplicateName at } ∷ []
declared_claim (signal name params at) = record { name = name; again = DuplicateName at } ∷ []
declared_claim (method name params body at) = record { name = name; again = DuplicateName at } ∷ []
declared_claim _ = []

abbrev pub path_claim : Part → List Claim
path_claim (property fixed k name (Some given) kind_at value_at at) = record { name = name; again = DuplicateName at } ∷ []
path_claim (initialiser path given value_at at) = record { name = path_text path; again = DuplicateName at } ∷ []
path_claim _ = []

abbrev pub signal_claim : SignalParam → Claim
signal_claim param = record { name = param.name; again = DuplicateName param.name_span }

abbrev pub method_claim : MethodParam → Claim
method_claim param = record { name = param.name; again = DuplicateName param.span }

-- an object's ids, each with the fault of a second one in the object
abbrev pub second_id : Part → List DocFault
second_id (identity name at) = DuplicateId at ∷ []
second_id _ = []

-- a child, with the fault of one that a Component can't have
abbrev pub further_child : Part → List DocFault
further_child (child reading) = DuplicateName reading.at ∷ []
further_child _ = []

-- all of them, or all but the first where one is lawful
abbrev pub beyond : {X : Type 0} → Bool → List X → List X
beyond one [] = []
beyond true (x ∷ xs) = xs
beyond false (x ∷ xs) = x ∷ xs

-- there is none
abbrev pub is_none : {X : Type 0} → List X → Bool
is_none [] = true
is_none (x ∷ xs) = false

-- ---- rules on one name or value
-- a fault where something does not hold
abbrev pub unless : Bool → DocFault → List DocFault
unless holds fault = if holds then [] else fault ∷ []

-- a kind that is no word for one and no type's name
unfoldable pub unknown_kind : KnownTypes → List ℕ → Span → List DocFault
unknown_kind known name at = unless (is_some (kind_named known name)) (UnknownType at)

-- a declared name that the type has already
unfoldable pub taken_name : Scope → List ℕ → Span → List DocFault
taken_name scope name at = unless (not (type_has scope.type name)) (DuplicateName at)

-- a literal that a slot of that kind can't take; a slot of unknown kind takes each
abbrev pub wrong_value : Option Kind → Option Value → Span → List DocFault
wrong_value (Some k) (Some v) at = unless (takes k v) (WrongLiteral at)
wrong_value _ _ at = []

-- an object for a slot of a kind that takes none
abbrev pub wrong_object : Option Kind → Span → List DocFault
wrong_object (Some k) at = unless (takes_object k) (WrongLiteral at)
wrong_object None at = []

-- what is given is wrong for a slot of that kind
abbrev pub wrong_given : Option Kind → Given → Span → List DocFault
wrong_given k (expression expr) at = wrong_value k (literal_of expr) at
wrong_given k (object reading) at = wrong_object k reading.at

-- ---- rules on a component
-- the unlawful declarations of an object that is a component's root: its own, and the ids given before
unfoldable pub component_faults : KnownTypes → Reading → List DocFault
component_faults known reading = reading.faults known ++ repeated [] (reading.ids known)

-- the unlawful declarations in an object that is given to a slot of that kind
abbrev pub given_faults : KnownTypes → Option Kind → Given → List DocFault
given_faults known k (expression expr) = []
given_faults known k (object reading) = if is_wrapped known k reading then component_faults known reading else reading.faults known

-- the ids that are given there in the component round it
abbrev pub given_ids : KnownTypes → Option Kind → Given → List Claim
given_ids known k (expression expr) = []
given_ids known k (object reading) = if is_wrapped known k reading then [] else reading.ids known

-- the unlawful declarations in a child
abbrev pub child_faults : Scope → Reading → List DocFault
child_faults scope reading = if is_component scope.type then component_faults scope.known reading else reading.faults scope.known

-- the kind of the slot that is known of
abbrev pub kind_in : Option SlotFacts → Option Kind
kind_in None = None
kind_in (Some facts) = facts.kind

-- ---- rules on one member, a rule for each row
-- a property's or a parameter's kind that names no kind and no type
abbrev pub unknown_kinds : Scope → Part → List DocFault
unknown_kinds scope (property fixed k name given kind_at value_at at) = unknown_kind scope.known k kind_at
unknown_kinds scope (signal name params at) = flat_map (λ p. unknown_kind scope.known p.kind p.kind_span) params
unknown_kinds scope _ = []

-- an initialiser of what is no slot of the object
abbrev pub unknown_slots : Scope → Part → List DocFault
unknown_slots scope (initialiser path given value_at at) = unless (is_some (slot_of scope path)) (UnknownProperty at)
unknown_slots scope _ = []

-- a handler of what the object has not
abbrev pub unknown_handlers : Scope → Part → List DocFault
unknown_handlers scope (handler path body at) = unless (is_handler scope path) (UnknownProperty at)
unknown_handlers scope _ = []

-- an id that begins with an upper-case letter
abbrev pub bad_ids : Scope → Part → List DocFault
bad_ids scope (identity name at) = unless (not (begins_upper name)) (BadId at)
bad_ids scope _ = []

-- a declared name that the object's type has already
abbrev pub taken_names : Scope → Part → List DocFault
taken_names scope (property fixed k name given kind_at value_at at) = taken_name scope name at
taken_names scope (signal name params at) = taken_name scope name at
taken_names scope (method name params body at) = taken_name scope name at
taken_names scope _ = []

-- a parameter of the name of an earlier one
abbrev pub repeated_params : Scope → Part → List DocFault
repeated_params scope (signal name params at) = repeated [] (map signal_claim params)
repeated_params scope (method name params body at) = repeated [] (map method_claim params)
repeated_params scope _ = []

-- a literal or an object that the slot can't take
abbrev pub wrong_literals : Scope → Part → List DocFault
wrong_literals scope (property fixed k name (Some given) kind_at value_at at) = wrong_given (kind_named scope.known k) given value_at
wrong_literals scope (initialiser path given value_at at) = wrong_given (kind_in (slot_of scope path)) given value_at
wrong_literals scope _ = []

-- an initialiser of a slot that documents don't write
abbrev pub read_only_slots : Scope → Part → List DocFault
read_only_slots scope (initialiser path given value_at at) = elim (slot_of scope path) [
  | None ↦ []
  | Some facts ↦ unless (not facts.read_only) (ReadOnly at)
]
read_only_slots scope _ = []

-- what is unlawful in an initialiser by the three rules above on paths and values
unfoldable pub initialiser_faults : Scope → Path → Given → Span → Span → List DocFault
initialiser_faults scope path given value_at at =
    unknown_slots scope (initialiser path given value_at at)
    ++ (wrong_literals scope (initialiser path given value_at at) ++ read_only_slots scope (initialiser path given value_at at))

-- what is unlawful in an object that stands in the member
abbrev pub faults_within : Scope → Part → List DocFault
faults_within scope (property fixed k name (Some given) kind_at value_at at) = given_faults scope.known (kind_named scope.known k) given
faults_within scope (initialiser path given value_at at) = given_faults scope.known (kind_in (slot_of scope path)) given
faults_within scope (child reading) = child_faults scope reading
faults_within scope _ = []

-- what is unlawful in a member itself, by these rules
unfoldable pub own_faults : Scope → Part → List DocFault
own_faults scope part = flat_map (λ rule. rule scope part)
    (unknown_kinds ∷ unknown_slots ∷ unknown_handlers ∷ bad_ids ∷ taken_names ∷ repeated_params ∷ wrong_literals ∷ read_only_slots ∷ [])

-- what is unlawful in a member and in an object that stands in it
unfoldable pub member_faults : Scope → Part → List DocFault
member_faults scope part = own_faults scope part ++ faults_within scope part

-- ---- rules on all members of an object
-- a type of that name that there is not
unfoldable pub unknown_type : Scope → Span → List DocFault
unknown_type scope at = unless (is_some scope.type) (UnknownType at)

-- a second property, signal or function of one name
unfoldable pub repeated_names : List Part → List DocFault
repeated_names parts = repeated [] (flat_map declared_claim parts)

-- a second initialiser of one path, a declared property's value among them
unfoldable pub repeated_paths : List Part → List DocFault
repeated_paths parts = repeated [] (flat_map path_claim parts)

-- a second id of one object
abbrev pub second_ids : List Part → List DocFault
second_ids parts = beyond true (flat_map second_id parts)

-- a Component without a child, at its type's name
unfoldable pub missing_child : Scope → Span → List Part → List DocFault
missing_child scope at parts =
    unless (not (is_plain_component scope.type && is_none (flat_map further_child parts))) (UnknownProperty at)

-- A child of a Component after its first; a document's Component has its one child already.
unfoldable pub further_children : Scope → List Part → List DocFault
further_children scope parts =
    if is_component scope.type then beyond (is_plain_component scope.type) (flat_map further_child parts) else []

-- a Component has another number of children than one
unfoldable pub child_count_faults : Scope → Span → List Part → List DocFault
child_count_faults scope at parts = missing_child scope at parts ++ further_children scope parts

-- what is unlawful by these rules
unfoldable pub faults_together : Scope → Span → List Part → List DocFault
faults_together scope at parts = unknown_type scope at ++ (child_count_faults scope at parts
    ++ (repeated_names parts ++ (repeated_paths parts ++ second_ids parts)))

-- what is unlawful in an object and in what stands in it, the ids of the component left aside
unfoldable pub object_faults : Scope → Span → List Part → List DocFault
object_faults scope at parts = faults_together scope at parts ++ flat_map (member_faults scope) parts

-- ---- ids
-- the ids that a member gives in the component round it
unfoldable pub member_ids : Scope → Part → List Claim
member_ids scope (identity name at) = record { name = name; again = DuplicateId at } ∷ []
member_ids scope (property fixed k name (Some given) kind_at value_at at) = given_ids scope.known (kind_named scope.known k) given
member_ids scope (initialiser path given value_at at) = given_ids scope.known (kind_in (slot_of scope path)) given
member_ids scope (child reading) = if is_component scope.type then [] else reading.ids scope.known
member_ids scope _ = []

unfoldable pub object_ids : Scope → List Part → List Claim
object_ids scope parts = flat_map (member_ids scope) parts
