-- The objects that a component declares.
use Rattle.std.specs.Prelude.{ℕ, pos, false, Option, None, Some, option_map, List, [], ◌∷◌, ◌++◌, map, fold, length, if◌then◌else◌}
use Rattle.std.specs.List.{flat_map}
use Rattle.std.specs.Option.{unwrap_or}
use Rattle.type_table.specs.declared.built_in.BuiltIn.TheVariants as built_in
use Rattle.type_table.specs.declared.slot.Initial.{Initial}
use Rattle.type_table.specs.declared.slot.Initial.TheVariants as initial
use Rattle.type_table.specs.declared.slot.Kind.{Kind}
use Rattle.type_table.specs.declared.slot.Kind.TheVariants as kind
use Rattle.qml_ast.specs.declared.param.SignalParam.{SignalParam}
use Rattle.qml_ast.specs.declared.path.Path.{Path}
use Rattle.qml_ast.specs.declared.span.Span.{Span}
use Rattle.qml_types.specs.declared.component.Base.TheVariants as base
use Rattle.qml_types.specs.declared.component.ComponentType.{ComponentType, roll-ComponentType}
use Rattle.qml_types.specs.declared.component.HandlerDecl.{HandlerDecl}
use Rattle.qml_types.specs.declared.component.InitDecl.{InitDecl}
use Rattle.qml_types.specs.declared.component.MethodDecl.{MethodDecl}
use Rattle.qml_types.specs.declared.component.ObjectDecl.{ObjectDecl, roll-ObjectDecl}
use Rattle.qml_types.specs.declared.component.Role.{Role}
use Rattle.qml_types.specs.declared.component.Role.TheVariants as role
use Rattle.qml_types.specs.declared.component.SignalDecl.{SignalDecl}
use Rattle.qml_types.specs.declared.component.SlotDecl.{SlotDecl}
use Rattle.qml_types.specs.Known.{KnownTypes, kind_named}
use Rattle.qml_types.specs.Parts.{Reading, Stand, Given, expression, object, Part, identity, property, signal, initialiser, handler, method, child}
use Rattle.qml_types.specs.Rules.{is_component, is_plain_component, is_wrapped, kind_in}
use Rattle.qml_types.specs.Scope.{Scope, slot_of}
use Rattle.qml_types.specs.Sizes.{sizes_of}

-- ---- what an object declares itself
-- what a property of this kind holds at first
unfoldable pub initial_of : Kind → Initial
initial_of kind.Int = initial.Int (pos 0)
initial_of kind.Bool = initial.Bool false
initial_of kind.Str = initial.Empty
initial_of kind.Color = initial.Color 0xff00_0000
initial_of kind.Obj = initial.Null
initial_of kind.Component = initial.Null
initial_of kind.Line = initial.NoLine
initial_of kind.Var = initial.NoLine

-- the kind of that name, where there is one
unfoldable pub kind_or_var : KnownTypes → List ℕ → Kind
kind_or_var known name = unwrap_or (kind_named known name) kind.Var

abbrev pub slots_in : KnownTypes → Part → List SlotDecl
slots_in known (property fixed k name given kind_at value_at at) =
    record { name = name; kind = kind_or_var known k; initial = initial_of (kind_or_var known k); read_only = fixed; span = at } ∷ []
slots_in known _ = []

abbrev pub param_of : KnownTypes → SignalParam → List ℕ × Kind
param_of known param = (param.name, kind_or_var known param.kind)

abbrev pub signals_in : KnownTypes → Part → List SignalDecl
signals_in known (signal name params at) = record { name = name; params = map (param_of known) params; span = at } ∷ []
signals_in known _ = []

abbrev pub methods_in : Part → List MethodDecl
methods_in (method name params body at) = record { name = name; params = map (λ p. p.name) params; body = body; span = at } ∷ []
methods_in _ = []

-- the path of a declared property
abbrev pub own_path : List ℕ → Path
own_path name = record { first = name; second = None }

-- an expression that is given to a path is what its slot is bound to
abbrev pub bound : Path → Given → Span → List InitDecl
bound path (expression expr) at = record { path = path; expr = expr; span = at } ∷ []
bound path (object reading) at = []

abbrev pub inits_in : Part → List InitDecl
inits_in (property fixed k name (Some given) kind_at value_at at) = bound (own_path name) given at
inits_in (initialiser path given value_at at) = bound path given at
inits_in _ = []

abbrev pub handlers_in : Part → List HandlerDecl
handlers_in (handler path body at) = record { path = path; body = body; span = at } ∷ []
handlers_in _ = []

abbrev pub ids_in : Part → List (List ℕ)
ids_in (identity name at) = name ∷ []
ids_in _ = []

abbrev pub children_in : Part → List Reading
children_in (child reading) = reading ∷ []
children_in _ = []

abbrev pub first_of_all : {X : Type 0} → List X → Option X
first_of_all [] = None
first_of_all (x ∷ xs) = Some x

-- ---- components
-- a component that has these objects
abbrev pub component_with : List ℕ → List ObjectDecl → ComponentType
component_with file objects = roll-ComponentType (record { file = file; objects = objects; sizes = sizes_of objects })

-- the component whose root is this object
unfoldable pub component_of : KnownTypes → List ℕ → Reading → ComponentType
component_of known file reading = component_with file (reading.placed known (record { file = file; owner = None; role = role.Root }) [])

-- what a Component declares: its child
abbrev pub inner_of : Scope → List ℕ → List Part → Option ComponentType
inner_of scope file parts =
    if is_plain_component scope.type then option_map (component_of scope.known file) (first_of_all (flat_map children_in parts)) else None

-- the object itself. One of unknown type, which is a fault, is said to be a plain object
unfoldable pub object_of : Scope → Stand → Span → List Part → ObjectDecl
object_of scope stand at parts = roll-ObjectDecl (record {
  base = unwrap_or scope.type (base.BuiltIn built_in.QtObject);
  owner = stand.owner;
  role = stand.role;
  id = first_of_all (flat_map ids_in parts);
  slots = flat_map (slots_in scope.known) parts;
  signals = flat_map (signals_in scope.known) parts;
  methods = flat_map methods_in parts;
  inits = flat_map inits_in parts;
  handlers = flat_map handlers_in parts;
  inner = inner_of scope stand.file parts;
  span = at;
})

-- a Component that declares an object which is given to a slot for components
unfoldable pub wrapper_of : KnownTypes → Stand → Reading → ObjectDecl
wrapper_of known stand reading = roll-ObjectDecl (record {
  base = base.BuiltIn built_in.Component;
  owner = stand.owner;
  role = stand.role;
  id = None;
  slots = [];
  signals = [];
  methods = [];
  inits = [];
  handlers = [];
  inner = Some (component_of known stand.file reading);
  span = reading.at;
})

-- ---- all objects
-- the objects, with what is given to a slot of that kind
abbrev pub with_given : KnownTypes → Option Kind → Stand → List ObjectDecl → Given → List ObjectDecl
with_given known k stand objects (expression expr) = objects
with_given known k stand objects (object reading) =
    if is_wrapped known k reading then objects ++ (wrapper_of known stand reading ∷ []) else reading.placed known stand objects

-- where the objects in an object are put
abbrev pub within : List ℕ → ℕ → Role → Stand
within file owner r = record { file = file; owner = Some owner; role = r }

-- the objects, with those in a member of the object of that number
unfoldable pub with_part : Scope → List ℕ → ℕ → List ObjectDecl → Part → List ObjectDecl
with_part scope file owner objects (property fixed k name (Some given) kind_at value_at at) =
    with_given scope.known (kind_named scope.known k) (within file owner (role.Value (own_path name))) objects given
with_part scope file owner objects (initialiser path given value_at at) =
    with_given scope.known (kind_in (slot_of scope path)) (within file owner (role.Value path)) objects given
with_part scope file owner objects (child reading) =
    if is_component scope.type then objects else reading.placed scope.known (within file owner role.Child) objects
with_part scope file owner objects _ = objects

-- the objects, with an object and those in it
unfoldable pub with_object : Scope → Span → List Part → Stand → List ObjectDecl → List ObjectDecl
with_object scope at parts stand objects =
    fold (with_part scope stand.file (length objects)) (objects ++ (object_of scope stand at parts ∷ [])) parts
