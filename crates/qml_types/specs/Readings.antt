-- Documents as the rules read them.
use Rattle.std.specs.Prelude.{ℕ, Option, None, Some, List, [], ◌∷◌, ◌++◌, if◌then◌else◌}
use Rattle.std.specs.List.{flat_map}
use Rattle.qml_ast.specs.declared.decl.Decl.{Decl, fold-Decl}
use Rattle.qml_ast.specs.declared.decl.Init.{Init, fold-Init}
use Rattle.qml_ast.specs.declared.decl.Init.TheOpen.{Init-F, Member-F, Decl-F}
use Rattle.qml_ast.specs.declared.decl.Member.{Member, fold-Member}
use Rattle.qml_ast.specs.declared.param.SignalParam.{SignalParam}
use Rattle.qml_ast.specs.declared.span.Span.{Span}
use Rattle.qml_types.specs.declared.mention.Mention.{Mention}
use Rattle.qml_types.specs.Known.{KnownTypes, type_named}
use Rattle.qml_types.specs.Parts.{Reading, Given, expression, object, Part, identity, property, signal, initialiser, handler, method, child}
use Rattle.qml_types.specs.Placed.{with_object}
use Rattle.qml_types.specs.Rules.{own_features, object_faults, object_ids}
use Rattle.qml_types.specs.Scope.{Scope, begins_upper}

-- what the members of an object of that type stand in
abbrev pub scope_of : KnownTypes → List ℕ → List Part → Scope
scope_of known name parts = record { known = known; type = type_named known name; own = own_features known parts }

-- ---- types that are named
-- a kind that names a type
abbrev pub type_in : List ℕ → Span → List Mention
type_in name at = if begins_upper name then record { name = name; span = at } ∷ [] else []

abbrev pub types_given : Given → List Mention
types_given (expression expr) = []
types_given (object reading) = reading.types

abbrev pub param_types : List SignalParam → List Mention
param_types params = flat_map (λ p. type_in p.kind p.kind_span) params

-- the types that a member names, in the order of the text
unfoldable pub types_in : Part → List Mention
types_in (property fixed k name None kind_at value_at at) = type_in k kind_at
types_in (property fixed k name (Some given) kind_at value_at at) = type_in k kind_at ++ types_given given
types_in (signal name params at) = param_types params
types_in (initialiser path given value_at at) = types_given given
types_in (child reading) = reading.types
types_in _ = []

-- ---- one level of a document
abbrev pub init_step : Init-F Given Part Reading → Given
init_step (Init-F.Expr expr) = expression expr
init_step (Init-F.Object reading) = object reading

abbrev pub member_step : Member-F Given Part Reading → Part
member_step (Member-F.Id name span) = identity name span
member_step (Member-F.Property fixed k name init kind_span value_span span) = property fixed k name init kind_span value_span span
member_step (Member-F.Signal name params span) = signal name params span
member_step (Member-F.Init path init value_span span) = initialiser path init value_span span
member_step (Member-F.Handler path body span) = handler path body span
member_step (Member-F.Method name params body span) = method name params body span
member_step (Member-F.Child reading) = child reading

abbrev pub decl_step : Decl-F Given Part Reading → Reading
decl_step decl = record {
  name = decl.name;
  at = decl.span;
  types = record { name = decl.name; span = decl.span } ∷ flat_map types_in decl.members;
  faults = λ known. object_faults (scope_of known decl.name decl.members) decl.span decl.members;
  ids = λ known. object_ids (scope_of known decl.name decl.members) decl.members;
  placed = λ known. with_object (scope_of known decl.name decl.members) decl.span decl.members;
}

-- ---- whole documents
-- what a property is given
abbrev pub given_of : Init → Given
given_of = fold-Init Given Part Reading init_step member_step decl_step

-- a member
abbrev pub part_of : Member → Part
part_of = fold-Member Given Part Reading init_step member_step decl_step

-- an object's declaration
abbrev pub reading_of : Decl → Reading
reading_of = fold-Decl Given Part Reading init_step member_step decl_step
