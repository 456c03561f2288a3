-- How the code's values are seen: types that were found under their names, and what an object's members stand in.
use Rattle.std.specs.Prelude.{ℕ, Option, None, Some, option_map, List, [], ◌∷◌}
use Rattle.qml_types.specs.declared.component.Base.{Base}
use Rattle.qml_types.specs.declared.component.Base.TheVariants as base
use Rattle.qml_types.specs.declared.handling.SignalNames.{SignalNames}
use Rattle.qml_types.specs.declared.object_scope.ObjectScope.{ObjectScope}
use Rattle.qml_types.specs.declared.type_ref.TypeRef.{TypeRef}
use Rattle.qml_types.specs.declared.type_ref.TypeRef.TheVariants as type_ref
use Rattle.qml_types.specs.Scope.{Scope}

-- what objects of the type are made of first
abbrev pub base_of : TypeRef → Base
base_of (type_ref.BuiltIn t) = base.BuiltIn t
base_of (type_ref.Document known) = base.Document known.now

-- what an object's members stand in
abbrev pub scope_seen : ObjectScope → Scope
scope_seen scope = record { known = scope.known.now; type = option_map base_of scope.named; own = scope.own }

-- the signals that a handler handles
abbrev pub names_seen : Option SignalNames → List (List ℕ)
names_seen None = []
names_seen (Some names) = names.lower ∷ names.upper ∷ []
