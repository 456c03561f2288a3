-- The types that a document can name.
use Rattle.std.specs.Prelude.{ℕ, nat_eq, Option, None, Some, option_map, List, [], ◌∷◌, codes, is_some}
use Rattle.std.specs.Cmp.Lexicographic.{pointwise}
use Rattle.std.specs.Map.{lookup}
use Rattle.std.specs.Option.{option_or}
use Rattle.type_table.specs.Names.{built_in_named}
use Rattle.type_table.specs.declared.built_in.BuiltIn.{BuiltIn}
use Rattle.type_table.specs.declared.built_in.BuiltIn.TheVariants as built_in
use Rattle.type_table.specs.declared.slot.Kind.{Kind}
use Rattle.type_table.specs.declared.slot.Kind.TheVariants as kind
use Rattle.qml_types.specs.declared.component.Base.{Base}
use Rattle.qml_types.specs.declared.component.Base.TheVariants as base
use Rattle.qml_types.specs.declared.component.ComponentType.{ComponentType}

-- component types under their types' names, in the order in which they were added
abbrev pub KnownTypes : Type 0
KnownTypes = List (List ℕ × ComponentType)

-- the component type under a name
abbrev pub known_type : KnownTypes → List ℕ → Option ComponentType
known_type known name = lookup (pointwise nat_eq name) known

-- the type of that name: a built-in one, or else a known document's
unfoldable pub type_named : KnownTypes → List ℕ → Option Base
type_named known name =
    option_or (option_map (λ t. base.BuiltIn t) (built_in_named name)) (option_map (λ c. base.Document c) (known_type known name))

-- the words for kinds, with what each of them holds
abbrev pub kind_words : List (List ℕ × Kind)
kind_words =
    (codes "int", kind.Int)
    ∷ (codes "real", kind.Int)
    ∷ (codes "double", kind.Int)
    ∷ (codes "bool", kind.Bool)
    ∷ (codes "string", kind.Str)
    ∷ (codes "url", kind.Str)
    ∷ (codes "color", kind.Color)
    ∷ (codes "var", kind.Var)
    ∷ (codes "variant", kind.Var) ∷ []

-- what a property holds whose kind is this type
abbrev pub kind_of : Base → Kind
kind_of (base.BuiltIn built_in.Component) = kind.Component
kind_of _ = kind.Obj

-- what a property of the kind of that name holds
unfoldable pub kind_named : KnownTypes → List ℕ → Option Kind
kind_named known name = option_or (lookup (pointwise nat_eq name) kind_words) (option_map kind_of (type_named known name))
