-- The names of the built-in types, and of their signals and methods.
use Rattle.std.specs.Prelude.{ℕ, nat_eq, Option, List, [], ◌∷◌, find, position, codes}
use Rattle.std.specs.Cmp.Lexicographic.{pointwise}
use Rattle.type_table.specs.declared.built_in.BuiltIn.{BuiltIn}
use Rattle.type_table.specs.declared.built_in.BuiltIn.TheVariants.{QtObject, Item, Rectangle, Row, Column, MouseArea, Timer, Loader, Component}

-- a type's name
abbrev pub type_name : BuiltIn → List ℕ
type_name QtObject = codes "QtObject"
type_name Item = codes "Item"
type_name Rectangle = codes "Rectangle"
type_name Row = codes "Row"
type_name Column = codes "Column"
type_name MouseArea = codes "MouseArea"
type_name Timer = codes "Timer"
type_name Loader = codes "Loader"
type_name Component = codes "Component"

-- the types
abbrev pub built_ins : List BuiltIn
built_ins = QtObject ∷ Item ∷ Rectangle ∷ Row ∷ Column ∷ MouseArea ∷ Timer ∷ Loader ∷ Component ∷ []

-- the type of that name
unfoldable pub built_in_named : List ℕ → Option BuiltIn
built_in_named name = find (λ t. pointwise nat_eq (type_name t) name) built_ins

-- the signals of a type, in order
abbrev pub signals : BuiltIn → List (List ℕ)
signals MouseArea = codes "pressed" ∷ codes "released" ∷ codes "clicked" ∷ []
signals Timer = codes "triggered" ∷ []
signals Loader = codes "loaded" ∷ []
signals _ = []

-- how many arguments each signal of a type has: those of the mouse area's are x and y of the mouse
abbrev pub signal_args : BuiltIn → ℕ
signal_args MouseArea = 2
signal_args t = 0

-- the methods of a type, in order
abbrev pub methods : BuiltIn → List (List ℕ)
methods Timer = codes "start" ∷ codes "stop" ∷ codes "restart" ∷ []
methods _ = []

-- how many names come before this one
abbrev pub place_in : List (List ℕ) → List ℕ → Option ℕ
place_in names name = position (λ n. pointwise nat_eq n name) names
