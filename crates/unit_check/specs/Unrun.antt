-- What isn't run yet of lawful documents.
use Rattle.std.specs.Prelude.{ℕ, ◌+◌, Bool, true, false, ◌&&◌, ◌||◌, ◌==◌, nat_lt, Option, Some, None, List, [], ◌∷◌, flat_map, fold, if◌then◌else◌}
use Rattle.qml_ast.specs.declared.span.Span.{Span}
use Rattle.qml_types.specs.declared.component.Base.{Base}
use Rattle.qml_types.specs.declared.component.Base.TheVariants as base
use Rattle.qml_types.specs.declared.component.ComponentType.{ComponentType, out-ComponentType}
use Rattle.qml_types.specs.declared.component.ObjectDecl.{ObjectDecl, out-ObjectDecl}
use Rattle.type_table.specs.declared.built_in.BuiltIn.TheVariants as built_in
use Rattle.unit_check.specs.declared.unrun.Unrun.{Unrun}

-- ---- places
-- the place stands before the other: in a line before, or in its line in a column before
abbrev pub is_before : Span → Span → Bool
is_before at other = nat_lt at.line other.line || (at.line == other.line && nat_lt at.col other.col)

-- the first of a place found so far, if there is one, and this place
unfoldable pub earlier : Option Span → Span → Option Span
earlier None at = Some at
earlier (Some found) at = if is_before at found then Some at else Some found

-- the place, unless the test holds
abbrev pub unless : Bool → Span → List Span
unless test at = if test then [] else at ∷ []

-- ---- what isn't run of an object
-- the type is run: a document's, QtObject, Item or Rectangle
abbrev pub is_run_type : Base → Bool
is_run_type (base.BuiltIn built_in.QtObject) = true
is_run_type (base.BuiltIn built_in.Item) = true
is_run_type (base.BuiltIn built_in.Rectangle) = true
is_run_type (base.BuiltIn _) = false
is_run_type _ = true

-- its type's name, where that isn't run
unfoldable pub object_place : ObjectDecl → List Span
object_place object = unless (is_run_type (out-ObjectDecl object).base) (out-ObjectDecl object).span

-- ---- documents
-- the type names of a document that aren't run
unfoldable pub unrun_places : ComponentType → List Span
unrun_places component = flat_map object_place (out-ComponentType component).objects

-- the first place of a document that isn't run
unfoldable pub first_place : ComponentType → Option Span
first_place component = fold earlier None (unrun_places component)

-- a document's place, if it has one, or else this one
abbrev pub place_or : ℕ → Option Span → Option Unrun → Option Unrun
place_or document (Some at) behind = Some (record { document = document; at = at })
place_or document None behind = behind

-- the first such place of the first of these documents that has one, where so many documents come before these
abbrev pub first_behind : ℕ → List ComponentType → Option Unrun
first_behind before [] = None
first_behind before (component ∷ components) = place_or before (first_place component) (first_behind (before + 1) components)

-- the first place that isn't run: that of the first document that has one
unfoldable pub first_unrun : List ComponentType → Option Unrun
first_unrun components = first_behind 0 components
