-- Equality of values as a test.
use Rattle.std.specs.Prelude.{ℕ, Bool, false, true, not, ◌&&◌, ◌==◌, if◌then◌else◌, Option, None, Some, bytes_eq}
use Rattle.std.specs.Ordering.{int_eq}
use Rattle.qml_ast.specs.declared.value.Edge.{Edge}
use Rattle.qml_ast.specs.declared.value.Edge.TheVariants.{Left, Right, Top, Bottom, HCenter, VCenter}
use Rattle.qml_ast.specs.declared.value.LineRef.{LineRef}
use Rattle.qml_ast.specs.declared.value.Value.{Value}
use Rattle.qml_ast.specs.declared.value.Value.TheVariants.{Int, Bool as Flag, Str, Color, Obj, Line}

-- the edges in their order
abbrev pub edge_number : Edge → ℕ
edge_number Left = 0
edge_number Right = 1
edge_number Top = 2
edge_number Bottom = 3
edge_number HCenter = 4
edge_number VCenter = 5

-- both lines are the same, or both none
abbrev pub are_same_lines : Option LineRef → Option LineRef → Bool
are_same_lines None None = true
are_same_lines (Some line) (Some other) =
    (line.serial == other.serial) && (edge_number line.edge == edge_number other.edge)
are_same_lines _ _ = false

-- the values are of one kind and equal
abbrev pub are_equal : Value → Value → Bool
are_equal (Int x) (Int y) = int_eq x y
are_equal (Flag x) (Flag y) = if x then y else not y
are_equal (Str x) (Str y) = bytes_eq x y
are_equal (Color x) (Color y) = x == y
are_equal (Obj x) (Obj y) = x == y
are_equal (Line x) (Line y) = are_same_lines x y
are_equal _ _ = false
