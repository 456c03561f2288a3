-- What an anchor is tied to.
use Rattle.std.specs.Prelude.{ℕ, ◌==◌, if◌then◌else◌, Option, None, Some, option_map}
use Rattle.std.specs.Option.{option_eq}
use Rattle.std.specs.Prelude.{nat_eq}
use Rattle.qml_ast.specs.declared.value.Edge.{Edge}
use Rattle.qml_ast.specs.declared.value.Edge.TheVariants as edge
use Rattle.qml_ast.specs.declared.value.Value.{Value}
use Rattle.qml_ast.specs.declared.value.Value.TheVariants as value
use Rattle.item_equations.specs.Family.{Family}
use Rattle.item_equations.specs.declared.axis.Axis.{Axis}
use Rattle.item_equations.specs.declared.axis.Axis.TheVariants.{Horizontal, Vertical}
use Rattle.item_equations.specs.declared.ties.Kin.{Kin}
use Rattle.item_equations.specs.declared.ties.Kin.TheVariants.{Parent, Sibling}
use Rattle.item_equations.specs.declared.ties.Spot.{Spot}
use Rattle.item_equations.specs.declared.ties.Spot.TheVariants.{Near, Far, Center}
use Rattle.item_equations.specs.declared.ties.Tie.{Tie}

-- which line of the axis an edge is; an edge of the other axis is none
abbrev pub spot_of : Axis → Edge → Option Spot
spot_of Horizontal edge.Left = Some Near
spot_of Horizontal edge.Right = Some Far
spot_of Horizontal edge.HCenter = Some Center
spot_of Vertical edge.Top = Some Near
spot_of Vertical edge.Bottom = Some Far
spot_of Vertical edge.VCenter = Some Center
spot_of _ _ = None

-- An item may be tied to its parent and to its siblings, the other items in that parent.
abbrev pub kin_in : Family → ℕ → ℕ → Option ℕ → Option Kin
kin_in family item target None = None
kin_in family item target (Some parent) =
    if target == parent then Some (Parent target)
    else if target == item then None
    else if option_eq nat_eq (family.parent target) (Some parent) then Some (Sibling target)
    else None

unfoldable pub kin_of : Family → ℕ → ℕ → Option Kin
kin_of family item target = kin_in family item target (family.parent item)

abbrev pub tie_with : Option Spot → Option Kin → Option Tie
tie_with None kin = None
tie_with (Some spot) kin = option_map (λ k. record { kin = k; spot = spot }) kin

-- what a value of an anchor ties an item to on an axis: to an item as to its centre, whose place and size are those of the
-- item, or to a line of one
unfoldable pub tie_of : Family → Axis → ℕ → Value → Option Tie
tie_of family axis item (value.Obj target) = tie_with (Some Center) (kin_of family item target)
tie_of family axis item (value.Line (Some line)) = tie_with (spot_of axis line.edge) (kin_of family item line.serial)
tie_of family axis item _ = None
