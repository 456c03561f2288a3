-- The row of an item is found anchor by anchor.
use Rattle.std.proofs.Common.{◌≡◌, ℕ, zero, suc, ◌<◌, refl, ap, arith}
use Rattle.std.specs.Prelude.{◌-◌}
use Rattle.anchors.specs.Walk.{next_of}
use Rattle.anchors.specs.declared.row.Row.TheVariants.{Free}
use Rattle.anchors.specs.declared.walk.Found.{Found}
use Rattle.item_equations.specs.Asking.{gives}
use Rattle.item_equations.specs.Family.{Family}
use Rattle.item_equations.specs.Rows.{row_by, row_from}
use Rattle.item_equations.specs.declared.axis.Axis.{Axis}
use Rattle.item_equations.specs.declared.ties.Tie.{Tie}

pub row_none : (family : Family) (axis : Axis) (item : ℕ) (found : Found Tie Tie) → row_from family axis item 0 found ≡ gives Free
unfolding row_from
row_none family axis item found = refl

pub row_more : (family : Family) (axis : Axis) (item left : ℕ) (found : Found Tie Tie) → 0 < left →
    row_from family axis item left found ≡ row_by family axis item (row_from family axis item (left - 1)) found (next_of found)
unfolding row_from
row_more family axis item zero found h = absurd (omega arith)
row_more family axis item (suc left) found h =
    let less : left ≡ suc left - 1 = omega arith in
    ap (λ n. row_by family axis item (row_from family axis item n) found (next_of found)) less

pub ruleset row_steps = (row_none, row_more)
