use Rattle.std.proofs.Common.{◌≡◌, ◌+◌, true, [], ◌∷◌, Some, ap, ◌∙◌, arith}
use Rattle.std.specs.Prelude.{replicate}
use Rattle.links.specs.Chains.{Chains}
use Rattle.links.specs.Slots.{placed}
use Rattle.polish.proofs.Queues.{placed-replicate}
use Rattle.polish.proofs.waiting.Waiting.new.Goals as goal

pub loop-positioner-preserved : goal.loop-positioner-preserved
loop-positioner-preserved c =
    let old = c.loop-positioner.links in
    let new = c.add_cell-cell.new.self in
    let positioner = c.loop-positioner.positioner in
    let lists : new.lists ≡ Some [] ∷ [] = ap (λ (l : Chains). l.lists) c.add_cell-cell.ensures.after ∙ c.loop-positioner.invariant.0 in
    let cells : new.cells ≡ replicate (positioner + 1) true =
    ap (λ (l : Chains). l.cells) c.add_cell-cell.ensures.after
    ∙ (ap (λ xs. placed xs c.add_cell-cell.result true) c.loop-positioner.invariant.1.0 ∙ placed-replicate positioner c.add_cell-cell.result c.if-prove_eq.false) in
    let spare = ap (λ (l : Chains). l.spare_cells) c.add_cell-cell.ensures.after in
    (lists, (cells, omega arith))
