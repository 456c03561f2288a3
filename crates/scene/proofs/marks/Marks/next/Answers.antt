use Rattle.std.proofs.Common.{arith, ◌∙◌}
use Rattle.scene.proofs.Cells.{following_within, no_more, one_more_at, seen_apart}
use Rattle.scene.proofs.marks.Marks.next.Goals as goal

pub returns-in_err-cell-clause-next : goal.returns-in_err-cell-clause-next
returns-in_err-cell-clause-next c serial place own at =
    c.from_residual.ensures ∙ no_more c.self.invariant c.args.self.now c.self.view_is c.args.cell c.in_err-cell.ensures.next serial place own at

pub returns-in_err-cell-clause-apart : goal.returns-in_err-cell-clause-apart
returns-in_err-cell-clause-apart c = seen_apart c.self.invariant c.args.self.now c.self.view_is

pub index-requires : goal.index-requires
index-requires c =
    let within = following_within c.self.invariant c.args.cell c.in_ok-cell.cell c.in_ok-cell.ensures.next c.in_ok-cell.ensures.loose in omega arith

pub returns-clause-next : goal.returns-clause-next
returns-clause-next c =
    one_more_at c.self.invariant c.args.self.now c.self.view_is c.args.cell c.in_ok-cell.cell c.index.result.now c.in_ok-cell.ensures.next c.index.ensures

pub returns-clause-apart : goal.returns-clause-apart
returns-clause-apart c = seen_apart c.self.invariant c.args.self.now c.self.view_is
