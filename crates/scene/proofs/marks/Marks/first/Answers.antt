use Rattle.std.proofs.Common.{arith, sym}
use Rattle.scene.proofs.Cells.{cell_within, read_at, seen_apart}
use Rattle.scene.proofs.marks.Marks.first.Goals as goal

pub index-requires : goal.index-requires
index-requires c =
    let within = cell_within c.self.invariant 0 c.in_ok-cell.cell (sym c.in_ok-cell.ensures.first) in omega arith

pub returns-clause-first : goal.returns-clause-first
returns-clause-first c = read_at c.self.invariant c.args.self.now c.self.view_is 0 c.in_ok-cell.cell c.index.result.now (sym c.in_ok-cell.ensures.first) c.index.ensures

pub returns-clause-apart : goal.returns-clause-apart
returns-clause-apart c = seen_apart c.self.invariant c.args.self.now c.self.view_is
