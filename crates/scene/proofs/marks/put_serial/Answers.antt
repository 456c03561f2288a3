use Rattle.std.proofs.Common.{sym, ◌∙◌, arith}
use Rattle.links.proofs.Places.{placed_within, placed_end}
use Rattle.scene.proofs.marks.put_serial.Goals as goal

pub returns-then-cell-len : goal.returns-then-cell-len
returns-then-cell-len c = sym (placed_within c.args.serials.now.items c.args.cell c.args.serial (omega arith))

pub returns-else-cell-len : goal.returns-else-cell-len
returns-else-cell-len c =
    c.push_reserved.ensures.items ∙ sym (placed_end c.args.serials.now.items c.args.cell c.args.serial (omega arith))
