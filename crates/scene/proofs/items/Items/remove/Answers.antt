use Rattle.std.proofs.Common.{Some, sym}
use Rattle.scene.proofs.Storing.{has, item_is, cell_is, items_removed, cells_removed}
use Rattle.scene.proofs.items.Items.remove.Goals as goal

pub unreachable-requires : goal.unreachable-requires
unreachable-requires c = has c.self.inside.entries c.args.self.now c.self.view_is c.args.serial c.requires (sym c.in_default.ensures.value)

pub returns-clause-item : goal.returns-clause-item
returns-clause-item c = sym (item_is c.self.inside.entries c.args.self.now c.self.view_is c.args.serial (Some c.in-Some.entry) (sym c.in-Some.ensures.value))

pub returns-clause-cell : goal.returns-clause-cell
returns-clause-cell c = sym (cell_is c.self.inside.entries c.args.self.now c.self.view_is c.args.serial (Some c.in-Some.entry) (sym c.in-Some.ensures.value))

pub returns-clause-items : goal.returns-clause-items
returns-clause-items c = items_removed c.self.inside.entries c.args.self.now c.self.view_is c.remove.new.self c.args.serial c.remove.ensures.updates

pub returns-clause-cells : goal.returns-clause-cells
returns-clause-cells c = cells_removed c.self.inside.entries c.args.self.now c.self.view_is c.remove.new.self c.args.serial c.remove.ensures.updates
