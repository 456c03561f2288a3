use Rattle.std.proofs.Common.{Some, None, is_some, ap, sym, ◌∙◌, refl}
use Rattle.scene.proofs.Storing.{item_is, cell_is, both_none}
use Rattle.scene.proofs.items.Items.cell.Goals as goal

pub returns-clause-cell : goal.returns-clause-cell
returns-clause-cell c = sym (cell_is c.self.inside.entries c.args.self.now c.self.view_is c.args.serial (Some c.in_ok-entry.entry.now) (sym c.in_ok-entry.ensures.value))

pub returns-clause-item : goal.returns-clause-item
returns-clause-item c =
    (λ yes. ap is_some (item_is c.self.inside.entries c.args.self.now c.self.view_is c.args.serial (Some c.in_ok-entry.entry.now) (sym c.in_ok-entry.ensures.value)), λ yes. refl)

pub returns-in_err-entry-clause-cell : goal.returns-in_err-entry-clause-cell
returns-in_err-entry-clause-cell c =
    c.from_residual.ensures
    ∙ sym (cell_is c.self.inside.entries c.args.self.now c.self.view_is c.args.serial None (sym c.in_err-entry.ensures.value))

pub returns-in_err-entry-clause-item : goal.returns-in_err-entry-clause-item
returns-in_err-entry-clause-item c =
    both_none c.from_residual.result _ c.from_residual.ensures
    (item_is c.self.inside.entries c.args.self.now c.self.view_is c.args.serial None (sym c.in_err-entry.ensures.value))
