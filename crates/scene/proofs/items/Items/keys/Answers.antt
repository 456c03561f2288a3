use Rattle.std.proofs.Common.{Some, None, option_map, ap, sym, ◌∙◌}
use Rattle.scene.specs.Picture.{Item}
use Rattle.scene.proofs.Storing.{item_is}
use Rattle.scene.proofs.items.Items.keys.Goals as goal

pub returns : goal.returns
returns c =
    sym (ap (option_map (λ (item : Item). item.keys)) (item_is c.self.inside.entries c.args.self.now c.self.view_is c.args.serial (Some c.in_ok-entry.entry.now) (sym c.in_ok-entry.ensures.value)))

pub returns-in_err-entry : goal.returns-in_err-entry
returns-in_err-entry c =
    c.from_residual.ensures
    ∙ sym (ap (option_map (λ (item : Item). item.keys)) (item_is c.self.inside.entries c.args.self.now c.self.view_is c.args.serial None (sym c.in_err-entry.ensures.value)))
