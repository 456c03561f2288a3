use Rattle.std.proofs.Common.{Some, is_some, ap, sym, refl}
use Rattle.scene.specs.Picture.{Item}
use Rattle.scene.specs.declared.items.Entry.{Entry}
use Rattle.scene.proofs.Storing.{has, item_changed, cells_kept, cell_is}
use Rattle.scene.proofs.items.Items.set_keys.Goals as goal

pub unreachable-requires : goal.unreachable-requires
unreachable-requires c = has c.self.inside.entries c.args.self.now c.self.view_is c.args.serial c.requires (sym c.in_default.ensures.value)

pub returns-clause-items : goal.returns-clause-items
returns-clause-items c =
    let given : Entry = record { paint = c.in-Some.entry.now.paint; keys = c.args.keys; cell = c.in-Some.entry.now.cell } in
    item_changed c.self.inside.entries c.args.self.now c.self.view_is (c.get_mut.follows.lender given) c.args.serial c.in-Some.entry.now given (λ (item : Item). record item { keys = c.args.keys })
    ((c.get_mut.follows.holds given).3 (ap is_some (sym c.in-Some.ensures.value))) (sym c.in-Some.ensures.value) refl

pub returns-clause-cells : goal.returns-clause-cells
returns-clause-cells c =
    let given : Entry = record { paint = c.in-Some.entry.now.paint; keys = c.args.keys; cell = c.in-Some.entry.now.cell } in
    cells_kept c.self.inside.entries c.args.self.now c.self.view_is (c.get_mut.follows.lender given) c.args.serial c.in-Some.entry.now given
    ((c.get_mut.follows.holds given).3 (ap is_some (sym c.in-Some.ensures.value))) (sym c.in-Some.ensures.value) refl

pub returns-clause-cell : goal.returns-clause-cell
returns-clause-cell c = sym (cell_is c.self.inside.entries c.args.self.now c.self.view_is c.args.serial (Some c.in-Some.entry.now) (sym c.in-Some.ensures.value))
