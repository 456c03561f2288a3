use Rattle.std.proofs.Common.{is_some, ap, sym, refl}
use Rattle.scene.specs.Picture.{Item}
use Rattle.scene.specs.declared.items.Entry.{Entry}
use Rattle.scene.proofs.Storing.{has, item_changed, cells_kept}
use Rattle.scene.proofs.items.Items.set_paint.Goals as goal

pub unreachable-requires : goal.unreachable-requires
unreachable-requires c = has c.self.inside.entries c.args.self.now c.self.view_is c.args.serial c.requires (sym c.in_default.ensures.value)

pub returns-clause-items : goal.returns-clause-items
returns-clause-items c =
    let given : Entry = record { paint = c.args.paint; keys = c.in-Some.entry.now.keys; cell = c.in-Some.entry.now.cell } in
    item_changed c.self.inside.entries c.args.self.now c.self.view_is (c.get_mut.follows.lender given) c.args.serial c.in-Some.entry.now given (λ (item : Item). record item { paint = c.args.paint })
    ((c.get_mut.follows.holds given).3 (ap is_some (sym c.in-Some.ensures.value))) (sym c.in-Some.ensures.value) refl

pub returns-clause-cells : goal.returns-clause-cells
returns-clause-cells c =
    let given : Entry = record { paint = c.args.paint; keys = c.in-Some.entry.now.keys; cell = c.in-Some.entry.now.cell } in
    cells_kept c.self.inside.entries c.args.self.now c.self.view_is (c.get_mut.follows.lender given) c.args.serial c.in-Some.entry.now given
    ((c.get_mut.follows.holds given).3 (ap is_some (sym c.in-Some.ensures.value))) (sym c.in-Some.ensures.value) refl
