use Rattle.std.proofs.Common.{sym, subst, IsSome}
use Rattle.std.specs.FinMap as map
use Rattle.scene.specs.Picture.{Item, Picture}
use Rattle.scene.proofs.Held.{held_changed_by, held_unmarked, has_owner}
use Rattle.scene.proofs.scene.Scene.set_keys.Goals as goal

pub invariant_of-self : goal.invariant_of-self
invariant_of-self c =
    let own = has_owner c.self.invariant c.args.serial c.set_keys-cell.result c.set_keys-cell.ensures.cell in
    let unmarked = held_unmarked c.self.invariant c.unmark.new.self c.args.serial (c.unmark.ensures c.args.serial own) in
    held_changed_by unmarked c.set_keys-cell.new.self c.args.serial (λ (item : Item). record item { keys = c.args.keys })
    (subst (λ (p : Picture). IsSome (map.get p.items c.args.serial)) (sym c.self.view_is) c.requires) (c.self.invariant.fits c.args.serial)
    c.set_keys-cell.ensures.items c.set_keys-cell.ensures.cells c.set_keys-cell.ensures.count
