use Rattle.scene.specs.Picture.{Item}
use Rattle.scene.proofs.Held.{held_changed_by}
use Rattle.scene.proofs.scene.Scene.put.Goals as goal

pub invariant_of-self : goal.invariant_of-self
invariant_of-self c =
    held_changed_by c.self.invariant c.set_paint.new.self c.args.serial (λ (item : Item). record item { paint = c.args.paint })
    (c.cell.ensures.item.0 c.if-is_none.ensures) (λ item e. c.requires) c.set_paint.ensures.items c.set_paint.ensures.cells c.set_paint.ensures.count
