use Rattle.scene.proofs.Held.{held_removed, has_owner}
use Rattle.scene.proofs.scene.Scene.remove.Goals as goal

pub invariant_of-self : goal.invariant_of-self
invariant_of-self c =
    held_removed c.self.invariant c.remove-entry.new.self c.free.new.self _ _ c.args.serial c.remove-entry.result.cell c.remove-entry.ensures.cell
    c.remove-entry.ensures.items c.remove-entry.ensures.cells c.remove-entry.ensures.count c.release.ensures.few c.release.ensures.capacity
    c.free.ensures.owner (c.free.ensures.dirty c.args.serial (has_owner c.self.invariant c.args.serial c.remove-entry.result.cell c.remove-entry.ensures.cell))
