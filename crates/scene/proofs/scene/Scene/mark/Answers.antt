use Rattle.std.proofs.Common.{refl}
use Rattle.scene.proofs.Held.{held_marked, has_owner}
use Rattle.scene.proofs.scene.Scene.mark.Goals as goal

pub invariant_of-self : goal.invariant_of-self
invariant_of-self c =
    held_marked c.self.invariant c.mark.new.self c.args.serial (c.in-Some.ensures.item.0 refl)
    (c.mark.ensures c.args.serial (has_owner c.self.invariant c.args.serial c.in-Some.cell c.in-Some.ensures.cell))
