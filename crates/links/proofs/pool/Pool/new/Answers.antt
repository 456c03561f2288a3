use Rattle.links.proofs.Freeing.{HasRoom-nil}
use Rattle.links.proofs.pool.Pool.new.Goals as goal

pub invariant_of-result : goal.invariant_of-result
invariant_of-result g c = rw c.new.ensures.items (HasRoom-nil _ _ c.new-2.ensures)
