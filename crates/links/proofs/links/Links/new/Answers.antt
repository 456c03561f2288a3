use Rattle.links.proofs.Calls.{Represents-nil, lists_from-nil}
use Rattle.links.proofs.links.Links.new.Goals as goal

pub invariant_of-result : goal.invariant_of-result
invariant_of-result c = rw (c.new.ensures.slots, c.new-2.ensures.slots) Represents-nil

pub returns : goal.returns
returns c = rw (c.new.ensures.slots, c.new-2.ensures.slots, c.new.ensures.spare, c.new-2.ensures.spare, lists_from-nil)
