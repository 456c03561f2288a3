use Rattle.std.proofs.Common.{sym, subst, arith}
use Rattle.links.specs.Chains.{Chains}
use Rattle.sg_nodes.specs.Stored.{IsStored}
use Rattle.sg_nodes.proofs.Keeping.{grown, lost}
use Rattle.sg_nodes.proofs.nodes.Nodes.reserve.Goals as goal

after_loss : (c : goal.After-from_residual-in_err-extend) → IsStored c.reserve.new.self c.extend.new.links c.self.inside.root 0 c.self.inside.count
after_loss c =
    subst (λ (l : Chains). IsStored c.reserve.new.self l c.self.inside.root 0 c.self.inside.count) (sym c.in_err-extend.ensures.err)
    (lost c.self.invariant c.reserve.new.self c.reserve.ensures.rest_kept c.reserve.ensures.capacity).1

pub invariant_of-self-in_err-extend : goal.invariant_of-self-in_err-extend
invariant_of-self-in_err-extend c = after_loss c

pub returns-in_err-extend-clause-forest : goal.returns-in_err-extend-clause-forest
returns-in_err-extend-clause-forest c = (after_loss c).forest

after : (c : goal.After-self-3-1) → IsStored c.reserve.new.self c.extend.new.links c.self.inside.root c.args.n c.max-count.result
after c =
    (grown c.self.invariant c.reserve.new.self c.extend.new.links c.args.n c.max-count.result c.reserve.ensures.rest_kept c.in_ok-reserve.ensures.room
    (omega arith) (omega arith) c.in_ok-extend.ensures.full c.in_ok-extend.ensures.lists c.in_ok-extend.ensures.disjoint).1

pub invariant_of-self-2 : goal.invariant_of-self-2
invariant_of-self-2 c = after c

pub returns-clause-forest : goal.returns-clause-forest
returns-clause-forest c = (after c).forest
