use Rattle.std.proofs.Common.{sym, subst}
use Rattle.std.proofs.lemmas.Option.{none-some}
use Rattle.sg_nodes.specs.Forest.{IsChild}
use Rattle.sg_nodes.specs.Stored.{StoredNodes, forest_of}
use Rattle.sg_nodes.proofs.nodes.Nodes.next_sibling.Goals as goal

pub returns-clause-no_parent : goal.returns-clause-no_parent
returns-clause-no_parent c alone =
    absurd (none-some c.in_ok-slot.slot (sym (c.in_ok-slot.ensures.loose (λ list place stands.
    subst (λ (s : StoredNodes). ¬ IsChild (forest_of s) list c.args.key.slot) (sym c.self.view_is) (alone list) (place, stands)))))
