use Rattle.std.proofs.Common.{◌∙◌, ap}
use Rattle.arena.specs.Arena.{Arena}
use Rattle.arena.proofs.Back.{left_held}
use Rattle.arena.proofs.arena.Arena.take_back_after.Goals as goal

pub invariant_of-self : goal.invariant_of-self
invariant_of-self g c =
    left_held c.self.inside.last c.args.last c.self.inside.slots.slots c.self.inside.keys.entries c.args.self.now.things c.self.invariant
    (ap (λ (a : Arena g.row.T.Denot). a.things) (c.self.view_is ∙ c.remove_after.ensures))
