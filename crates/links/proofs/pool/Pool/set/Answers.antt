use Rattle.std.proofs.Common.{ap}
use Rattle.std.proofs.lemmas.Option.{slice_get_within}
use Rattle.links.specs.declared.slot.Slot.TheVariants.{Full}
use Rattle.links.proofs.Freeing.{occupied_slot, number_small, values-set, HasRoom-set}
use Rattle.links.proofs.pool.Pool.set.Goals as goal

pub invariant_of-self : goal.invariant_of-self
invariant_of-self g c =
    let found = occupied_slot c.self.inside.slots.items c.args.number (rw (← c.self.view_is) at c.requires) in
    HasRoom-set c.self.invariant c.args.number found.0 c.args.value found.1

pub returns-clause-after : goal.returns-clause-after
returns-clause-after g c =
    rw (← c.self.view_is)
    (ap (λ slots. record { slots = slots; spare = c.self.inside.spare }) (values-set c.self.inside.slots.items c.args.number (Full c.args.value)))

pub returns-clause-small : goal.returns-clause-small
returns-clause-small g c =
    let found = occupied_slot c.self.inside.slots.items c.args.number (rw (← c.self.view_is) at c.requires) in
    number_small c.self.invariant c.args.number (slice_get_within c.self.inside.slots.items c.args.number (Full found.0) found.1)
