use Rattle.std.proofs.Common.{◌+◌, refl, ap, ◌∙◌, rules, arith}
use Rattle.std.specs.Vec.{with_item}
use Rattle.std.proofs.lemmas.List.{with_items_is}
use Rattle.links.specs.Packed.{number_of}
use Rattle.links.specs.Free.{before_next}
use Rattle.links.specs.declared.slot.FreeLink.{FreeLink}
use Rattle.links.specs.declared.slot.Slot.TheVariants.{Free}
use Rattle.links.proofs.Freeing.{occupied_slot, free_fits, slots_small, HasRoom-free, values-freed}
use Rattle.links.proofs.pool.Pool.remove.Goals as goal

pub overflow_add-self : goal.overflow_add-self
overflow_add-self g c = omega (arith, free_fits c.self.invariant, slots_small c.self.invariant)

pub overflow_add-self-2 : goal.overflow_add-self-2
overflow_add-self-2 g c = omega (arith, free_fits c.self.invariant, c.self.invariant.small)

pub invariant_of-self : goal.invariant_of-self
invariant_of-self g c =
    let found = occupied_slot c.self.inside.slots.items c.args.number (rw (← c.self.view_is) at c.requires) in
    let link : FreeLink = record { previous = c.new-previous.result; next = c.self.inside.first_free } in
    let emptied = with_item c.self.inside.slots c.args.number (Free link) in
    let written = with_items_is emptied c.precede.new.slots (search rules) in
    HasRoom-free c.self.invariant c.args.number found.0 link _ c.new-own.result found.1 c.new-previous.ensures refl c.new-own.ensures
    (written ∙ (c.precede.ensures ∙ ap (λ xs. before_next xs (number_of c.self.inside.first_free) c.new-own.result) c.deref_mut.ensures.value))

pub returns : goal.returns
returns g c =
    let link : FreeLink = record { previous = c.new-previous.result; next = c.self.inside.first_free } in
    let emptied = with_item c.self.inside.slots c.args.number (Free link) in
    let written = with_items_is emptied c.precede.new.slots (search rules) in
    rw (← c.self.view_is)
    (ap (λ slots. record { slots = slots; spare = c.self.inside.spare + 1 })
    (values-freed c.self.inside.slots.items _ c.args.number link (number_of c.self.inside.first_free) c.new-own.result
    (written ∙ (c.precede.ensures ∙ ap (λ xs. before_next xs (number_of c.self.inside.first_free) c.new-own.result) c.deref_mut.ensures.value))))
