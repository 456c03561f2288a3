use Rattle.std.proofs.Common.{◌≡◌, ◌<◌, ◌-◌, Some, length, set, refl, ap, sym, ◌∙◌, rules, arith}
use Rattle.std.specs.List.{slice_get}
use Rattle.std.specs.Vec.{with_items}
use Rattle.std.proofs.lemmas.Option.{slice_get_read}
use Rattle.std.proofs.lemmas.List.{with_items_is}
use Rattle.links.specs.Free.{bypassed}
use Rattle.links.specs.declared.slot.Slot.TheVariants.{Full, Free}
use Rattle.links.proofs.Freeing.{spare_some, free_some, value_at, length-values, HasRoom-fill, HasRoom-push, values-filled, values-pushed}
use Rattle.links.proofs.pool.Pool.add_at.Goals as goal

pub overflow_sub-self : goal.overflow_sub-self
overflow_sub-self g c =
    spare_some c.self.invariant c.args.number (rw (← c.self.view_is) at c.requires.within) (rw (← c.self.view_is) at c.requires.vacant) (rw (← c.self.view_is) at c.requires.room)

pub unreachable-requires : goal.unreachable-requires
unreachable-requires g c =
    let found = slice_get_read c.deref.result.now (length c.deref.result.now) c.args.number c.in-Some-Full.field-0.now refl c.in-Some-Full.ensures.lookup.3.0 c.in-Some-Full.ensures.lookup.1 in
    let full : slice_get c.self.inside.slots.items c.args.number ≡ Some (Full c.in-Some-Full.field-0-0) =
    ap (λ xs. slice_get xs c.args.number) (sym c.deref.ensures.value) ∙ (found ∙ ap Some c.in-Some-Full.field-0-is) in
    (rw (← c.self.view_is) at c.requires.vacant) c.in-Some-Full.field-0-0 (value_at c.self.inside.slots.items c.args.number (Full c.in-Some-Full.field-0-0) full)

pub overflow_sub-self-in-Some-Free : goal.overflow_sub-self-in-Some-Free
overflow_sub-self-in-Some-Free g c =
    let found = slice_get_read c.deref.result.now (length c.deref.result.now) c.args.number c.in-Some-Free.field-0.now refl c.in-Some-Free.ensures.lookup.3.0 c.in-Some-Free.ensures.lookup.1 in
    let free : slice_get c.self.inside.slots.items c.args.number ≡ Some (Free c.in-Some-Free.link) =
    ap (λ xs. slice_get xs c.args.number) (sym c.deref.ensures.value) ∙ (found ∙ ap Some c.in-Some-Free.field-0-is) in
    free_some c.self.invariant c.args.number (value_at c.self.inside.slots.items c.args.number (Free c.in-Some-Free.link) free)

pub invariant_of-self : goal.invariant_of-self
invariant_of-self g c =
    let found = slice_get_read c.deref.result.now (length c.deref.result.now) c.args.number c.in-Some-Free.field-0.now refl c.in-Some-Free.ensures.lookup.3.0 c.in-Some-Free.ensures.lookup.1 in
    let free : slice_get c.self.inside.slots.items c.args.number ≡ Some (Free c.in-Some-Free.link) =
    ap (λ xs. slice_get xs c.args.number) (sym c.deref.ensures.value) ∙ (found ∙ ap Some c.in-Some-Free.field-0-is) in
    let same : length c.bypass.new.slots ≡ length c.self.inside.slots.items = search rules in
    let written = with_items_is c.self.inside.slots c.bypass.new.slots (search rules) in
    let slots_are : (with_items c.self.inside.slots c.bypass.new.slots).items ≡ bypassed c.self.inside.slots.items c.in-Some-Free.link =
    written ∙ (c.bypass.ensures.slots ∙ ap (λ xs. bypassed xs c.in-Some-Free.link) c.deref_mut.ensures.value) in
    HasRoom-fill c.self.invariant c.args.number c.in-Some-Free.link c.args.value _ _ free (ap (λ xs. set xs c.args.number (Full c.args.value)) slots_are) c.bypass.ensures.first

pub invariant_of-self-in-None : goal.invariant_of-self-in-None
invariant_of-self-in-None g c =
    let room = rw (← c.self.view_is) at c.requires.room in
    let within = rw (← c.self.view_is) at c.requires.within in
    let more : c.self.inside.free < c.self.inside.spare = omega (arith, c.self.invariant.free_is, room, within, length-values c.self.inside.slots.items, c.in-None.ensures.lookup.3, c.deref.ensures.len) in
    rw c.push_reserved.ensures.capacity (HasRoom-push c.self.invariant c.args.value _ more c.push_reserved.ensures.items)

pub returns-in-Some-Free : goal.returns-in-Some-Free
returns-in-Some-Free g c =
    let found = slice_get_read c.deref.result.now (length c.deref.result.now) c.args.number c.in-Some-Free.field-0.now refl c.in-Some-Free.ensures.lookup.3.0 c.in-Some-Free.ensures.lookup.1 in
    let free : slice_get c.self.inside.slots.items c.args.number ≡ Some (Free c.in-Some-Free.link) =
    ap (λ xs. slice_get xs c.args.number) (sym c.deref.ensures.value) ∙ (found ∙ ap Some c.in-Some-Free.field-0-is) in
    let written = with_items_is c.self.inside.slots c.bypass.new.slots (search rules) in
    let slots_are : (with_items c.self.inside.slots c.bypass.new.slots).items ≡ bypassed c.self.inside.slots.items c.in-Some-Free.link =
    written ∙ (c.bypass.ensures.slots ∙ ap (λ xs. bypassed xs c.in-Some-Free.link) c.deref_mut.ensures.value) in
    rw (← c.self.view_is)
    (ap (λ slots. record { slots = slots; spare = c.self.inside.spare - 1 })
    (values-filled c.self.inside.slots.items _ c.args.number c.in-Some-Free.link c.args.value free (ap (λ xs. set xs c.args.number (Full c.args.value)) slots_are)))

pub returns-in-None : goal.returns-in-None
returns-in-None g c =
    let within = rw (← c.self.view_is) at c.requires.within in
    let end : c.args.number ≡ length c.self.inside.slots.items = omega (arith, within, length-values c.self.inside.slots.items, c.in-None.ensures.lookup.3, c.deref.ensures.len) in
    rw (← c.self.view_is)
    (ap (λ slots. record { slots = slots; spare = c.self.inside.spare - 1 })
    (values-pushed c.self.inside.slots.items _ c.args.number c.args.value end c.push_reserved.ensures.items))
