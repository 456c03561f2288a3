use Rattle.std.proofs.Common.{◌≡◌, ◌∙◌, None, ap, sym, subst}
use Rattle.arena.specs.Arena.{Arena, thing_at, without}
use Rattle.arena.specs.Slots.{things}
use Rattle.arena.proofs.Slots.{arena, got, got_none, removed_held, removed_things, unremoved_things}
use Rattle.arena.proofs.arena.Arena.remove.Goals as goal

pub invariant_of-self : goal.invariant_of-self
invariant_of-self g c =
    removed_held _ _ _ _ _ _ c.in-Some.key (sym c.remove.ensures.value ∙ c.in-Some.is) c.remove.ensures.entries c.try_remove.ensures.updates.others c.self.invariant

pub returns-in-Some-clause-value : goal.returns-in-Some-clause-value
returns-in-Some-clause-value g c =
    let P : Arena g.row.T.Denot → Type 0 = λ a. c.try_remove.result ≡ thing_at c.args.serial a in
    subst P c.self.view_is (c.try_remove.ensures.value ∙ sym (got _ _ _ c.in-Some.key (sym c.remove.ensures.value ∙ c.in-Some.is) c.self.invariant.each))

pub returns-in-Some-clause-rest : goal.returns-in-Some-clause-rest
returns-in-Some-clause-rest g c =
    let P : Arena g.row.T.Denot → Type 0 = λ a. arena c.self.inside.last (things c.try_remove.new.self.slots c.remove.new.self.entries) ≡ without c.args.serial a in
    subst P c.self.view_is (ap (arena c.self.inside.last)
    (removed_things _ _ _ _ _ c.in-Some.key (sym c.remove.ensures.value ∙ c.in-Some.is) c.remove.ensures.entries c.try_remove.ensures.updates.others c.self.invariant.each))

pub returns-in-None-clause-value : goal.returns-in-None-clause-value
returns-in-None-clause-value g c =
    let P : Arena g.row.T.Denot → Type 0 = λ a. None ≡ thing_at c.args.serial a in
    subst P c.self.view_is (sym (got_none _ c.self.inside.slots.slots _ (sym c.remove.ensures.value ∙ c.in-None.is) c.self.invariant.each))

pub returns-in-None-clause-rest : goal.returns-in-None-clause-rest
returns-in-None-clause-rest g c =
    let P : Arena g.row.T.Denot → Type 0 = λ a. arena c.self.inside.last (things c.self.inside.slots.slots c.remove.new.self.entries) ≡ without c.args.serial a in
    subst P c.self.view_is (ap (arena c.self.inside.last)
    (unremoved_things _ _ _ _ (sym c.remove.ensures.value ∙ c.in-None.is) c.in-None.ensures.unchanged c.self.invariant.each))
