use Rattle.std.proofs.Common.{◌≡◌, ◌+◌, ◌∙◌, List, [], ◌∷◌, ◌++◌, Option, ap, sym, subst}
use Rattle.arena.specs.Arena.{Arena, with_next}
use Rattle.arena.specs.Slots.{slot_at, things, IsHeld}
use Rattle.arena.proofs.Slots.{arena, inserted_held, inserted_things}
use Rattle.arena.proofs.arena.Arena.insert.Goals as goal

pub invariant_of-self-2 : goal.invariant_of-self-2
invariant_of-self-2 g c =
    let same = ap (λ s. s.slots) c.reserve.ensures.rest_kept in
    let P : List (Option g.row.T.Denot) → Type 0 = λ s. IsHeld c.self.inside.last s c.self.inside.keys.entries in
    let key = c.insert_reserved.ensures.key ∙ sym c.vacant_key-key.ensures.value in
    inserted_held _ c.reserve.new.self.slots _ _ _ c.vacant_key-key.result c.args.thing c.in_ok-insert.ensures.entries c.vacant_key-key.ensures.vacant
    (ap (slot_at c.insert_reserved.new.self.slots) (sym key) ∙ c.insert_reserved.ensures.updates.changed)
    (λ other differs. c.insert_reserved.ensures.updates.others other (λ is. differs (is ∙ key)))
    (subst P (sym same) c.self.invariant)

pub returns-clause-ok : goal.returns-clause-ok
returns-clause-ok g c =
    let same = ap (λ s. s.slots) c.reserve.ensures.rest_kept in
    let P : List (Option g.row.T.Denot) → Type 0 = λ s. IsHeld c.self.inside.last s c.self.inside.keys.entries in
    let key = c.insert_reserved.ensures.key ∙ sym c.vacant_key-key.ensures.value in
    let Q : Arena g.row.T.Denot → Type 0 = λ a. arena (c.self.inside.last + 1) (things c.insert_reserved.new.self.slots c.insert.new.self.entries) ≡ with_next a c.args.thing in
    subst Q c.self.view_is
    (ap (arena (c.self.inside.last + 1))
    (inserted_things _ c.reserve.new.self.slots _ _ _ c.vacant_key-key.result c.args.thing c.in_ok-insert.ensures.entries c.vacant_key-key.ensures.vacant
    (ap (slot_at c.insert_reserved.new.self.slots) (sym key) ∙ c.insert_reserved.ensures.updates.changed)
    (λ other differs. c.insert_reserved.ensures.updates.others other (λ is. differs (is ∙ key)))
    (subst P (sym same) c.self.invariant)
    ∙ ap (λ s. things s c.self.inside.keys.entries ++ ((c.self.inside.last + 1, c.args.thing) ∷ [])) same))
