use Rattle.std.proofs.Common.{◌≡◌, ◌∙◌, Some, IsSome, ap, sym, subst, refl}
use Rattle.std.specs.Prelude.{slice_set}
use Rattle.arena.specs.Arena.{Arena, thing_at, with_thing}
use Rattle.arena.specs.Slots.{things}
use Rattle.arena.proofs.Slots.{arena, has_key, has_slot, got, set_held, set_same, set_only, written}
use Rattle.arena.proofs.arena.Arena.present_mut.Goals as goal

pub index-key-requires : goal.index-key-requires
index-key-requires g c =
    let P : Arena g.row.T.Denot → Type 0 = λ a. IsSome (thing_at c.args.serial a) in
    has_key _ c.self.inside.slots.slots _ c.self.invariant.each (subst P (sym c.self.view_is) c.requires)

pub index_mut-requires : goal.index_mut-requires
index_mut-requires g c =
    let P : Arena g.row.T.Denot → Type 0 = λ a. IsSome (thing_at c.args.serial a) in
    has_slot _ _ _ _ c.self.invariant.each (subst P (sym c.self.view_is) c.requires) c.index-key.ensures

pub invariant_of-self-lent : goal.invariant_of-self-lent
invariant_of-self-lent g c w = set_held _ _ _ _ w c.self.invariant

pub returns : goal.returns
returns g c =
    let P : Arena g.row.T.Denot → Type 0 = λ a. IsSome (thing_at c.args.serial a) in
    let some = has_slot _ _ _ _ c.self.invariant.each (subst P (sym c.self.view_is) c.requires) c.index-key.ensures in
    let Q : Arena g.row.T.Denot → Type 0 = λ a. thing_at c.args.serial a ≡ Some c.index_mut.result.now in (
      (
        refl,
        λ w.
            let W : Arena g.row.T.Denot → Type 0 = λ a. arena c.self.inside.last (things (slice_set c.self.inside.slots.slots c.index-key.result.now (Some w)) c.self.inside.keys.entries) ≡ with_thing c.args.serial a w in
            subst W c.self.view_is (ap (arena c.self.inside.last)
            (written _ c.self.inside.slots.slots _ _ _ w c.index-key.ensures (set_same c.self.inside.slots.slots c.index-key.result.now w some) (set_only c.self.inside.slots.slots c.index-key.result.now (Some w)) c.self.invariant.each)),
      ),
      record { writes_back = tt; value = subst Q c.self.view_is (got _ _ _ _ c.index-key.ensures c.self.invariant.each ∙ c.index_mut.ensures.value) },
    )
