use Rattle.std.proofs.Common.{◌≡◌, ◌∙◌, None, Some, option_copied, ap, sym, subst}
use Rattle.std.specs.Ordering.{nat_cmp, is_lt}
use Rattle.arena.specs.Arena.{Arena, next_above}
use Rattle.arena.proofs.Slots.{none_above, one_above, lost_above}
use Rattle.arena.proofs.arena.Arena.next_after.Goals as goal

pub returns-in-Some-get : goal.returns-in-Some-get
returns-in-Some-get g c =
    let P : Arena g.row.T.Denot → Type 0 = λ a. Some (c.in-Some.found, c.in-Some-get.thing.now) ≡ next_above c.args.serial a in
    subst P c.self.view_is (sym (one_above (λ k. is_lt (nat_cmp c.args.serial k)) c.self.inside.slots.slots c.self.inside.keys.entries c.in-Some.found c.in-Some.key c.in-Some-get.thing.now
    (sym c.key_after.ensures ∙ c.in-Some.is) (sym c.get.ensures ∙ ap option_copied c.in-Some-get.is) c.self.invariant.each))

pub returns-in-None-get : goal.returns-in-None-get
returns-in-None-get g c =
    let P : Arena g.row.T.Denot → Type 0 = λ a. None ≡ next_above c.args.serial a in
    subst P c.self.view_is (sym (lost_above (λ k. is_lt (nat_cmp c.args.serial k)) c.self.inside.slots.slots c.self.inside.keys.entries c.in-Some.found c.in-Some.key
    (sym c.key_after.ensures ∙ c.in-Some.is) (sym c.get.ensures ∙ ap option_copied c.in-None-get.is) c.self.invariant.each))

pub returns-in-None : goal.returns-in-None
returns-in-None g c =
    let P : Arena g.row.T.Denot → Type 0 = λ a. None ≡ next_above c.args.serial a in
    subst P c.self.view_is (sym (none_above (λ k. is_lt (nat_cmp c.args.serial k)) c.self.inside.slots.slots c.self.inside.keys.entries (sym c.key_after.ensures ∙ c.in-None.is) c.self.invariant.each))
