use Rattle.std.proofs.Common.{◌≡◌, ◌∙◌, ◌<◌, ℕ, length, Some, None, ap, sym, subst}
use Rattle.std.specs.Option.{option_map}
use Rattle.arena.specs.Arena.{Arena, without, without_later, next_above}
use Rattle.arena.proofs.Back.{taken, fewer, found_above, all_left}
use Rattle.arena.proofs.Slots.{arena}
use Rattle.arena.proofs.arena.Arena.remove_after.Goals as goal

module _ {T : Type 0} where
  -- the value behind the serial goes
  turn : (last serial : ℕ) (thing : T) (old new first : Arena T) → next_above last old ≡ Some (serial, thing) → new ≡ without serial old → without_later last old ≡ without_later last first →
      without_later last new ≡ without_later last first
  turn last serial thing old new first found gone same =
      ap (without_later last) gone ∙ ap (arena old.last) (taken last serial old.things (found_above last old.things (serial, thing) found)) ∙ same

  smaller : (last serial : ℕ) (thing : T) (old new : Arena T) → next_above last old ≡ Some (serial, thing) → new ≡ without serial old → length new.things < length old.things
  smaller last serial thing old new found gone =
      let P : Arena T → Type 0 = λ a. length a.things < length old.things in
      subst P (sym gone) (fewer last old.things (serial, thing) found)

pub loop-serial-smaller-in-Some : goal.loop-serial-smaller-in-Some
loop-serial-smaller-in-Some g c =
    smaller c.args.last c.in-Some.serial _ c.loop-serial.self c.remove.new.self
    (sym c.next_after.ensures ∙ ap (option_map (λ found. (found.0, found.1.now))) c.in-Some.is) c.remove.ensures.rest

pub loop-serial-preserved-in-Some : goal.loop-serial-preserved-in-Some
loop-serial-preserved-in-Some g c =
    turn c.args.last c.in-Some.serial _ c.loop-serial.self c.remove.new.self c.args.self.now
    (sym c.next_after.ensures ∙ ap (option_map (λ found. (found.0, found.1.now))) c.in-Some.is) c.remove.ensures.rest c.loop-serial.invariant

pub loop-serial-smaller : goal.loop-serial-smaller
loop-serial-smaller g c =
    smaller c.args.last c.in-Some.serial _ c.loop-serial.self c.remove.new.self
    (sym c.next_after.ensures ∙ ap (option_map (λ found. (found.0, found.1.now))) c.in-Some.is) c.remove.ensures.rest

pub loop-serial-preserved : goal.loop-serial-preserved
loop-serial-preserved g c =
    turn c.args.last c.in-Some.serial _ c.loop-serial.self c.remove.new.self c.args.self.now
    (sym c.next_after.ensures ∙ ap (option_map (λ found. (found.0, found.1.now))) c.in-Some.is) c.remove.ensures.rest c.loop-serial.invariant

pub returns : goal.returns
returns g c =
    let self = c.loop-serial.self in
    let none : next_above c.args.last self ≡ None = sym c.next_after.ensures ∙ ap (option_map (λ found. (found.0, found.1.now))) c.in_default.is in
    ap (arena self.last) (sym (all_left c.args.last self.things none)) ∙ c.loop-serial.invariant
