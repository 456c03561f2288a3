use Rattle.std.proofs.Common.{◌≡◌, Some, None, sym, ◌∙◌, arith}
use Rattle.std.specs.List.{slice_get}
use Rattle.std.proofs.lemmas.Option.{slice_get_past}
use Rattle.links.specs.Packed.{number_of}
use Rattle.links.specs.Free.{values_of}
use Rattle.links.proofs.Freeing.{first_free, next_within, none_empty, length-values}
use Rattle.links.proofs.pool.Pool.next_number.Goals as goal

pub returns-in-Some-clause-within : goal.returns-in-Some-clause-within
returns-in-Some-clause-within g c =
    let is : number_of c.self.inside.first_free ≡ Some c.in-Some.number = sym c.get.ensures.value ∙ c.in-Some.is in
    let within = next_within c.self.invariant c.in-Some.number is in
    rw (← c.self.view_is) (omega arith)

pub returns-in-Some-clause-vacant : goal.returns-in-Some-clause-vacant
returns-in-Some-clause-vacant g c =
    let is : number_of c.self.inside.first_free ≡ Some c.in-Some.number = sym c.get.ensures.value ∙ c.in-Some.is in
    let free = first_free c.self.invariant c.in-Some.number is in
    rw (← c.self.view_is) (λ other e. (cc))

pub returns-in-Some-clause-room : goal.returns-in-Some-clause-room
returns-in-Some-clause-room g c =
    let is : number_of c.self.inside.first_free ≡ Some c.in-Some.number = sym c.get.ensures.value ∙ c.in-Some.is in
    let within = next_within c.self.invariant c.in-Some.number is in
    rw (← c.self.view_is) (λ end. absurd (omega arith))

pub returns-in-Some-clause-new_number : goal.returns-in-Some-clause-new_number
returns-in-Some-clause-new_number g c =
    let is : number_of c.self.inside.first_free ≡ Some c.in-Some.number = sym c.get.ensures.value ∙ c.in-Some.is in
    let free = first_free c.self.invariant c.in-Some.number is in
    rw (← c.self.view_is) (λ full. absurd (full c.in-Some.number free))

pub returns-in-None-clause-within : goal.returns-in-None-clause-within
returns-in-None-clause-within g c = rw (← c.self.view_is) (omega (arith, length-values c.self.inside.slots.items))

pub returns-in-None-clause-vacant : goal.returns-in-None-clause-vacant
returns-in-None-clause-vacant g c =
    let past : slice_get (values_of c.self.inside.slots.items) c.len.result ≡ None = slice_get_past (values_of c.self.inside.slots.items) c.len.result (omega (arith, length-values c.self.inside.slots.items)) in
    rw (← c.self.view_is) (λ other e. (cc))

pub returns-in-None-clause-room : goal.returns-in-None-clause-room
returns-in-None-clause-room g c =
    let is : number_of c.self.inside.first_free ≡ None = sym c.get.ensures.value ∙ c.in-None.is in
    let none = none_empty c.self.invariant is in
    let some = rw (← c.self.view_is) at c.requires in
    rw (← c.self.view_is) (λ end. omega (arith, none, some))

pub returns-in-None-clause-new_number : goal.returns-in-None-clause-new_number
returns-in-None-clause-new_number g c = rw (← c.self.view_is) (λ full. omega (arith, length-values c.self.inside.slots.items))
