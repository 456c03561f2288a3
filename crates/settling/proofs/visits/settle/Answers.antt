use Rattle.std.proofs.Common.{rules, ◌≡◌, ◌∙◌, length, map, refl, ap, arith}
use Rattle.settling.specs.Loops.{shown}
use Rattle.settling.proofs.Rounds.{first_round, round_on, round_stands, last_round}
use Rattle.settling.proofs.Paid.{none_paid, paid_visit, paid_work}
use Rattle.std.proofs.lemmas.List.Sorted.{IsPermutation-map, answers_always}
use Rattle.settling.proofs.Permuted.{has_loop_permuted, chains_permuted, once_permuted}
use Rattle.settling.proofs.visits.settle.Goals as goal

pub loop-index-init : goal.loop-index-init
loop-index-init g c = record {
  round = first_round g.F.Field.space (g.F.Field.tree c.args.field.now) (g.F.Field.places c.args.field.now) (g.F.Field.state c.args.field.now) c.new-stack.result.items
      (map shown c.new-loops.result.items) c.requires.ready c.requires.covers c.new-stack.ensures.items (ap (map shown) c.new-loops.ensures.items);
  paid = none_paid g.F.Field.space (g.F.Field.tree c.args.field.now) (g.F.Field.places c.args.field.now) (g.F.Field.state c.args.field.now) (g.F.Field.evaluations c.args.field.now);
  tree = refl;
  places = refl;
  loans = refl;
  count = c.count-count.ensures;
}

pub visit-requires-clause-stands : goal.visit-requires-clause-stands
visit-requires-clause-stands g c =
    round_stands g.F.Field.space (g.F.Field.tree c.args.field.now) (g.F.Field.places c.args.field.now) (g.F.Field.tree c.loop-index.field) (g.F.Field.state c.args.field.now)
    c.loop-index.index c.loop-index.stack.items (g.F.Field.state c.loop-index.field) (map shown c.loop-index.loops.items) c.loop-index.invariant.tree
    c.loop-index.invariant.round

pub loop-index-preserved : goal.loop-index-preserved
loop-index-preserved g c = record {
  round = round_on g.F.Field.space (g.F.Field.tree c.args.field.now) (g.F.Field.places c.args.field.now) (g.F.Field.tree c.loop-index.field) (g.F.Field.state c.args.field.now)
      c.loop-index.index c.place-place.result c.loop-index.stack.items c.visit.new.stack.items (g.F.Field.state c.loop-index.field) (g.F.Field.state c.visit.new.field)
      (map shown c.loop-index.loops.items) (map shown c.visit.new.loops.items) (g.F.Field.places c.loop-index.field) c.loop-index.invariant.tree c.loop-index.invariant.places
      c.place-place.ensures c.loop-index.invariant.round c.in_ok-visit.ensures.visited c.in_ok-visit.ensures.stands c.in_ok-visit.ensures.empty;
  paid = paid_visit g.F.Field.space (g.F.Field.tree c.args.field.now) (g.F.Field.places c.args.field.now) (g.F.Field.tree c.loop-index.field) (g.F.Field.places c.loop-index.field)
      (g.F.Field.state c.args.field.now) c.place-place.result (g.F.Field.state c.loop-index.field) (g.F.Field.state c.visit.new.field) (g.F.Field.evaluations c.args.field.now)
      (g.F.Field.evaluations c.loop-index.field) (g.F.Field.evaluations c.visit.new.field) c.loop-index.invariant.tree c.loop-index.invariant.places
      c.in_ok-visit.ensures.visited c.in_ok-visit.ensures.paid c.loop-index.invariant.paid;
  tree = c.visit.ensures.tree ∙ c.loop-index.invariant.tree;
  places = c.visit.ensures.places ∙ c.loop-index.invariant.places;
  loans = c.visit.ensures.loans ∙ c.loop-index.invariant.loans;
  count = c.loop-index.invariant.count;
}

pub returns-clause-settled : goal.returns-clause-settled
returns-clause-settled g c =
    let all : c.loop-index.index ≡ length (g.F.Field.places c.args.field.now) = omega arith in
    (last_round g.F.Field.space (g.F.Field.tree c.args.field.now) (g.F.Field.places c.args.field.now) (g.F.Field.state c.args.field.now) c.loop-index.index
    c.loop-index.stack.items (g.F.Field.state c.loop-index.field) (map shown c.loop-index.loops.items) c.requires.ready c.requires.covers all c.loop-index.invariant.round).state

pub returns-clause-holds : goal.returns-clause-holds
returns-clause-holds g c =
    let all : c.loop-index.index ≡ length (g.F.Field.places c.args.field.now) = omega arith in
    (last_round g.F.Field.space (g.F.Field.tree c.args.field.now) (g.F.Field.places c.args.field.now) (g.F.Field.state c.args.field.now) c.loop-index.index
    c.loop-index.stack.items (g.F.Field.state c.loop-index.field) (map shown c.loop-index.loops.items) c.requires.ready c.requires.covers all c.loop-index.invariant.round).holds

pub returns-clause-chains : goal.returns-clause-chains
returns-clause-chains g c =
    let all : c.loop-index.index ≡ length (g.F.Field.places c.args.field.now) = omega arith in
    chains_permuted g.F.Field.space (g.F.Field.tree c.args.field.now) (g.F.Field.state c.loop-index.field) (map shown c.loop-index.loops.items) (map shown c.sort_by_key.new.self.items)
    (IsPermutation-map shown c.loop-index.loops.items c.sort_by_key.new.self.items c.sort_by_key.ensures.permutation)
    (last_round g.F.Field.space (g.F.Field.tree c.args.field.now) (g.F.Field.places c.args.field.now) (g.F.Field.state c.args.field.now) c.loop-index.index
    c.loop-index.stack.items (g.F.Field.state c.loop-index.field) (map shown c.loop-index.loops.items) c.requires.ready c.requires.covers all c.loop-index.invariant.round).chains

pub returns-clause-loops : goal.returns-clause-loops
returns-clause-loops g c =
    let all : c.loop-index.index ≡ length (g.F.Field.places c.args.field.now) = omega arith in
    λ p.
    (last_round g.F.Field.space (g.F.Field.tree c.args.field.now) (g.F.Field.places c.args.field.now) (g.F.Field.state c.args.field.now) c.loop-index.index
    c.loop-index.stack.items (g.F.Field.state c.loop-index.field) (map shown c.loop-index.loops.items) c.requires.ready c.requires.covers all c.loop-index.invariant.round).places_of p
    ∙ has_loop_permuted g.F.Field.space (g.F.Field.tree c.args.field.now) (map shown c.loop-index.loops.items) (map shown c.sort_by_key.new.self.items) p
    (IsPermutation-map shown c.loop-index.loops.items c.sort_by_key.new.self.items c.sort_by_key.ensures.permutation)

pub returns-clause-once : goal.returns-clause-once
returns-clause-once g c =
    let all : c.loop-index.index ≡ length (g.F.Field.places c.args.field.now) = omega arith in
    once_permuted g.F.Field.space (g.F.Field.tree c.args.field.now) (map shown c.loop-index.loops.items) (map shown c.sort_by_key.new.self.items)
    (IsPermutation-map shown c.loop-index.loops.items c.sort_by_key.new.self.items c.sort_by_key.ensures.permutation)
    (last_round g.F.Field.space (g.F.Field.tree c.args.field.now) (g.F.Field.places c.args.field.now) (g.F.Field.state c.args.field.now) c.loop-index.index
    c.loop-index.stack.items (g.F.Field.state c.loop-index.field) (map shown c.loop-index.loops.items) c.requires.ready c.requires.covers all c.loop-index.invariant.round).once

pub returns-clause-few : goal.returns-clause-few
returns-clause-few g c =
    paid_work g.F.Field.space (g.F.Field.tree c.args.field.now) (g.F.Field.places c.args.field.now) (g.F.Field.state c.args.field.now) (g.F.Field.state c.loop-index.field)
    (g.F.Field.evaluations c.args.field.now) (g.F.Field.evaluations c.loop-index.field) c.requires.ready c.loop-index.invariant.paid

pub returns-clause-ordered : goal.returns-clause-ordered
returns-clause-ordered g c = c.in_ok-sort_by_key.ensures.sorted (λ found. found.place) (answers_always _ _ _ (λ f a r f' k. search rules))
