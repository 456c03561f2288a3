use Rattle.std.proofs.Common.{◌≡◌, ◌∙◌, false, map, rules}
use Rattle.settling.specs.Cells.{is_fresh}
use Rattle.settling.specs.Phases.{phase_of}
use Rattle.settling.specs.Loops.{shown}
use Rattle.settling.specs.declared.field.Phase.TheVariants.{Fresh}
use Rattle.settling.proofs.Going.{going_enters, going_turn, ended_visited}
use Rattle.settling.proofs.Paid.{first_paid, paid_turn}
use Rattle.settling.proofs.visits.visit.Goals as goal

pub returns-then-ne-clause-visited : goal.returns-then-ne-clause-visited
returns-then-ne-clause-visited g c =
    let ended : is_fresh (g.F.Field.space.at (g.F.Field.state c.args.field.now) c.args.place) ≡ false = search rules in
    ended_visited g.F.Field.space (g.F.Field.tree c.args.field.now) (g.F.Field.places c.args.field.now) c.args.place (g.F.Field.state c.args.field.now)
    (map shown c.args.loops.now.items) c.requires.stands ended

pub loop-top-init : goal.loop-top-init
loop-top-init g c =
    let fresh : phase_of (g.F.Field.space.at (g.F.Field.state c.args.field.now) c.args.place) ≡ Fresh = search rules in
    record {
      going = going_enters g.F.Field.space (g.F.Field.tree c.args.field.now) (g.F.Field.places c.args.field.now) c.args.place (g.F.Field.state c.args.field.now)
          (g.F.Field.state c.enter.new.field) (map shown c.args.loops.now.items) c.args.stack.now.items c.enter.new.stack.items c.requires.stands c.requires.within fresh
          c.in_ok-enter.ensures.state c.requires.empty c.in_ok-enter.ensures.stack;
      paid = first_paid g.F.Field.space (g.F.Field.tree c.args.field.now) (g.F.Field.places c.args.field.now) c.args.place (g.F.Field.state c.args.field.now)
          (g.F.Field.state c.enter.new.field) c.enter.new.stack.items (g.F.Field.evaluations c.args.field.now) (g.F.Field.evaluations c.enter.new.field) fresh
          c.in_ok-enter.ensures.state c.enter.ensures.evaluations;
      tree = c.enter.ensures.tree;
      places = c.enter.ensures.places;
      loans = c.enter.ensures.loans;
    }

pub loop-top-smaller : goal.loop-top-smaller
loop-top-smaller g c =
    (going_turn g.F.Field.space (g.F.Field.tree c.args.field.now) (g.F.Field.places c.args.field.now) (g.F.Field.tree c.loop-top.field) (g.F.Field.state c.args.field.now)
    c.args.place c.in-Some.top c.loop-top.stack.items c.pop.new.self.items (g.F.Field.state c.loop-top.field) (map shown c.loop-top.loops.items) c.turn.new.stack.items
    (g.F.Field.state c.turn.new.field) (map shown c.turn.new.loops.items) c.loop-top.invariant.tree c.in-Some.ensures.items c.loop-top.invariant.going
    c.in_ok-turn.ensures.turns).1

pub loop-top-preserved : goal.loop-top-preserved
loop-top-preserved g c = record {
  going = (going_turn g.F.Field.space (g.F.Field.tree c.args.field.now) (g.F.Field.places c.args.field.now) (g.F.Field.tree c.loop-top.field) (g.F.Field.state c.args.field.now)
      c.args.place c.in-Some.top c.loop-top.stack.items c.pop.new.self.items (g.F.Field.state c.loop-top.field) (map shown c.loop-top.loops.items) c.turn.new.stack.items
      (g.F.Field.state c.turn.new.field) (map shown c.turn.new.loops.items) c.loop-top.invariant.tree c.in-Some.ensures.items c.loop-top.invariant.going
      c.in_ok-turn.ensures.turns).0;
  paid = paid_turn g.F.Field.space (g.F.Field.tree c.args.field.now) (g.F.Field.places c.args.field.now) (g.F.Field.tree c.loop-top.field) (g.F.Field.state c.args.field.now)
      c.args.place c.in-Some.top c.loop-top.stack.items c.pop.new.self.items (g.F.Field.state c.loop-top.field) (map shown c.loop-top.loops.items) c.turn.new.stack.items
      (g.F.Field.state c.turn.new.field) (map shown c.turn.new.loops.items) (g.F.Field.evaluations c.args.field.now) (g.F.Field.evaluations c.loop-top.field)
      (g.F.Field.evaluations c.turn.new.field) c.loop-top.invariant.tree c.in-Some.ensures.items c.loop-top.invariant.going c.in_ok-turn.ensures.turns
      c.in_ok-turn.ensures.spends c.loop-top.invariant.paid;
  tree = c.turn.ensures.tree ∙ c.loop-top.invariant.tree;
  places = c.turn.ensures.places ∙ c.loop-top.invariant.places;
  loans = c.turn.ensures.loans ∙ c.loop-top.invariant.loans;
}
