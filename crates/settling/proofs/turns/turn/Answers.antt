use Rattle.std.proofs.Common.{◌≡◌, rules}
use Rattle.settling.specs.Phases.{phase_of}
use Rattle.settling.specs.declared.field.Phase.TheVariants.{UnderWay, Stopped}
use Rattle.settling.proofs.Calls.{on_ok, needed_unclean, gives_up_at, ends_at, needs_at}
use Rattle.settling.proofs.turns.turn.Goals as goal

pub returns-then-eq-clause-turns : goal.returns-then-eq-clause-turns
returns-then-eq-clause-turns g c =
    let stopped : phase_of (g.F.Field.space.at (g.F.Field.state c.args.field.now) c.args.top) ≡ Stopped = search rules in
    gives_up_at g.F.Field.space (g.F.Field.tree c.args.field.now) stopped c.suspend.ensures.state

pub meet-requires : goal.meet-requires
meet-requires g c =
    needed_unclean g.F.Field.space c.args.top (g.F.Field.tree c.args.field.now c.args.top) (g.F.Field.state c.args.field.now) c.in_ok-needed.ensures.ok c.in-Some.is

pub returns-in_ok-push-in-Some-clause-turns : goal.returns-in_ok-push-in-Some-clause-turns
returns-in_ok-push-in-Some-clause-turns g c =
    let under : phase_of (g.F.Field.space.at (g.F.Field.state c.args.field.now) c.args.top) ≡ UnderWay = search rules in
    on_ok c.meet.result
    (λ meets again. needs_at g.F.Field.space (g.F.Field.tree c.args.field.now) {above = c.push.new.self.items} under c.in_ok-needed.ensures.ok c.in-Some.is c.in_ok-push-in-Some.ensures.items meets)
    c.meet.ensures.meets c.meet.ensures.meets

pub returns-in-None-clause-turns : goal.returns-in-None-clause-turns
returns-in-None-clause-turns g c =
    let under : phase_of (g.F.Field.space.at (g.F.Field.state c.args.field.now) c.args.top) ≡ UnderWay = search rules in
    ends_at g.F.Field.space (g.F.Field.tree c.args.field.now) under c.in_ok-needed.ensures.ok c.in-None.is
