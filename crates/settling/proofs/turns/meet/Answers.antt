use Rattle.std.proofs.Common.{◌≡◌, rules}
use Rattle.settling.specs.Phases.{phase_of}
use Rattle.settling.specs.Turns.{above}
use Rattle.settling.specs.declared.field.Phase.TheVariants.{Fresh, UnderWay}
use Rattle.settling.proofs.Calls.{on_ok, enters_at, stops_at, shown_push}
use Rattle.settling.proofs.turns.meet.Goals as goal

pub returns-then-eq-clause-meets : goal.returns-then-eq-clause-meets
returns-then-eq-clause-meets g c =
    let fresh : phase_of (g.F.Field.space.at (g.F.Field.state c.args.field.now) c.args.place) ≡ Fresh = search rules in
    on_ok c.enter.result (λ moves pushed. enters_at g.F.Field.space fresh moves pushed) c.enter.ensures.state c.enter.ensures.stack

pub returns-clause-meets : goal.returns-clause-meets
returns-clause-meets g c =
    let under : phase_of (g.F.Field.space.at (g.F.Field.state c.args.field.now) c.args.place) ≡ UnderWay = search rules in
    stops_at g.F.Field.space under c.stop.ensures.state
    (shown_push c.args.loops.now.items c.push.new.self.items (record { place = c.args.place; chain = c.in_ok-chain.chain })
    (above g.F.Field.space c.args.place c.args.stack.now.items) c.in_ok-push.ensures.items (search rules))
