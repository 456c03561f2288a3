use Rattle.std.proofs.Common.{◌≡◌, map}
use Rattle.settling.specs.Loops.{shown}
use Rattle.settling.specs.Work.{IsPaid}
use Rattle.settling.proofs.Measure.{waiting}
use Rattle.settling.proofs.Going.{IsGoing}
use Rattle.settling.proofs.visits.visit.Given as goal

abbrev pub invariant-loop-top : goal.invariant-loop-top
invariant-loop-top g l = record {
  going : IsGoing g.F.Field.space (g.F.Field.tree l.fn.field) (g.F.Field.places l.fn.field) (g.F.Field.state l.fn.field) l.fn.place l.stack.items (g.F.Field.state l.field) (map shown l.loops.items);
  paid : IsPaid g.F.Field.space (g.F.Field.tree l.fn.field) (g.F.Field.places l.fn.field) (g.F.Field.evaluations l.fn.field) (g.F.Field.state l.fn.field) (g.F.Field.evaluations l.field) l.stack.items (g.F.Field.state l.field);
  tree : g.F.Field.tree l.field ≡ g.F.Field.tree l.fn.field;
  places : g.F.Field.places l.field ≡ g.F.Field.places l.fn.field;
  loans : g.F.Field.loans l.field ≡ g.F.Field.loans l.fn.field;
}

abbrev pub decreases-loop-top : goal.decreases-loop-top
decreases-loop-top g l = waiting g.F.Field.space (g.F.Field.places l.fn.field) (g.F.Field.state l.field)
