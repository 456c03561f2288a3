use Rattle.std.proofs.Common.{◌≡◌, [], length, map}
use Rattle.settling.specs.Loops.{shown}
use Rattle.settling.specs.Work.{IsPaid}
use Rattle.settling.proofs.Rounds.{IsRound}
use Rattle.settling.proofs.visits.settle.Given as goal

abbrev pub invariant-loop-index : goal.invariant-loop-index
invariant-loop-index g l = record {
  round : IsRound g.F.Field.space (g.F.Field.tree l.fn.field) (g.F.Field.places l.fn.field) (g.F.Field.state l.fn.field) l.index l.stack.items (g.F.Field.state l.field) (map shown l.loops.items);
  paid : IsPaid g.F.Field.space (g.F.Field.tree l.fn.field) (g.F.Field.places l.fn.field) (g.F.Field.evaluations l.fn.field) (g.F.Field.state l.fn.field) (g.F.Field.evaluations l.field) [] (g.F.Field.state l.field);
  tree : g.F.Field.tree l.field ≡ g.F.Field.tree l.fn.field;
  places : g.F.Field.places l.field ≡ g.F.Field.places l.fn.field;
  loans : g.F.Field.loans l.field ≡ g.F.Field.loans l.fn.field;
  count : l.count ≡ length (g.F.Field.places l.fn.field);
}
