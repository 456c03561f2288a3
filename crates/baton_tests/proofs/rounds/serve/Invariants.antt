-- No question is open at the head of the loop.
use Rattle.std.proofs.Common.{◌≡◌}
use Rattle.baton.specs.declared.view.Stage.TheVariants.{Waiting}
use Rattle.baton_tests.proofs.rounds.serve.Given as goal

abbrev pub invariant-loop : goal.invariant-loop
invariant-loop g l = (l.server.stage ≡ Waiting) × (l.server.gate ≡ l.initial.server.gate)
