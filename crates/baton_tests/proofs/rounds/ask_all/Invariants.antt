-- As many turns are over as were asked.
use Rattle.std.proofs.Common.{◌≡◌, length}
use Rattle.baton.specs.declared.view.Stage.TheVariants.{Idle}
use Rattle.baton_tests.proofs.rounds.ask_all.Given as goal

abbrev pub invariant-loop-number : goal.invariant-loop-number
invariant-loop-number g l = (l.asker.stage ≡ Idle) × (l.asker.gate ≡ l.initial.asker.gate) × (length l.asker.turns ≡ l.number)
