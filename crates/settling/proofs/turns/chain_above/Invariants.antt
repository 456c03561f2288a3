use Rattle.std.proofs.Common.{◌≡◌, drop}
use Rattle.settling.specs.Turns.{above}
use Rattle.settling.proofs.turns.chain_above.Given as goal

abbrev pub invariant-loop-index : goal.invariant-loop-index
invariant-loop-index g l = above g.F.Field.space l.place (drop l.index l.stack) ≡ above g.F.Field.space l.place l.stack
