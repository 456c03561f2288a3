use Rattle.std.proofs.Common.{◌≡◌, drop}
use Rattle.type_loader.specs.Faults.{first_mention}
use Rattle.type_loader.proofs.telling.first_mention.Given as goal

abbrev pub invariant-loop-source : goal.invariant-loop-source
invariant-loop-source l = first_mention (drop l.source-index l.sources) l.name ≡ first_mention l.sources l.name
