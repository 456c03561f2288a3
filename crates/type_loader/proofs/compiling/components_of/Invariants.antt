use Rattle.std.proofs.Common.{◌≡◌, ◌++◌, drop}
use Rattle.type_loader.specs.Order.{components_of}
use Rattle.type_loader.proofs.compiling.components_of.Given as goal

abbrev pub invariant-loop-source : goal.invariant-loop-source
invariant-loop-source l = l.components ++ components_of l.made (drop l.source-index l.sources) ≡ components_of l.made l.sources
