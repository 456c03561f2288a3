use Rattle.std.proofs.Common.{◌≡◌, ℕ, ◌<◌, Some, slice_get}
use Rattle.type_loader.specs.Cycles.{Reaches}
use Rattle.type_loader.specs.declared.source.Source.{Source}
use Rattle.type_loader.proofs.cycle.no_cycle.Given as goal

abbrev pub invariant-loop-source : goal.invariant-loop-source
invariant-loop-source l =
    (place : ℕ) (source : Source) → place < l.source-index → slice_get l.sources place ≡ Some source → Reaches l.sources source.name source.name → ⊥
