use Rattle.std.proofs.Common.{◌≡◌, drop}
use Rattle.std.specs.Prelude.{fold}
use Rattle.binding_engine.specs.Entries.{with_first, first_entries}
use Rattle.binding_engine.proofs.present.first_cells.Given as goal

-- with the places that are left, all entries will be there
abbrev pub invariant-loop-place : goal.invariant-loop-place
invariant-loop-place l = fold (with_first l.objects) l.cells (drop l.place-index l.places) ≡ first_entries l.objects l.places
