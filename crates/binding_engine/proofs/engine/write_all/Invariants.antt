use Rattle.std.proofs.Common.{◌≡◌, drop}
use Rattle.binding_engine.specs.Entries.{with_entries}
use Rattle.binding_engine.proofs.engine.write_all.Given as goal

-- with the places that are left, all will be written
abbrev pub invariant-loop-place : goal.invariant-loop-place
invariant-loop-place l = with_entries l.cells (drop l.place-index l.places) l.objects ≡ with_entries l.cells l.places l.fn.objects
