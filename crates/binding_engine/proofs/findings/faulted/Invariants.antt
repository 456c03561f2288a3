use Rattle.std.proofs.Common.{◌≡◌, drop}
use Rattle.std.specs.Prelude.{fold}
use Rattle.binding_engine.specs.Entries.{marks_in}
use Rattle.binding_engine.specs.Findings.{with_fault, faulted_in}
use Rattle.binding_engine.proofs.findings.faulted.Given as goal

-- with the places that are left, all will be found
abbrev pub invariant-loop-place : goal.invariant-loop-place
invariant-loop-place l =
    fold (with_fault (marks_in l.objects l.cells) l.objects) l.found.items (drop l.place-index l.places) ≡ faulted_in (marks_in l.objects l.cells) l.objects l.places
