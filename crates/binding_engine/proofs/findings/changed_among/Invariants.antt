use Rattle.std.proofs.Common.{◌≡◌, take}
use Rattle.std.specs.Prelude.{filter}
use Rattle.object_tree.specs.Changes.{has_changed}
use Rattle.binding_engine.proofs.findings.changed_among.Given as goal

abbrev pub invariant-loop-place : goal.invariant-loop-place
invariant-loop-place l = l.found.items ≡ filter (λ place. has_changed place l.objects) (take l.place-index l.places)
