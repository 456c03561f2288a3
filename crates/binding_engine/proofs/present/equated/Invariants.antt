use Rattle.std.proofs.Common.{◌≡◌, take}
use Rattle.std.specs.Prelude.{filter}
use Rattle.binding_engine.specs.Equations.{has_equation}
use Rattle.binding_engine.proofs.present.equated.Given as goal

abbrev pub invariant-loop-place : goal.invariant-loop-place
invariant-loop-place l = l.found.items ≡ filter (has_equation l.objects) (take l.place-index l.places)
