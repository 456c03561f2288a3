use Rattle.std.proofs.Common.{◌≡◌, take, flat_map}
use Rattle.binding_engine.specs.Ignored.{ignored_at, listed}
use Rattle.binding_engine.proofs.ignored.ignored_among.Given as goal

-- those of the places so far
abbrev pub invariant-loop-place : goal.invariant-loop-place
invariant-loop-place l = l.found.items ≡ flat_map (λ place. listed (ignored_at l.present.objects.now place)) (take l.place-index l.places)
