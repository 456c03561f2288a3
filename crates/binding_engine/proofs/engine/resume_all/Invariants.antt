use Rattle.std.proofs.Common.{◌≡◌, drop}
use Rattle.binding_engine.specs.Settling.{resumed_by}
use Rattle.binding_engine.proofs.engine.resume_all.Given as goal

-- with the writes that are left, all will be resumed
abbrev pub invariant-loop-place : goal.invariant-loop-place
invariant-loop-place l = resumed_by (drop l.place-index l.writes) l.objects ≡ resumed_by l.writes l.fn.objects
