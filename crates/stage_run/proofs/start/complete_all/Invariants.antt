use Rattle.std.proofs.Common.{◌≡◌, drop, fold}
use Rattle.stage_run.specs.Started.{completed}
use Rattle.stage_run.proofs.start.complete_all.Given as goal

-- those that are left
abbrev pub invariant-loop-serial : goal.invariant-loop-serial
invariant-loop-serial l = fold completed l.world (drop l.serial-index l.serial-items) ≡ fold completed l.fn.world l.serial-items
