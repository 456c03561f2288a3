use Rattle.std.proofs.Common.{◌≡◌, map, take}
use Rattle.object_tree.specs.Handlers.{handler_seen}
use Rattle.signals.specs.Jobs.{handles, jobs_where}
use Rattle.signals.proofs.jobs.jobs.Given as goal

-- those of the handlers so far
abbrev pub invariant-loop-handler : goal.invariant-loop-handler
invariant-loop-handler l = l.jobs.items ≡ jobs_where (handles l.occasion) l.locals (map handler_seen (take l.handler-index l.handler-items))
