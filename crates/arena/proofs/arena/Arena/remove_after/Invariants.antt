use Rattle.std.proofs.Common.{◌≡◌, length}
use Rattle.arena.specs.Arena.{without_later}
use Rattle.arena.proofs.arena.Arena.remove_after.Given as goal

-- what is to be left is there
abbrev pub invariant-loop-serial : goal.invariant-loop-serial
invariant-loop-serial g l = without_later l.last l.self ≡ without_later l.last l.fn.self

abbrev pub decreases-loop-serial : goal.decreases-loop-serial
decreases-loop-serial g l = length l.self.things
