use Rattle.std.proofs.Common.{◌≡◌, ℕ, ◌≤◌, take, drop, length}
use Rattle.std.specs.Io.KnownBytes.{Appends}
use Rattle.outside.proofs.sink.write_whole.Given as goal

-- the sink has the first bytes of the piece, and the others are left
abbrev pub invariant-loop-rest : goal.invariant-loop-rest
invariant-loop-rest g l = (k : ℕ) × ((l.rest ≡ drop k l.fn.piece)
    × ((Appends (g.S.Sink.contents l.fn.sink) (g.S.Sink.contents l.sink) (take k l.fn.piece))
    × (g.S.Sink.faults l.fn.sink ≤ g.S.Sink.faults l.sink)))

abbrev pub decreases-loop-rest : goal.decreases-loop-rest
decreases-loop-rest g l = length l.rest
