use Rattle.std.proofs.Common.{◌≡◌, ◌++◌, map, take, flat_map}
use Rattle.signals.specs.Noting.{loop_note}
use Rattle.signals.proofs.noting.note_loops.Given as goal

-- those so far
abbrev pub invariant-loop-found : goal.invariant-loop-found
invariant-loop-found l = l.notes ≡ l.fn.notes ++ flat_map (loop_note l.objects) (map (λ found. found.place) (take l.found-index l.loops))
