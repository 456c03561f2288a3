use Rattle.std.proofs.Common.{◌≡◌, ◌≤◌}
use Rattle.std.specs.Io.KnownBytes.{Appends}
use Rattle.rect_raster.specs.Picture.{ppm}
use Rattle.stage_run.specs.Moves.{commands}
use Rattle.stage_run.specs.Written.{copies}
use Rattle.stage_run.proofs.frames.write_frames.Given as goal

abbrev pub invariant-loop-done : goal.invariant-loop-done
invariant-loop-done g l = let S = g.S.Sink in
    (l.journal ≡ commands l.done) × Appends (S.contents l.fn.frames) (S.contents l.frames) (copies (ppm l.canvas) l.done)
    × (S.faults l.fn.frames ≤ S.faults l.frames)
