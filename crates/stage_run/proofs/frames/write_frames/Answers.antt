use Rattle.std.proofs.Common.{◌∙◌, arith}
use Rattle.std.proofs.lemmas.Result.{err_from_is_err_and}
use Rattle.outside.proofs.Appending.{AppendsPart-whole}
use Rattle.outside.proofs.Counting.{grown-Rose}
use Rattle.rect_raster.specs.Picture.{ppm}
use Rattle.stage_run.specs.Written.{copies}
use Rattle.stage_run.proofs.WrittenFrames.{prefix-next}
use Rattle.stage_run.proofs.frames.write_frames.Goals as goal

pub returns-in_err-push-clause-stopped : goal.returns-in_err-push-clause-stopped
returns-in_err-push-clause-stopped g c =
    let p = err_from_is_err_and c.from_residual.result c.from_residual.ensures.1 in
    rw (p.1, p.2) (record {
      done = c.loop-done.done;
      within = omega arith;
      moves = c.in_err-push.ensures.err ∙ c.loop-done.invariant.0;
      bytes = AppendsPart-whole (g.S.Sink.contents c.args.frames.now) (g.S.Sink.contents c.loop-done.frames) (copies (ppm c.args.canvas.now) c.loop-done.done) c.loop-done.invariant.1;
    })

pub returns-in-Err-clause-stopped : goal.returns-in-Err-clause-stopped
returns-in-Err-clause-stopped g c =
    let S = g.S.Sink in (
      grown-Rose (S.faults c.args.frames.now) (S.faults c.loop-done.frames) (S.faults c.write_ppm.new.sink) c.loop-done.invariant.2 c.in-Err.ensures.failed,
      prefix-next (ppm c.args.canvas.now) c.args.count c.loop-done.done c.loop-done.journal c.push.new.self
          (S.contents c.args.frames.now) (S.contents c.loop-done.frames) (S.contents c.write_ppm.new.sink)
          c.loop-done-test.true c.loop-done.invariant.0 c.loop-done.invariant.1 c.in_ok-push.ensures.ok c.in-Err.ensures.part,
    )
