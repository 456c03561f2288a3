use Rattle.std.proofs.Common.{◌∙◌, arith, rules}
use Rattle.std.proofs.lemmas.Grind.{common_steps}
use Rattle.std.specs.Io.KnownBytes.{Keeps}
use Rattle.rect_raster.specs.Picture.{ppm}
use Rattle.stage_run.specs.Causes.{run_of, IsIdle}
use Rattle.stage_run.proofs.Endings.{accepted, image-drawn, ended-whole, ended-stopped, ended-untold, ended-refused}
use Rattle.stage_run.proofs.stage.perform.Goals as goal

pub returns-clause-done : goal.returns-clause-done
returns-clause-done g c =
    let F = g.F.Files in let S = g.S.Sink in let N = g.N.Sink in
    let drawn = c.in_ok-canvas.ensures.shown in
    ended-whole c.write_frames.result
    (run_of c.args.words.now (F.held c.args.files.now) (F.faults c.args.files.now, F.faults c.main_opening.new.files) (S.faults c.args.frames.now, S.faults c.write_frames.new.frames)
    (N.faults c.args.notes.now, N.faults c.write_notes.new.notes) (S.contents c.args.frames.now, S.contents c.write_frames.new.frames)
    (N.contents c.args.notes.now, N.contents c.write_notes.new.notes) c.write_frames.new.journal)
    (ppm c.in_ok-canvas.field-0.canvas) c.as_slice.result.now c.in_ok-count.count drawn.0 c.in_ok-count.ensures.few
    (accepted (F.held c.args.files.now) (F.held c.fetch_script.new.files) c.args.words.now c.at.result.now c.at-2.result.now c.in_ok-count.count drawn.0
    c.at.ensures c.at-2.ensures c.fetch_script.ensures.held c.in_ok-count.ensures.read drawn.3)
    (image-drawn c.in_ok-canvas.field-0.canvas drawn.0 drawn.1)
    (c.as_slice.ensures.value ∙ drawn.2) c.in_ok-write_notes.ensures.whole
    c.write_frames.ensures.moves c.write_frames.ensures.bytes

pub returns-clause-ended : goal.returns-clause-ended
returns-clause-ended g c =
    let F = g.F.Files in let S = g.S.Sink in let N = g.N.Sink in
    let drawn = c.in_ok-canvas.ensures.shown in
    ended-stopped c.write_frames.result
    (run_of c.args.words.now (F.held c.args.files.now) (F.faults c.args.files.now, F.faults c.main_opening.new.files) (S.faults c.args.frames.now, S.faults c.write_frames.new.frames)
    (N.faults c.args.notes.now, N.faults c.write_notes.new.notes) (S.contents c.args.frames.now, S.contents c.write_frames.new.frames)
    (N.contents c.args.notes.now, N.contents c.write_notes.new.notes) c.write_frames.new.journal)
    (ppm c.in_ok-canvas.field-0.canvas) c.as_slice.result.now c.in_ok-count.count drawn.0 c.in_ok-count.ensures.few
    (accepted (F.held c.args.files.now) (F.held c.fetch_script.new.files) c.args.words.now c.at.result.now c.at-2.result.now c.in_ok-count.count drawn.0
    c.at.ensures c.at-2.ensures c.fetch_script.ensures.held c.in_ok-count.ensures.read drawn.3)
    (image-drawn c.in_ok-canvas.field-0.canvas drawn.0 drawn.1)
    (c.as_slice.ensures.value ∙ drawn.2) c.in_ok-write_notes.ensures.whole
    c.write_frames.ensures.stopped

pub returns-in_err-canvas-clause-ended : goal.returns-in_err-canvas-clause-ended
returns-in_err-canvas-clause-ended g c =
    let F = g.F.Files in let S = g.S.Sink in let N = g.N.Sink in
    let run = run_of c.args.words.now (F.held c.args.files.now) (F.faults c.args.files.now, F.faults c.main_opening.new.files) (S.faults c.args.frames.now, S.faults c.args.frames.now)
    (N.faults c.args.notes.now, N.faults c.args.notes.now) (S.contents c.args.frames.now, S.contents c.args.frames.now) (N.contents c.args.notes.now, N.contents c.args.notes.now) c.args.journal.now in
    let idle : IsIdle run = record { no_moves = c.requires.empty; no_bytes = first_of (search rules); no_notes = first_of (search rules) } in
    let ended = ended-refused run c.in_err-canvas.field-0.0 (F.held c.fetch_script.new.files) c.at.result.now c.at-2.result.now (F.faults c.fetch_script.new.files) c.in_ok-count.count idle c.fetch_script.ensures.held c.at.ensures c.at-2.ensures c.fetch_script.ensures.later c.in_ok-count.ensures.read c.in_err-canvas.ensures.refused in
    first_of (search rules, cc, grind (arith, common_steps))

pub returns-in_err-write_notes-clause-ended : goal.returns-in_err-write_notes-clause-ended
returns-in_err-write_notes-clause-ended g c =
    let F = g.F.Files in let S = g.S.Sink in let N = g.N.Sink in
    let drawn = c.in_ok-canvas.ensures.shown in
    let run = run_of c.args.words.now (F.held c.args.files.now) (F.faults c.args.files.now, F.faults c.main_opening.new.files) (S.faults c.args.frames.now, S.faults c.args.frames.now)
    (N.faults c.args.notes.now, N.faults c.write_notes.new.notes) (S.contents c.args.frames.now, S.contents c.args.frames.now) (N.contents c.args.notes.now, N.contents c.write_notes.new.notes) c.args.journal.now in
    let kept : Keeps (S.contents c.args.frames.now) (S.contents c.args.frames.now) = first_of (search rules) in
    let ended = ended-untold run c.in_err-write_notes.field-0.0 c.as_slice.result.now c.in_ok-count.count drawn.0 c.in_ok-count.ensures.few
    (accepted (F.held c.args.files.now) (F.held c.fetch_script.new.files) c.args.words.now c.at.result.now c.at-2.result.now c.in_ok-count.count drawn.0
    c.at.ensures c.at-2.ensures c.fetch_script.ensures.held c.in_ok-count.ensures.read drawn.3)
    (c.as_slice.ensures.value ∙ drawn.2) c.requires.empty kept
    c.in_err-write_notes.ensures.part c.in_err-write_notes.ensures.failed c.in_err-write_notes.ensures.status in
    first_of (search rules, cc, grind (arith, common_steps))
