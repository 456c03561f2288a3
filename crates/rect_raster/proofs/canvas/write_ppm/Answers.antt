use Rattle.std.proofs.Common.{◌∙◌}
use Rattle.rect_raster.proofs.Writing.{ppm-from_pieces, OnErr-first, OnOk-second, OnErr-second}
use Rattle.rect_raster.proofs.canvas.write_ppm.Goals as goal

pub returns-in_err-write_whole-clause-part : goal.returns-in_err-write_whole-clause-part
returns-in_err-write_whole-clause-part g c =
    let joined = ppm-from_pieces _ _ _ _ _ _ c.canvas.view_is (c.as_bytes-header.ensures.value ∙ c.canvas.invariant.0) c.as_slice-pixels.ensures.value in
    OnErr-first _ _ _ _ _ _ joined c.in_err-write_whole.ensures.part

pub returns-clause-whole : goal.returns-clause-whole
returns-clause-whole g c =
    let joined = ppm-from_pieces _ _ _ _ _ _ c.canvas.view_is (c.as_bytes-header.ensures.value ∙ c.canvas.invariant.0) c.as_slice-pixels.ensures.value in
    OnOk-second _ _ _ _ _ _ _ joined c.in_ok-write_whole.ensures.whole c.write_whole-2.ensures.whole

pub returns-clause-part : goal.returns-clause-part
returns-clause-part g c =
    let joined = ppm-from_pieces _ _ _ _ _ _ c.canvas.view_is (c.as_bytes-header.ensures.value ∙ c.canvas.invariant.0) c.as_slice-pixels.ensures.value in
    OnErr-second _ _ _ _ _ _ _ joined c.in_ok-write_whole.ensures.whole c.write_whole-2.ensures.part
