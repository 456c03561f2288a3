use Rattle.std.proofs.Common.{[], ap, ◌∙◌}
use Rattle.rect_raster.specs.Picture.{Picture}
use Rattle.rect_raster.proofs.Drawing.{width-drawing, height-drawing}
use Rattle.sync_tests.proofs.stage.coloured.Goals as goal

pub returns-clause-width : goal.returns-clause-width
returns-clause-width c =
    ap (λ (p : Picture). p.width) (c.fill.ensures.drawn c.args.w c.args.h [] c.in_ok-canvas.ensures) ∙ width-drawing c.args.w c.args.h _

pub returns-clause-height : goal.returns-clause-height
returns-clause-height c =
    ap (λ (p : Picture). p.height) (c.fill.ensures.drawn c.args.w c.args.h [] c.in_ok-canvas.ensures) ∙ height-drawing c.args.w c.args.h _
