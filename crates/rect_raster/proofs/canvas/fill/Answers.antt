use Rattle.std.proofs.Common.{◌≡◌, ap, rules, ◌∙◌, length}
use Rattle.std.proofs.lemmas.List.{with_items_is}
use Rattle.rect_raster.specs.Picture.{picture_of}
use Rattle.rect_raster.specs.Drawing.{shape_of, painted_over}
use Rattle.rect_raster.proofs.Filling.{painted_over-from_bytes, drawing-over}
use Rattle.rect_raster.proofs.canvas.fill.Goals as goal

pub returns-clause-over : goal.returns-clause-over
returns-clause-over c =
    let painted_so = rw c.deref_mut.ensures.value at c.paint_area.ensures in
    let same : length c.paint_area.new.pixels ≡ length c.canvas.inside.pixels.items = search rules in
    let written = with_items_is c.canvas.inside.pixels c.paint_area.new.pixels (search rules) in
    ap (picture_of c.canvas.inside.width c.canvas.inside.height) written
    ∙ painted_over-from_bytes c.args.rect c.clipped-area.result c.args.argb c.canvas.inside.width c.canvas.inside.height _ _
    (search rules) same c.clipped-area.ensures.pixels painted_so
    ∙ ap (painted_over (shape_of c.args.rect c.args.argb)) c.canvas.view_is

pub returns-clause-drawn : goal.returns-clause-drawn
returns-clause-drawn c width height shapes was =
    drawing-over c.args.rect c.args.argb width height shapes _ _ (returns-clause-over c) was
