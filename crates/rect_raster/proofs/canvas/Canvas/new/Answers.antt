use Rattle.std.proofs.Common.{◌≡◌, ℕ, ap, ◌∙◌, rules}
use Rattle.std.specs.Prelude.{replicate}
use Rattle.rect_raster.specs.Picture.{ppm_header, byte_count}
use Rattle.rect_raster.proofs.Drawing.{drawing-nil}
use Rattle.rect_raster.proofs.canvas.Canvas.new.Goals as goal

pub invariant_of-result : goal.invariant_of-result
unfolding ppm_header
invariant_of-result c =
    let size : c.in_ok-size.size ≡ byte_count c.args.width c.args.height = search rules in
    (search rules, search rules)

pub returns : goal.returns
returns c =
    let size : c.in_ok-size.size ≡ byte_count c.args.width c.args.height = search rules in
    let white : c.in_ok-pixels.pixels.items ≡ replicate c.in_ok-size.size 255 = search rules in
    drawing-nil c.args.width c.args.height _ (white ∙ ap (λ (n : ℕ). replicate n 255) size)
