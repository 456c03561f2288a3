use Rattle.std.proofs.Common.{◌≡◌, ℕ, [], ap, ◌∙◌, rules}
use Rattle.std.specs.Prelude.{replicate, vec_len}
use Rattle.rect_raster.specs.Picture.{Picture, byte_count}
use Rattle.rect_raster.specs.Drawing.{drawing}
use Rattle.rect_raster.proofs.Drawing.{drawing-nil}
use Rattle.rect_raster.proofs.canvas.clear.Goals as goal

pub returns : goal.returns
returns c =
    let full : vec_len c.canvas.inside.pixels ≡ byte_count c.canvas.inside.width c.canvas.inside.height = search rules in
    let white : c.fill.new.self.items ≡ replicate (byte_count c.canvas.inside.width c.canvas.inside.height) 255 =
    c.fill.ensures.items (λ y same. same) ∙ ap (λ (n : ℕ). replicate {A = ℕ} n 255) full in
    drawing-nil c.canvas.inside.width c.canvas.inside.height _ white
    ∙ ap (λ (p : Picture). drawing p.width p.height []) c.canvas.view_is
