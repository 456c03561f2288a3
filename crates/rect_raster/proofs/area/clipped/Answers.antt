use Rattle.std.proofs.Common.{FitsSigned, w64, rules}
use Rattle.std.proofs.lemmas.Int.{to_z-of_z}
use Rattle.rect_raster.proofs.Clipping.{clamped_span}
use Rattle.rect_raster.proofs.area.clipped.Goals as goal

pub returns-clause-pixels : goal.returns-clause-pixels
returns-clause-pixels c column row in_width in_height =
    let left : FitsSigned w64 c.args.rect.left = search rules in
    let right : FitsSigned w64 c.args.rect.right = search rules in
    let top : FitsSigned w64 c.args.rect.top = search rules in
    let bottom : FitsSigned w64 c.args.rect.bottom = search rules in
    let left_is = simp to_z-of_z at (c.clamped-left.ensures.edge column in_width) in
    let right_is = simp to_z-of_z at (c.clamped.ensures.edge column in_width) in
    let top_is = simp to_z-of_z at (c.clamped-top.ensures.edge row in_height) in
    let bottom_is = simp to_z-of_z at (c.clamped-2.ensures.edge row in_height) in
    let columns = clamped_span c.args.rect.left c.args.rect.right column _ _ _ left_is right_is c.max.ensures in
    let rows = clamped_span c.args.rect.top c.args.rect.bottom row _ _ _ top_is bottom_is c.max-2.ensures in
    cc
