use Rattle.std.proofs.Common.{FitsSigned, w64, rules}
use Rattle.std.proofs.lemmas.Int.{to_z-of_z}
use Rattle.painting.proofs.Areas.{seen_by_edges}
use Rattle.painting.proofs.reach.Reach.area.Goals as goal

pub returns : goal.returns
returns c =
    let from_left : FitsSigned w64 c.args.self.now.viewport.left = search rules in
    let from_top : FitsSigned w64 c.args.self.now.viewport.top = search rules in
    let fits_left : FitsSigned w64 c.on-left.result = search rules in
    let fits_top : FitsSigned w64 c.on-top.result = search rules in
    let fits_right : FitsSigned w64 c.on.result = search rules in
    let fits_bottom : FitsSigned w64 c.on-2.result = search rules in
    let left = simp (to_z-of_z, c.ranges.x, from_left) at c.on-left.ensures in
    let top = simp (to_z-of_z, c.ranges.y, from_top) at c.on-top.ensures in
    let right = simp (to_z-of_z, c.ranges.w, fits_left) at c.on.ensures in
    let bottom = simp (to_z-of_z, c.ranges.h, fits_top) at c.on-2.ensures in
    let area = simp (to_z-of_z, fits_left, fits_top, fits_right, fits_bottom) at c.between-area.ensures in
    seen_by_edges c.args.self.now.viewport c.args.x c.args.y c.args.w c.args.h c.on-left.result c.on-top.result c.on.result c.on-2.result c.between-area.result c.seen.result
    left top right bottom area c.seen.ensures
