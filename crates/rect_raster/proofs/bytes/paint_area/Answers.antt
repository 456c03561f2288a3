use Rattle.std.proofs.Common.{◌+◌, ◌*◌, ◌≤◌, length, arith, rules}
use Rattle.std.proofs.Math.Nat.{mul-le-mul_left}
use Rattle.rect_raster.proofs.Rows.{IsPainted-more}
use Rattle.rect_raster.proofs.bytes.paint_area.Goals as goal

pub loop-row-preserved : goal.loop-row-preserved
loop-row-preserved c =
    let more : c.loop-row.row + 1 ≤ c.args.area.bottom = omega arith in
    let room : c.args.width * (c.loop-row.row + 1) ≤ c.args.width * c.args.area.bottom = mul-le-mul_left c.args.width more in
    let fits : 3 * (c.loop-row.row * c.args.width + c.args.area.right) ≤ length c.loop-row.pixels = omega arith in
    let painted_so = rw c.alpha_of-alpha.ensures at c.paint_row.ensures in
    IsPainted-more c.args.area c.args.width c.loop-row.row c.args.argb c.args.pixels.now c.loop-row.pixels c.fill_row.new.row c.paint_row.new.row
    (omega arith) (omega arith) (omega arith) fits (search rules) (search rules) c.fill_row.ensures painted_so c.loop-row.invariant
