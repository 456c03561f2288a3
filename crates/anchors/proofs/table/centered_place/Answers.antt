use Rattle.std.proofs.Common.{arith, rules, ℤ, FitsSigned, ◌≡◌, pos, ◌-ℤ◌, ◌+ℤ◌, lit<}
use Rattle.std.specs.Int.{w128}
use Rattle.std.specs.Int.RustNames.{int_div}
use Rattle.std.proofs.lemmas.Int.{ints, to_z-of_z, quot-rem, rem_below}
use Rattle.anchors.proofs.table.centered_place.Goals as goal

pub returns : goal.returns
returns c =
    let middle_fits : FitsSigned w128 c.twice_middle.result = search rules in
    let size_fits : FitsSigned w128 c.from.result = search rules in
    let offset_fits : FitsSigned w128 c.from-2.result = search rules in
    let room : ℤ = c.twice_middle.result -ℤ c.from.result in
    let room_fits : FitsSigned w128 room = omega (arith, ints) in
    let half_fits : FitsSigned w128 (int_div room (pos 2)) = search (rules, ints) in
    let place_fits : FitsSigned w128 (int_div room (pos 2) +ℤ c.from-2.result) = omega (arith, ints, quot-rem room (pos 2), rem_below room (pos 2) (lit< tt)) in
    let size_is : c.from.result ≡ c.args.axis.now.size = omega (arith, ints) in
    let offset_is : c.from-2.result ≡ c.args.axis.now.offset = omega (arith, ints) in
    simp to_z-of_z (cc (c.twice_middle.ensures.value))
