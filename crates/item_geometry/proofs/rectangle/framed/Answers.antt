use Rattle.std.proofs.Common.{◌≡◌, pos, ◌-ℤ◌, ◌*ℤ◌, ◌∙◌, arith}
use Rattle.std.proofs.lemmas.Int.{ints}
use Rattle.item_geometry.specs.Rectangle.{part_of}
use Rattle.item_geometry.proofs.Painted.{same_part}
use Rattle.item_geometry.proofs.rectangle.framed.Goals as goal

pub returns : goal.returns
returns c =
    let w = c.args.width in
    let h = c.args.height in
    let b = c.args.thickness in
    let inside : c.part.result ≡ part_of b b (w -ℤ pos 2 *ℤ b) (h -ℤ pos 2 *ℤ b) c.args.fill =
    c.part.ensures ∙ same_part (omega (arith, ints)) (omega (arith, ints)) (omega (arith, ints)) (omega (arith, ints)) in
    let top : c.part-2.result ≡ part_of (pos 0) (pos 0) w b c.args.color =
    c.part-2.ensures ∙ same_part (omega (arith, ints)) (omega (arith, ints)) (omega (arith, ints)) (omega (arith, ints)) in
    let bottom : c.part-3.result ≡ part_of (pos 0) (h -ℤ b) w b c.args.color =
    c.part-3.ensures ∙ same_part (omega (arith, ints)) (omega (arith, ints)) (omega (arith, ints)) (omega (arith, ints)) in
    let left : c.part-4.result ≡ part_of (pos 0) b b (h -ℤ pos 2 *ℤ b) c.args.color =
    c.part-4.ensures ∙ same_part (omega (arith, ints)) (omega (arith, ints)) (omega (arith, ints)) (omega (arith, ints)) in
    let right : c.part-5.result ≡ part_of (w -ℤ b) b b (h -ℤ pos 2 *ℤ b) c.args.color =
    c.part-5.ensures ∙ same_part (omega (arith, ints)) (omega (arith, ints)) (omega (arith, ints)) (omega (arith, ints)) in
    cc
