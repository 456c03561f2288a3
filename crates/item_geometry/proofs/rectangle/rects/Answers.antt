use Rattle.std.proofs.Common.{sym, ◌∙◌, rules, arith}
use Rattle.std.proofs.lemmas.Int.{ints}
use Rattle.item_geometry.proofs.Painted.{painted_bordered, same_bordered, colors_at-from_painted}
use Rattle.item_geometry.proofs.rectangle.rects.Goals as goal

pub returns-then-width-thickness-clause-parts : goal.returns-then-width-thickness-clause-parts
returns-then-width-thickness-clause-parts c = search rules

pub returns-then-width-thickness-clause-pixels : goal.returns-then-width-thickness-clause-pixels
returns-then-width-thickness-clause-pixels c = colors_at-from_painted _ c.args.width c.args.height c.args.fill c.args.border (returns-then-width-thickness-clause-parts c)

pub returns-else-height-thickness-clause-parts : goal.returns-else-height-thickness-clause-parts
returns-else-height-thickness-clause-parts c =
    c.framed.ensures
    ∙ same_bordered (omega (arith, ints)) (omega (arith, ints)) (omega (arith, ints))
    ∙ sym (painted_bordered c.args.width c.args.height c.in-Some.thickness c.args.fill c.in-Some.color c.args.border c.in-Some.is (grind (arith, ints)) (grind (arith, ints)) (grind (arith, ints)) (grind (arith, ints)) (grind (arith, ints)))

pub returns-else-height-thickness-clause-pixels : goal.returns-else-height-thickness-clause-pixels
returns-else-height-thickness-clause-pixels c =
    colors_at-from_painted _ c.args.width c.args.height c.args.fill c.args.border (returns-else-height-thickness-clause-parts c)
