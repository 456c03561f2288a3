use Rattle.std.proofs.Common.{sym, ◌∙◌}
use Rattle.item_paint.specs.Items.{paint_of}
use Rattle.item_paint.proofs.Walked.{on_no_level, no_item, not_shown, item_painted}
use Rattle.item_paint.proofs.walk.+walk.Goals as goal

pub paint_item-returns-then-reach-eq0 : goal.paint_item-returns-then-reach-eq0
paint_item-returns-then-reach-eq0 t c =
    on_no_level c.args.reach.levels (paint_of c.args.objects.now) c.args.reach.viewport c.args.serial c.args.out.now.items c.if-reach-eq0.true

pub paint_item-returns-in_default : goal.paint_item-returns-in_default
paint_item-returns-in_default t c =
    no_item c.args.reach.levels (paint_of c.args.objects.now) c.args.reach.viewport c.args.serial c.args.out.now.items (sym c.in_ok-item.ensures ∙ c.in_default.is)

pub paint_item-returns-then-not-item : goal.paint_item-returns-then-not-item
paint_item-returns-then-not-item t c =
    not_shown c.args.reach.levels (paint_of c.args.objects.now) c.args.reach.viewport c.args.serial c.in-Some.item c.args.out.now.items
    (sym c.in_ok-item.ensures ∙ c.in-Some.is) c.if-not-item.true

pub paint_item-returns : goal.paint_item-returns
paint_item-returns t c =
    item_painted c.args.reach.levels c.inside-inner.result.levels (paint_of c.args.objects.now) c.args.reach.viewport c.inside-inner.result.viewport c.args.serial c.in-Some.item
    c.args.out.now.items c.paint_items.new.out.items c.paint_rects.new.out.items c.paint_items-2.new.out.items
    (sym c.in_ok-item.ensures ∙ c.in-Some.is) c.if-not-item.false c.inside-inner.ensures.levels c.inside-inner.ensures.viewport
    (rw c.under.ensures at c.in_ok-paint_items.ensures) c.in_ok-paint_rects.ensures (rw c.over.ensures at c.in_ok-paint_items-2.ensures)
