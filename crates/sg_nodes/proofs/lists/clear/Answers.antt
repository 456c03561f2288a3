use Rattle.std.proofs.Common.{◌∙◌, sym, refl}
use Rattle.sg_nodes.proofs.Chained.{cells_else, stands_within, lost_numbers, shorter, cleared}
use Rattle.sg_nodes.proofs.lists.clear.Goals as goal

pub unlink-requires : goal.unlink-requires
unlink-requires c = record { linked = (c.args.list, (0, sym c.in-Some.ensures.first)) }

pub loop-cell-preserved : goal.loop-cell-preserved
loop-cell-preserved c =
    let stands = sym c.in-Some.ensures.first in
    let after = c.unlink.ensures.after c.args.list 0 stands in (
      λ other ne.
          cells_else c.loop-cell.links c.unlink.new.self c.args.list _ (stands_within c.loop-cell.links c.args.list 0 c.in-Some.cell stands) after other ne ∙ c.loop-cell.invariant.0 other ne,
      λ count full.
          lost_numbers c.first.ensures.disjoint c.in-Some.cell c.unlink.new.self c.args.list 0 stands after count (c.loop-cell.invariant.1 count full),
    )

pub loop-cell-smaller : goal.loop-cell-smaller
loop-cell-smaller c =
    let stands = sym c.in-Some.ensures.first in
    shorter c.first.ensures.disjoint c.in-Some.cell c.unlink.new.self c.args.list 0 stands (c.unlink.ensures.after c.args.list 0 stands) refl

pub returns-clause-lists : goal.returns-clause-lists
returns-clause-lists c = cleared c.args.links.now c.loop-cell.links c.args.list c.loop-cell.invariant.0 (sym c.in_default.is ∙ c.first.ensures.first)
