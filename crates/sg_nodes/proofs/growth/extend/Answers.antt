use Rattle.std.proofs.Common.{◌∙◌, ◌-◌, ap, arith}
use Rattle.links.specs.Chains.{Chains}
use Rattle.sg_nodes.proofs.Growing.{grown_full, grown_same}
use Rattle.sg_nodes.proofs.growth.extend.Goals as goal

pub loop-number-preserved : goal.loop-number-preserved
loop-number-preserved c =
    let inv = c.loop-number.invariant in
    let cells = ap (λ (l : Chains). l.spare_cells) c.add_list-list.ensures.after ∙ ap (λ (l : Chains). l.spare_cells) c.add_cell-cell.ensures.after in
    let lists = ap (λ (l : Chains). l.spare_lists) c.add_list-list.ensures.after ∙ ap (λ (l : Chains). l.spare_lists - 1) c.add_cell-cell.ensures.after in
    record {
      full = grown_full c.loop-number.links c.add_cell-cell.new.self c.add_list-list.new.self c.loop-number.number c.add_cell-cell.result c.add_list-list.result inv.full
          c.if-prove_eq.false c.if-prove_eq-2.false c.add_cell-cell.ensures.after c.add_list-list.ensures.after;
      lists = λ list.
          grown_same c.loop-number.links c.add_cell-cell.new.self c.add_list-list.new.self c.loop-number.number c.add_cell-cell.result c.add_list-list.result inv.full
          c.if-prove_eq.false c.if-prove_eq-2.false c.add_cell-cell.ensures.after c.add_list-list.ensures.after list ∙ inv.lists list;
      cells_left = omega arith;
      lists_left = omega arith;
      disjoint = c.add_list-list.ensures.disjoint;
    }
