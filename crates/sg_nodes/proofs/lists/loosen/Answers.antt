use Rattle.std.proofs.Common.{◌≡◌, Bool, true, false, refl}
use Rattle.sg_nodes.proofs.Chained.{none_lost, one_lost, lost_numbers}
use Rattle.sg_nodes.proofs.lists.loosen.Goals as goal

pub returns-then-is_linked-clause-lists : goal.returns-then-is_linked-clause-lists
returns-then-is_linked-clause-lists c =
    let home = c.if-is_linked.ensures.linked.0 refl in
    one_lost c.if-is_linked.ensures.disjoint c.args.cell c.unlink.new.self home.0 home.1.0 home.1.1 (c.unlink.ensures.after home.0 home.1.0 home.1.1)

pub returns-then-is_linked-clause-numbers : goal.returns-then-is_linked-clause-numbers
returns-then-is_linked-clause-numbers c =
    let home = c.if-is_linked.ensures.linked.0 refl in
    lost_numbers c.if-is_linked.ensures.disjoint c.args.cell c.unlink.new.self home.0 home.1.0 home.1.1 (c.unlink.ensures.after home.0 home.1.0 home.1.1)

pub returns-else-is_linked-clause-lists : goal.returns-else-is_linked-clause-lists
returns-else-is_linked-clause-lists c =
    none_lost c.if-is_linked.ensures.disjoint c.args.cell
    (λ list place stands. let no : ◌≡◌ {A = Bool} false true = c.if-is_linked.ensures.linked.1 (list, (place, stands)) in cc)
