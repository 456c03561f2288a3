use Rattle.std.proofs.Common.{◌≡◌, ◌∙◌, ◌≤◌, ap, subst, Bool, true, List, length, Some}
use Rattle.std.specs.List.{slice_get}
use Rattle.links.specs.Chains.{Chains, HasCell}
use Rattle.links.specs.Slots.{placed}
use Rattle.scene.specs.Marking.{Marking, owner}
use Rattle.scene.proofs.Cells.{add, seen_placed, vacant, dirty_placed}
use Rattle.scene.proofs.marks.Marks.add.Goals as goal

lists : (c : goal.After-put_serial) → c.add_cell-cell.new.self.lists ≡ c.self.inside.links.lists
lists c = ap (λ (l : Chains). l.lists) c.add_cell-cell.ensures.after ∙ ap (λ (l : Chains). l.lists) c.in_ok-reserve.ensures.ok

same_cells : (c : goal.After-put_serial) → c.reserve.new.self.cells ≡ c.self.inside.links.cells
same_cells c = ap (λ (l : Chains). l.cells) c.in_ok-reserve.ensures.ok

added : (c : goal.After-put_serial) → c.add_cell-cell.new.self.cells ≡ placed c.self.inside.links.cells c.add_cell-cell.result true
added c = ap (λ (l : Chains). l.cells) c.add_cell-cell.ensures.after ∙ ap (λ used. placed used c.add_cell-cell.result true) (same_cells c)

stored : (c : goal.After-put_serial) → c.put_serial.new.serials.items ≡ placed c.self.inside.serials.items c.add_cell-cell.result c.args.serial
stored c = c.put_serial.ensures ∙ ap (λ ss. placed ss c.add_cell-cell.result c.args.serial) c.reserve-2.ensures.items

unused : (c : goal.After-put_serial) → ¬ HasCell c.self.inside.links c.add_cell-cell.result
unused c used = c.add_cell-cell.ensures.unused (ap (λ cs. slice_get cs c.add_cell-cell.result) (same_cells c) ∙ used)

within : (c : goal.After-put_serial) → c.add_cell-cell.result ≤ length c.self.inside.links.cells
within c = subst (λ (cs : List Bool). c.add_cell-cell.result ≤ length cs) (same_cells c) c.add_cell-cell.ensures.within

pub invariant_of-self-2 : goal.invariant_of-self-2
invariant_of-self-2 c =
    add c.self.invariant c.add_cell-cell.new.self c.put_serial.new.serials.items c.add_cell-cell.result c.args.serial
    (unused c) (within c) (lists c) (added c) (stored c) c.add_cell-cell.ensures.disjoint
    (λ cell own. c.requires cell (subst (λ (m : Marking). owner m cell ≡ Some c.args.serial) c.self.view_is own))

pub returns-clause-owner : goal.returns-clause-owner
returns-clause-owner c =
    seen_placed c.self.invariant c.args.self.now c.self.view_is c.add_cell-cell.new.self.cells c.put_serial.new.serials.items c.add_cell-cell.result c.args.serial
    (within c) (added c) (stored c)

pub returns-clause-vacant : goal.returns-clause-vacant
returns-clause-vacant c = vacant c.self.invariant c.args.self.now c.self.view_is c.add_cell-cell.result (unused c)

pub returns-clause-dirty : goal.returns-clause-dirty
returns-clause-dirty c =
    dirty_placed c.self.invariant c.args.self.now c.self.view_is c.add_cell-cell.new.self c.put_serial.new.serials.items c.add_cell-cell.result c.args.serial
    (unused c) (within c) (lists c) (stored c)
