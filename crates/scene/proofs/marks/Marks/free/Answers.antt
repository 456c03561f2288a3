use Rattle.std.proofs.Common.{◌≡◌, ◌∙◌, ap, false, set}
use Rattle.std.specs.List.{slice_get}
use Rattle.links.specs.Chains.{Chains, cells_in, HasCell}
use Rattle.scene.specs.Marking.{owner, dirty_in}
use Rattle.scene.proofs.Cells.{Unmarks, unmark, free, the_owner, seen_has, seen_dirty, seen_freed}
use Rattle.scene.proofs.marks.Marks.free.Goals as goal

after : (c : goal.After-free_cell) → Unmarks c.self.invariant c.loosen.new.links c.args.cell
after c = unmark c.self.invariant c.loosen.new.links c.args.cell c.loosen.ensures.after c.loosen.ensures.disjoint

freed : (c : goal.After-free_cell) → c.free_cell.new.self.cells ≡ set c.self.inside.links.cells c.args.cell false
freed c = ap (λ (l : Chains). l.cells) c.free_cell.ensures.after ∙ ap (λ used. set used c.args.cell false) (after c).same_cells

pub invariant_of-self : goal.invariant_of-self
invariant_of-self c =
    let used : HasCell c.loosen.new.links c.args.cell =
    ap (λ cs. slice_get cs c.args.cell) (after c).same_cells ∙ seen_has c.self.invariant c.args.self.now c.self.view_is c.args.cell c.requires in
    free (after c).marking c.free_cell.new.self c.args.cell used (ap (λ (l : Chains). l.lists) c.free_cell.ensures.after) (ap (λ (l : Chains). l.cells) c.free_cell.ensures.after) c.free_cell.ensures.disjoint

pub returns-clause-owner : goal.returns-clause-owner
returns-clause-owner c =
    let own = the_owner (owner c.args.self.now c.args.cell) c.requires in
    seen_freed c.self.invariant c.args.self.now c.self.view_is c.free_cell.new.self c.args.cell own.0 own.1 (freed c)

pub returns-clause-dirty : goal.returns-clause-dirty
returns-clause-dirty c serial own =
    ap (λ (l : Chains). dirty_in c.self.inside.serials.items (cells_in l.lists c.self.inside.list)) c.free_cell.ensures.after
    ∙ seen_dirty c.self.invariant c.args.self.now c.self.view_is c.loosen.new.links c.args.cell (after c) serial own
