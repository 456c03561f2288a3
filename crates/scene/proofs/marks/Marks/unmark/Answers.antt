use Rattle.scene.proofs.Cells.{Unmarks, unmark, seen_unmarked}
use Rattle.scene.proofs.marks.Marks.unmark.Goals as goal

after : (c : goal.After-loosen) → Unmarks c.self.invariant c.loosen.new.links c.args.cell
after c = unmark c.self.invariant c.loosen.new.links c.args.cell c.loosen.ensures.after c.loosen.ensures.disjoint

pub invariant_of-self : goal.invariant_of-self
invariant_of-self c = (after c).marking

pub returns : goal.returns
returns c = seen_unmarked c.self.invariant c.args.self.now c.self.view_is c.loosen.new.links c.args.cell (after c)
