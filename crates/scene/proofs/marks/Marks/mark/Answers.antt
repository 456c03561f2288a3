use Rattle.std.proofs.Common.{◌≡◌, Bool, true, false, refl}
use Rattle.links.specs.Chains.{IsLoose}
use Rattle.scene.proofs.Cells.{Marks, mark_first, seen_marked, seen_again}
use Rattle.scene.proofs.marks.Marks.mark.Goals as goal

loose : (c : goal.After-push_back) → IsLoose c.self.inside.links c.args.cell
loose c list place stands = let no : ◌≡◌ {A = Bool} false true = c.if-not-is_linked.ensures.linked.1 (list, (place, stands)) in cc

after : (c : goal.After-push_back) → Marks c.self.invariant c.push_back.new.self c.args.cell
after c = mark_first c.self.invariant c.push_back.new.self c.args.cell (loose c) c.push_back.ensures.after c.push_back.ensures.disjoint

pub invariant_of-self : goal.invariant_of-self
invariant_of-self c = (after c).marking

pub returns-then-not-is_linked : goal.returns-then-not-is_linked
returns-then-not-is_linked c = seen_marked c.self.invariant c.args.self.now c.self.view_is c.push_back.new.self c.args.cell (after c)

pub returns-else-not-is_linked : goal.returns-else-not-is_linked
returns-else-not-is_linked c = seen_again c.self.invariant c.args.self.now c.self.view_is c.args.cell (c.if-not-is_linked.ensures.linked.0 refl)
