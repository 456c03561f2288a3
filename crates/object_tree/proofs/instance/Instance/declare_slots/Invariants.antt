use Rattle.std.proofs.Common.{◌≡◌, drop, fold}
use Rattle.object_tree.specs.Making.{with_declared_slot}
use Rattle.object_tree.proofs.instance.Instance.declare_slots.Given as goal

-- with those that are left, the object will have all
abbrev pub invariant-loop-decl : goal.invariant-loop-decl
invariant-loop-decl l = fold (with_declared_slot l.settle) l.self (drop l.decl-index l.decls) ≡ fold (with_declared_slot l.settle) l.fn.self l.decls
