use Rattle.std.proofs.Common.{◌≡◌, drop, fold}
use Rattle.object_tree.specs.Making.{with_declared_method}
use Rattle.object_tree.proofs.instance.Instance.declare_methods.Given as goal

-- with those that are left, the object will have all
abbrev pub invariant-loop-decl : goal.invariant-loop-decl
invariant-loop-decl l = fold with_declared_method l.self (drop l.decl-index l.decls) ≡ fold with_declared_method l.fn.self l.decls
