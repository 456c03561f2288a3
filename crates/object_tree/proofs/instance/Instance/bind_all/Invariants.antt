use Rattle.std.proofs.Common.{◌≡◌, drop, fold}
use Rattle.object_tree.specs.Making.{with_init}
use Rattle.object_tree.proofs.instance.Instance.bind_all.Given as goal

-- with those that are left, the object will have all
abbrev pub invariant-loop-init : goal.invariant-loop-init
invariant-loop-init l = fold (with_init l.context) l.self (drop l.init-index l.inits) ≡ fold (with_init l.context) l.fn.self l.inits
