use Rattle.std.proofs.Common.{◌≡◌, [], drop}
use Rattle.type_loader.specs.Order.{known_of, made_by}
use Rattle.type_loader.proofs.compiling.made_all.Given as goal

abbrev pub invariant-loop-name : goal.invariant-loop-name
invariant-loop-name l = record {
  known : l.known ≡ known_of l.made;
  left : made_by l.sources l.made (drop l.name-index l.order) ≡ made_by l.sources [] l.order;
}
