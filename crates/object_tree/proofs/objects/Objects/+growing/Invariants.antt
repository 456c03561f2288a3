use Rattle.std.proofs.Common.{◌≡◌, drop, fold, map}
use Rattle.object_tree.specs.Growing.{grower_of, with_grown, object_grower}
use Rattle.object_tree.specs.Undoing.{GoesOn, IsLastOf, documents_of}
use Rattle.object_tree.proofs.objects.Objects.+growing.Given as goal

-- with those that are left, all objects will be made; and the making goes on
abbrev pub invariant-add_rest-loop-object : goal.invariant-add_rest-loop-object
invariant-add_rest-loop-object l =
    (fold (with_grown l.component l.number) l.self (map object_grower (drop l.object-index l.objects)) ≡ (grower_of l.component).below l.number l.serial l.fn.self)
    × GoesOn (IsLastOf (documents_of l.component) l.number) l.fn.self l.self
