use Rattle.std.proofs.Common.{◌≡◌, map, drop, fold}
use Rattle.qml_types.specs.Features.{with_feature, slot_feature}
use Rattle.qml_types.proofs.features.add_slots.Given as goal

-- with those that are left, the features will have all
abbrev pub invariant-loop-slot : goal.invariant-loop-slot
invariant-loop-slot l =
    fold with_feature l.features (map slot_feature (drop l.slot-index l.slots)) ≡ fold with_feature l.fn.features (map slot_feature l.slots)
