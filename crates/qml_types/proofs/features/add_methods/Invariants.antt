use Rattle.std.proofs.Common.{◌≡◌, map, drop, fold}
use Rattle.qml_types.specs.Features.{with_feature, method_feature}
use Rattle.qml_types.proofs.features.add_methods.Given as goal

-- with those that are left, the features will have all
abbrev pub invariant-loop-method : goal.invariant-loop-method
invariant-loop-method l =
    fold with_feature l.features (map method_feature (drop l.method-index l.methods)) ≡ fold with_feature l.fn.features (map method_feature l.methods)
