use Rattle.std.proofs.Common.{◌≡◌, map, drop, fold}
use Rattle.qml_types.specs.Features.{with_feature, signal_feature}
use Rattle.qml_types.proofs.features.add_signals.Given as goal

-- with those that are left, the features will have all
abbrev pub invariant-loop-signal : goal.invariant-loop-signal
invariant-loop-signal l =
    fold with_feature l.features (map signal_feature (drop l.signal-index l.signals)) ≡ fold with_feature l.fn.features (map signal_feature l.signals)
