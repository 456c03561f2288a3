use Rattle.std.proofs.Common.{◌≡◌, is_some, false, arith}
use Rattle.qml_types.specs.Features.{meaning}
use Rattle.qml_types.proofs.Entries.{new_feature}
use Rattle.qml_types.proofs.features.FeatureMap.add.Goals as goal

pub returns-in_ok-insert : goal.returns-in_ok-insert
returns-in_ok-insert c =
    let absent : is_some (meaning c.args.name.now c.args.self.now) ≡ false = grind arith in
    let same : c.in_ok-copy.field-0 ≡ c.args.name.now = grind arith in
    let added = new_feature c.args.self.now c.args.name.now c.args.feature absent in
    cc (added, c.in_ok-insert.ensures.entries)
