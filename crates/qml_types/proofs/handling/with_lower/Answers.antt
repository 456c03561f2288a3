use Rattle.std.proofs.Common.{arith}
use Rattle.std.proofs.lemmas.Str.{IsCharBoundary-after_ascii}
use Rattle.qml_types.proofs.Texts.{upper_first_is}
use Rattle.qml_types.proofs.handling.with_lower.Goals as goal

pub range_from-requires : goal.range_from-requires
range_from-requires c =
    let first = upper_first_is c.args.name.now c.requires.upper in
    λ _. IsCharBoundary-after_ascii c.args.name.now 0 c.utf8.name first.0 (omega (arith, first.1))
