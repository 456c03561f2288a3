-- The last token of a slice is the last one that contracts see.
use Rattle.std.proofs.Common.{ap, ◌∙◌}
use Rattle.qml_stmt.specs.Seen.{seen}
use Rattle.qml_stmt.proofs.Seen.{last_seen}
use Rattle.qml_stmt.proofs.ends.last_of.Goals as goal

pub returns : goal.returns
returns c = ap seen c.last.ensures.value ∙ last_seen c.args.tokens.now
