-- The tokens in front of the rest are those that were read.
use Rattle.std.proofs.Common.{arith}
use Rattle.qml_stmt.proofs.Seen.{since_seen}
use Rattle.qml_stmt.proofs.ends.since.Goals as goal

pub returns : goal.returns
returns c = since_seen c.args.before.now c.args.now.now c.saturating_sub.result (omega (arith, c.saturating_sub.ensures))
