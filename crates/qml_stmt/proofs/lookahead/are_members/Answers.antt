-- The loop ends at a token alone, which is no member, or at none.
use Rattle.std.proofs.Common.{sym, ◌∙◌}
use Rattle.qml_stmt.proofs.Seen.{members_end}
use Rattle.qml_stmt.proofs.lookahead.are_members.Goals as goal

pub returns : goal.returns
returns c = c.is_empty.ensures ∙ members_end c.loop-rest.rest.now c.in_default.len_below ∙ sym c.loop-rest.invariant
