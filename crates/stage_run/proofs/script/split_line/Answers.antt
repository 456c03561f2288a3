use Rattle.std.proofs.Common.{ap, ◌∙◌}
use Rattle.std.specs.Prelude.{length, unwrap_or}
use Rattle.stage_run.proofs.ScriptLemmas.{line_len-position, lines-split}
use Rattle.stage_run.proofs.script.split_line.Goals as goal

pub returns-clause-lines : goal.returns-clause-lines
returns-clause-lines c =
    lines-split c.args.bytes.now _ _ c.requires
    (c.unwrap_or-end.ensures ∙ ap (λ place. unwrap_or place (length c.args.bytes.now)) c.line_end.ensures.place ∙ line_len-position c.args.bytes.now)
    c.min-next.ensures
