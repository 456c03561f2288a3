use Rattle.std.proofs.Common.{◌++◌, ap, ◌∙◌, arith, rules}
use Rattle.std.specs.Prelude.{replicate}
use Rattle.stage_run.specs.Script.{frame_word}
use Rattle.stage_run.proofs.ScriptLemmas.{first_bad, one_more}
use Rattle.stage_run.proofs.script.read_script.Goals as goal
use Rattle.stage_run.proofs.script.read_script.Goals.{then-count-eq-MOST_COMMANDS-via-then-count-eq-MOST_COMMANDS, then-count-eq-MOST_COMMANDS-via-else-count-eq-MOST_COMMANDS+then-not-is_frame}

pub returns-then-count-eq-MOST_COMMANDS : goal.returns-then-count-eq-MOST_COMMANDS
returns-then-count-eq-MOST_COMMANDS c =
    let known = c.loop-rest.invariant.1 ∙ ap (λ lines. replicate c.loop-rest.count frame_word ++ lines) c.split_line.ensures.lines in
    first_bad c.args.bytes.now c.split_line.result.0.now c.split_line.result.1.now c.loop-rest.count known c.loop-rest.invariant.0
    (elim c.then-count-eq-MOST_COMMANDS.branch [
      | then-count-eq-MOST_COMMANDS-via-then-count-eq-MOST_COMMANDS w ↦ λ _. omega arith
      | then-count-eq-MOST_COMMANDS-via-else-count-eq-MOST_COMMANDS+then-not-is_frame w ↦ λ same. absurd (cc (w.is_frame.ensures.1 same))
    ])

pub loop-rest-preserved : goal.loop-rest-preserved
loop-rest-preserved c = one_more c.args.bytes.now c.split_line.result.0.now c.split_line.result.1.now c.loop-rest.count
    (c.loop-rest.invariant.1 ∙ ap (λ lines. replicate c.loop-rest.count frame_word ++ lines) c.split_line.ensures.lines)
    c.loop-rest.invariant.0 c.if-count-eq-MOST_COMMANDS.false
    (search rules)
