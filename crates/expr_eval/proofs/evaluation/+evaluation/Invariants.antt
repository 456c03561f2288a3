use Rattle.std.proofs.Common.{◌≡◌, [], map, ◌+◌, ◌-◌, ◌*◌, drop}
use Rattle.expr_eval.specs.Evaluation.{values, meant}
use Rattle.expr_eval.specs.Progress.{Grows}
use Rattle.expr_eval.proofs.evaluation.+evaluation.Given as goal

-- The visits that are left fall: each call leads to the visit of a node, which counts.
abbrev pub decreases-sense : goal.decreases-sense
decreases-sense g l = 8 * (100000 - l.progress.now.nodes)

abbrev pub decreases-value : goal.decreases-value
decreases-value g l = 8 * (100000 - l.progress.now.nodes) + 1

abbrev pub decreases-sense_of_value : goal.decreases-sense_of_value
decreases-sense_of_value g l = 8 * (100000 - l.progress.now.nodes) + 2

abbrev pub decreases-values : goal.decreases-values
decreases-values g l = 8 * (100000 - l.progress.now.nodes) + 3

abbrev pub decreases-body_value : goal.decreases-body_value
decreases-body_value g l = 8 * (100000 - l.progress.now.nodes) + 4

abbrev pub decreases-method_call : goal.decreases-method_call
decreases-method_call g l = 8 * (100000 - l.progress.now.nodes) + 5

abbrev pub decreases-function_call : goal.decreases-function_call
decreases-function_call g l = 8 * (100000 - l.progress.now.nodes) + 5

abbrev pub decreases-called : goal.decreases-called
decreases-called g l = 8 * (100000 - l.progress.now.nodes) + 6

abbrev pub decreases-member_of : goal.decreases-member_of
decreases-member_of g l = 8 * (100000 - l.progress.now.nodes) + 6

abbrev pub decreases-prefixed : goal.decreases-prefixed
decreases-prefixed g l = 8 * (100000 - l.progress.now.nodes) + 6

abbrev pub decreases-joined : goal.decreases-joined
decreases-joined g l = 8 * (100000 - l.progress.now.nodes) + 6

abbrev pub decreases-either : goal.decreases-either
decreases-either g l = 8 * (100000 - l.progress.now.nodes) + 6

abbrev pub decreases-chosen : goal.decreases-chosen
decreases-chosen g l = 8 * (100000 - l.progress.now.nodes) + 6

-- the values so far, and those of the arguments that are left
abbrev pub invariant-values-loop-argument : goal.invariant-values-loop-argument
invariant-values-loop-argument g l =
    record {
      rest : values (g.R.Reader.clean l.at.reader.now) (g.R.Reader.means l.at.reader.now) l.values (map (meant (g.R.Reader.clean l.at.reader.now) (g.R.Reader.means l.at.reader.now) l.at.calls) (drop l.argument-index l.arguments)) (l.at.frame, l.at.locals.now) l.progress
          ≡ values (g.R.Reader.clean l.at.reader.now) (g.R.Reader.means l.at.reader.now) [] (map (meant (g.R.Reader.clean l.at.reader.now) (g.R.Reader.means l.at.reader.now) l.at.calls) l.arguments) (l.at.frame, l.at.locals.now) l.initial.progress;
      grows : Grows l.initial.progress l.progress;
    }
