use Rattle.std.proofs.Common.{◌≡◌, fold, drop, []}
use Rattle.expr_eval.specs.Traces.{noted}
use Rattle.object_tree.proofs.ignored.each_once.Given as goal

abbrev pub invariant-loop-place : goal.invariant-loop-place
invariant-loop-place l = fold noted l.set.keys (drop l.place-index l.places) ≡ fold noted [] l.places
