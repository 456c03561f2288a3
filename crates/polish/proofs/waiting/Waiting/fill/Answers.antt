use Rattle.std.proofs.Common.{◌∙◌, ap, arith, ◌++◌, ◌∷◌, []}
use Rattle.polish.proofs.Queues.{IsLoose-IsWaiting, IsWaiting-after, cells_in-after, range-push, range-below}
use Rattle.polish.proofs.waiting.Waiting.fill.Goals as goal

pub push_back-requires-clause-loose : goal.push_back-requires-clause-loose
push_back-requires-clause-loose c =
    IsLoose-IsWaiting c.loop-positioner.self-inside.links c.loop-positioner.self-inside.list _ c.loop-positioner.positioner c.loop-positioner.invariant.0
    (λ place e. let below = range-below 0 c.loop-positioner.positioner place c.loop-positioner.positioner (rw c.loop-positioner.invariant.1.0 at e) in omega arith)

pub loop-positioner-preserved : goal.loop-positioner-preserved
loop-positioner-preserved c =
    let waiting = c.loop-positioner.invariant.0 in
    let list = c.loop-positioner.self-inside.list in
    let more = c.push_back.ensures.after in (
      IsWaiting-after c.loop-positioner.self-inside.links c.push_back.new.self list _ _ waiting more,
      (
        cells_in-after c.loop-positioner.self-inside.links c.push_back.new.self list _ _ waiting more
            ∙ (ap (λ xs. xs ++ c.loop-positioner.positioner ∷ []) c.loop-positioner.invariant.1.0 ∙ range-push c.loop-positioner.positioner),
        c.loop-positioner.invariant.1.1,
      ),
    )
