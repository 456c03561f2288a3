use Rattle.std.proofs.Common.{◌≡◌, ◌∙◌, ap, refl, [], rules}
use Rattle.polish.specs.Waiting.{Positioners}
use Rattle.polish.proofs.Steps.{ChangingRounds-none, ChangingRounds-more}
use Rattle.polish.proofs.rounds.polish.Goals as goal

pub loop-before-init : goal.loop-before-init
loop-before-init g c =
    let left : c.in_ok-waiting.waiting.left ≡ [] = search rules in
    let count : c.in_ok-waiting.waiting.count ≡ g.T.Layouts.size c.args.layouts.now = search rules in
    (ChangingRounds-none g.T.Layouts.lays_out g.T.Layouts.settles _ _, (refl, (left, count)))

pub loop-before-preserved : goal.loop-before-preserved
loop-before-preserved g c =
    let so_far = c.loop-before.invariant in (
      ChangingRounds-more g.T.Layouts.lays_out g.T.Layouts.settles _ _ _ _ _ _ _ so_far.0 so_far.1.0 c.in_ok-round.ensures.round c.if-not-branch.false,
      (
        c.round.ensures.count ∙ so_far.1.0,
        (
          ap (λ (p : Positioners). p.left) c.in_ok-round.ensures.left ∙ so_far.1.1.0,
          ap (λ (p : Positioners). p.count) c.in_ok-round.ensures.left ∙ so_far.1.1.1,
        ),
      ),
    )
