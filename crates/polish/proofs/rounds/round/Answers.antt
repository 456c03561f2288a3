use Rattle.std.proofs.Common.{◌∙◌, ap, refl}
use Rattle.polish.specs.Waiting.{Positioners}
use Rattle.polish.proofs.Steps.{IsLaidOut-none, IsLaidOut-more}
use Rattle.polish.proofs.rounds.round.Goals as goal

pub loop-positioner-init : goal.loop-positioner-init
loop-positioner-init g c = (
  IsLaidOut-none g.T.Layouts.lays_out _ _ _ _ (ap (λ (p : Positioners). p.left) c.fill.ensures) c.requires.count,
  (refl, ap (λ (p : Positioners). p.count) c.fill.ensures),
)

pub loop-positioner-preserved : goal.loop-positioner-preserved
loop-positioner-preserved g c = (
  IsLaidOut-more g.T.Layouts.lays_out _ _ _ _ _ _ _ _ _ c.loop-positioner.invariant.0 c.in-Some.ensures.first c.in_ok-wrote.ensures.laid_out,
  (c.layout.ensures.count ∙ c.loop-positioner.invariant.1.0, c.take_first.ensures.count ∙ c.loop-positioner.invariant.1.1),
)
