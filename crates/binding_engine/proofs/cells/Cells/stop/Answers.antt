use Rattle.std.proofs.Common.{◌∙◌, ap, arith}
use Rattle.std.proofs.lemmas.Bool.Decides.{nat_tests}
use Rattle.binding_engine.specs.declared.cells.Stage.TheVariants as stage
use Rattle.binding_engine.proofs.Moves.{set_staged, not_staged}
use Rattle.binding_engine.proofs.cells.Cells.stop.Goals as goal
use Rattle.binding_engine.proofs.cells.Cells.stop.Goals.{in-Some, in-None}

pub returns : goal.returns
returns c =
    elim c.match-get_mut.branch [
      | in-Some w ↦
          set_staged _ c.args.place stage.Stopped c.args.self.now c.self.inside.entries.entries c.match-get_mut.self-inside.entries.entries w.in-Some.present.now w.stop.new.self
          (λ q. grind (arith, nat_tests)) c.self.view_is w.in-Some.ensures.value w.stop.ensures (ap (λ i. i.entries.entries) w.self-inside-is ∙ (c.get_mut.follows.holds w.stop.new.self).0)
      | in-None w ↦
          not_staged _ c.args.place stage.Stopped c.args.self.now c.self.inside.entries.entries c.match-get_mut.self-inside.entries.entries
          (λ q. grind (arith, nat_tests)) c.self.view_is w.in-None.ensures.value (ap (λ i. i.entries.entries) w.self-inside-is ∙ ap (λ m. m.entries) c.get_mut.follows.holds-at-none)
    ]
