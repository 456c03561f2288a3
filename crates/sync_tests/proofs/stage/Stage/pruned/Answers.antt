use Rattle.std.proofs.Common.{ap, ◌∙◌, refl, is_some}
use Rattle.std.specs.FinMap as map
use Rattle.scene.specs.Picture.{Picture}
use Rattle.sync_tests.proofs.Maps.{put_same}
use Rattle.sync_tests.proofs.Pruning.{pruned_staged, all_pruned}
use Rattle.sync_tests.proofs.stage.Stage.pruned.Goals as goal

pub mark-requires : goal.mark-requires
mark-requires c =
    ap (λ (p : Picture). is_some (map.get p.items c.args.parent)) c.in_ok-put.ensures.ok ∙ ap is_some (put_same c.remove.new.self.items c.args.parent c.in_ok-narrower.narrower c.args.parent refl)

pub invariant_of-result-2 : goal.invariant_of-result-2
invariant_of-result-2 c =
    let leaf = c.in-Some.ensures in
    pruned_staged c.self.invariant c.changes_agree.ensures c.args.parent c.in-Some.child leaf c.in_ok-narrower.narrower
    (c.in_ok-narrower.ensures.children leaf.item leaf.others c.in-Some.child leaf.at leaf.last) c.in_ok-narrower.ensures.under c.mark.new.self
    (all_pruned c.self.inside.scene c.remove.new.self c.put.new.self c.mark.new.self c.args.parent c.in-Some.child c.in_ok-narrower.narrower c.remove.ensures c.in_ok-put.ensures.ok c.mark.ensures)
