use Rattle.std.proofs.Common.{ℕ, List, ◌∙◌, subst}
use Rattle.sg_nodes.specs.Stored.{forest_of}
use Rattle.sg_sync.specs.Own.{IsIn}
use Rattle.sg_sync.proofs.Finishing.{agree_spare, kept_node, none_dirty}
use Rattle.sg_sync.proofs.syncing.sync.Goals as goal

pub update-requires-clause-agree : goal.update-requires-clause-agree
update-requires-clause-agree c = agree_spare (forest_of c.args.nodes.now) (forest_of c.reserve.new.self) _ c.args.scene.now c.requires c.in_ok-reserve.ensures.ok

pub returns-clause-kept_nodes : goal.returns-clause-kept_nodes
returns-clause-kept_nodes c serial place slot item e still at =
    let same = c.update.ensures.others serial (λ is. still (subst (λ (xs : List ℕ). IsIn xs serial) (c.deref.ensures.value ∙ c.in_ok-serials.ensures.dirty) is)) in
    kept_node (forest_of c.args.nodes.now) (forest_of c.update.new.nodes) c.args.scene.now.items c.update.new.scene.items serial place slot item
    (c.requires.clean serial item e still)
    (c.update.ensures.stand.agree.clean serial item (same ∙ e) (λ dirty. none_dirty c.update.new.scene serial c.update.ensures.stand.none_dirty dirty)) at
