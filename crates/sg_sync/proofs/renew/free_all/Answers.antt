use Rattle.std.proofs.Common.{List, [], refl, ap, ◌∙◌, subst, arith}
use Rattle.std.proofs.lemmas.List.{take_all}
use Rattle.links.specs.declared.node_key.NodeKey.{NodeKey}
use Rattle.sg_nodes.specs.Forest.{Forest}
use Rattle.sg_nodes.specs.Stored.{forest_of}
use Rattle.sg_sync.specs.Swapping.{Swapped}
use Rattle.sg_sync.proofs.Swapping.{swapped_none}
use Rattle.sg_sync.proofs.Freeing.{free_live, free_more}
use Rattle.sg_sync.proofs.renew.free_all.Goals as goal

pub release-requires : goal.release-requires
release-requires c =
    free_live (forest_of c.args.nodes.now) (forest_of c.loop-key.nodes) c.args.keys.now c.loop-key.key-index (omega arith) c.requires.live c.requires.distinct c.loop-key.invariant.swapped

pub loop-key-init : goal.loop-key-init
loop-key-init c = record {
  swapped = swapped_none (forest_of c.args.nodes.now);
  spare = refl;
  forest = c.requires.forest;
}

pub loop-key-preserved : goal.loop-key-preserved
loop-key-preserved c = record {
  swapped =
      free_more (forest_of c.args.nodes.now) (forest_of c.loop-key.nodes) c.args.keys.now c.loop-key.key-index (omega arith) c.requires.distinct c.loop-key.invariant.swapped
      (forest_of c.release.new.self) c.release.ensures.after;
  spare = ap (λ (h : Forest). h.spare) c.release.ensures.after ∙ c.loop-key.invariant.spare;
  forest = c.release.ensures.forest;
}

pub returns-clause-swapped : goal.returns-clause-swapped
returns-clause-swapped c =
    subst (λ (xs : List NodeKey). Swapped (forest_of c.args.nodes.now) (forest_of c.loop-key.nodes) xs [] xs []) (take_all c.loop-key.key-index c.args.keys.now (omega arith)) c.loop-key.invariant.swapped
