use Rattle.std.proofs.Common.{◌≡◌, drop}
use Rattle.sg_nodes.specs.Forest.{IsForest}
use Rattle.sg_nodes.specs.Stored.{forest_of}
use Rattle.sg_sync.specs.Dressing.{AreParked, AreLinked}
use Rattle.sg_sync.proofs.link.link_all.Given as goal

abbrev pub invariant-loop-serial : goal.invariant-loop-serial
invariant-loop-serial l = record {
  after : forest_of l.nodes ≡ record (forest_of l.initial.nodes) { children = (forest_of l.nodes).children };
  parked : AreParked (forest_of l.nodes) l.scene.items l.scene.root;
  linked : AreLinked (forest_of l.nodes) l.scene.items (drop l.serial-index l.serials);
  forest : IsForest (forest_of l.nodes);
}
