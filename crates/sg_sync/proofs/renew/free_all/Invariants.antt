use Rattle.std.proofs.Common.{◌≡◌, [], take}
use Rattle.sg_nodes.specs.Forest.{IsForest}
use Rattle.sg_nodes.specs.Stored.{forest_of}
use Rattle.sg_sync.specs.Swapping.{Swapped}
use Rattle.sg_sync.proofs.renew.free_all.Given as goal

abbrev pub invariant-loop-key : goal.invariant-loop-key
invariant-loop-key l = record {
  swapped : Swapped (forest_of l.initial.nodes) (forest_of l.nodes) (take l.key-index l.keys) [] (take l.key-index l.keys) [];
  spare : l.nodes.spare ≡ l.initial.nodes.spare;
  forest : IsForest (forest_of l.nodes);
}
