use Rattle.std.proofs.Common.{◌≡◌, ◌≤◌, ◌+◌, [], take, length, map as list_map}
use Rattle.sg_nodes.specs.Forest.{IsForest}
use Rattle.sg_nodes.specs.Stored.{forest_of}
use Rattle.sg_sync.specs.Swapping.{Swapped, rect_node}
use Rattle.sg_sync.proofs.renew.make_five.Given as goal

abbrev pub invariant-loop-i : goal.invariant-loop-i
invariant-loop-i l = record {
  swapped : Swapped (forest_of l.initial.nodes) (forest_of l.nodes) [] (take l.i l.keys) [] (list_map (rect_node l.serial) (take l.i l.parts));
  spare : l.initial.nodes.spare ≤ l.nodes.spare + l.i;
  len : length l.keys ≡ 5;
  forest : IsForest (forest_of l.nodes);
}
