use Rattle.std.proofs.Common.{◌≡◌, map as list_map, take}
use Rattle.sg_nodes.specs.Forest.{IsForest, slot_of}
use Rattle.sg_nodes.specs.Stored.{forest_of}
use Rattle.sg_sync.specs.Linking.{linked}
use Rattle.sg_sync.proofs.link.hang_keys.Given as goal

abbrev pub invariant-loop-key : goal.invariant-loop-key
invariant-loop-key l =
    (forest_of l.nodes ≡ record (forest_of l.initial.nodes) { children = linked (forest_of l.initial.nodes).children (list_map slot_of (take l.key-index l.keys)) l.parent.slot })
    × IsForest (forest_of l.nodes)
