use Rattle.std.proofs.Common.{◌≡◌, map as list_map, take}
use Rattle.sg_nodes.specs.Forest.{IsForest}
use Rattle.sg_nodes.specs.Stored.{forest_of}
use Rattle.sg_sync.specs.Own.{slot_or}
use Rattle.sg_sync.specs.Linking.{linked}
use Rattle.sg_sync.proofs.link.hang_groups.Given as goal

abbrev pub invariant-loop-serial : goal.invariant-loop-serial
invariant-loop-serial l =
    (forest_of l.nodes ≡ record (forest_of l.initial.nodes) { children = linked (forest_of l.initial.nodes).children (list_map (slot_or l.scene.items) (take l.serial-index l.serials)) l.parent.slot })
    × IsForest (forest_of l.nodes)
