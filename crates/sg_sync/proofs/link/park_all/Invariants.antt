use Rattle.std.proofs.Common.{◌≡◌, take}
use Rattle.sg_nodes.specs.Forest.{IsForest}
use Rattle.sg_nodes.specs.Stored.{forest_of}
use Rattle.sg_sync.specs.Own.{all_slots}
use Rattle.sg_sync.specs.Linking.{linked}
use Rattle.sg_sync.proofs.link.park_all.Given as goal

abbrev pub invariant-loop-serial : goal.invariant-loop-serial
invariant-loop-serial l =
    (forest_of l.nodes ≡ record (forest_of l.initial.nodes) { children = linked (forest_of l.initial.nodes).children (all_slots l.scene.items (take l.serial-index l.serials)) l.root.slot })
    × IsForest (forest_of l.nodes)
