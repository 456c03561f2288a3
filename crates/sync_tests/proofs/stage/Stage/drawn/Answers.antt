use Rattle.std.proofs.Common.{ap}
use Rattle.scene.specs.Picture.{Picture}
use Rattle.sg_nodes.specs.Stored.{forest_of}
use Rattle.sync_tests.proofs.Staging.{synced_staged}
use Rattle.sync_tests.proofs.stage.Stage.drawn.Goals as goal

pub raster-requires-clause-shallow : goal.raster-requires-clause-shallow
raster-requires-clause-shallow c =
    c.standing_nodes_are_shallow.ensures (forest_of c.sync.new.nodes) c.sync.new.scene c.in_ok-_synced.ensures.forest c.in_ok-_synced.ensures.stand

pub invariant_of-result : goal.invariant_of-result
invariant_of-result c =
    synced_staged (forest_of c.self.inside.nodes) (forest_of c.sync.new.nodes) c.self.inside.scene c.sync.new.scene c.self.inside.deepest c.self.invariant
    c.in_ok-_synced.ensures.stand c.in_ok-_synced.ensures.paints (ap (λ (p : Picture). p.root) c.in_ok-_synced.ensures.rest)
