use Rattle.std.proofs.Common.{ap}
use Rattle.scene.specs.Picture.{Picture}
use Rattle.sg_nodes.specs.Stored.{forest_of}
use Rattle.sync_tests.proofs.Staging.{synced_staged}
use Rattle.sync_tests.proofs.stage.Stage.synced.Goals as goal

pub invariant_of-result : goal.invariant_of-result
invariant_of-result c =
    synced_staged (forest_of c.self.inside.nodes) (forest_of c.sync.new.nodes) c.self.inside.scene c.sync.new.scene c.self.inside.deepest c.self.invariant
    c.in_ok-synced.ensures.stand c.in_ok-synced.ensures.paints (ap (λ (p : Picture). p.root) c.in_ok-synced.ensures.rest)
