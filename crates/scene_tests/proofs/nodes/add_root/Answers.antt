use Rattle.sg_nodes.specs.Stored.{forest_of}
use Rattle.sg_nodes.proofs.Callers.{made_live, made_free}
use Rattle.scene_tests.proofs.nodes.add_root.Goals as goal

pub set_root-requires-clause-live : goal.set_root-requires-clause-live
set_root-requires-clause-live c = made_live (forest_of c.reserve.new.self) (forest_of c.make-key.new.self) c.make-key.result.slot _ _ c.make-key.ensures.after

pub set_root-requires-clause-no_parent : goal.set_root-requires-clause-no_parent
set_root-requires-clause-no_parent c =
    made_free (forest_of c.reserve.new.self) (forest_of c.make-key.new.self) c.make-key.result.slot _ _ c.make-key.ensures.after c.make-key.ensures.no_parent
