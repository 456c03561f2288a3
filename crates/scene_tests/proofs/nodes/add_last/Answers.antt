use Rattle.sg_nodes.specs.Stored.{forest_of}
use Rattle.sg_nodes.proofs.Callers.{made_live, made_not_above}
use Rattle.scene_tests.proofs.nodes.add_last.Goals as goal

pub insert_before-requires-clause-live : goal.insert_before-requires-clause-live
insert_before-requires-clause-live c = made_live (forest_of c.reserve.new.self) (forest_of c.make-key.new.self) c.make-key.result.slot _ _ c.make-key.ensures.after

pub insert_before-requires-clause-not_above : goal.insert_before-requires-clause-not_above
insert_before-requires-clause-not_above c =
    made_not_above (forest_of c.reserve.new.self) (forest_of c.make-key.new.self) c.make-key.result.slot _ _ c.make-key.ensures.after
    c.make-key.ensures.childless c.args.parent.slot c.if-key-parent.true
