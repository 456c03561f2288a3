use Rattle.std.proofs.Common.{refl, arith}
use Rattle.sg_nodes.specs.Forest.{slot_of, key_of}
use Rattle.sg_nodes.specs.Stored.{forest_of}
use Rattle.sg_sync.proofs.Hanging.{step_live, step_parent, step_root, step_above, step_after}
use Rattle.sg_sync.proofs.link.hang_keys.Goals as goal

pub insert_before-requires-clause-live : goal.insert_before-requires-clause-live
insert_before-requires-clause-live c =
    step_live slot_of c.args.keys.now c.args.parent.slot c.loop-key.key-index (key_of 0) (omega arith) (forest_of c.args.nodes.now) (forest_of c.loop-key.nodes)
    c.requires.can_move c.loop-key.invariant.0 _ refl

pub insert_before-requires-clause-parent_live : goal.insert_before-requires-clause-parent_live
insert_before-requires-clause-parent_live c =
    step_parent slot_of c.args.keys.now c.args.parent.slot c.loop-key.key-index (key_of 0) (omega arith) (forest_of c.args.nodes.now) (forest_of c.loop-key.nodes)
    c.requires.can_move c.loop-key.invariant.0 _ refl

pub insert_before-requires-clause-not_root : goal.insert_before-requires-clause-not_root
insert_before-requires-clause-not_root c =
    step_root slot_of c.args.keys.now c.args.parent.slot c.loop-key.key-index (key_of 0) (omega arith) (forest_of c.args.nodes.now) (forest_of c.loop-key.nodes)
    c.requires.can_move c.loop-key.invariant.0 _ refl

pub insert_before-requires-clause-not_above : goal.insert_before-requires-clause-not_above
insert_before-requires-clause-not_above c =
    step_above slot_of c.args.keys.now c.args.parent.slot c.loop-key.key-index (key_of 0) (omega arith) (forest_of c.args.nodes.now) (forest_of c.loop-key.nodes)
    c.requires.can_move c.loop-key.invariant.0 _ refl

pub loop-key-preserved : goal.loop-key-preserved
loop-key-preserved c = (
  step_after slot_of c.args.keys.now c.args.parent.slot c.loop-key.key-index (key_of 0) (omega arith) (forest_of c.args.nodes.now) (forest_of c.loop-key.nodes)
      c.requires.can_move c.loop-key.invariant.0 _ refl (forest_of c.insert_before.new.self) c.insert_before.ensures.after,
  c.insert_before.ensures.forest,
)
