use Rattle.std.proofs.Common.{sym, ap, arith}
use Rattle.std.specs.Prelude.{unwrap_or}
use Rattle.std.proofs.lemmas.Option.{slice_get-get_or}
use Rattle.sg_nodes.specs.Stored.{forest_of}
use Rattle.sg_sync.specs.Own.{slot_or}
use Rattle.sg_sync.proofs.Hanging.{step_live, step_parent, step_root, step_above, step_after}
use Rattle.sg_sync.proofs.link.hang_groups.Goals as goal

pub group_key-requires : goal.group_key-requires
group_key-requires c =
    c.requires.groups _ (c.loop-serial.serial-index, slice_get-get_or c.args.serials.now c.loop-serial.serial-index 0 (omega arith))

pub insert_before-requires-clause-live : goal.insert_before-requires-clause-live
insert_before-requires-clause-live c =
    step_live (slot_or c.args.scene.now.items) c.args.serials.now c.args.parent.slot c.loop-serial.serial-index 0 (omega arith) (forest_of c.args.nodes.now) (forest_of c.loop-serial.nodes)
    c.requires.can_move c.loop-serial.invariant.0 _ (ap (λ o. unwrap_or o 0) (sym c.group_key.ensures))

pub insert_before-requires-clause-parent_live : goal.insert_before-requires-clause-parent_live
insert_before-requires-clause-parent_live c =
    step_parent (slot_or c.args.scene.now.items) c.args.serials.now c.args.parent.slot c.loop-serial.serial-index 0 (omega arith) (forest_of c.args.nodes.now) (forest_of c.loop-serial.nodes)
    c.requires.can_move c.loop-serial.invariant.0 _ (ap (λ o. unwrap_or o 0) (sym c.group_key.ensures))

pub insert_before-requires-clause-not_root : goal.insert_before-requires-clause-not_root
insert_before-requires-clause-not_root c =
    step_root (slot_or c.args.scene.now.items) c.args.serials.now c.args.parent.slot c.loop-serial.serial-index 0 (omega arith) (forest_of c.args.nodes.now) (forest_of c.loop-serial.nodes)
    c.requires.can_move c.loop-serial.invariant.0 _ (ap (λ o. unwrap_or o 0) (sym c.group_key.ensures))

pub insert_before-requires-clause-not_above : goal.insert_before-requires-clause-not_above
insert_before-requires-clause-not_above c =
    step_above (slot_or c.args.scene.now.items) c.args.serials.now c.args.parent.slot c.loop-serial.serial-index 0 (omega arith) (forest_of c.args.nodes.now) (forest_of c.loop-serial.nodes)
    c.requires.can_move c.loop-serial.invariant.0 _ (ap (λ o. unwrap_or o 0) (sym c.group_key.ensures))

pub loop-serial-preserved : goal.loop-serial-preserved
loop-serial-preserved c = (
  step_after (slot_or c.args.scene.now.items) c.args.serials.now c.args.parent.slot c.loop-serial.serial-index 0 (omega arith) (forest_of c.args.nodes.now) (forest_of c.loop-serial.nodes)
      c.requires.can_move c.loop-serial.invariant.0 _ (ap (λ o. unwrap_or o 0) (sym c.group_key.ensures)) (forest_of c.insert_before.new.self) c.insert_before.ensures.after,
  c.insert_before.ensures.forest,
)
