use Rattle.std.proofs.Common.{◌+◌, drop, is_some, ap, sym, subst, arith}
use Rattle.std.proofs.lemmas.Option.{slice_get-get_or}
use Rattle.std.proofs.lemmas.List.{drop_more}
use Rattle.sg_nodes.specs.Stored.{forest_of}
use Rattle.sg_sync.specs.Dressing.{AreLinked}
use Rattle.sg_sync.proofs.Dressed.{the_item, dressed, slot_is, child_group}
use Rattle.sg_sync.proofs.Hanging.{same_but_children}
use Rattle.sg_sync.proofs.Parking.{link_can, linked_parked, linked_more}
use Rattle.sg_sync.proofs.link.link_all.Goals as goal

pub group_key-requires : goal.group_key-requires
group_key-requires c =
    let found = the_item _ (c.requires.items _ (c.loop-serial.serial-index, slice_get-get_or c.args.serials.now c.loop-serial.serial-index 0 (omega arith))) in
    let has = dressed c.requires.dressing _ found.0 found.1 in
    ap is_some (slot_is c.args.scene.now.items _ found.0 has.group found.1 has.group_is)

pub hang-requires-clause-is_item : goal.hang-requires-clause-is_item
hang-requires-clause-is_item c =
    c.requires.items _ (c.loop-serial.serial-index, slice_get-get_or c.args.serials.now c.loop-serial.serial-index 0 (omega arith))

pub hang-requires-clause-grown : goal.hang-requires-clause-grown
hang-requires-clause-grown c item child e is = child_group c.requires.dressing _ child item e is

pub hang-requires-clause-can_move : goal.hang-requires-clause-can_move
hang-requires-clause-can_move c =
    link_can c.requires.dressing (forest_of c.loop-serial.nodes) c.loop-serial.invariant.after _ c.group_key.result.slot c.loop-serial.invariant.parked c.requires.is_root
    (c.requires.items _ (c.loop-serial.serial-index, slice_get-get_or c.args.serials.now c.loop-serial.serial-index 0 (omega arith))) (sym c.group_key.ensures)

pub loop-serial-preserved : goal.loop-serial-preserved
loop-serial-preserved c = record {
  after = same_but_children (forest_of c.args.nodes.now) (forest_of c.loop-serial.nodes) (forest_of c.hang.new.nodes) _ c.loop-serial.invariant.after c.hang.ensures.after;
  parked =
      linked_parked c.requires.dressing (forest_of c.loop-serial.nodes) c.loop-serial.invariant.after (forest_of c.hang.new.nodes) _ c.group_key.result.slot (sym c.group_key.ensures)
      c.hang.ensures.after c.loop-serial.invariant.parked;
  linked =
      linked_more c.requires.dressing (forest_of c.loop-serial.nodes) c.loop-serial.invariant.after (forest_of c.hang.new.nodes) _ c.group_key.result.slot (sym c.group_key.ensures)
      c.hang.ensures.after (drop (c.loop-serial.serial-index + 1) c.args.serials.now)
      (subst (AreLinked (forest_of c.loop-serial.nodes) c.args.scene.now.items) (drop_more c.args.serials.now c.loop-serial.serial-index 0 (omega arith)) c.loop-serial.invariant.linked);
  forest = c.hang.ensures.forest;
}
