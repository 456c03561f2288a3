use Rattle.std.proofs.Common.{ap, sym, ◌∙◌, arith}
use Rattle.std.proofs.lemmas.Option.{slice_get-get_or}
use Rattle.sg_nodes.specs.Forest.{Forest}
use Rattle.sg_nodes.specs.Stored.{forest_of}
use Rattle.sg_sync.specs.Own.{slots_of}
use Rattle.sg_sync.proofs.Dressed.{child_group}
use Rattle.sg_sync.proofs.Hanging.{flat_after}
use Rattle.sg_sync.proofs.Parking.{park_can}
use Rattle.sg_sync.proofs.link.park_all.Goals as goal

pub hang-requires-clause-is_item : goal.hang-requires-clause-is_item
hang-requires-clause-is_item c =
    c.requires.items _ (c.loop-serial.serial-index, slice_get-get_or c.args.serials.now c.loop-serial.serial-index 0 (omega arith))

pub hang-requires-clause-grown : goal.hang-requires-clause-grown
hang-requires-clause-grown c item child e is = child_group c.requires.dressing _ child item e is

pub hang-requires-clause-can_move : goal.hang-requires-clause-can_move
hang-requires-clause-can_move c =
    park_can c.requires.dressing (forest_of c.loop-serial.nodes) (c.loop-serial.invariant.0 ∙ ap (λ (h : Forest). record (forest_of c.args.nodes.now) { children = h.children }) (sym c.loop-serial.invariant.0))
    c.args.root.slot _ c.loop-serial.invariant.1 c.requires.is_root c.requires.is_group

pub loop-serial-preserved : goal.loop-serial-preserved
loop-serial-preserved c = (
  flat_after (slots_of c.args.scene.now.items) c.args.serials.now c.args.root.slot c.loop-serial.serial-index 0 (omega arith) (forest_of c.args.nodes.now) (forest_of c.loop-serial.nodes) (forest_of c.hang.new.nodes)
      c.loop-serial.invariant.0 c.hang.ensures.after,
  c.hang.ensures.forest,
)
