use Rattle.std.proofs.Common.{◌∙◌, ◌+◌, ap, sym, fold, map, drop}
use Rattle.type_table.specs.Slots.{slots}
use Rattle.object_tree.specs.Making.{with_new, info_of}
use Rattle.object_tree.proofs.Turns.{left}
use Rattle.object_tree.proofs.declaring.new_properties.Goals as goal

pub loop-slot-preserved : goal.loop-slot-preserved
loop-slot-preserved c =
    let rest = map info_of (drop (c.loop-slot.slot + 1) (slots c.args.built_in)) in
    ap (λ b. fold (with_new c.args.settle c.args.serial) b rest) c.in_ok-add_property.ensures
    ∙ sym (left (with_new c.args.settle c.args.serial) info_of (slots c.args.built_in) c.loop-slot.slot c.slot_at-info.result c.loop-slot.properties c.slot_at-info.ensures)
    ∙ c.loop-slot.invariant
