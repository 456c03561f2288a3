use Rattle.std.proofs.Common.{◌≡◌, List, ℕ, false}
use Rattle.std.specs.Prelude.{bytes_eq}
use Rattle.type_table.specs.Slots.{slots}
use Rattle.qml_types.specs.Scope.{dotted}
use Rattle.object_tree.specs.Layers.{path_of}
use Rattle.object_tree.proofs.Turns.{none_more, some_along}
use Rattle.object_tree.proofs.declaring.find_dotted.Goals as goal

pub loop-slot-preserved : goal.loop-slot-preserved
loop-slot-preserved c =
    let P : List ℕ → Type 0 = λ path. bytes_eq path (dotted c.args.first.now c.args.second.now) ≡ false in
    let path = c.as_bytes.ensures.value in
    let first = c.as_bytes-in-loop-slot.ensures.value in
    let second = c.as_bytes-in-loop-slot-2.ensures.value in
    let no = c.if-is_dotted.ensures in
    let fails : P c.slot_path-path.result.now = cc in
    none_more (λ s. bytes_eq s.path (dotted c.args.first.now c.args.second.now)) (slots c.args.built_in) c.loop-slot.slot
    (some_along path_of P _ c.slot_path-path.result.now c.slot_path-path.ensures.path fails) c.loop-slot.invariant
