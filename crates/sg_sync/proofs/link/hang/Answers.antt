use Rattle.std.proofs.Common.{map as list_map, take, drop, refl, ap, sym, ◌∙◌, subst}
use Rattle.std.proofs.lemmas.List.{take-append-drop}
use Rattle.scene.specs.Keys.{rect_keys}
use Rattle.sg_sync.specs.Linking.{CanMove}
use Rattle.sg_sync.proofs.Linking.{can_first}
use Rattle.sg_nodes.specs.Forest.{slot_of}
use Rattle.sg_nodes.specs.Stored.{forest_of}
use Rattle.sg_sync.specs.Own.{IsIn, slot_or}
use Rattle.sg_sync.proofs.Members.{in_left, in_right}
use Rattle.sg_sync.proofs.Hanging.{item_read, own_read, can_ys, can_zs, all_moved}
use Rattle.sg_sync.proofs.link.hang.Goals as goal

pub hang_groups-requires-clause-groups : goal.hang_groups-requires-clause-groups
hang_groups-requires-clause-groups c serial is =
    c.requires.grown _ serial (item_read _ c.in-Some.paint.now c.in-Some-keys.keys c.requires.is_item c.in-Some.ensures.paint (sym c.in-Some-keys.is ∙ c.keys.ensures))
    (subst (λ xs. IsIn xs serial) (take-append-drop c.in-Some.paint.now.under c.in-Some.paint.now.children)
    (in_left (take c.in-Some.paint.now.under c.in-Some.paint.now.children) (drop c.in-Some.paint.now.under c.in-Some.paint.now.children) serial
    (subst (λ xs. IsIn xs serial) (c.split_at.ensures.front ∙ ap (take c.in-Some.paint.now.under) c.as_slice.ensures) is)))

pub hang_groups-requires-2-clause-groups : goal.hang_groups-requires-2-clause-groups
hang_groups-requires-2-clause-groups c serial is =
    c.requires.grown _ serial (item_read _ c.in-Some.paint.now c.in-Some-keys.keys c.requires.is_item c.in-Some.ensures.paint (sym c.in-Some-keys.is ∙ c.keys.ensures))
    (subst (λ xs. IsIn xs serial) (take-append-drop c.in-Some.paint.now.under c.in-Some.paint.now.children)
    (in_right (take c.in-Some.paint.now.under c.in-Some.paint.now.children) (drop c.in-Some.paint.now.under c.in-Some.paint.now.children) serial
    (subst (λ xs. IsIn xs serial) (c.split_at.ensures.back ∙ ap (drop c.in-Some.paint.now.under) c.as_slice.ensures) is)))

pub hang_groups-requires-clause-can_move : goal.hang_groups-requires-clause-can_move
hang_groups-requires-clause-can_move c =
    can_first (forest_of c.args.nodes.now) c.args.parent.slot (list_map (slot_or c.args.scene.now.items) c.split_at.result.0.now) _
    (subst (CanMove (forest_of c.args.nodes.now) c.args.parent.slot)
    (own_read c.args.scene.now.items c.args.serial c.in-Some.paint.now c.in-Some-keys.keys c.as_slice.result.now c.split_at.result.0.now c.split_at.result.1.now (rect_keys c.in-Some-keys.keys.rects)
    c.requires.is_item c.in-Some.ensures.paint (sym c.in-Some-keys.is ∙ c.keys.ensures) c.as_slice.ensures c.split_at.ensures.front c.split_at.ensures.back refl)
    c.requires.can_move)

pub hang_keys-requires-clause-can_move : goal.hang_keys-requires-clause-can_move
hang_keys-requires-clause-can_move c =
    can_ys (forest_of c.args.nodes.now) (forest_of c.hang_groups.new.nodes) (forest_of c.hang_groups.new.nodes) (forest_of c.hang_groups.new.nodes) c.args.parent.slot
    (list_map (slot_or c.args.scene.now.items) c.split_at.result.0.now) (list_map slot_of c.rect_slice.result.now) (list_map (slot_or c.args.scene.now.items) c.split_at.result.1.now) _
    (own_read c.args.scene.now.items c.args.serial c.in-Some.paint.now c.in-Some-keys.keys c.as_slice.result.now c.split_at.result.0.now c.split_at.result.1.now c.rect_slice.result.now
    c.requires.is_item c.in-Some.ensures.paint (sym c.in-Some-keys.is ∙ c.keys.ensures) c.as_slice.ensures c.split_at.ensures.front c.split_at.ensures.back c.rect_slice.ensures.keys)
    c.requires.can_move c.hang_groups.ensures.after

pub hang_groups-requires-2-clause-can_move : goal.hang_groups-requires-2-clause-can_move
hang_groups-requires-2-clause-can_move c =
    can_zs (forest_of c.args.nodes.now) (forest_of c.hang_groups.new.nodes) (forest_of c.hang_keys.new.nodes) (forest_of c.hang_keys.new.nodes) c.args.parent.slot
    (list_map (slot_or c.args.scene.now.items) c.split_at.result.0.now) (list_map slot_of c.rect_slice.result.now) (list_map (slot_or c.args.scene.now.items) c.split_at.result.1.now) _
    (own_read c.args.scene.now.items c.args.serial c.in-Some.paint.now c.in-Some-keys.keys c.as_slice.result.now c.split_at.result.0.now c.split_at.result.1.now c.rect_slice.result.now
    c.requires.is_item c.in-Some.ensures.paint (sym c.in-Some-keys.is ∙ c.keys.ensures) c.as_slice.ensures c.split_at.ensures.front c.split_at.ensures.back c.rect_slice.ensures.keys)
    c.requires.can_move c.hang_groups.ensures.after c.hang_keys.ensures.after

pub returns-clause-after : goal.returns-clause-after
returns-clause-after c =
    all_moved (forest_of c.args.nodes.now) (forest_of c.hang_groups.new.nodes) (forest_of c.hang_keys.new.nodes) (forest_of c.hang_groups-2.new.nodes) c.args.parent.slot
    (list_map (slot_or c.args.scene.now.items) c.split_at.result.0.now) (list_map slot_of c.rect_slice.result.now) (list_map (slot_or c.args.scene.now.items) c.split_at.result.1.now) _
    (own_read c.args.scene.now.items c.args.serial c.in-Some.paint.now c.in-Some-keys.keys c.as_slice.result.now c.split_at.result.0.now c.split_at.result.1.now c.rect_slice.result.now
    c.requires.is_item c.in-Some.ensures.paint (sym c.in-Some-keys.is ∙ c.keys.ensures) c.as_slice.ensures c.split_at.ensures.front c.split_at.ensures.back c.rect_slice.ensures.keys)
    c.requires.can_move c.hang_groups.ensures.after c.hang_keys.ensures.after c.hang_groups-2.ensures.after
