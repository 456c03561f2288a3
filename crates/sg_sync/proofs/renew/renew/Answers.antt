use Rattle.std.proofs.Common.{◌∷◌, map as list_map, sym, ◌∙◌, subst}
use Rattle.item_geometry.specs.Rectangle.{parts_of}
use Rattle.scene.specs.Keys.{rect_keys, keys_of}
use Rattle.scene.specs.Picture.{Item}
use Rattle.sg_nodes.specs.Stored.{forest_of}
use Rattle.sg_sync.specs.Swapping.{Swapped, group_node, rect_node}
use Rattle.sg_sync.proofs.Hanging.{item_read}
use Rattle.sg_sync.proofs.Renewing.{group_own, rect_own_after, all_renewed}
use Rattle.std.proofs.lemmas.Option.{same_Some}
use Rattle.sg_sync.proofs.renew.renew.Goals as goal

pub renew_group-group-requires-clause-of_item : goal.renew_group-group-requires-clause-of_item
renew_group-group-requires-clause-of_item c =
    group_own (c.requires.can_renew _ (item_read _ c.in-Some.paint.now c.in-Some-keys.old c.requires.is_item c.in-Some.ensures.paint (sym c.in-Some-keys.is ∙ c.keys.ensures)))

pub renew_rects-rects-requires-clause-of_item : goal.renew_rects-rects-requires-clause-of_item
renew_rects-rects-requires-clause-of_item c =
    rect_own_after (c.requires.can_renew _ (item_read _ c.in-Some.paint.now c.in-Some-keys.old c.requires.is_item c.in-Some.ensures.paint (sym c.in-Some-keys.is ∙ c.keys.ensures)))
    c.renew_group-group.ensures.swapped

pub returns-clause-swapped : goal.returns-clause-swapped
returns-clause-swapped c item e =
    let read = item_read _ c.in-Some.paint.now c.in-Some-keys.old c.requires.is_item c.in-Some.ensures.paint (sym c.in-Some-keys.is ∙ c.keys.ensures) in
    subst (λ (i : Item). Swapped (forest_of c.args.nodes.now) (forest_of c.renew_rects-rects.new.nodes) (keys_of i.keys) (c.renew_group-group.result ∷ rect_keys c.renew_rects-rects.result) (rect_keys i.keys.rects)
    (group_node c.args.serial i.paint ∷ list_map (rect_node c.args.serial) (parts_of i.paint.rects))) (same_Some _ item (sym read ∙ e))
    (all_renewed (c.requires.can_renew _ read) c.renew_group-group.ensures.swapped c.renew_rects-rects.ensures.swapped)
