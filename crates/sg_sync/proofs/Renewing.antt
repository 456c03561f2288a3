-- The nodes of one item are brought up to date.
use Rattle.std.proofs.Common.{◌≡◌, ⊎_elim, ℕ, suc, ◌≤◌, length, List, [], ◌∷◌, Option, Some, None, is_some, option_map, refl, ap, sym, ◌∙◌, subst}
use Rattle.std.specs.List.{slice_get}
use Rattle.std.specs.FinMap as map
use Rattle.std.proofs.lemmas.Option.{none-some, same_Some}
use Rattle.links.specs.declared.node_key.NodeKey.{NodeKey}
use Rattle.scene.specs.declared.keys.ItemKeys.{ItemKeys}
use Rattle.scene.specs.declared.paint.Paint.{Paint}
use Rattle.scene.specs.Keys.{rect_keys, group_keys, keys_of}
use Rattle.scene.specs.Picture.{Item, Items, no_keys}
use Rattle.sg_nodes.specs.declared.node.Node.{Node}
use Rattle.sg_nodes.specs.declared.node.NodeKind.{NodeKind}
use Rattle.sg_nodes.specs.declared.node.NodeKind.TheVariants.{Group as GroupKind, Rect as RectKind}
use Rattle.sg_nodes.specs.Bodies.{HasKind, kind_of}
use Rattle.sg_nodes.specs.Forest.{Forest, key_of}
use Rattle.sg_standing.specs.Trees.{IsItem, Names, IsTree}
use Rattle.sg_standing.specs.Standing.{HasKinds}
use Rattle.sg_sync.specs.Own.{IsIn}
use Rattle.sg_sync.specs.Swapping.{IsSlotOf, Swapped, IsOfItem}
use Rattle.sg_sync.specs.Dressing.{SamePaints, CanRenew}
use Rattle.sg_sync.proofs.Members.{in_none, distinct_apart}
use Rattle.sg_sync.proofs.Dressed.{the_item, group_at, rect_at}
use Rattle.sg_sync.proofs.Swapping.{swapped_append}

-- items that are painted alike are one tree where the others are
abbrev pub paint_of : Option Item → Option Paint
paint_of o = option_map (λ (i : Item). i.paint) o

pub alike : (o p : Option Item) (item : Item) → paint_of p ≡ paint_of o → p ≡ Some item → (was : Item) × ((o ≡ Some was) × (was.paint ≡ item.paint))
alike None p item e is = absurd (none-some item.paint (sym e ∙ ap paint_of is))
alike (Some was) p item e is = (was, (refl, same_Some was.paint item.paint (sym e ∙ ap paint_of is)))

pub same_names : (old new : Items) (parent place child : ℕ) → SamePaints old new → Names new parent place child → Names old parent place child
same_names old new parent place child same names =
    let was = alike (map.get old parent) (map.get new parent) names.0 (same parent) names.1.0 in
    (was.0, (was.1.0, ap (λ (p : Paint). slice_get p.children place) was.1.1 ∙ names.1.1))

pub same_item : (old new : Items) (serial : ℕ) → SamePaints old new → IsItem new serial → IsItem old serial
same_item old new serial same is =
    let found = the_item (map.get new serial) is in
    let was = alike (map.get old serial) (map.get new serial) found.0 (same serial) found.1 in
    ap is_some was.1.0

pub paints_back : (old new : Items) → SamePaints old new → SamePaints new old
paints_back old new same serial = sym (same serial)

pub same_tree : (old new : Items) (root : ℕ) → SamePaints old new → IsTree old root → IsTree new root
same_tree old new root same tree = record {
  depth = tree.depth;
  rooted = same_item new old root (paints_back old new same) tree.rooted;
  named = λ parent place child is. same_item new old child (paints_back old new same) (tree.named parent place child (same_names old new parent place child same is));
  one_parent = λ a b i j child p q. tree.one_parent a b i j child (same_names old new a i child same p) (same_names old new b j child same q);
  one_place = λ parent i j child p q. tree.one_place parent i j child (same_names old new parent i child same p) (same_names old new parent j child same q);
  reached = λ serial is ne.
      let found = tree.reached serial (same_item old new serial same is) ne in
      (found.0, found.1, same_names new old found.0 found.1 serial (paints_back old new same) found.2);
  at_root = tree.at_root;
  below = λ parent place child is. tree.below parent place child (same_names old new parent place child same is);
  most = λ serial is. tree.most serial (same_item old new serial same is);
  fits = λ serial item e.
      let was = alike (map.get old serial) (map.get new serial) item (same serial) e in
      subst (λ (p : Paint). p.under ≤ length p.children) was.1.1 (tree.fits serial was.0 was.1.0);
}

-- what is known of an item's nodes
kind_node : (f : Forest) (serial slot : ℕ) (kind : NodeKind) → HasKind f slot kind → (node : Node) × ((f.node slot ≡ Some node) × (node.item ≡ serial)) → (node : Node) × ((f.node slot ≡ Some node) × ((node.item ≡ serial) × (kind_of node.body ≡ kind)))
kind_node f serial slot kind has of =
    (has.0, (has.1.0, (ap (λ (n : Node). n.item) (same_Some has.0 of.0 (sym has.1.0 ∙ of.1.0)) ∙ of.1.1, has.1.1)))

pub no_group : (keys : ItemKeys) (key : NodeKey) → keys ≡ no_keys → ¬ (keys.group ≡ Some key)
no_group keys key e is = none-some key (ap (λ (k : ItemKeys). k.group) (sym e) ∙ is)

pub no_slot : (keys : ItemKeys) (slot : ℕ) → keys ≡ no_keys → ¬ IsSlotOf (keys_of keys) slot
no_slot keys slot e is = in_none (key_of slot) (subst (λ (k : ItemKeys). IsSlotOf (keys_of k) slot) e is)

pub no_rect : (keys : ItemKeys) (slot : ℕ) → keys ≡ no_keys → ¬ IsSlotOf (rect_keys keys.rects) slot
no_rect keys slot e is = in_none (key_of slot) (subst (λ (k : ItemKeys). IsSlotOf (rect_keys k.rects) slot) e is)

module _ {f : Forest} {serial : ℕ} {item : Item} (can : CanRenew f serial item) where
  pub group_own : (key : NodeKey) → item.keys.group ≡ Some key → IsOfItem f serial GroupKind key
  group_own key is =
      ⊎_elim (λ (none : item.keys ≡ no_keys). absurd (no_group item.keys key none is))
      (λ (has : HasKinds f item).
      let same : has.0.0 ≡ key = same_Some has.0.0 key (sym has.0.1.0 ∙ is) in
      kind_node f serial key.slot GroupKind (subst (λ (k : NodeKey). HasKind f k.slot GroupKind) same has.0.1.1) (can.of_item 0 key.slot (group_at item key is)))
      can.kinds

  pub rect_own : (key : NodeKey) → IsIn (rect_keys item.keys.rects) key → IsOfItem f serial RectKind key
  rect_own key is =
      ⊎_elim (λ (none : item.keys ≡ no_keys). absurd (no_rect item.keys key.slot none is))
      (λ (has : HasKinds f item).
      kind_node f serial key.slot RectKind (has.1 is.0 key is.1) (can.of_item (suc is.0) key.slot (rect_at item key has.0.0 is.0 has.0.1.0 is.1)))
      can.kinds

  -- the rectangles once the group is up to date
  module _ {g : Forest} {key : NodeKey} {node : Node} (s : Swapped f g (group_keys item.keys.group) (key ∷ []) [] (node ∷ [])) where
    rect_no_group : (slot : ℕ) → IsSlotOf (rect_keys item.keys.rects) slot → ¬ IsSlotOf (group_keys item.keys.group) slot
    rect_no_group slot is group = distinct_apart (group_keys item.keys.group) (rect_keys item.keys.rects) (key_of slot) can.distinct group is

    rect_not_new : (slot : ℕ) → IsSlotOf (rect_keys item.keys.rects) slot → ¬ IsSlotOf (key ∷ []) slot
    rect_not_new slot is new =
        let own = rect_own (key_of slot) is in
        none-some own.0 (sym (s.fresh slot new (rect_no_group slot is)) ∙ own.1.0)

    pub rect_own_after : (rect : NodeKey) → IsIn (rect_keys item.keys.rects) rect → IsOfItem g serial RectKind rect
    rect_own_after rect is =
        let own = rect_own rect is in
        (own.0, (s.others rect.slot (rect_no_group rect.slot is) (rect_not_new rect.slot is) ∙ own.1.0, own.1.1))

    pub all_renewed : {h : Forest} {rects : List NodeKey} {nodes : List Node} → Swapped g h (rect_keys item.keys.rects) rects (rect_keys item.keys.rects) nodes
        → Swapped f h (keys_of item.keys) (key ∷ rects) (rect_keys item.keys.rects) (node ∷ nodes)
    all_renewed more = swapped_append s more (λ slot group rect. rect_no_group slot rect group) (λ slot new rect. rect_not_new slot rect new)
