-- Nodes are moved below the root, and then below the groups of the items that want them.
use Rattle.std.proofs.Common.{◌≡◌, ◌≢◌, ◌⊎◌, ⊎_elim, inl, inr, ℕ, zero, suc, ◌+◌, eqb, leb, List, [], ◌∷◌, ◌++◌, map as list_map, drop, Option, Some, None, IsSome, is_some, refl, ap, sym, ◌∙◌, subst, arith, eq-eqb}
use Rattle.std.specs.List.{slice_get}
use Rattle.std.specs.FinMap as map
use Rattle.std.proofs.lemmas.Option.{none-some, same_Some}
use Rattle.std.proofs.lemmas.Bool.{cases_eq, ne_eqb, eqb-true, leb-true, le-leb, lt-leb}
use Rattle.links.specs.declared.node_key.NodeKey.{NodeKey}
use Rattle.item_geometry.specs.declared.parts.RectPart.{RectPart}
use Rattle.item_geometry.specs.Rectangle.{parts_of}
use Rattle.scene.specs.Keys.{rect_keys}
use Rattle.scene.specs.Picture.{Item, Items, no_keys}
use Rattle.sg_nodes.specs.declared.node.Node.{Node}
use Rattle.sg_nodes.specs.declared.node.NodeBody.{NodeBody}
use Rattle.sg_nodes.specs.declared.node.NodeBody.TheVariants.{Group as GroupBody, Rect as RectBody}
use Rattle.sg_nodes.specs.Forest.{Forest, IsLive, IsForest, slot_of}
use Rattle.sg_standing.specs.Standing.{group_slot, rect_of, HasKinds}
use Rattle.sg_sync.specs.Own.{IsIn, slot_or, own_slots, slots_or_none, slots_of, all_slots}
use Rattle.sg_sync.specs.Linking.{linked, CanMove, HasSegment}
use Rattle.sg_sync.specs.Dressing.{AreLinked, Wants, AreParked, Dressing}
use Rattle.sg_sync.proofs.Members.{in_none, in_left, in_right, in_or_not, first_or_rest, in_flat, in_flat_of}
use Rattle.sg_sync.proofs.Linking.{linked_was, linked_there, linked_segment, linked_own}
use Rattle.sg_sync.proofs.Dressed.{the_item, group_at, slot_is, own_cases, dressed, child_item, child_group, wanted_live, one_wants, root_unwanted, all_wanted, own_distinct}

-- where an item wants a slot
wants_or_none : (items : Items) (serial slot : ℕ) (o : Option Item) → map.get items serial ≡ o → IsIn (slots_or_none items o) slot → Wants items serial slot
wants_or_none items serial slot None e is = absurd (in_none slot is)
wants_or_none items serial slot (Some item) e is = (item, (e, is))

pub wants_of : (items : Items) (serial slot : ℕ) → IsIn (slots_of items serial) slot → Wants items serial slot
wants_of items serial slot is = wants_or_none items serial slot (map.get items serial) refl is

pub wanted_of : (items : Items) (serial slot : ℕ) → Wants items serial slot → IsIn (slots_of items serial) slot
wanted_of items serial slot wants = subst (λ o. IsIn (slots_or_none items o) slot) (sym wants.1.0) wants.1.1

-- the same nodes with other children
pub dressing_moved : {f : Forest} {items : Items} {root : ℕ} {todo : List ℕ} → Dressing f items root todo → (g : Forest) → g.node ≡ f.node → Dressing g items root todo
dressing_moved {f} {items} {root} {todo} d g same = record {
  tree = d.tree;
  one_item = d.one_item;
  of_nodes = λ serial i slot item e k. let node = d.of_nodes serial i slot item e k in (node.0, (ap (λ n. n slot) same ∙ node.1.0, node.1.1));
  of_items = λ slot node e. d.of_items slot node (sym (ap (λ n. n slot) same) ∙ e);
  kinds = λ serial item e is. subst (λ (n : ℕ → Option Node). (item.keys ≡ no_keys) ⊎ HasKinds (record f { node = n }) item) (sym same) (d.kinds serial item e is);
  bodies = λ serial item e done.
      let has = d.bodies serial item e done in
      record {
        group = has.group;
        group_is = has.group_is;
        group_node = ap (λ n. n has.group.slot) same ∙ has.group_node;
        rect_nodes = ap (λ (n : ℕ → Option Node). list_map (λ key. n (slot_of key)) (rect_keys item.keys.rects)) same ∙ has.rect_nodes;
      };
}

-- how deep a node's item stands, where a rectangle stands below its item's group
abbrev rank_in : (ℕ → ℕ) → ℕ → NodeBody → ℕ
rank_in depth item (GroupBody g) = depth item
rank_in depth item (RectBody r) = depth item + 1

abbrev rank_of : (ℕ → ℕ) → Option Node → ℕ
rank_of depth None = 0
rank_of depth (Some node) = rank_in depth node.item node.body

-- a rectangle's node
pub rect_at_place : (f : Forest) (serial : ℕ) (keys : List NodeKey) (parts : List RectPart) (place : ℕ) (key : NodeKey)
    → list_map (λ k. f.node (slot_of k)) keys ≡ list_map (λ part. Some (record { item = serial; body = RectBody (rect_of part) })) parts → slice_get keys place ≡ Some key
    → (part : RectPart) × (f.node key.slot ≡ Some (record { item = serial; body = RectBody (rect_of part) }))
rect_at_place f serial [] parts place key e is = absurd (none-some key is)
rect_at_place f serial (k ∷ keys) [] place key e is = cc
rect_at_place f serial (k ∷ keys) (p ∷ parts) zero key e is =
    (p, ap (λ (x : NodeKey). f.node x.slot) (sym (same_Some k key is)) ∙ same_Some (f.node k.slot) (Some (record { item = serial; body = RectBody (rect_of p) })) (ap (λ xs. slice_get xs 0) e))
rect_at_place f serial (k ∷ keys) (p ∷ parts) (suc place) key e is = rect_at_place f serial keys parts place key (ap (λ xs. drop 1 xs) e) is

module _ {f0 : Forest} {items : Items} {root : ℕ} (d : Dressing f0 items root []) where
  abbrev rank : ℕ → ℕ
  rank slot = rank_of d.tree.depth (f0.node slot)

  -- the root's group
  pub root_group : (item : Item) × ((key : NodeKey) × ((map.get items root ≡ Some item) × ((item.keys.group ≡ Some key) × (group_slot items root ≡ Some key.slot))))
  root_group =
      let found = the_item (map.get items root) d.tree.rooted in
      let has = dressed d root found.0 found.1 in
      (found.0, (has.group, (found.1, (has.group_is, slot_is items root found.0 has.group found.1 has.group_is))))

  not_root_group : (serial slot r : ℕ) → group_slot items root ≡ Some r → Wants items serial slot → slot ≢ r
  not_root_group serial slot r is wants same =
      let top = root_group in
      root_unwanted d top.0 top.1.0 serial top.1.1.0 top.1.1.1.0
      (subst (Wants items serial) (same ∙ same_Some r top.1.0.slot (sym is ∙ top.1.1.1.1)) wants)

  module _ (f : Forest) (now : f ≡ record f0 { children = f.children }) where
    node_is : f.node ≡ f0.node
    node_is = ap (λ (h : Forest). h.node) now

    root_is : f.root ≡ f0.root
    root_is = ap (λ (h : Forest). h.root) now

    live_now : (slot : ℕ) → IsLive f0 slot → IsLive f slot
    live_now slot live = subst (λ (n : ℕ → Option Node). IsSome (n slot)) (sym node_is) live

    live_then : (slot : ℕ) → IsLive f slot → IsLive f0 slot
    live_then slot live = subst (λ (n : ℕ → Option Node). IsSome (n slot)) node_is live

    -- what an item wants may move below the root's group
    pub park_can : (r serial : ℕ) → IsForest f → f0.root ≡ Some r → group_slot items root ≡ Some r → CanMove f r (slots_of items serial)
    park_can r serial forest root_r group_r = record {
      up = λ k. eqb k r;
      here = eq-eqb r r refl;
      closed = λ a place child e is. absurd (forest.root_free r (root_is ∙ root_r) a (place, e ∙ ap Some (eqb-true child r is)));
      lower = λ slot is. ne_eqb slot r (not_root_group serial slot r group_r (wants_of items serial slot is));
      live = λ slot is. live_now slot (wanted_live d serial slot (wants_of items serial slot is));
      not_root = λ slot is e. not_root_group serial slot r group_r (wants_of items serial slot is) (same_Some slot r (sym e ∙ (root_is ∙ root_r)));
      parent_live = forest.root_live r (root_is ∙ root_r);
    }

    -- once what some items want is below the root's group, each child is there or below the group of the item that wants it
    module _ (r : ℕ) (serials : List ℕ) (forest : IsForest f) (root_r : f0.root ≡ Some r) (group_r : group_slot items root ≡ Some r)
        (after : f ≡ record f0 { children = linked f0.children (all_slots items serials) r }) (was : AreLinked f0 items serials) where
      pub parked_linked : AreLinked f items serials
      parked_linked serial item e loose =
          let old = was serial item e loose in
          record {
            segment = λ group is.
                subst (λ (h : Forest). HasSegment (h.children group.slot) (own_slots items item)) (sym after)
                (linked_segment f0.children (all_slots items serials) r group.slot (own_slots items item) (old.segment group is)
                (λ x mine theirs.
                let found = in_flat (slots_of items) serials x theirs in
                loose (subst (IsIn serials) (one_wants d found.0 serial x (wants_of items found.0 x found.1.1) (item, (e, mine))) found.1.0)));
            grown = old.grown;
          }

      pub parked : AreParked f items root
      parked parent child is =
          let live = live_then child (forest.child_live parent is.0 child is.1) in
          let top = root_group in
          let wanted = all_wanted d child live (λ item key e g same. forest.root_free r (root_is ∙ root_r) parent
          (is.0, is.1 ∙ ap Some (same ∙ same_Some key.slot r (sym (slot_is items root item key e g) ∙ group_r)))) in
          ⊎_elim
          (λ (among : IsIn serials wanted.0).
          let there : IsIn (f.children r) child =
          subst (λ (h : Forest). IsIn (h.children r) child) (sym after)
          (linked_there f0.children (all_slots items serials) r child (in_flat_of (slots_of items) serials wanted.0 child among (wanted_of items wanted.0 child wanted.1))) in
          inr (group_r ∙ ap Some (forest.one_parent r parent there.0 is.0 child there.1 is.1)))
          (λ (other : ¬ IsIn serials wanted.0).
          let has = dressed d wanted.0 wanted.1.0 wanted.1.1.0 in
          let segment = (parked_linked wanted.0 wanted.1.0 wanted.1.1.0 other).segment has.group has.group_is in
          let there : IsIn (f.children has.group.slot) child =
          subst (λ xs. IsIn xs child) (sym segment.1.1)
          (in_right segment.0 (own_slots items wanted.1.0 ++ segment.1.0) child (in_left (own_slots items wanted.1.0) segment.1.0 child wanted.1.1.1)) in
          inl (
            wanted.0,
            (
              wanted.1,
              slot_is items wanted.0 wanted.1.0 has.group wanted.1.1.0 has.group_is ∙ ap Some (forest.one_parent has.group.slot parent there.0 is.0 child there.1 is.1),
            ),
          ))
          (in_or_not serials wanted.0)

    -- ranks
    rank_group : (serial g : ℕ) → IsSome (map.get items serial) → group_slot items serial ≡ Some g → rank g ≡ d.tree.depth serial
    rank_group serial g is at =
        let found = the_item (map.get items serial) is in
        let has = dressed d serial found.0 found.1 in
        ap rank (same_Some g has.group.slot (sym at ∙ slot_is items serial found.0 has.group found.1 has.group_is))
        ∙ ap (rank_of d.tree.depth) has.group_node

    rank_wanted : (serial slot : ℕ) → Wants items serial slot → rank slot ≡ d.tree.depth serial + 1
    rank_wanted serial slot wants =
        ⊎_elim
        (λ (group : (child : ℕ) × (IsIn wants.0.paint.children child × (slot_or items child ≡ slot))).
        let other = child_item d serial group.0 wants.0 wants.1.0 group.1.0 in
        rank_group group.0 slot (ap is_some other.1.0)
        (slot_is items group.0 other.0 other.1.1.0 other.1.0 other.1.1.1.0 ∙ ap Some (sym other.1.1.1.1 ∙ group.1.1))
        ∙ d.tree.below serial group.1.0.0 group.0 (wants.0, (wants.1.0, group.1.0.1)))
        (λ (rect : (key : NodeKey) × (IsIn (rect_keys wants.0.keys.rects) key × (key.slot ≡ slot))).
        let has = dressed d serial wants.0 wants.1.0 in
        let node = rect_at_place f0 serial (rect_keys wants.0.keys.rects) (parts_of wants.0.paint.rects) rect.1.0.0 rect.0 has.rect_nodes rect.1.0.1 in
        ap rank (sym rect.1.1) ∙ ap (rank_of d.tree.depth) node.1)
        (own_cases items wants.0 slot wants.1.1)

    -- what an item wants may move below its group
    pub link_can : (serial g : ℕ) → AreParked f items root → f0.root ≡ group_slot items root → IsSome (map.get items serial) → group_slot items serial ≡ Some g → CanMove f g (slots_of items serial)
    link_can serial g kids root_r is at = record {
      up = λ k. leb (rank k) (d.tree.depth serial);
      here = let e = rank_group serial g is at in le-leb (rank g) (d.tree.depth serial) (omega arith);
      closed = λ a place child e up.
          let low = leb-true (rank child) (d.tree.depth serial) up in
          ⊎_elim
          (λ (wanted : (s : ℕ) × (Wants items s child × (group_slot items s ≡ Some a))).
          let deep = rank_wanted wanted.0 child wanted.1.0 in
          let top = rank_group wanted.0 a (ap is_some wanted.1.0.1.0) wanted.1.1 in
          le-leb (rank a) (d.tree.depth serial) (omega arith))
          (λ (below_root : group_slot items root ≡ Some a).
          let top = rank_group root a d.tree.rooted below_root in
          let none = d.tree.at_root in
          le-leb (rank a) (d.tree.depth serial) (omega arith))
          (kids a child (place, e));
      lower = λ slot among. let deep = rank_wanted serial slot (wants_of items serial slot among) in lt-leb (rank slot) (d.tree.depth serial) (omega arith);
      live = λ slot among. live_now slot (wanted_live d serial slot (wants_of items serial slot among));
      not_root = λ slot among e. not_root_group serial slot slot (sym root_r ∙ (sym root_is ∙ e)) (wants_of items serial slot among) refl;
      parent_live =
          let found = the_item (map.get items serial) is in
          let has = dressed d serial found.0 found.1 in
          let node = d.of_nodes serial 0 has.group.slot found.0 found.1 (group_at found.0 has.group has.group_is) in
          live_now g (subst (IsLive f0) (same_Some has.group.slot g (sym (slot_is items serial found.0 has.group found.1 has.group_is) ∙ at)) (ap is_some node.1.0));
    }

    -- one more item has its children
    module _ (h : Forest) (serial g : ℕ) (at : group_slot items serial ≡ Some g) (after : h ≡ record f { children = linked f.children (slots_of items serial) g }) where
      pub linked_parked : AreParked f items root → AreParked h items root
      linked_parked kids parent child is =
          ⊎_elim (λ (old : IsIn (f.children parent) child). kids parent child old)
          (λ (new : (parent ≡ g) × IsIn (slots_of items serial) child). inl (serial, (wants_of items serial child new.1, at ∙ ap Some (sym new.0))))
          (linked_was f.children (slots_of items serial) g parent child (subst (λ (k : Forest). IsIn (k.children parent) child) after is))

      pub linked_more : (rest : List ℕ) → AreLinked f items (serial ∷ rest) → AreLinked h items rest
      linked_more rest was other item e loose =
          ⊎_elim
          (λ (same : other ≡ serial). record {
            segment = λ group is.
                let here : group.slot ≡ g = same_Some group.slot g (sym (slot_is items other item group e is) ∙ (ap (group_slot items) same ∙ at)) in
                let mine : slots_of items serial ≡ own_slots items item = ap (λ s. slots_or_none items (map.get items s)) (sym same) ∙ ap (slots_or_none items) e in
                subst (λ (k : Forest). HasSegment (k.children group.slot) (own_slots items item)) (sym after)
                (subst (λ x. HasSegment (linked f.children (slots_of items serial) g x) (own_slots items item)) (sym here)
                (subst (λ xs. HasSegment (linked f.children xs g g) (own_slots items item)) (sym mine)
                (linked_own f.children (own_slots items item) g (own_distinct d other item e))));
            grown = λ child is. child_group d other child item e is;
          })
          (λ (ne : other ≢ serial).
          let old = was other item e (λ is. ⊎_elim (λ (first : serial ≡ other). ne (sym first)) loose (first_or_rest serial rest other is)) in
          record {
            segment = λ group is.
                subst (λ (k : Forest). HasSegment (k.children group.slot) (own_slots items item)) (sym after)
                (linked_segment f.children (slots_of items serial) g group.slot (own_slots items item) (old.segment group is)
                (λ x mine theirs. ne (one_wants d other serial x (item, (e, mine)) (wants_of items serial x theirs))));
            grown = old.grown;
          })
          (cases_eq other serial)
