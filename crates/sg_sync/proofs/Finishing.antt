-- Items with their nodes and children, for which the nodes stand.
use Rattle.std.proofs.Common.{◌≡◌, ⊎_elim, inl, inr, ℕ, List, [], ◌∷◌, ◌++◌, map as list_map, take, drop, Option, Some, IsSome, refl, ap, sym, ◌∙◌, subst}
use Rattle.std.specs.List.{slice_get}
use Rattle.std.specs.FinMap as map
use Rattle.std.proofs.lemmas.Option.{none-some, same_Some}
use Rattle.std.proofs.lemmas.List.{take-append-drop, map-append}
use Rattle.links.specs.declared.node_key.NodeKey.{NodeKey}
use Rattle.item_geometry.specs.Rectangle.{parts_of}
use Rattle.scene.specs.Keys.{rect_keys}
use Rattle.scene.specs.Picture.{Item, Items, Picture, IsDirty}
use Rattle.sg_nodes.specs.declared.node.Node.{Node}
use Rattle.sg_nodes.specs.Forest.{Forest, IsForest, slot_of, key_of}
use Rattle.sg_standing.specs.Standing.{Agree, Stand, HasNodes, HasKinds, IsOwned, KeyAt, ReleasedAt, group_slot, wanted}
use Rattle.sg_standing.specs.Trees.{IsTree}
use Rattle.sg_sync.specs.Own.{IsIn, slot_or, own_slots}
use Rattle.sg_sync.specs.Linking.{HasSegment}
use Rattle.sg_sync.specs.Dressing.{AreLinked, Dressing}
use Rattle.sg_sync.proofs.Members.{in_none, first_or_rest, in_left, in_right, distinct_by_place, map_alike, map_twice, segment_is_all}
use Rattle.sg_sync.proofs.Dressed.{slot_is, key_cases, dressed, child_group, same_group, all_wanted}
use Rattle.sg_sync.proofs.Stepping.{some_or}
use Rattle.sg_sync.proofs.Parking.{rect_at_place}

pub linked_moved : (f : Forest) (items : Items) (loose : List ℕ) → AreLinked f items loose → (g : Forest) → g.children ≡ f.children → AreLinked g items loose
linked_moved f items loose linked g same serial item e still =
    let old = linked serial item e still in
    record { segment = λ group is. subst (λ (ch : ℕ → List ℕ). HasSegment (ch group.slot) (own_slots items item)) (sym same) (old.segment group is); grown = old.grown }

-- what is wanted is there
own_wanted : (items : Items) (item : Item) → ((c : ℕ) → IsIn item.paint.children c → IsSome (group_slot items c)) → list_map Some (own_slots items item) ≡ wanted items item
own_wanted items item grown =
    let under : List ℕ = take item.paint.under item.paint.children in
    let over : List ℕ = drop item.paint.under item.paint.children in
    let rects : List NodeKey = rect_keys item.keys.rects in
    let some : (c : ℕ) → IsIn item.paint.children c → Some (slot_or items c) ≡ group_slot items c = λ c is. sym (some_or (group_slot items c) (grown c is)) in
    map-append Some (list_map (slot_or items) under) (list_map slot_of rects ++ list_map (slot_or items) over)
    ∙ (ap (λ xs. xs ++ list_map Some (list_map slot_of rects ++ list_map (slot_or items) over))
    (map_twice (slot_or items) Some under
    ∙ map_alike (λ c. Some (slot_or items c)) (group_slot items) under (λ c is. some c (subst (λ xs. IsIn xs c) (take-append-drop item.paint.under item.paint.children) (in_left under over c is))))
    ∙ ap (λ xs. list_map (group_slot items) under ++ xs)
    (map-append Some (list_map slot_of rects) (list_map (slot_or items) over)
    ∙ (ap (λ xs. xs ++ list_map Some (list_map (slot_or items) over)) (map_twice slot_of Some rects)
    ∙ ap (λ xs. list_map (λ key. Some (slot_of key)) rects ++ xs)
    (map_twice (slot_or items) Some over
    ∙ map_alike (λ c. Some (slot_or items c)) (group_slot items) over (λ c is. some c (subst (λ xs. IsIn xs c) (take-append-drop item.paint.under item.paint.children) (in_right under over c is)))))))

module _ {f : Forest} {items : Items} {root : ℕ} (d : Dressing f items root []) (linked : AreLinked f items []) (forest : IsForest f) (rooted : f.root ≡ group_slot items root) where
  segment_of : (serial : ℕ) (item : Item) (e : map.get items serial ≡ Some item) → HasSegment (f.children (dressed d serial item e).group.slot) (own_slots items item)
  segment_of serial item e = (linked serial item e (in_none serial)).segment (dressed d serial item e).group (dressed d serial item e).group_is

  -- each child of an item's group is wanted by the item
  child_own : (serial child : ℕ) (item : Item) (e : map.get items serial ≡ Some item) → IsIn (f.children (dressed d serial item e).group.slot) child → IsIn (own_slots items item) child
  child_own serial child item e is =
      let has = dressed d serial item e in
      let wanted_by = all_wanted d child (forest.child_live has.group.slot is.0 child is.1)
      (λ top key at g same. forest.root_free child (rooted ∙ (slot_is items root top key at g ∙ ap Some (sym same))) has.group.slot is) in
      let other : Item = wanted_by.1.0 in
      let theirs = dressed d wanted_by.0 other wanted_by.1.1.0 in
      let segment = segment_of wanted_by.0 other wanted_by.1.1.0 in
      let there : IsIn (f.children theirs.group.slot) child =
      subst (λ xs. IsIn xs child) (sym segment.1.1) (in_right segment.0 (own_slots items other ++ segment.1.0) child (in_left (own_slots items other) segment.1.0 child wanted_by.1.1.1)) in
      let same : wanted_by.0 ≡ serial =
      same_group d wanted_by.0 serial other item theirs.group has.group wanted_by.1.1.0 e theirs.group_is has.group_is (forest.one_parent theirs.group.slot has.group.slot there.0 is.0 child there.1 is.1) in
      subst (λ (i : Item). IsIn (own_slots items i) child) (same_Some other item (sym wanted_by.1.1.0 ∙ (ap (map.get items) same ∙ e))) wanted_by.1.1.1

  children_own : (serial : ℕ) (item : Item) (e : map.get items serial ≡ Some item) → f.children (dressed d serial item e).group.slot ≡ own_slots items item
  children_own serial item e =
      let has = dressed d serial item e in
      let segment = segment_of serial item e in
      segment_is_all (f.children has.group.slot) segment.0 (own_slots items item) segment.1.0 segment.1.1
      (distinct_by_place (f.children has.group.slot) (λ i j x k l. forest.one_place has.group.slot i j x k l)) (λ x is. child_own serial x item e is)

  has_nodes : (serial : ℕ) (item : Item) → map.get items serial ≡ Some item → HasNodes f items serial item
  has_nodes serial item e =
      let has = dressed d serial item e in
      record {
        group = has.group;
        group_is = has.group_is;
        group_node = has.group_node;
        rect_nodes = has.rect_nodes;
        children = ap (list_map Some) (children_own serial item e) ∙ own_wanted items item (λ c is. child_group d serial c item e is);
      }

  has_kinds : (serial : ℕ) (item : Item) → map.get items serial ≡ Some item → HasKinds f item
  has_kinds serial item e =
      let has = dressed d serial item e in (
        (has.group, (has.group_is, (_, (has.group_node, refl)))),
        λ place key is.
            let node = rect_at_place f serial (rect_keys item.keys.rects) (parts_of item.paint.rects) place key has.rect_nodes is in
            (_, (node.1, refl)),
      )

  pub stands : (p : Picture) → p.items ≡ items → p.root ≡ root → p.dirty ≡ [] → p.released ≡ [] → Stand f p
  stands p items_are root_is none_dirty none_released =
      let none_waits : (i slot : ℕ) → ¬ ReleasedAt p i slot = λ i slot at. none-some (key_of slot) (ap (λ (ks : List NodeKey). slice_get ks i) (sym none_released) ∙ at) in
      let back : (serial : ℕ) (item : Item) → map.get p.items serial ≡ Some item → map.get items serial ≡ Some item = λ serial item e. ap (λ (m : Items). map.get m serial) (sym items_are) ∙ e in
      record {
        agree = record {
          tree = subst (λ (m : Items). IsTree m p.root) (sym items_are) (subst (IsTree items) (sym root_is) d.tree);
          one_item = λ a b item other i j slot e g k l. d.one_item a b item other i j slot (back a item e) (back b other g) k l;
          released_once = λ i j slot k l. absurd (none_waits i slot k);
          not_released = λ serial i j slot item e k. none_waits j slot;
          of_nodes = λ serial i slot item e k. d.of_nodes serial i slot item (back serial item e) k;
          still_live = λ i slot k. absurd (none_waits i slot k);
          of_items = λ slot node e. inl (subst (λ (m : Items). IsOwned m node.item slot) (sym items_are) (d.of_items slot node e));
          keyed = λ serial item e. inr (has_kinds serial item (back serial item e));
          root = λ item key e k. rooted ∙ slot_is items root item key (back root item (ap (map.get p.items) (sym root_is) ∙ e)) k;
          clean = λ serial item e still. subst (λ (m : Items). HasNodes f m serial item) (sym items_are) (has_nodes serial item (back serial item e));
        };
        none_dirty = none_dirty;
        none_released = none_released;
      }

-- only the room is another
pub agree_spare : (f g : Forest) (spare : ℕ) (p : Picture) → Agree f p → g ≡ record f { spare = spare } → Agree g p
agree_spare f g spare p agree e = subst (λ (h : Forest). Agree h p) (sym e) (record {
  tree = agree.tree;
  one_item = agree.one_item;
  released_once = agree.released_once;
  not_released = agree.not_released;
  of_nodes = agree.of_nodes;
  still_live = agree.still_live;
  of_items = agree.of_items;
  keyed = agree.keyed;
  root = agree.root;
  clean = λ serial item at still.
      let has = agree.clean serial item at still in
      record { group = has.group; group_is = has.group_is; group_node = has.group_node; rect_nodes = has.rect_nodes; children = has.children };
})

same_at : (g h : ℕ → Option Node) (keys : List NodeKey) (key : NodeKey) → list_map (λ k. g (slot_of k)) keys ≡ list_map (λ k. h (slot_of k)) keys → IsIn keys key → g key.slot ≡ h key.slot
same_at g h [] key e is = absurd (in_none key is)
same_at g h (k ∷ keys) key e is =
    ⊎_elim (λ (here : k ≡ key). subst (λ (x : NodeKey). g x.slot ≡ h x.slot) here (same_Some (g k.slot) (h k.slot) (ap (λ xs. slice_get xs 0) e)))
    (λ (later : IsIn keys key). same_at g h keys key (ap (λ xs. drop 1 xs) e) later) (first_or_rest k keys key is)

-- an item with the same keys and paint has the same nodes
pub kept_node : (f g : Forest) (old new : Items) (serial place slot : ℕ) (item : Item) → HasNodes f old serial item → HasNodes g new serial item → KeyAt item place slot → g.node slot ≡ f.node slot
kept_node f g old new serial place slot item was now at =
    ⊎_elim
    (λ (group : (place ≡ 0) × (was.group.slot ≡ slot)).
    let same : now.group.slot ≡ was.group.slot = ap slot_of (same_Some now.group was.group (sym now.group_is ∙ was.group_is)) in
    ap g.node (sym group.1) ∙ (ap g.node (sym same) ∙ (now.group_node ∙ (sym was.group_node ∙ ap f.node group.1))))
    (λ (rect : (key : NodeKey) × (IsIn (rect_keys item.keys.rects) key × (key.slot ≡ slot))).
    ap g.node (sym rect.1.1) ∙ (same_at g.node f.node (rect_keys item.keys.rects) rect.0 (now.rect_nodes ∙ sym was.rect_nodes) rect.1.0 ∙ ap f.node rect.1.1))
    (key_cases item was.group place slot was.group_is at)

pub none_dirty : (p : Picture) (serial : ℕ) → p.dirty ≡ [] → ¬ IsDirty p serial
none_dirty p serial none dirty = none-some serial (ap (λ xs. slice_get xs dirty.0) (sym none) ∙ dirty.1)
