-- One more item has its nodes brought up to date.
use Rattle.std.proofs.Common.{length, ◌≡◌, ◌≢◌, ◌⊎◌, ⊎_elim, inl, inr, ℕ, suc, cond, eqb, List, ◌∷◌, ◌++◌, map as list_map, take, drop, Option, Some, None, IsSome, option_map, refl, ap, sym, ◌∙◌, subst, arith, eq-eqb}
use Rattle.std.specs.Prelude.{unwrap_or}
use Rattle.std.specs.Option.{option_and_then}
use Rattle.std.specs.List.{slice_get}
use Rattle.std.specs.Cmp.{nat_cmp_total, unsigned_tied}
use Rattle.std.specs.FinMap as map
use Rattle.std.proofs.lemmas.Option.{none-some, same_Some}
use Rattle.std.proofs.lemmas.Bool.{cases_eq, ne_eqb}
use Rattle.std.proofs.lemmas.List.{take-append-drop}
use Rattle.links.specs.declared.node_key.NodeKey.{NodeKey}
use Rattle.item_geometry.specs.Rectangle.{parts_of}
use Rattle.scene.specs.declared.keys.ItemKeys.{ItemKeys}
use Rattle.scene.specs.declared.paint.Paint.{Paint}
use Rattle.scene.specs.Keys.{rect_keys, group_keys, keys_of}
use Rattle.scene.specs.Picture.{Item, Items, with_keys, changed_to, no_keys}
use Rattle.sg_nodes.specs.declared.node.Node.{Node}
use Rattle.sg_nodes.specs.Forest.{Forest, IsForest, slot_of, key_of}
use Rattle.sg_standing.specs.Standing.{group_slot, KeyAt, IsOwned, HasKinds}
use Rattle.sg_sync.specs.Own.{IsIn, slot_or, own_slots}
use Rattle.sg_sync.specs.Linking.{HasSegment}
use Rattle.sg_sync.specs.Swapping.{IsSlotOf, Swapped, group_node, rect_node}
use Rattle.sg_sync.specs.Counting.{KeepsKeys, AllKeep}
use Rattle.sg_sync.specs.Dressing.{IsDressed, AreLinked, HasNoParent, Dressing, SamePaints, CanRenew}
use Rattle.sg_sync.proofs.Members.{in_first, in_rest, first_or_rest, in_left, in_right, in_mapped, distinct_by_place, one_place, map_alike, map_twice}
use Rattle.sg_sync.proofs.Dressed.{group_at, rect_at, slot_is, own_cases}
use Rattle.sg_sync.proofs.Swapping.{slot_or_not, new_node, same_map}
use Rattle.sg_sync.proofs.Renewing.{paint_of, same_tree, no_slot, no_rect}

-- the items where one has other keys
module _ (items : Items) (s : ℕ) (item : Item) (keys : ItemKeys) (at : map.get items s ≡ Some item) where
  changed : with_keys s keys items ≡ map.insert items s (record item { keys = keys })
  changed = ap (λ o. changed_to items s (option_map (λ (i : Item). record i { keys = keys }) o)) at

  get_after : (t : ℕ) → map.get (with_keys s keys items) t ≡ cond (eqb t s) (Some (record item { keys = keys })) (map.get items t)
  get_after t =
      ap (λ m. map.get m t) changed
      ∙ (map.get-insert nat_cmp_total items s (record item { keys = keys }) t ∙ ap (λ b. cond b (Some (record item { keys = keys })) (map.get items t)) (unsigned_tied t s))

  pub get_same : (t : ℕ) → t ≡ s → map.get (with_keys s keys items) t ≡ Some (record item { keys = keys })
  get_same t e = get_after t ∙ ap (λ b. cond b (Some (record item { keys = keys })) (map.get items t)) (eq-eqb t s e)

  pub get_other : (t : ℕ) → t ≢ s → map.get (with_keys s keys items) t ≡ map.get items t
  get_other t ne = get_after t ∙ ap (λ b. cond b (Some (record item { keys = keys })) (map.get items t)) (ne_eqb t s ne)

  pub paints_after : (first : Items) → SamePaints first items → SamePaints first (with_keys s keys items)
  paints_after first same t =
      ⊎_elim (λ (e : t ≡ s). ap paint_of (get_same t e) ∙ (ap paint_of (sym (ap (map.get items) e ∙ at)) ∙ same t))
      (λ (ne : t ≢ s). ap paint_of (get_other t ne) ∙ same t)
      (cases_eq t s)

  pub same_keys : (t : ℕ) (other : Item) → t ≡ s → map.get (with_keys s keys items) t ≡ Some other → record item { keys = keys } ≡ other
  same_keys t other e is = same_Some (record item { keys = keys }) other (sym (get_same t e) ∙ is)

  pub was_other : (t : ℕ) (other : Item) → t ≢ s → map.get (with_keys s keys items) t ≡ Some other → map.get items t ≡ Some other
  was_other t other ne is = sym (get_other t ne) ∙ is

-- what is renewed of the item
pub can_renew : (f : Forest) (items : Items) (root s : ℕ) (rest : List ℕ) (item : Item) → Dressing f items root (s ∷ rest) → map.get items s ≡ Some item → CanRenew f s item
can_renew f items root s rest item d at = record {
  distinct = distinct_by_place (keys_of item.keys) (λ i j x k l. (d.one_item s s item item i j x.slot at at k l).1);
  of_item = λ i slot k. d.of_nodes s i slot item at k;
  kinds = d.kinds s item at (in_first s rest);
}

node_item : (s : ℕ) (paint : Paint) (node : Node) → IsIn (group_node s paint ∷ list_map (rect_node s) (parts_of paint.rects)) node → node.item ≡ s
node_item s paint node is =
    ⊎_elim (λ (e : group_node s paint ≡ node). ap (λ (n : Node). n.item) (sym e))
    (λ (rest : IsIn (list_map (rect_node s) (parts_of paint.rects)) node).
    let found = in_mapped (rect_node s) (parts_of paint.rects) node rest in ap (λ (n : Node). n.item) (sym found.1.1))
    (first_or_rest (group_node s paint) (list_map (rect_node s) (parts_of paint.rects)) node is)

the_key : (o : Option NodeKey) → IsSome o → (key : NodeKey) × (o ≡ Some key)
the_key None is = cc
the_key (Some key) is = (key, refl)

-- a group that is kept
kept_slot : (old new : Option NodeKey) → ((key : NodeKey) → old ≡ Some key → new ≡ Some key) → IsSome (option_map slot_of old) → option_map slot_of new ≡ option_map slot_of old
kept_slot None new kept is = cc
kept_slot (Some key) new kept is = ap (option_map slot_of) (kept key refl)

group_key_is : (group : Option NodeKey) (slot : ℕ) → option_map slot_of group ≡ Some slot → (key : NodeKey) × ((group ≡ Some key) × (key.slot ≡ slot))
group_key_is None slot is = absurd (none-some slot is)
group_key_is (Some key) slot is = (key, (refl, same_Some key.slot slot is))

pub the_key_of : (o : Option Item) (slot : ℕ) → option_map slot_of (option_and_then (λ (i : Item). i.keys.group) o) ≡ Some slot
    → (item : Item) × ((o ≡ Some item) × ((key : NodeKey) × ((item.keys.group ≡ Some key) × (key.slot ≡ slot))))
the_key_of None slot is = absurd (none-some slot is)
the_key_of (Some item) slot is = (item, (refl, group_key_is item.keys.group slot is))

pub the_group : (o : Option Item) (slot : ℕ) → option_map slot_of (option_and_then (λ (i : Item). i.keys.group) o) ≡ Some slot → (item : Item) × ((o ≡ Some item) × KeyAt item 0 slot)
the_group None slot is = absurd (none-some slot is)
the_group (Some item) slot is = let key = group_key_is item.keys.group slot is in (item, (refl, subst (KeyAt item 0) key.1.1 (group_at item key.0 key.1.0)))

pub some_or : (o : Option ℕ) → IsSome o → o ≡ Some (unwrap_or o 0)
some_or None is = cc
some_or (Some x) is = refl

module _ {f g : Forest} {items : Items} {root s : ℕ} {rest : List ℕ} {item : Item} (keys : ItemKeys) (d : Dressing f items root (s ∷ rest)) (at : map.get items s ≡ Some item)
    (swap : Swapped f g (keys_of item.keys) (keys_of keys) (rect_keys item.keys.rects) (group_node s item.paint ∷ list_map (rect_node s) (parts_of item.paint.rects)))
    (group_kept : (key : NodeKey) → item.keys.group ≡ Some key → keys.group ≡ Some key) (has_group : IsSome keys.group) (first : ¬ IsIn rest s) where
  abbrev after : Items
  after = with_keys s keys items

  -- keys of other items are neither old nor new ones of this
  not_old : (t place slot : ℕ) (other : Item) → map.get items t ≡ Some other → t ≢ s → KeyAt other place slot → ¬ IsSlotOf (keys_of item.keys) slot
  not_old t place slot other e ne k is = ne (d.one_item t s other item place is.0 slot e at k is.1).0

  not_new : (t place slot : ℕ) (other : Item) → map.get items t ≡ Some other → t ≢ s → KeyAt other place slot → ¬ IsSlotOf (keys_of keys) slot
  not_new t place slot other e ne k is =
      let node = d.of_nodes t place slot other e k in
      none-some node.0 (sym (swap.fresh slot is (not_old t place slot other e ne k)) ∙ node.1.0)

  other_node : (t place slot : ℕ) (other : Item) → map.get items t ≡ Some other → t ≢ s → KeyAt other place slot → g.node slot ≡ f.node slot
  other_node t place slot other e ne k = swap.others slot (not_old t place slot other e ne k) (not_new t place slot other e ne k)

  one_after : (a b : ℕ) (one two : Item) (i j slot : ℕ) → map.get after a ≡ Some one → map.get after b ≡ Some two → KeyAt one i slot → KeyAt two j slot → (a ≡ b) × (i ≡ j)
  one_after a b one two i j slot ea eb ka kb =
      ⊎_elim
      (λ (a_is : a ≡ s).
      let mine : KeyAt (record item { keys = keys }) i slot = subst (λ (o : Item). KeyAt o i slot) (sym (same_keys items s item keys at a one a_is ea)) ka in
      ⊎_elim
      (λ (b_is : b ≡ s).
      let also : KeyAt (record item { keys = keys }) j slot = subst (λ (o : Item). KeyAt o j slot) (sym (same_keys items s item keys at b two b_is eb)) kb in
      (a_is ∙ sym b_is, one_place (keys_of keys) i j (key_of slot) swap.apart mine also))
      (λ (b_ne : b ≢ s). absurd (not_new b j slot two (was_other items s item keys at b two b_ne eb) b_ne kb (i, mine)))
      (cases_eq b s))
      (λ (a_ne : a ≢ s).
      ⊎_elim
      (λ (b_is : b ≡ s).
      let also : KeyAt (record item { keys = keys }) j slot = subst (λ (o : Item). KeyAt o j slot) (sym (same_keys items s item keys at b two b_is eb)) kb in
      absurd (not_new a i slot one (was_other items s item keys at a one a_ne ea) a_ne ka (j, also)))
      (λ (b_ne : b ≢ s). d.one_item a b one two i j slot (was_other items s item keys at a one a_ne ea) (was_other items s item keys at b two b_ne eb) ka kb)
      (cases_eq b s))
      (cases_eq a s)

  nodes_after : (t i slot : ℕ) (one : Item) → map.get after t ≡ Some one → KeyAt one i slot → (node : Node) × ((g.node slot ≡ Some node) × (node.item ≡ t))
  nodes_after t i slot one e k =
      ⊎_elim
      (λ (same : t ≡ s).
      let node = new_node g.node (keys_of keys) (group_node s item.paint ∷ list_map (rect_node s) (parts_of item.paint.rects)) slot swap.has
      (i, subst (λ (o : Item). KeyAt o i slot) (sym (same_keys items s item keys at t one same e)) k) in
      (node.0, (node.1.1, node_item s item.paint node.0 node.1.0 ∙ sym same)))
      (λ (ne : t ≢ s).
      let was = was_other items s item keys at t one ne e in
      let node = d.of_nodes t i slot one was k in
      (node.0, (other_node t i slot one was ne k ∙ node.1.0, node.1.1)))
      (cases_eq t s)

  items_after : (slot : ℕ) (node : Node) → g.node slot ≡ Some node → IsOwned after node.item slot
  items_after slot node e =
      ⊎_elim
      (λ (new : IsSlotOf (keys_of keys) slot).
      let found = new_node g.node (keys_of keys) (group_node s item.paint ∷ list_map (rect_node s) (parts_of item.paint.rects)) slot swap.has new in
      let same : node.item ≡ s = ap (λ (n : Node). n.item) (same_Some node found.0 (sym e ∙ found.1.1)) ∙ node_item s item.paint found.0 found.1.0 in
      (record item { keys = keys }, (get_same items s item keys at node.item same, (new.0, new.1))))
      (λ (no_new : ¬ IsSlotOf (keys_of keys) slot).
      ⊎_elim (λ (old : IsSlotOf (keys_of item.keys) slot). absurd (none-some node (sym (swap.ended slot old no_new) ∙ e)))
      (λ (no_old : ¬ IsSlotOf (keys_of item.keys) slot).
      let own = d.of_items slot node (sym (swap.others slot no_old no_new) ∙ e) in
      let ne : node.item ≢ s = λ same.
      no_old (own.1.1.0, subst (λ (o : Item). KeyAt o own.1.1.0 slot) (same_Some own.0 item (sym own.1.0 ∙ (ap (map.get items) same ∙ at))) own.1.1.1) in
      (own.0, (get_other items s item keys at node.item ne ∙ own.1.0, own.1.1)))
      (slot_or_not (keys_of item.keys) slot))
      (slot_or_not (keys_of keys) slot)

  kinds_after : (t : ℕ) (one : Item) → map.get after t ≡ Some one → IsIn rest t → (one.keys ≡ no_keys) ⊎ HasKinds g one
  kinds_after t one e later =
      let ne : t ≢ s = λ same. first (subst (IsIn rest) same later) in
      let was = was_other items s item keys at t one ne e in
      ⊎_elim (λ (none : one.keys ≡ no_keys). inl none)
      (λ (has : HasKinds f one).
      inr (
        (has.0.0, (has.0.1.0, (has.0.1.1.0, (other_node t 0 has.0.0.slot one was ne (group_at one has.0.0 has.0.1.0) ∙ has.0.1.1.1.0, has.0.1.1.1.1)))),
        λ place key is.
            let node = has.1 place key is in
            (node.0, (other_node t (suc place) key.slot one was ne (rect_at one key has.0.0 place has.0.1.0 is) ∙ node.1.0, node.1.1)),
      ))
      (d.kinds t one was (in_rest s rest t later))

  -- the item itself
  dressed_now : IsDressed g s (record item { keys = keys })
  dressed_now =
      let group = the_key keys.group has_group in
      let all : list_map (λ key. g.node (slot_of key)) (group.0 ∷ rect_keys keys.rects) ≡ list_map Some (group_node s item.paint ∷ list_map (rect_node s) (parts_of item.paint.rects)) =
      subst (λ o. list_map (λ key. g.node (slot_of key)) (group_keys o ++ rect_keys keys.rects) ≡ list_map Some (group_node s item.paint ∷ list_map (rect_node s) (parts_of item.paint.rects))) group.1 swap.has in
      record {
        group = group.0;
        group_is = group.1;
        group_node = same_Some (g.node group.0.slot) (Some (group_node s item.paint)) (ap (λ xs. slice_get xs 0) all);
        rect_nodes = ap (λ xs. drop 1 xs) all ∙ map_twice (rect_node s) Some (parts_of item.paint.rects);
      }

  bodies_after : (t : ℕ) (one : Item) → map.get after t ≡ Some one → ¬ IsIn rest t → IsDressed g t one
  bodies_after t one e done =
      ⊎_elim
      (λ (same : t ≡ s). subst (λ (o : Item). IsDressed g t o) (same_keys items s item keys at t one same e) (subst (λ u. IsDressed g u (record item { keys = keys })) (sym same) dressed_now))
      (λ (ne : t ≢ s).
      let was = was_other items s item keys at t one ne e in
      let has = d.bodies t one was (λ is. ⊎_elim (λ (here : s ≡ t). ne (sym here)) done (first_or_rest s rest t is)) in
      record {
        group = has.group;
        group_is = has.group_is;
        group_node = other_node t 0 has.group.slot one was ne (group_at one has.group has.group_is) ∙ has.group_node;
        rect_nodes =
            same_map f.node g.node (rect_keys one.keys.rects) (λ slot is. other_node t (suc is.0) slot one was ne (rect_at one (key_of slot) has.group is.0 has.group_is is.1)) ∙ has.rect_nodes;
      })
      (cases_eq t s)

  pub dressing_after : Dressing g after root rest
  dressing_after = record {
    tree = same_tree items after root (paints_after items s item keys at items (λ serial. refl)) d.tree;
    one_item = one_after;
    of_nodes = nodes_after;
    of_items = items_after;
    kinds = kinds_after;
    bodies = bodies_after;
  }

  -- groups stay
  group_same : (c : ℕ) → IsSome (group_slot items c) → group_slot after c ≡ group_slot items c
  group_same c is =
      ⊎_elim
      (λ (same : c ≡ s).
      let mine : group_slot items c ≡ option_map slot_of item.keys.group = ap (λ o. option_map slot_of (option_and_then (λ (i : Item). i.keys.group) o)) (ap (map.get items) same ∙ at) in
      let theirs : group_slot after c ≡ option_map slot_of keys.group = ap (λ o. option_map slot_of (option_and_then (λ (i : Item). i.keys.group) o)) (get_same items s item keys at c same) in
      theirs ∙ (kept_slot item.keys.group keys.group group_kept (subst IsSome mine is) ∙ sym mine))
      (λ (ne : c ≢ s). ap (λ o. option_map slot_of (option_and_then (λ (i : Item). i.keys.group) o)) (get_other items s item keys at c ne))
      (cases_eq c s)

  pub no_parent_after : IsForest f → HasNoParent f items root → HasNoParent g after root
  no_parent_after forest was slot is parent below =
      let child = swap.fewer parent slot below in
      ⊎_elim
      (λ (same : root ≡ s).
      let key = the_key keys.group has_group in
      let slot_is_key : slot ≡ key.0.slot =
      same_Some slot key.0.slot (sym is ∙ slot_is after root (record item { keys = keys }) key.0 (get_same items s item keys at root same) key.1) in
      let new : IsSlotOf (keys_of keys) slot = (0, group_at (record item { keys = keys }) key.0 key.1 ∙ ap (λ x. Some (key_of x)) (sym slot_is_key)) in
      ⊎_elim
      (λ (none : item.keys ≡ no_keys).
      let live = forest.child_live parent child.0 slot child.1 in
      let gone = swap.fresh slot new (no_slot item.keys slot none) in
      let no : IsSome {T = Node} None = subst IsSome gone live in
      cc)
      (λ (has : HasKinds f item).
      let same_key : key.0 ≡ has.0.0 = same_Some key.0 has.0.0 (sym key.1 ∙ group_kept has.0.0 has.0.1.0) in
      was slot (slot_is items root item has.0.0 (ap (map.get items) same ∙ at) has.0.1.0 ∙ ap Some (sym (slot_is_key ∙ ap slot_of same_key))) parent child)
      (d.kinds s item at (in_first s rest)))
      (λ (ne : root ≢ s).
      was slot (sym (ap (λ o. option_map slot_of (option_and_then (λ (i : Item). i.keys.group) o)) (get_other items s item keys at root ne)) ∙ is) parent child)
      (cases_eq root s)

  -- no slot of another item is that of a rectangle of this one
  rect_place : (slot : ℕ) → IsSlotOf (rect_keys item.keys.rects) slot → (place : ℕ) × KeyAt item (suc place) slot
  rect_place slot is =
      ⊎_elim (λ (none : item.keys ≡ no_keys). absurd (no_rect item.keys slot none is))
      (λ (has : HasKinds f item). (is.0, rect_at item (key_of slot) has.0.0 is.0 has.0.1.0 is.1))
      (d.kinds s item at (in_first s rest))

  group_no_freed : (c slot : ℕ) → group_slot items c ≡ Some slot → ¬ IsSlotOf (rect_keys item.keys.rects) slot
  group_no_freed c slot is freed =
      let rect = rect_place slot freed in
      let found = the_group (map.get items c) slot is in
      let no : 0 ≡ suc rect.0 = (d.one_item c s found.0 item 0 (suc rect.0) slot found.1.0 at found.1.1 rect.1).1 in
      absurd (omega arith)

  own_same : (one : Item) → ((c : ℕ) → IsIn one.paint.children c → IsSome (group_slot items c)) → own_slots after one ≡ own_slots items one
  own_same one grown =
      let slot_same : (c : ℕ) → IsIn one.paint.children c → slot_or after c ≡ slot_or items c = λ c is. ap (λ o. unwrap_or o 0) (group_same c (grown c is)) in
      ap (λ xs. xs ++ (list_map slot_of (rect_keys one.keys.rects) ++ list_map (slot_or after) (drop one.paint.under one.paint.children)))
      (map_alike (slot_or after) (slot_or items) (take one.paint.under one.paint.children)
      (λ c is. slot_same c (subst (λ xs. IsIn xs c) (take-append-drop one.paint.under one.paint.children) (in_left (take one.paint.under one.paint.children) (drop one.paint.under one.paint.children) c is))))
      ∙ ap (λ xs. list_map (slot_or items) (take one.paint.under one.paint.children) ++ (list_map slot_of (rect_keys one.keys.rects) ++ xs))
      (map_alike (slot_or after) (slot_or items) (drop one.paint.under one.paint.children)
      (λ c is. slot_same c (subst (λ xs. IsIn xs c) (take-append-drop one.paint.under one.paint.children) (in_right (take one.paint.under one.paint.children) (drop one.paint.under one.paint.children) c is))))

  pub linked_after : (serials : List ℕ) → IsIn serials s → AreLinked f items serials → AreLinked g after serials
  linked_after serials among was t one e loose =
      let ne : t ≢ s = λ same. loose (subst (IsIn serials) (sym same) among) in
      let before = was_other items s item keys at t one ne e in
      let old = was t one before loose in
      record {
        segment = λ group is.
            subst (HasSegment (g.children group.slot)) (sym (own_same one old.grown))
            (swap.kept group.slot (own_slots items one) (group_no_freed t group.slot (slot_is items t one group before is)) (old.segment group is)
            (λ slot mine freed.
            ⊎_elim
            (λ (child : (c : ℕ) × (IsIn one.paint.children c × (slot_or items c ≡ slot))).
            group_no_freed child.0 slot (some_or (group_slot items child.0) (old.grown child.0 child.1.0) ∙ ap Some child.1.1) freed)
            (λ (rect : (key : NodeKey) × (IsIn (rect_keys one.keys.rects) key × (key.slot ≡ slot))).
            let place = rect_place slot freed in
            ne (d.one_item t s one item (suc rect.1.0.0) (suc place.0) slot before at (subst (KeyAt one (suc rect.1.0.0)) rect.1.1 (rect_at one rect.0 group rect.1.0.0 is rect.1.0.1)) place.1).0)
            (own_cases items one slot mine)));
        grown = λ c is. subst IsSome (sym (group_same c (old.grown c is))) (old.grown c is);
      }

-- one more item keeps its keys
pub keep_step : (first items next : Items) (s : ℕ) (item : Item) (keys : ItemKeys) → map.get items s ≡ Some item → map.get items s ≡ map.get first s → next ≡ with_keys s keys items → AllKeep first items
    → ((key : NodeKey) → item.keys.group ≡ Some key → keys.group ≡ Some key) → (length (rect_keys item.keys.rects) ≡ length (parts_of item.paint.rects) → keys.rects ≡ item.keys.rects) → AllKeep first next
keep_step first items next s item keys at same next_is keep group rects t was e =
    ⊎_elim
    (λ (here : t ≡ s).
    let is : item ≡ was = same_Some item was (sym at ∙ (same ∙ (ap (map.get first) (sym here) ∙ e))) in (
      record item { keys = keys },
      (
        ap (λ (m : Items). map.get m t) next_is ∙ get_same items s item keys at t here,
        subst (λ (i : Item). KeepsKeys i (record item { keys = keys })) is (record { group = group; rects = rects }),
      ),
    ))
    (λ (ne : t ≢ s).
    let old = keep t was e in
    (old.0, (ap (λ (m : Items). map.get m t) next_is ∙ (get_other items s item keys at t ne ∙ old.1.0), old.1.1)))
    (cases_eq t s)

pub all_keep : (items : Items) → AllKeep items items
all_keep items t item e = (item, (e, record { group = λ key is. is; rects = λ same. refl }))
