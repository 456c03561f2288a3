-- Nodes that agree with a scene, once the released ones are freed.
use Rattle.std.proofs.Common.{◌≡◌, ⊎_elim, inl, inr, ℕ, suc, List, [], ◌++◌, map as list_map, take, drop, Option, Some, IsSome, is_some, ap, sym, ◌∙◌, subst, append-nil, map-id}
use Rattle.std.specs.Prelude.{unwrap_or}
use Rattle.std.specs.FinMap as map
use Rattle.std.proofs.lemmas.Option.{none-some, same_Some}
use Rattle.std.proofs.lemmas.List.{take-append-drop, map-append}
use Rattle.links.specs.declared.node_key.NodeKey.{NodeKey}
use Rattle.scene.specs.Keys.{rect_keys}
use Rattle.scene.specs.Picture.{Item, Items, Picture, no_keys}
use Rattle.sg_nodes.specs.Forest.{Forest, IsForest, slot_of, key_of}
use Rattle.sg_standing.specs.Standing.{Agree, HasKinds, IsOwned, KeyAt, ReleasedAt, group_slot, wanted}
use Rattle.sg_sync.specs.Own.{IsIn, slot_or, own_slots}
use Rattle.sg_sync.specs.Linking.{Distinct}
use Rattle.sg_sync.specs.Swapping.{IsSlotOf, Swapped}
use Rattle.sg_sync.specs.Dressing.{AreLinked, HasNoParent, Dressing}
use Rattle.sg_sync.proofs.Members.{in_none, in_left, in_right, in_either, in_map, in_mapped, distinct_by_place, map_twice}
use Rattle.sg_sync.proofs.Dressed.{group_at, rect_at, slot_is, own_cases}
use Rattle.sg_sync.proofs.Swapping.{slot_or_not, same_map}
use Rattle.sg_sync.proofs.Stepping.{the_group, the_key_of, some_or}

-- what is wanted, as numbers
wanted_slots : (items : Items) (item : Item) → list_map (λ o. unwrap_or o 0) (wanted items item) ≡ own_slots items item
wanted_slots items item =
    let under : List ℕ = take item.paint.under item.paint.children in
    let over : List ℕ = drop item.paint.under item.paint.children in
    let rects : List NodeKey = rect_keys item.keys.rects in
    map-append (λ o. unwrap_or o 0) (list_map (group_slot items) under) (list_map (λ key. Some (slot_of key)) rects ++ list_map (group_slot items) over)
    ∙ (ap (λ xs. xs ++ list_map (λ o. unwrap_or o 0) (list_map (λ key. Some (slot_of key)) rects ++ list_map (group_slot items) over)) (map_twice (group_slot items) (λ o. unwrap_or o 0) under)
    ∙ ap (λ xs. list_map (slot_or items) under ++ xs)
    (map-append (λ o. unwrap_or o 0) (list_map (λ key. Some (slot_of key)) rects) (list_map (group_slot items) over)
    ∙ (ap (λ xs. xs ++ list_map (λ o. unwrap_or o 0) (list_map (group_slot items) over)) (map_twice (λ (key : NodeKey). Some (slot_of key)) (λ o. unwrap_or o 0) rects)
    ∙ ap (λ xs. list_map slot_of rects ++ xs) (map_twice (group_slot items) (λ o. unwrap_or o 0) over))))

children_are : (items : Items) (item : Item) (children : List ℕ) → list_map Some children ≡ wanted items item → children ≡ own_slots items item
children_are items item children e =
    sym (map_twice (λ (x : ℕ). Some x) (λ o. unwrap_or o 0) children ∙ map-id children) ∙ (ap (list_map (λ o. unwrap_or o 0)) e ∙ wanted_slots items item)

child_wanted : (items : Items) (item : Item) (child : ℕ) → IsIn item.paint.children child → IsIn (wanted items item) (group_slot items child)
child_wanted items item child is =
    let under : List ℕ = take item.paint.under item.paint.children in
    let over : List ℕ = drop item.paint.under item.paint.children in
    let rects : List (Option ℕ) = list_map (λ key. Some (slot_of key)) (rect_keys item.keys.rects) in
    ⊎_elim (λ (first : IsIn under child). in_left (list_map (group_slot items) under) (rects ++ list_map (group_slot items) over) (group_slot items child) (in_map (group_slot items) under child first))
    (λ (last : IsIn over child).
    in_right (list_map (group_slot items) under) (rects ++ list_map (group_slot items) over) (group_slot items child)
    (in_right rects (list_map (group_slot items) over) (group_slot items child) (in_map (group_slot items) over child last)))
    (in_either under over child (subst (λ xs. IsIn xs child) (sym (take-append-drop item.paint.under item.paint.children)) is))

child_grown : (items : Items) (item : Item) (children : List ℕ) (child : ℕ) → list_map Some children ≡ wanted items item → IsIn item.paint.children child → IsSome (group_slot items child)
child_grown items item children child e is =
    let found = in_mapped (λ (x : ℕ). Some x) children (group_slot items child) (subst (λ xs. IsIn xs (group_slot items child)) (sym e) (child_wanted items item child is)) in
    ap is_some (sym found.1.1)

pub released_distinct : (f : Forest) (p : Picture) → Agree f p → Distinct p.released
released_distinct f p agree = distinct_by_place p.released (λ i j key k l. agree.released_once i j key.slot k l)

module _ {f g : Forest} {p : Picture} (agree : Agree f p) (forest : IsForest f) (swap : Swapped f g p.released [] p.released []) where
  -- keys of items are not among the released ones
  not_freed : (serial place slot : ℕ) (item : Item) → map.get p.items serial ≡ Some item → KeyAt item place slot → ¬ IsSlotOf p.released slot
  not_freed serial place slot item e k is = agree.not_released serial place is.0 slot item e k is.1

  node_stays : (serial place slot : ℕ) (item : Item) → map.get p.items serial ≡ Some item → KeyAt item place slot → g.node slot ≡ f.node slot
  node_stays serial place slot item e k = swap.others slot (not_freed serial place slot item e k) (in_none (key_of slot))

  pub dressing_first : Dressing g p.items p.root p.dirty
  dressing_first = record {
    tree = agree.tree;
    one_item = agree.one_item;
    of_nodes = λ serial i slot item e k.
        let node = agree.of_nodes serial i slot item e k in (node.0, (node_stays serial i slot item e k ∙ node.1.0, node.1.1));
    of_items = λ slot node e.
        ⊎_elim (λ (freed : IsSlotOf p.released slot). absurd (none-some node (sym (swap.ended slot freed (in_none (key_of slot))) ∙ e)))
        (λ (other : ¬ IsSlotOf p.released slot).
        ⊎_elim (λ (own : IsOwned p.items node.item slot). own) (λ (freed : (i : ℕ) × ReleasedAt p i slot). absurd (other (freed.0, freed.1)))
        (agree.of_items slot node (sym (swap.others slot other (in_none (key_of slot))) ∙ e)))
        (slot_or_not p.released slot);
    kinds = λ serial item e dirty.
        ⊎_elim (λ (none : (item.keys ≡ no_keys) × IsIn p.dirty serial). inl none.0)
        (λ (has : HasKinds f item).
        inr (
          (has.0.0, (has.0.1.0, (has.0.1.1.0, (node_stays serial 0 has.0.0.slot item e (group_at item has.0.0 has.0.1.0) ∙ has.0.1.1.1.0, has.0.1.1.1.1)))),
          λ place key is.
              let node = has.1 place key is in
              (node.0, (node_stays serial (suc place) key.slot item e (rect_at item key has.0.0 place has.0.1.0 is) ∙ node.1.0, node.1.1)),
        ))
        (agree.keyed serial item e);
    bodies = λ serial item e still.
        let has = agree.clean serial item e still in
        record {
          group = has.group;
          group_is = has.group_is;
          group_node = node_stays serial 0 has.group.slot item e (group_at item has.group has.group_is) ∙ has.group_node;
          rect_nodes =
              same_map f.node g.node (rect_keys item.keys.rects) (λ slot is. node_stays serial (suc is.0) slot item e (rect_at item (key_of slot) has.group is.0 has.group_is is.1)) ∙ has.rect_nodes;
        };
  }

  group_no_freed : (c slot : ℕ) → group_slot p.items c ≡ Some slot → ¬ IsSlotOf p.released slot
  group_no_freed c slot is = let found = the_group (map.get p.items c) slot is in not_freed c 0 slot found.0 found.1.0 found.1.1

  pub linked_first : AreLinked g p.items p.dirty
  linked_first serial item e still =
      let has = agree.clean serial item e still in
      let grown : (c : ℕ) → IsIn item.paint.children c → IsSome (group_slot p.items c) = λ c is. child_grown p.items item (f.children has.group.slot) c has.children is in
      record {
        segment = λ group is.
            swap.kept group.slot (own_slots p.items item) (group_no_freed serial group.slot (slot_is p.items serial item group e is))
            ([], ([], ap (λ (k : NodeKey). f.children k.slot) (same_Some group has.group (sym is ∙ has.group_is)) ∙ (children_are p.items item (f.children has.group.slot) has.children ∙ sym (append-nil (own_slots p.items item)))))
            (λ slot mine.
            ⊎_elim
            (λ (child : (c : ℕ) × (IsIn item.paint.children c × (slot_or p.items c ≡ slot))).
            group_no_freed child.0 slot (some_or (group_slot p.items child.0) (grown child.0 child.1.0) ∙ ap Some child.1.1))
            (λ (rect : (key : NodeKey) × (IsIn (rect_keys item.keys.rects) key × (key.slot ≡ slot))).
            not_freed serial (suc rect.1.0.0) slot item e (subst (KeyAt item (suc rect.1.0.0)) rect.1.1 (rect_at item rect.0 group rect.1.0.0 is rect.1.0.1)))
            (own_cases p.items item slot mine));
        grown = grown;
      }

  root_is : (slot : ℕ) → group_slot p.items p.root ≡ Some slot → f.root ≡ Some slot
  root_is slot at =
      let found = the_key_of (map.get p.items p.root) slot at in
      agree.root found.0 found.1.1.0 found.1.0 found.1.1.1.0 ∙ ap Some found.1.1.1.1

  pub no_parent_first : HasNoParent g p.items p.root
  no_parent_first slot is parent below = forest.root_free slot (root_is slot is) parent (swap.fewer parent slot below)
