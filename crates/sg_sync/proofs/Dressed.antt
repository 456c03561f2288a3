-- What items want that have their nodes.
use Rattle.std.proofs.Common.{◌≡◌, ◌≢◌, ◌⊎◌, ⊎_elim, inl, inr, ℕ, zero, suc, ◌+◌, List, [], ◌++◌, map as list_map, take, drop, Option, Some, None, IsSome, is_some, option_map, refl, ap, sym, ◌∙◌, subst, arith}
use Rattle.std.specs.Prelude.{unwrap_or}
use Rattle.std.specs.Option.{option_and_then}
use Rattle.std.specs.List.{slice_get}
use Rattle.std.specs.FinMap as map
use Rattle.std.proofs.lemmas.Option.{same_Some}
use Rattle.std.proofs.lemmas.List.{take-append-drop}
use Rattle.links.specs.declared.node_key.NodeKey.{NodeKey}
use Rattle.scene.specs.Keys.{rect_keys, group_keys}
use Rattle.scene.specs.Picture.{Item, Items}
use Rattle.sg_nodes.specs.declared.node.Node.{Node}
use Rattle.sg_nodes.specs.Forest.{Forest, IsLive, slot_of, key_of}
use Rattle.sg_standing.specs.Standing.{group_slot, KeyAt}
use Rattle.sg_sync.specs.Own.{IsIn, slot_or, own_slots}
use Rattle.sg_sync.specs.Linking.{Distinct}
use Rattle.sg_sync.specs.Dressing.{IsDressed, Dressing, Wants}
use Rattle.sg_sync.proofs.Members.{in_none, in_left, in_right, in_either, in_map, in_mapped, distinct_by_place, distinct-append, distinct_left, distinct_right, distinct_apart, distinct-map}

-- an item that is there
pub the_item : (o : Option Item) → IsSome o → (item : Item) × (o ≡ Some item)
the_item None is = cc
the_item (Some item) is = (item, refl)

pub the_node : (o : Option Node) → IsSome o → (node : Node) × (o ≡ Some node)
the_node None is = cc
the_node (Some node) is = (node, refl)

-- the keys of an item with a group
pub group_at : (item : Item) (key : NodeKey) → item.keys.group ≡ Some key → KeyAt item 0 key.slot
group_at item key e = ap (λ g. slice_get (group_keys g ++ rect_keys item.keys.rects) 0) e

pub rect_at : (item : Item) (key group : NodeKey) (place : ℕ) → item.keys.group ≡ Some group → slice_get (rect_keys item.keys.rects) place ≡ Some key → KeyAt item (suc place) key.slot
rect_at item key group place e is = ap (λ g. slice_get (group_keys g ++ rect_keys item.keys.rects) (suc place)) e ∙ is

pub key_cases : (item : Item) (group : NodeKey) (place slot : ℕ) → item.keys.group ≡ Some group → KeyAt item place slot
    → ((place ≡ 0) × (group.slot ≡ slot)) ⊎ ((key : NodeKey) × (IsIn (rect_keys item.keys.rects) key × (key.slot ≡ slot)))
key_cases item group zero slot e is =
    inl (refl, ap (λ (k : NodeKey). k.slot) (same_Some group (key_of slot) (ap (λ g. slice_get (group_keys g ++ rect_keys item.keys.rects) 0) (sym e) ∙ is)))
key_cases item group (suc place) slot e is =
    inr (key_of slot, ((place, ap (λ g. slice_get (group_keys g ++ rect_keys item.keys.rects) (suc place)) (sym e) ∙ is), refl))

-- the slot of its group
pub slot_is : (items : Items) (serial : ℕ) (item : Item) (key : NodeKey) → map.get items serial ≡ Some item → item.keys.group ≡ Some key → group_slot items serial ≡ Some key.slot
slot_is items serial item key e g =
    ap (λ o. option_map slot_of (option_and_then (λ (i : Item). i.keys.group) o)) e ∙ ap (option_map slot_of) g

pub slot_or_is : (items : Items) (serial : ℕ) (item : Item) (key : NodeKey) → map.get items serial ≡ Some item → item.keys.group ≡ Some key → slot_or items serial ≡ key.slot
slot_or_is items serial item key e g = ap (λ o. unwrap_or o 0) (slot_is items serial item key e g)

-- what an item wants are groups of its children, and its own rectangles
pub own_cases : (items : Items) (item : Item) (slot : ℕ) → IsIn (own_slots items item) slot
    → ((child : ℕ) × (IsIn item.paint.children child × (slot_or items child ≡ slot))) ⊎ ((key : NodeKey) × (IsIn (rect_keys item.keys.rects) key × (key.slot ≡ slot)))
own_cases items item slot is =
    ⊎_elim
    (λ (under : IsIn (list_map (slot_or items) (take item.paint.under item.paint.children)) slot).
    let found = in_mapped (slot_or items) (take item.paint.under item.paint.children) slot under in
    inl (
      found.0,
      (
        subst (λ xs. IsIn xs found.0) (take-append-drop item.paint.under item.paint.children)
            (in_left (take item.paint.under item.paint.children) (drop item.paint.under item.paint.children) found.0 found.1.0),
        found.1.1,
      ),
    ))
    (λ (rest : IsIn (list_map slot_of (rect_keys item.keys.rects) ++ list_map (slot_or items) (drop item.paint.under item.paint.children)) slot).
    ⊎_elim
    (λ (rect : IsIn (list_map slot_of (rect_keys item.keys.rects)) slot). inr (in_mapped slot_of (rect_keys item.keys.rects) slot rect))
    (λ (over : IsIn (list_map (slot_or items) (drop item.paint.under item.paint.children)) slot).
    let found = in_mapped (slot_or items) (drop item.paint.under item.paint.children) slot over in
    inl (
      found.0,
      (
        subst (λ xs. IsIn xs found.0) (take-append-drop item.paint.under item.paint.children)
            (in_right (take item.paint.under item.paint.children) (drop item.paint.under item.paint.children) found.0 found.1.0),
        found.1.1,
      ),
    ))
    (in_either (list_map slot_of (rect_keys item.keys.rects)) (list_map (slot_or items) (drop item.paint.under item.paint.children)) slot rest))
    (in_either (list_map (slot_or items) (take item.paint.under item.paint.children))
    (list_map slot_of (rect_keys item.keys.rects) ++ list_map (slot_or items) (drop item.paint.under item.paint.children)) slot is)

pub own_child : (items : Items) (item : Item) (child : ℕ) → IsIn item.paint.children child → IsIn (own_slots items item) (slot_or items child)
own_child items item child is =
    ⊎_elim
    (λ (under : IsIn (take item.paint.under item.paint.children) child).
    in_left (list_map (slot_or items) (take item.paint.under item.paint.children))
    (list_map slot_of (rect_keys item.keys.rects) ++ list_map (slot_or items) (drop item.paint.under item.paint.children)) (slot_or items child)
    (in_map (slot_or items) (take item.paint.under item.paint.children) child under))
    (λ (over : IsIn (drop item.paint.under item.paint.children) child).
    in_right (list_map (slot_or items) (take item.paint.under item.paint.children))
    (list_map slot_of (rect_keys item.keys.rects) ++ list_map (slot_or items) (drop item.paint.under item.paint.children)) (slot_or items child)
    (in_right (list_map slot_of (rect_keys item.keys.rects)) (list_map (slot_or items) (drop item.paint.under item.paint.children)) (slot_or items child)
    (in_map (slot_or items) (drop item.paint.under item.paint.children) child over)))
    (in_either (take item.paint.under item.paint.children) (drop item.paint.under item.paint.children) child
    (subst (λ xs. IsIn xs child) (sym (take-append-drop item.paint.under item.paint.children)) is))

pub own_rect : (items : Items) (item : Item) (key : NodeKey) → IsIn (rect_keys item.keys.rects) key → IsIn (own_slots items item) key.slot
own_rect items item key is =
    in_right (list_map (slot_or items) (take item.paint.under item.paint.children))
    (list_map slot_of (rect_keys item.keys.rects) ++ list_map (slot_or items) (drop item.paint.under item.paint.children)) key.slot
    (in_left (list_map slot_of (rect_keys item.keys.rects)) (list_map (slot_or items) (drop item.paint.under item.paint.children)) key.slot
    (in_map slot_of (rect_keys item.keys.rects) key is))

-- all items have their nodes
module _ {f : Forest} {items : Items} {root : ℕ} (d : Dressing f items root []) where
  pub dressed : (serial : ℕ) (item : Item) → map.get items serial ≡ Some item → IsDressed f serial item
  dressed serial item e = d.bodies serial item e (in_none serial)

  -- a child is an item, with its group
  pub child_item : (serial child : ℕ) (item : Item) → map.get items serial ≡ Some item → IsIn item.paint.children child
      → (other : Item) × ((map.get items child ≡ Some other) × ((key : NodeKey) × ((other.keys.group ≡ Some key) × (slot_or items child ≡ key.slot))))
  child_item serial child item e is =
      let found = the_item (map.get items child) (d.tree.named serial is.0 child (item, (e, is.1))) in
      let has = dressed child found.0 found.1 in
      (found.0, (found.1, (has.group, (has.group_is, slot_or_is items child found.0 has.group found.1 has.group_is))))

  pub child_group : (serial child : ℕ) (item : Item) → map.get items serial ≡ Some item → IsIn item.paint.children child → IsSome (group_slot items child)
  child_group serial child item e is =
      let other = child_item serial child item e is in
      ap is_some (slot_is items child other.0 other.1.1.0 other.1.0 other.1.1.1.0)

  -- two groups of one slot are of one item, and a group is no rectangle
  pub same_group : (a b : ℕ) (item other : Item) (key own : NodeKey) → map.get items a ≡ Some item → map.get items b ≡ Some other
      → item.keys.group ≡ Some key → other.keys.group ≡ Some own → key.slot ≡ own.slot → a ≡ b
  same_group a b item other key own e g k l same =
      (d.one_item a b item other 0 0 own.slot e g (subst (KeyAt item 0) same (group_at item key k)) (group_at other own l)).0

  pub group_no_rect : (a b : ℕ) (item other : Item) (key rect : NodeKey) → map.get items a ≡ Some item → map.get items b ≡ Some other
      → item.keys.group ≡ Some key → IsIn (rect_keys other.keys.rects) rect → key.slot ≢ rect.slot
  group_no_rect a b item other key rect e g k is same =
      let has = dressed b other g in
      let no : 0 ≡ suc is.0 =
      (d.one_item a b item other 0 (suc is.0) rect.slot e g (subst (KeyAt item 0) same (group_at item key k)) (rect_at other rect has.group is.0 has.group_is is.1)).1 in
      absurd (omega arith)

  -- what one wants is a live node
  pub wanted_live : (serial slot : ℕ) → Wants items serial slot → IsLive f slot
  wanted_live serial slot wants =
      ⊎_elim
      (λ (group : (child : ℕ) × (IsIn wants.0.paint.children child × (slot_or items child ≡ slot))).
      let other = child_item serial group.0 wants.0 wants.1.0 group.1.0 in
      let node = d.of_nodes group.0 0 other.1.1.0.slot other.0 other.1.0 (group_at other.0 other.1.1.0 other.1.1.1.0) in
      subst (IsLive f) (sym other.1.1.1.1 ∙ group.1.1) (ap is_some node.1.0))
      (λ (rect : (key : NodeKey) × (IsIn (rect_keys wants.0.keys.rects) key × (key.slot ≡ slot))).
      let has = dressed serial wants.0 wants.1.0 in
      let node = d.of_nodes serial (suc rect.1.0.0) rect.0.slot wants.0 wants.1.0 (rect_at wants.0 rect.0 has.group rect.1.0.0 has.group_is rect.1.0.1) in
      subst (IsLive f) rect.1.1 (ap is_some node.1.0))
      (own_cases items wants.0 slot wants.1.1)

  -- no two items want one slot
  pub one_wants : (a b slot : ℕ) → Wants items a slot → Wants items b slot → a ≡ b
  one_wants a b slot p q =
      ⊎_elim
      (λ (group : (child : ℕ) × (IsIn p.0.paint.children child × (slot_or items child ≡ slot))).
      let other = child_item a group.0 p.0 p.1.0 group.1.0 in
      ⊎_elim
      (λ (also : (child : ℕ) × (IsIn q.0.paint.children child × (slot_or items child ≡ slot))).
      let more = child_item b also.0 q.0 q.1.0 also.1.0 in
      let same = same_group group.0 also.0 other.0 more.0 other.1.1.0 more.1.1.0 other.1.0 more.1.0 other.1.1.1.0 more.1.1.1.0
      (sym other.1.1.1.1 ∙ (group.1.1 ∙ (sym also.1.1 ∙ more.1.1.1.1))) in
      d.tree.one_parent a b group.1.0.0 also.1.0.0 also.0 (p.0, (p.1.0, group.1.0.1 ∙ ap Some same)) (q.0, (q.1.0, also.1.0.1)))
      (λ (rect : (key : NodeKey) × (IsIn (rect_keys q.0.keys.rects) key × (key.slot ≡ slot))).
      absurd (group_no_rect group.0 b other.0 q.0 other.1.1.0 rect.0 other.1.0 q.1.0 other.1.1.1.0 rect.1.0 (sym other.1.1.1.1 ∙ (group.1.1 ∙ sym rect.1.1))))
      (own_cases items q.0 slot q.1.1))
      (λ (rect : (key : NodeKey) × (IsIn (rect_keys p.0.keys.rects) key × (key.slot ≡ slot))).
      ⊎_elim
      (λ (also : (child : ℕ) × (IsIn q.0.paint.children child × (slot_or items child ≡ slot))).
      let more = child_item b also.0 q.0 q.1.0 also.1.0 in
      absurd (group_no_rect also.0 a more.0 p.0 more.1.1.0 rect.0 more.1.0 p.1.0 more.1.1.1.0 rect.1.0 (sym more.1.1.1.1 ∙ (also.1.1 ∙ sym rect.1.1))))
      (λ (more : (key : NodeKey) × (IsIn (rect_keys q.0.keys.rects) key × (key.slot ≡ slot))).
      let has = dressed a p.0 p.1.0 in
      let have = dressed b q.0 q.1.0 in
      (d.one_item a b p.0 q.0 (suc rect.1.0.0) (suc more.1.0.0) slot p.1.0 q.1.0
      (subst (KeyAt p.0 (suc rect.1.0.0)) rect.1.1 (rect_at p.0 rect.0 has.group rect.1.0.0 has.group_is rect.1.0.1))
      (subst (KeyAt q.0 (suc more.1.0.0)) more.1.1 (rect_at q.0 more.0 have.group more.1.0.0 have.group_is more.1.0.1))).0)
      (own_cases items q.0 slot q.1.1))
      (own_cases items p.0 slot p.1.1)

  -- the root's group is wanted by none
  pub root_unwanted : (item : Item) (key : NodeKey) (serial : ℕ) → map.get items root ≡ Some item → item.keys.group ≡ Some key → ¬ Wants items serial key.slot
  root_unwanted item key serial e g wants =
      ⊎_elim
      (λ (group : (child : ℕ) × (IsIn wants.0.paint.children child × (slot_or items child ≡ key.slot))).
      let other = child_item serial group.0 wants.0 wants.1.0 group.1.0 in
      let same = same_group group.0 root other.0 item other.1.1.0 key other.1.0 e other.1.1.1.0 g (sym other.1.1.1.1 ∙ group.1.1) in
      let deep = d.tree.below serial group.1.0.0 group.0 (wants.0, (wants.1.0, group.1.0.1)) in
      let top = ap d.tree.depth same ∙ d.tree.at_root in
      let no : 0 ≡ d.tree.depth serial + 1 = sym top ∙ deep in
      absurd (omega arith))
      (λ (rect : (rkey : NodeKey) × (IsIn (rect_keys wants.0.keys.rects) rkey × (rkey.slot ≡ key.slot))).
      group_no_rect root serial item wants.0 key rect.0 e wants.1.0 g rect.1.0 (sym rect.1.1))
      (own_cases items wants.0 key.slot wants.1.1)

  -- each other live node is wanted
  pub all_wanted : (slot : ℕ) → IsLive f slot → ((item : Item) (key : NodeKey) → map.get items root ≡ Some item → item.keys.group ≡ Some key → slot ≢ key.slot) → (serial : ℕ) × Wants items serial slot
  all_wanted slot live other =
      let node = the_node (f.node slot) live in
      let own = d.of_items slot node.0 node.1 in
      let has = dressed node.0.item own.0 own.1.0 in
      ⊎_elim
      (λ (group : (own.1.1.0 ≡ 0) × (has.group.slot ≡ slot)).
      let not_root : node.0.item ≢ root = λ same. other own.0 has.group (ap (λ s. map.get items s) (sym same) ∙ own.1.0) has.group_is (sym group.1) in
      let parent = d.tree.reached node.0.item (ap is_some own.1.0) not_root in (
        parent.0,
        (
          parent.2.0,
          (
            parent.2.1.0,
            subst (IsIn (own_slots items parent.2.0)) (slot_or_is items node.0.item own.0 has.group own.1.0 has.group_is ∙ group.1)
                (own_child items parent.2.0 node.0.item (parent.1, parent.2.1.1)),
          ),
        ),
      ))
      (λ (rect : (key : NodeKey) × (IsIn (rect_keys own.0.keys.rects) key × (key.slot ≡ slot))).
      (node.0.item, (own.0, (own.1.0, subst (IsIn (own_slots items own.0)) rect.1.1 (own_rect items own.0 rect.0 rect.1.0)))))
      (key_cases own.0 has.group own.1.1.0 slot has.group_is own.1.1.1)

  -- an item wants nothing twice
  pub own_distinct : (serial : ℕ) (item : Item) → map.get items serial ≡ Some item → Distinct (own_slots items item)
  own_distinct serial item e =
      let has = dressed serial item e in
      let kids : List ℕ = item.paint.children in
      let n : ℕ = item.paint.under in
      let rects : List NodeKey = rect_keys item.keys.rects in
      let once : Distinct (take n kids ++ drop n kids) =
      subst Distinct (sym (take-append-drop n kids)) (distinct_by_place kids (λ i j x k l. d.tree.one_place serial i j x (item, (e, k)) (item, (e, l)))) in
      let child : (c : ℕ) → IsIn (take n kids) c ⊎ IsIn (drop n kids) c → IsIn kids c =
      λ c is. subst (λ xs. IsIn xs c) (take-append-drop n kids) (⊎_elim (in_left (take n kids) (drop n kids) c) (in_right (take n kids) (drop n kids) c) is) in
      let alike : (x y : ℕ) → IsIn kids x → IsIn kids y → slot_or items x ≡ slot_or items y → x ≡ y =
      λ x y p q same.
      let one = child_item serial x item e p in
      let two = child_item serial y item e q in
      same_group x y one.0 two.0 one.1.1.0 two.1.1.0 one.1.0 two.1.0 one.1.1.1.0 two.1.1.1.0 (sym one.1.1.1.1 ∙ (same ∙ two.1.1.1.1)) in
      let no_rect : (c : ℕ) (key : NodeKey) → IsIn kids c → IsIn rects key → slot_or items c ≢ key.slot =
      λ c key p q same. let one = child_item serial c item e p in group_no_rect c serial one.0 item one.1.1.0 key one.1.0 e one.1.1.1.0 q (sym one.1.1.1.1 ∙ same) in
      distinct-append (list_map (slot_or items) (take n kids)) (list_map slot_of rects ++ list_map (slot_or items) (drop n kids))
      (distinct-map (slot_or items) (take n kids) (distinct_left (take n kids) (drop n kids) once) (λ x y p q same. alike x y (child x (inl p)) (child y (inl q)) same))
      (distinct-append (list_map slot_of rects) (list_map (slot_or items) (drop n kids))
      (distinct-map slot_of rects (distinct_by_place rects (λ i j x k l.
      let same : suc i ≡ suc j = (d.one_item serial serial item item (suc i) (suc j) x.slot e e (rect_at item x has.group i has.group_is k) (rect_at item x has.group j has.group_is l)).1 in omega arith))
      (λ x y p q same. ap key_of same))
      (distinct-map (slot_or items) (drop n kids) (distinct_right (take n kids) (drop n kids) once) (λ x y p q same. alike x y (child x (inr p)) (child y (inr q)) same))
      (λ slot p q.
      let rect = in_mapped slot_of rects slot p in
      let over = in_mapped (slot_or items) (drop n kids) slot q in
      no_rect over.0 rect.0 (child over.0 (inr over.1.0)) rect.1.0 (over.1.1 ∙ sym rect.1.1)))
      (λ slot p q.
      let under = in_mapped (slot_or items) (take n kids) slot p in
      ⊎_elim
      (λ (r : IsIn (list_map slot_of rects) slot).
      let rect = in_mapped slot_of rects slot r in no_rect under.0 rect.0 (child under.0 (inl under.1.0)) rect.1.0 (under.1.1 ∙ sym rect.1.1))
      (λ (o : IsIn (list_map (slot_or items) (drop n kids)) slot).
      let over = in_mapped (slot_or items) (drop n kids) slot o in
      distinct_apart (take n kids) (drop n kids) under.0 once under.1.0
      (subst (IsIn (drop n kids)) (sym (alike under.0 over.0 (child under.0 (inl under.1.0)) (child over.0 (inr over.1.0)) (under.1.1 ∙ sym over.1.1))) over.1.0))
      (in_either (list_map slot_of rects) (list_map (slot_or items) (drop n kids)) slot q))
