-- An item that is taken away.
use Rattle.std.proofs.Common.{◌≡◌, ◌≢◌, ◌⊎◌, ⊎_elim, inl, inr, ℕ, zero, suc, ◌+◌, ◌≤◌, cond, length, List, [], ◌∷◌, ◌++◌, Some, None, IsSome, is_some, refl, ap, sym, ◌∙◌, subst, arith, eq-eqb}
use Rattle.std.specs.List.{slice_get}
use Rattle.std.specs.Cmp.{nat_cmp_total, unsigned_tied}
use Rattle.std.specs.FinMap as map
use Rattle.std.proofs.lemmas.Option.{none-some, same_Some, slice_get_within}
use Rattle.std.proofs.lemmas.Bool.{cases_eq, ne_eqb}
use Rattle.links.specs.declared.node_key.NodeKey.{NodeKey}
use Rattle.links.proofs.Lists.{kept}
use Rattle.scene.specs.declared.paint.Paint.{Paint}
use Rattle.scene.specs.Dirty.{marked, without}
use Rattle.scene.specs.Keys.{keys_of}
use Rattle.scene.specs.Picture.{Item, Items, Picture, with_paint, keys_or_none, node_keys, node_keys_of}
use Rattle.sg_nodes.specs.Forest.{Forest, key_of}
use Rattle.sg_standing.specs.Trees.{IsTree, IsItem, Names}
use Rattle.sg_standing.specs.Standing.{Agree, KeyAt, ReleasedAt}
use Rattle.sg_standing.specs.Changing.{IsChanged}
use Rattle.sg_sync.specs.Own.{IsIn}
use Rattle.sync_tests.specs.Staged.{IsStaged, IsLastLeaf}
use Rattle.sync_tests.proofs.Maps.{put_same, put_other, is_marked, still_marked}
use Rattle.sync_tests.proofs.Staging.{there}
use Rattle.sync_tests.proofs.Growing.{at_pushed, before_pushed, last_pushed}

-- lists one after the other
in_two : (xs ys : List NodeKey) (i : ℕ) (key : NodeKey) → slice_get (xs ++ ys) i ≡ Some key → (slice_get xs i ≡ Some key) ⊎ ((j : ℕ) × ((slice_get ys j ≡ Some key) × (i ≡ length xs + j)))
in_two [] ys i key e = inr (i, (e, omega arith))
in_two (x ∷ xs) ys zero key e = inl e
in_two (x ∷ xs) ys (suc i) key e =
    ⊎_elim (λ (first : slice_get xs i ≡ Some key). inl first)
    (λ (second : (j : ℕ) × ((slice_get ys j ≡ Some key) × (i ≡ length xs + j))). let is = second.1.1 in let next : suc i ≡ suc (length xs) + second.0 = omega arith in inr (second.0, (second.1.0, next)))
    (in_two xs ys i key e)

in_one : (xs ys : List NodeKey) (i : ℕ) (key : NodeKey) → slice_get xs i ≡ Some key → (j : ℕ) × (slice_get (xs ++ ys) j ≡ Some key)
in_one [] ys i key e = absurd (none-some key e)
in_one (x ∷ xs) ys zero key e = (zero, e)
in_one (x ∷ xs) ys (suc i) key e = let rest = in_one xs ys i key e in (suc rest.0, rest.1)

in_other : (xs ys : List NodeKey) (i : ℕ) (key : NodeKey) → slice_get ys i ≡ Some key → (j : ℕ) × (slice_get (xs ++ ys) j ≡ Some key)
in_other [] ys i key e = (i, e)
in_other (x ∷ xs) ys i key e = let rest = in_other xs ys i key e in (suc rest.0, rest.1)

module _ {f : Forest} {p : Picture} {deepest : ℕ} (s : IsStaged f p deepest) (agrees : (g : Forest) (old new : Picture) → Agree g old → IsChanged old new → Agree g new)
    (parent child : ℕ) (l : IsLastLeaf p.items parent child) (less : Paint) (less_is : less.children ≡ l.others) (fits : less.under ≤ length less.children) where
  abbrev pruned : Items
  pruned = with_paint parent less (map.remove p.items child)

  abbrev first : IsTree p.items p.root
  first = s.agree.tree

  abbrev narrow : Item
  narrow = record { paint = less; keys = l.item.keys }

  names_child : Names p.items parent (length l.others) child
  names_child = (l.item, (l.at, ap (λ xs. slice_get xs (length l.others)) l.last ∙ last_pushed l.others child))

  apart : parent ≢ child
  apart same =
      let deep = first.below parent (length l.others) child names_child in
      let e = ap first.depth same in
      absurd (omega arith)

  removed_same : (t : ℕ) → t ≡ child → map.get (map.remove p.items child) t ≡ None
  removed_same t e = map.get-remove nat_cmp_total p.items child t ∙ ap (λ b. cond b None (map.get p.items t)) (unsigned_tied t child ∙ eq-eqb t child e)

  removed_other : (t : ℕ) → t ≢ child → map.get (map.remove p.items child) t ≡ map.get p.items t
  removed_other t ne = map.get-remove nat_cmp_total p.items child t ∙ ap (λ b. cond b None (map.get p.items t)) (unsigned_tied t child ∙ ne_eqb t child ne)

  parent_is : (t : ℕ) → t ≡ parent → map.get pruned t ≡ Some narrow
  parent_is t e =
      put_same (map.remove p.items child) parent less t e ∙ ap (λ o. Some (record { paint = less; keys = keys_or_none o })) (removed_other parent apart ∙ l.at)

  child_is : (t : ℕ) → t ≡ child → map.get pruned t ≡ None
  child_is t e = put_other (map.remove p.items child) parent less t (λ same. apart (sym same ∙ e)) ∙ removed_same t e

  other_is : (t : ℕ) → t ≢ parent → t ≢ child → map.get pruned t ≡ map.get p.items t
  other_is t no_parent no_child = put_other (map.remove p.items child) parent less t no_parent ∙ removed_other t no_child

  not_child : (t : ℕ) → IsItem pruned t → t ≢ child
  not_child t is same = let found = there (map.get pruned t) is in none-some found.0 (sym (child_is t same) ∙ found.1)

  item_back : (t : ℕ) → IsItem pruned t → IsItem p.items t
  item_back t is =
      ⊎_elim (λ (same : t ≡ parent). ap is_some (ap (map.get p.items) same ∙ l.at)) (λ (ne : t ≢ parent). subst IsSome (other_is t ne (not_child t is)) is) (cases_eq t parent)

  item_on : (t : ℕ) → IsItem p.items t → t ≢ child → IsItem pruned t
  item_on t is ne_child =
      ⊎_elim (λ (same : t ≡ parent). ap is_some (parent_is t same)) (λ (ne : t ≢ parent). subst IsSome (sym (other_is t ne ne_child)) is) (cases_eq t parent)

  names_back : (a place c : ℕ) → Names pruned a place c → Names p.items a place c
  names_back a place c names =
      ⊎_elim
      (λ (same : a ≡ parent). (
        l.item,
        (
          ap (map.get p.items) same ∙ l.at,
          ap (λ xs. slice_get xs place) l.last
              ∙ before_pushed l.others child place c
              (ap (λ xs. slice_get xs place) (sym less_is) ∙ (ap (λ (i : Item). slice_get i.paint.children place) (same_Some narrow names.0 (sym (parent_is a same) ∙ names.1.0)) ∙ names.1.1)),
        ),
      ))
      (λ (ne : a ≢ parent). (names.0, (sym (other_is a ne (not_child a (ap is_some names.1.0))) ∙ names.1.0, names.1.1)))
      (cases_eq a parent)

  -- no child that is left is the one that is gone
  left_child : (a place c : ℕ) → Names pruned a place c → c ≢ child
  left_child a place c names same =
      let old = names_back a place c names in
      let of_child : Names p.items a place child = subst (Names p.items a place) same old in
      let here = first.one_parent a parent place (length l.others) child of_child names_child in
      let spot = first.one_place parent place (length l.others) child (subst (λ x. Names p.items x place child) here of_child) names_child in
      let short =
      slice_get_within l.others place c
      (ap (λ xs. slice_get xs place) (sym less_is) ∙ (ap (λ (i : Item). slice_get i.paint.children place) (same_Some narrow names.0 (sym (parent_is a here) ∙ names.1.0)) ∙ names.1.1)) in
      absurd (omega arith)

  names_on : (a place c : ℕ) → Names p.items a place c → c ≢ child → Names pruned a place c
  names_on a place c names ne_child =
      ⊎_elim
      (λ (same : a ≡ parent).
      let e : slice_get (l.others ++ child ∷ []) place ≡ Some c =
      ap (λ xs. slice_get xs place) (sym l.last)
      ∙ (ap (λ (i : Item). slice_get i.paint.children place) (same_Some l.item names.0 (sym l.at ∙ (ap (map.get p.items) (sym same) ∙ names.1.0))) ∙ names.1.1) in
      ⊎_elim
      (λ (old : slice_get l.others place ≡ Some c). (narrow, (parent_is a same, ap (λ xs. slice_get xs place) less_is ∙ old)))
      (λ (new : (place ≡ length l.others) × (c ≡ child)). absurd (ne_child new.1))
      (at_pushed l.others child place c e))
      (λ (ne : a ≢ parent).
      ⊎_elim
      (λ (same : a ≡ child).
      absurd (none-some c (ap (λ xs. slice_get xs place) (sym l.bare)
      ∙ (ap (λ (i : Item). slice_get i.paint.children place) (same_Some l.leaf names.0 (sym l.leaf_at ∙ (ap (map.get p.items) (sym same) ∙ names.1.0))) ∙ names.1.1))))
      (λ (other : a ≢ child). (names.0, (other_is a ne other ∙ names.1.0, names.1.1)))
      (cases_eq a child))
      (cases_eq a parent)

  root_stays : p.root ≢ child
  root_stays same =
      let deep = first.below parent (length l.others) child names_child in
      let top = ap first.depth (sym same) ∙ first.at_root in
      let no : 0 ≡ first.depth parent + 1 = sym top ∙ deep in
      absurd (omega arith)

  abbrev tree_pruned : IsTree pruned p.root
  tree_pruned = record {
    depth = first.depth;
    rooted = item_on p.root first.rooted root_stays;
    named = λ a place c is. item_on c (first.named a place c (names_back a place c is)) (left_child a place c is);
    one_parent = λ a b i j c x y. first.one_parent a b i j c (names_back a i c x) (names_back b j c y);
    one_place = λ a i j c x y. first.one_place a i j c (names_back a i c x) (names_back a j c y);
    reached = λ t is ne.
        let found = first.reached t (item_back t is) ne in
        (found.0, found.1, names_on found.0 found.1 t found.2 (not_child t is));
    at_root = first.at_root;
    below = λ a place c is. first.below a place c (names_back a place c is);
    most = λ t is. first.most t (item_back t is);
    fits = λ t one e.
        ⊎_elim (λ (same : t ≡ parent). subst (λ (i : Item). i.paint.under ≤ length i.paint.children) (same_Some narrow one (sym (parent_is t same) ∙ e)) fits)
        (λ (ne : t ≢ parent). first.fits t one (sym (other_is t ne (not_child t (ap is_some e))) ∙ e)) (cases_eq t parent);
  }

  abbrev pruned_now : Picture
  pruned_now = record p { items = pruned; dirty = marked parent (without child p.dirty); released = p.released ++ node_keys p.items child }

  keys_are : node_keys p.items child ≡ keys_of l.leaf.keys
  keys_are = ap node_keys_of l.leaf_at

  abbrev Leaf : ℕ → ℕ → Type 0
  Leaf j slot = slice_get (node_keys p.items child) j ≡ Some (key_of slot)

  leaf_key : (j slot : ℕ) → Leaf j slot → KeyAt l.leaf j slot
  leaf_key j slot e = ap (λ ks. slice_get ks j) (sym keys_are) ∙ e

  leaf_not_released : (i j slot : ℕ) → ReleasedAt p i slot → Leaf j slot → ⊥
  leaf_not_released i j slot e k = s.agree.not_released child j i slot l.leaf l.leaf_at (leaf_key j slot k) e

  once_now : (i j slot : ℕ) → ReleasedAt pruned_now i slot → ReleasedAt pruned_now j slot → i ≡ j
  once_now i j slot e g =
      ⊎_elim
      (λ (one : slice_get p.released i ≡ Some (key_of slot)).
      ⊎_elim (λ (two : slice_get p.released j ≡ Some (key_of slot)). s.agree.released_once i j slot one two)
      (λ (two : (k : ℕ) × (Leaf k slot × (j ≡ length p.released + k))). absurd (leaf_not_released i two.0 slot one two.1.0))
      (in_two p.released (node_keys p.items child) j (key_of slot) g))
      (λ (one : (k : ℕ) × (Leaf k slot × (i ≡ length p.released + k))).
      ⊎_elim (λ (two : slice_get p.released j ≡ Some (key_of slot)). absurd (leaf_not_released j one.0 slot two one.1.0))
      (λ (two : (k : ℕ) × (Leaf k slot × (j ≡ length p.released + k))).
      one.1.1 ∙ (ap (λ n. length p.released + n) (s.agree.one_item child child l.leaf l.leaf one.0 two.0 slot l.leaf_at l.leaf_at (leaf_key one.0 slot one.1.0) (leaf_key two.0 slot two.1.0)).1 ∙ sym two.1.1))
      (in_two p.released (node_keys p.items child) j (key_of slot) g))
      (in_two p.released (node_keys p.items child) i (key_of slot) e)

  pruned_changed : IsChanged p pruned_now
  pruned_changed = record {
    tree = tree_pruned;
    same_root = refl;
    same_keys = λ t old new e g.
        ⊎_elim
        (λ (same : t ≡ parent).
        ap (λ (i : Item). i.keys) (sym (same_Some narrow new (sym (parent_is t same) ∙ g))) ∙ ap (λ (i : Item). i.keys) (same_Some l.item old (sym l.at ∙ (ap (map.get p.items) (sym same) ∙ e))))
        (λ (ne : t ≢ parent). ap (λ (i : Item). i.keys) (same_Some new old (sym g ∙ (other_is t ne (not_child t (ap is_some g)) ∙ e))))
        (cases_eq t parent);
    new_keys = λ t new gone g. let old = there (map.get p.items t) (item_back t (ap is_some g)) in absurd (none-some old.0 (sym gone ∙ old.1));
    still_released = λ i slot is. in_one p.released (node_keys p.items child) i (key_of slot) is;
    now_released = λ slot gone.
        ⊎_elim
        (λ (same : gone.0 ≡ child).
        in_other p.released (node_keys p.items child) gone.1.1.0 (key_of slot)
        (ap (λ ks. slice_get ks gone.1.1.0) keys_are
        ∙ subst (λ (i : Item). KeyAt i gone.1.1.0 slot) (same_Some gone.1.0 l.leaf (sym gone.1.1.1.0 ∙ (ap (map.get p.items) same ∙ l.leaf_at))) gone.1.1.1.1.1))
        (λ (ne : gone.0 ≢ child).
        let still = there (map.get pruned gone.0) (item_on gone.0 (ap is_some gone.1.1.1.0) ne) in absurd (none-some still.0 (sym gone.1.1.1.1.0 ∙ still.1)))
        (cases_eq gone.0 child);
    released = λ j slot is.
        ⊎_elim (λ (old : slice_get p.released j ≡ Some (key_of slot)). inl (j, old))
        (λ (new : (k : ℕ) × (Leaf k slot × (j ≡ length p.released + k))). inr (child, (l.leaf, (new.0, (l.leaf_at, (child_is child refl, leaf_key new.0 slot new.1.0))))))
        (in_two p.released (node_keys p.items child) j (key_of slot) is);
    released_once = once_now;
    clean = λ t new g still.
        ⊎_elim (λ (same : t ≡ parent). absurd (still (subst (IsIn (marked parent (without child p.dirty))) (sym same) (is_marked parent (without child p.dirty)))))
        (λ (ne : t ≢ parent).
        let other = not_child t (ap is_some g) in
        (λ dirty. still (still_marked parent t (without child p.dirty) (kept p.dirty child dirty.0 t dirty.1 other)), (new, (sym (other_is t ne other) ∙ g, refl))))
        (cases_eq t parent);
  }

  pub pruned_staged : (q : Picture) → q ≡ pruned_now → IsStaged f q deepest
  pruned_staged q e =
      subst (λ (r : Picture). IsStaged f r deepest) (sym e)
      (record { agree = record (agrees f p pruned_now s.agree pruned_changed) { tree = tree_pruned }; shallow = λ t is. s.shallow t (item_back t is) })

-- the calls that take it away
pub all_pruned : (p a b m : Picture) (parent child : ℕ) (less : Paint) → a ≡ record p { items = map.remove p.items child; dirty = without child p.dirty; released = p.released ++ node_keys p.items child }
    → b ≡ record a { items = with_paint parent less a.items } → m ≡ record b { dirty = marked parent b.dirty }
    → m ≡ record p { items = with_paint parent less (map.remove p.items child); dirty = marked parent (without child p.dirty); released = p.released ++ node_keys p.items child }
all_pruned p a b m parent child less ea eb em =
    em
    ∙ (ap (λ (q : Picture). record q { dirty = marked parent q.dirty }) eb ∙ ap (λ (q : Picture). record q { items = with_paint parent less q.items; dirty = marked parent q.dirty }) ea)
