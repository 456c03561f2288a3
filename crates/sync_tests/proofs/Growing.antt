-- Items that are repainted and added.
use Rattle.std.proofs.Common.{◌≡◌, ◌≢◌, ◌⊎◌, ⊎_elim, inl, inr, ℕ, zero, suc, ◌+◌, ◌-◌, ◌≤◌, ◌<◌, Bool, true, false, eqb, cond, length, List, [], ◌∷◌, ◌++◌, reverse, get_or, Option, Some, None, IsSome, is_some, option_map, refl, ap, sym, ◌∙◌, subst, arith, eq-eqb}
use Rattle.std.specs.List.{slice_get}
use Rattle.std.specs.FinMap as map
use Rattle.std.proofs.lemmas.Option.{none-some, same_Some, slice_get_within, slice_get-get_or, get_or_from_slice_get}
use Rattle.std.proofs.lemmas.Bool.{cases_eq, ne_eqb, false≢true}
use Rattle.std.proofs.lemmas.List.{length-reverse, get_or-reverse, reverse-reverse, length_push}
use Rattle.scene.specs.declared.paint.Paint.{Paint}
use Rattle.scene.specs.Dirty.{marked}
use Rattle.scene.specs.Picture.{Item, Items, Picture, with_paint, keys_or_none, no_keys}
use Rattle.sg_nodes.specs.Forest.{Forest}
use Rattle.sg_standing.specs.Trees.{IsTree, IsItem, Names}
use Rattle.sg_standing.specs.Standing.{Agree}
use Rattle.sg_standing.specs.Changing.{IsChanged}
use Rattle.sg_sync.specs.Own.{IsIn}
use Rattle.sync_tests.specs.Staged.{IsStaged, IsReordered}
use Rattle.sync_tests.proofs.Maps.{put_same, put_other, is_marked, still_marked}
use Rattle.sync_tests.proofs.Staging.{there, tree_alike}

-- the other order
at_reverse : (xs : List ℕ) (i x : ℕ) → slice_get xs i ≡ Some x → slice_get (reverse xs) (length xs - 1 - i) ≡ Some x
at_reverse xs i x e =
    let lt = slice_get_within xs i x e in
    let long = length-reverse xs in
    let within : length xs - 1 - i < length (reverse xs) = omega arith in
    let short : length xs - 1 - i < length xs = omega arith in
    let back : length xs - 1 - (length xs - 1 - i) ≡ i = omega arith in
    slice_get-get_or (reverse xs) (length xs - 1 - i) 0 within
    ∙ ap Some (get_or-reverse xs (length xs - 1 - i) 0 short ∙ (ap (λ n. get_or xs n 0) back ∙ get_or_from_slice_get xs i x 0 e))

from_reverse : (xs : List ℕ) (i x : ℕ) → slice_get (reverse xs) i ≡ Some x → (i < length xs) × (slice_get xs (length xs - 1 - i) ≡ Some x)
from_reverse xs i x e =
    let long = length-reverse xs in
    let lt = slice_get_within (reverse xs) i x e in
    (omega arith, ap (λ ys. slice_get ys (length xs - 1 - i)) (sym (reverse-reverse xs)) ∙ (ap (λ n. slice_get (reverse (reverse xs)) (n - 1 - i)) (sym long) ∙ at_reverse (reverse xs) i x e))

pub reordered_same : (xs : List ℕ) → IsReordered xs xs
reordered_same xs = record { on = λ x is. is; back = λ x is. is; once = λ once i j x e g. once i j x e g }

pub reordered_other : (xs : List ℕ) → IsReordered xs (reverse xs)
reordered_other xs = record {
  on = λ x is. (length xs - 1 - is.0, at_reverse xs is.0 x is.1);
  back = λ x is. (length xs - 1 - is.0, (from_reverse xs is.0 x is.1).1);
  once = λ once i j x e g.
      let one = from_reverse xs i x e in
      let two = from_reverse xs j x g in
      let same = once (length xs - 1 - i) (length xs - 1 - j) x one.1 two.1 in
      omega arith;
}

-- one more at the end
pub at_pushed : (xs : List ℕ) (y place c : ℕ) → slice_get (xs ++ y ∷ []) place ≡ Some c → (slice_get xs place ≡ Some c) ⊎ ((place ≡ length xs) × (c ≡ y))
at_pushed [] y zero c e = inr (refl, sym (same_Some y c e))
at_pushed [] y (suc place) c e = absurd (none-some c e)
at_pushed (x ∷ xs) y zero c e = inl e
at_pushed (x ∷ xs) y (suc place) c e =
    ⊎_elim (λ (old : slice_get xs place ≡ Some c). inl old) (λ (new : (place ≡ length xs) × (c ≡ y)). inr (ap suc new.0, new.1)) (at_pushed xs y place c e)

pub before_pushed : (xs : List ℕ) (y place c : ℕ) → slice_get xs place ≡ Some c → slice_get (xs ++ y ∷ []) place ≡ Some c
before_pushed [] y place c e = absurd (none-some c e)
before_pushed (x ∷ xs) y zero c e = e
before_pushed (x ∷ xs) y (suc place) c e = before_pushed xs y place c e

pub last_pushed : (xs : List ℕ) (y : ℕ) → slice_get (xs ++ y ∷ []) (length xs) ≡ Some y
last_pushed [] y = refl
last_pushed (x ∷ xs) y = last_pushed xs y

-- the item of which a paint was read
pub item_read : (o : Option Item) (paint : Paint) → Some paint ≡ option_map (λ (i : Item). i.paint) o → (item : Item) × ((o ≡ Some item) × (item.paint.children ≡ paint.children))
item_read None paint e = absurd (none-some paint (sym e))
item_read (Some item) paint e = (item, (refl, ap (λ (p : Paint). p.children) (sym (same_Some paint item.paint e))))

-- an item is repainted
module _ {f : Forest} {p : Picture} {deepest : ℕ} (s : IsStaged f p deepest) (agrees : (g : Forest) (old new : Picture) → Agree g old → IsChanged old new → Agree g new)
    (serial : ℕ) (item : Item) (at : map.get p.items serial ≡ Some item) (paint : Paint) (re : IsReordered item.paint.children paint.children) (fits : paint.under ≤ length paint.children) where
  abbrev after : Items
  after = with_paint serial paint p.items

  abbrev tree : IsTree p.items p.root
  tree = s.agree.tree

  mine : (t : ℕ) → t ≡ serial → map.get after t ≡ Some (record { paint = paint; keys = item.keys })
  mine t e = put_same p.items serial paint t e ∙ ap (λ o. Some (record { paint = paint; keys = keys_or_none o })) at

  is_mine : (t : ℕ) (one : Item) → t ≡ serial → map.get after t ≡ Some one → record { paint = paint; keys = item.keys } ≡ one
  is_mine t one e is = same_Some (record { paint = paint; keys = item.keys }) one (sym (mine t e) ∙ is)

  was : (t : ℕ) → t ≡ serial → map.get p.items t ≡ Some item
  was t e = ap (map.get p.items) e ∙ at

  names_back : (parent place child : ℕ) → Names after parent place child → (j : ℕ) × Names p.items parent j child
  names_back parent place child names =
      ⊎_elim
      (λ (same : parent ≡ serial).
      let old = re.back child (place, ap (λ (i : Item). slice_get i.paint.children place) (is_mine parent names.0 same names.1.0) ∙ names.1.1) in
      (old.0, (item, (was parent same, old.1))))
      (λ (ne : parent ≢ serial). (place, (names.0, (sym (put_other p.items serial paint parent ne) ∙ names.1.0, names.1.1))))
      (cases_eq parent serial)

  names_on : (parent place child : ℕ) → Names p.items parent place child → (j : ℕ) × Names after parent j child
  names_on parent place child names =
      ⊎_elim
      (λ (same : parent ≡ serial).
      let new = re.on child (place, ap (λ (i : Item). slice_get i.paint.children place) (same_Some item names.0 (sym (was parent same) ∙ names.1.0)) ∙ names.1.1) in
      (new.0, (record { paint = paint; keys = item.keys }, (mine parent same, new.1))))
      (λ (ne : parent ≢ serial). (place, (names.0, (put_other p.items serial paint parent ne ∙ names.1.0, names.1.1))))
      (cases_eq parent serial)

  item_back : (t : ℕ) → IsItem after t → IsItem p.items t
  item_back t is =
      ⊎_elim (λ (same : t ≡ serial). ap is_some (was t same)) (λ (ne : t ≢ serial). subst IsSome (put_other p.items serial paint t ne) is) (cases_eq t serial)

  item_on : (t : ℕ) → IsItem p.items t → IsItem after t
  item_on t is =
      ⊎_elim (λ (same : t ≡ serial). ap is_some (mine t same)) (λ (ne : t ≢ serial). subst IsSome (sym (put_other p.items serial paint t ne)) is) (cases_eq t serial)

  once_after : (parent i j child : ℕ) → Names after parent i child → Names after parent j child → i ≡ j
  once_after parent i j child a b =
      ⊎_elim
      (λ (same : parent ≡ serial).
      re.once (λ k l x e g. tree.one_place serial k l x (item, (at, e)) (item, (at, g))) i j child
      (ap (λ (o : Item). slice_get o.paint.children i) (is_mine parent a.0 same a.1.0) ∙ a.1.1) (ap (λ (o : Item). slice_get o.paint.children j) (is_mine parent b.0 same b.1.0) ∙ b.1.1))
      (λ (ne : parent ≢ serial).
      tree.one_place parent i j child (a.0, (sym (put_other p.items serial paint parent ne) ∙ a.1.0, a.1.1)) (b.0, (sym (put_other p.items serial paint parent ne) ∙ b.1.0, b.1.1)))
      (cases_eq parent serial)

  fits_after : (t : ℕ) (one : Item) → map.get after t ≡ Some one → one.paint.under ≤ length one.paint.children
  fits_after t one e =
      ⊎_elim (λ (same : t ≡ serial). subst (λ (i : Item). i.paint.under ≤ length i.paint.children) (is_mine t one same e) fits)
      (λ (ne : t ≢ serial). tree.fits t one (sym (put_other p.items serial paint t ne) ∙ e)) (cases_eq t serial)

  abbrev tree_after : IsTree after p.root
  tree_after = tree_alike {old = p.items} {new = after} {root = p.root} tree names_back names_on item_back item_on once_after fits_after

  abbrev now : Picture
  now = record p { items = after; dirty = marked serial p.dirty }

  changed : IsChanged p now
  changed = record {
    tree = tree_after;
    same_root = refl;
    same_keys = λ t old new e g.
        ⊎_elim
        (λ (same : t ≡ serial). ap (λ (i : Item). i.keys) (sym (is_mine t new same g)) ∙ ap (λ (i : Item). i.keys) (same_Some item old (sym (was t same) ∙ e)))
        (λ (ne : t ≢ serial). ap (λ (i : Item). i.keys) (same_Some new old (sym g ∙ (put_other p.items serial paint t ne ∙ e)))) (cases_eq t serial);
    new_keys = λ t new none g. let old = there (map.get p.items t) (item_back t (ap is_some g)) in absurd (none-some old.0 (sym none ∙ old.1));
    still_released = λ i slot is. (i, is);
    now_released = λ slot gone. let still = there (map.get after gone.0) (item_on gone.0 (ap is_some gone.1.1.1.0)) in absurd (none-some still.0 (sym gone.1.1.1.1.0 ∙ still.1));
    released = λ j slot is. inl (j, is);
    released_once = s.agree.released_once;
    clean = λ t new g still.
        ⊎_elim (λ (same : t ≡ serial). absurd (still (subst (IsIn (marked serial p.dirty)) (sym same) (is_marked serial p.dirty))))
        (λ (ne : t ≢ serial). (λ dirty. still (still_marked serial t p.dirty dirty), (new, (sym (put_other p.items serial paint t ne) ∙ g, refl)))) (cases_eq t serial);
  }

  pub repainted_staged : (q : Picture) → q ≡ now → IsStaged f q deepest
  repainted_staged q e =
      subst (λ (r : Picture). IsStaged f r deepest) (sym e)
      (record { agree = record (agrees f p now s.agree changed) { tree = tree_after }; shallow = λ t is. s.shallow t (item_back t is) })

-- a new item behind the other children of a parent
module _ {f : Forest} {p : Picture} {deepest : ℕ} (s : IsStaged f p deepest) (agrees : (g : Forest) (old new : Picture) → Agree g old → IsChanged old new → Agree g new)
    (parent child : ℕ) (item : Item) (at : map.get p.items parent ≡ Some item) (none : map.get p.items child ≡ None) (leaf wide : Paint) (bare : leaf.children ≡ []) (leaf_fits : leaf.under ≤ length leaf.children)
    (wide_is : wide.children ≡ item.paint.children ++ child ∷ []) (wide_under : wide.under ≡ item.paint.under) (room : s.agree.tree.depth parent + 1 ≤ 256) (deeper : ℕ) (more : deepest ≤ deeper) (new_deep : s.agree.tree.depth parent + 1 ≤ deeper) where
  abbrev grown : Items
  grown = with_paint parent wide (with_paint child leaf p.items)

  abbrev first : IsTree p.items p.root
  first = s.agree.tree

  abbrev bare_item : Item
  bare_item = record { paint = leaf; keys = no_keys }

  abbrev wide_item : Item
  wide_item = record { paint = wide; keys = item.keys }

  apart : parent ≢ child
  apart same = none-some item (sym none ∙ (ap (map.get p.items) (sym same) ∙ at))

  parent_is : (t : ℕ) → t ≡ parent → map.get grown t ≡ Some wide_item
  parent_is t e =
      put_same (with_paint child leaf p.items) parent wide t e
      ∙ ap (λ o. Some (record { paint = wide; keys = keys_or_none o })) (put_other p.items child leaf parent apart ∙ at)

  child_is : (t : ℕ) → t ≡ child → map.get grown t ≡ Some bare_item
  child_is t e =
      put_other (with_paint child leaf p.items) parent wide t (λ same. apart (sym same ∙ e))
      ∙ (put_same p.items child leaf t e ∙ ap (λ o. Some (record { paint = leaf; keys = keys_or_none o })) none)

  other_is : (t : ℕ) → t ≢ parent → t ≢ child → map.get grown t ≡ map.get p.items t
  other_is t no_parent no_child = put_other (with_paint child leaf p.items) parent wide t no_parent ∙ put_other p.items child leaf t no_child

  old_item : (t : ℕ) → IsItem p.items t → t ≢ child
  old_item t is same = let found = there (map.get p.items t) is in none-some found.0 (sym none ∙ (ap (map.get p.items) (sym same) ∙ found.1))

  grown_on : (t : ℕ) → IsItem p.items t → IsItem grown t
  grown_on t is =
      ⊎_elim (λ (same : t ≡ parent). ap is_some (parent_is t same)) (λ (ne : t ≢ parent). subst IsSome (sym (other_is t ne (old_item t is))) is) (cases_eq t parent)

  grown_back : (t : ℕ) → IsItem grown t → t ≢ child → IsItem p.items t
  grown_back t is ne_child =
      ⊎_elim (λ (same : t ≡ parent). ap is_some (ap (map.get p.items) same ∙ at)) (λ (ne : t ≢ parent). subst IsSome (other_is t ne ne_child) is) (cases_eq t parent)

  -- what is named was, or is the new one
  named_now : (a place c : ℕ) → Names grown a place c → Names p.items a place c ⊎ ((a ≡ parent) × ((c ≡ child) × (place ≡ length item.paint.children)))
  named_now a place c names =
      ⊎_elim
      (λ (same : a ≡ parent).
      let e : slice_get (item.paint.children ++ child ∷ []) place ≡ Some c =
      ap (λ xs. slice_get xs place) (sym wide_is)
      ∙ (ap (λ (i : Item). slice_get i.paint.children place) (same_Some wide_item names.0 (sym (parent_is a same) ∙ names.1.0)) ∙ names.1.1) in
      ⊎_elim
      (λ (old : slice_get item.paint.children place ≡ Some c). inl (item, (ap (map.get p.items) same ∙ at, old)))
      (λ (new : (place ≡ length item.paint.children) × (c ≡ child)). inr (same, (new.1, new.0)))
      (at_pushed item.paint.children child place c e))
      (λ (ne : a ≢ parent).
      ⊎_elim
      (λ (same : a ≡ child).
      absurd (none-some c (ap (λ xs. slice_get xs place) (sym bare) ∙ (ap (λ (i : Item). slice_get i.paint.children place) (same_Some bare_item names.0 (sym (child_is a same) ∙ names.1.0)) ∙ names.1.1))))
      (λ (ne_child : a ≢ child). inl (names.0, (sym (other_is a ne ne_child) ∙ names.1.0, names.1.1)))
      (cases_eq a child))
      (cases_eq a parent)

  named_still : (a place c : ℕ) → Names p.items a place c → Names grown a place c
  named_still a place c names =
      ⊎_elim
      (λ (same : a ≡ parent). (
        wide_item,
        (
          parent_is a same,
          ap (λ xs. slice_get xs place) wide_is
              ∙ before_pushed item.paint.children child place c (ap (λ (i : Item). slice_get i.paint.children place) (same_Some item names.0 (sym at ∙ (ap (map.get p.items) (sym same) ∙ names.1.0))) ∙ names.1.1),
        ),
      ))
      (λ (ne : a ≢ parent). (names.0, (other_is a ne (old_item a (ap is_some names.1.0)) ∙ names.1.0, names.1.1)))
      (cases_eq a parent)

  named_new : Names grown parent (length item.paint.children) child
  named_new = (wide_item, (parent_is parent refl, ap (λ xs. slice_get xs (length item.paint.children)) wide_is ∙ last_pushed item.paint.children child))

  not_named : (a place : ℕ) → ¬ Names p.items a place child
  not_named a place names = old_item child (first.named a place child names) refl

  abbrev deep : ℕ → ℕ
  deep t = cond (eqb t child) (first.depth parent + 1) (first.depth t)

  deep_old : (t : ℕ) → t ≢ child → deep t ≡ first.depth t
  deep_old t ne = ap (λ b. cond b (first.depth parent + 1) (first.depth t)) (ne_eqb t child ne)

  deep_new : (t : ℕ) → t ≡ child → deep t ≡ first.depth parent + 1
  deep_new t e = ap (λ b. cond b (first.depth parent + 1) (first.depth t)) (eq-eqb t child e)

  abbrev tree_grown : IsTree grown p.root
  tree_grown = record {
    depth = deep;
    rooted = grown_on p.root first.rooted;
    named = λ a place c is.
        ⊎_elim (λ (old : Names p.items a place c). grown_on c (first.named a place c old))
        (λ (new : (a ≡ parent) × ((c ≡ child) × (place ≡ length item.paint.children))). ap is_some (child_is c new.1.0)) (named_now a place c is);
    one_parent = λ a b i j c x y.
        ⊎_elim
        (λ (old : Names p.items a i c).
        ⊎_elim (λ (also : Names p.items b j c). first.one_parent a b i j c old also)
        (λ (new : (b ≡ parent) × ((c ≡ child) × (j ≡ length item.paint.children))). absurd (not_named a i (subst (Names p.items a i) new.1.0 old))) (named_now b j c y))
        (λ (new : (a ≡ parent) × ((c ≡ child) × (i ≡ length item.paint.children))).
        ⊎_elim (λ (old : Names p.items b j c). absurd (not_named b j (subst (Names p.items b j) new.1.0 old)))
        (λ (also : (b ≡ parent) × ((c ≡ child) × (j ≡ length item.paint.children))). new.0 ∙ sym also.0) (named_now b j c y))
        (named_now a i c x);
    one_place = λ a i j c x y.
        ⊎_elim
        (λ (old : Names p.items a i c).
        ⊎_elim (λ (also : Names p.items a j c). first.one_place a i j c old also)
        (λ (new : (a ≡ parent) × ((c ≡ child) × (j ≡ length item.paint.children))). absurd (not_named a i (subst (Names p.items a i) new.1.0 old))) (named_now a j c y))
        (λ (new : (a ≡ parent) × ((c ≡ child) × (i ≡ length item.paint.children))).
        ⊎_elim (λ (old : Names p.items a j c). absurd (not_named a j (subst (Names p.items a j) new.1.0 old)))
        (λ (also : (a ≡ parent) × ((c ≡ child) × (j ≡ length item.paint.children))). new.1.1 ∙ sym also.1.1) (named_now a j c y))
        (named_now a i c x);
    reached = λ t is ne.
        ⊎_elim
        (λ (same : t ≡ child). (parent, length item.paint.children, subst (Names grown parent (length item.paint.children)) (sym same) named_new))
        (λ (other : t ≢ child).
        let found = first.reached t (grown_back t is other) ne in
        (found.0, found.1, named_still found.0 found.1 t found.2))
        (cases_eq t child);
    at_root = deep_old p.root (old_item p.root first.rooted) ∙ first.at_root;
    below = λ a place c is.
        ⊎_elim
        (λ (old : Names p.items a place c).
        let one = deep_old c (old_item c (first.named a place c old)) in
        let two = deep_old a (old_item a (ap is_some old.1.0)) in
        let step = first.below a place c old in
        omega arith)
        (λ (new : (a ≡ parent) × ((c ≡ child) × (place ≡ length item.paint.children))).
        deep_new c new.1.0 ∙ ap (λ n. n + 1) (sym (deep_old a (λ same. apart (sym new.0 ∙ same)) ∙ ap first.depth new.0)))
        (named_now a place c is);
    most = λ t is.
        ⊎_elim (λ (same : t ≡ child). let e = deep_new t same in omega arith)
        (λ (other : t ≢ child). let e = deep_old t other in let low = first.most t (grown_back t is other) in omega arith) (cases_eq t child);
    fits = λ t one e.
        ⊎_elim
        (λ (same : t ≡ parent).
        let long = ap length wide_is in
        let added = length_push item.paint.children child in
        let was = first.fits parent item at in
        let fine : wide.under ≤ length wide.children = omega arith in
        subst (λ (i : Item). i.paint.under ≤ length i.paint.children) (same_Some wide_item one (sym (parent_is t same) ∙ e)) fine)
        (λ (ne : t ≢ parent).
        ⊎_elim (λ (same : t ≡ child). subst (λ (i : Item). i.paint.under ≤ length i.paint.children) (same_Some bare_item one (sym (child_is t same) ∙ e)) leaf_fits)
        (λ (other : t ≢ child). first.fits t one (sym (other_is t ne other) ∙ e)) (cases_eq t child))
        (cases_eq t parent);
  }

  abbrev grown_now : Picture
  grown_now = record p { items = grown; dirty = marked parent (marked child p.dirty) }

  grown_changed : IsChanged p grown_now
  grown_changed = record {
    tree = tree_grown;
    same_root = refl;
    same_keys = λ t old new e g.
        ⊎_elim
        (λ (same : t ≡ parent).
        ap (λ (i : Item). i.keys) (sym (same_Some wide_item new (sym (parent_is t same) ∙ g))) ∙ ap (λ (i : Item). i.keys) (same_Some item old (sym at ∙ (ap (map.get p.items) (sym same) ∙ e))))
        (λ (ne : t ≢ parent). ap (λ (i : Item). i.keys) (same_Some new old (sym g ∙ (other_is t ne (old_item t (ap is_some e)) ∙ e))))
        (cases_eq t parent);
    new_keys = λ t new gone g.
        ⊎_elim
        (λ (same : t ≡ child). ap (λ (i : Item). i.keys) (sym (same_Some bare_item new (sym (child_is t same) ∙ g))))
        (λ (other : t ≢ child). let old = there (map.get p.items t) (grown_back t (ap is_some g) other) in absurd (none-some old.0 (sym gone ∙ old.1)))
        (cases_eq t child);
    still_released = λ i slot is. (i, is);
    now_released = λ slot gone. let still = there (map.get grown gone.0) (grown_on gone.0 (ap is_some gone.1.1.1.0)) in absurd (none-some still.0 (sym gone.1.1.1.1.0 ∙ still.1));
    released = λ j slot is. inl (j, is);
    released_once = s.agree.released_once;
    clean = λ t new g still.
        ⊎_elim (λ (same : t ≡ parent). absurd (still (subst (IsIn (marked parent (marked child p.dirty))) (sym same) (is_marked parent (marked child p.dirty)))))
        (λ (ne : t ≢ parent).
        ⊎_elim
        (λ (same : t ≡ child). absurd (still (subst (IsIn (marked parent (marked child p.dirty))) (sym same) (still_marked parent child (marked child p.dirty) (is_marked child p.dirty)))))
        (λ (other : t ≢ child). (λ dirty. still (still_marked parent t (marked child p.dirty) (still_marked child t p.dirty dirty)), (new, (sym (other_is t ne other) ∙ g, refl))))
        (cases_eq t child))
        (cases_eq t parent);
  }

  pub grown_staged : (q : Picture) → q ≡ grown_now → IsStaged f q deeper
  grown_staged q e =
      subst (λ (r : Picture). IsStaged f r deeper) (sym e)
      (record {
        agree = record (agrees f p grown_now s.agree grown_changed) { tree = tree_grown };
        shallow = λ t is.
            ⊎_elim (λ (same : t ≡ child). let d = deep_new t same in omega arith)
            (λ (other : t ≢ child). let d = deep_old t other in let low = s.shallow t (grown_back t is other) in omega arith) (cases_eq t child);
      })

pub none_of : (o : Option Item) → is_some (option_map (λ (i : Item). i.keys) o) ≡ false → o ≡ None
none_of None e = refl
none_of (Some item) e = absurd (false≢true (sym e))

pub deep_enough : {items : Items} {root : ℕ} (tree : IsTree items root) (parent at deepest result : ℕ) (is_root : Bool) → is_root ≡ eqb parent at → at ≡ root → tree.depth parent ≤ deepest
    → (is_root ≡ true → 1 ≤ result) → (is_root ≡ false → deepest + 1 ≤ result) → tree.depth parent + 1 ≤ result
deep_enough tree parent at deepest result is_root test at_is low root other =
    ⊎_elim
    (λ (same : parent ≡ at). let top = ap tree.depth (same ∙ at_is) ∙ tree.at_root in let one = root (test ∙ eq-eqb parent at same) in omega arith)
    (λ (ne : parent ≢ at). let more = other (test ∙ ne_eqb parent at ne) in omega arith)
    (cases_eq parent at)

pub both_marked : (p a b m n : Picture) (parent child : ℕ) (leaf wide : Paint) → a ≡ record p { items = with_paint child leaf p.items } → b ≡ record a { items = with_paint parent wide a.items }
    → m ≡ record b { dirty = marked child b.dirty } → n ≡ record m { dirty = marked parent m.dirty }
    → n ≡ record p { items = with_paint parent wide (with_paint child leaf p.items); dirty = marked parent (marked child p.dirty) }
both_marked p a b m n parent child leaf wide ea eb em en =
    en
    ∙ (ap (λ (q : Picture). record q { dirty = marked parent q.dirty }) em
    ∙ (ap (λ (q : Picture). record q { dirty = marked parent (marked child q.dirty) }) eb
    ∙ ap (λ (q : Picture). record q { items = with_paint parent wide q.items; dirty = marked parent (marked child q.dirty) }) ea))

pub under_read : (o : Option Item) (paint : Paint) (item : Item) → o ≡ Some item → Some paint ≡ option_map (λ (i : Item). i.paint) o → paint.under ≡ item.paint.under
under_read o paint item is e = ap (λ (p : Paint). p.under) (same_Some paint item.paint (e ∙ ap (option_map (λ (i : Item). i.paint)) is))
