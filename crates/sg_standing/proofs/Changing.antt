-- Nodes agree with a scene that changed.
use Rattle.std.proofs.Common.{◌≡◌, ◌≢◌, ◌⊎◌, ⊎_elim, inl, inr, ℕ, zero, suc, List, [], ◌∷◌, ◌++◌, map as list_map, take, drop, Option, Some, None, IsSome, is_some, option_map, refl, ap, sym, ◌∙◌, subst}
use Rattle.std.specs.Option.{option_and_then}
use Rattle.std.specs.List.{slice_get}
use Rattle.std.specs.FinMap as map
use Rattle.std.proofs.lemmas.Option.{none-some, same_Some}
use Rattle.std.proofs.lemmas.Bool.{cases_eq}
use Rattle.scene.specs.declared.keys.ItemKeys.{ItemKeys}
use Rattle.scene.specs.declared.paint.Paint.{Paint}
use Rattle.scene.specs.Keys.{rect_keys, keys_of}
use Rattle.scene.specs.Picture.{Item, Picture, IsDirty, no_keys}
use Rattle.item_geometry.specs.Rectangle.{parts_of}
use Rattle.sg_nodes.specs.declared.node.NodeBody.TheVariants.{Group as GroupBody, Rect as RectBody}
use Rattle.sg_nodes.specs.Forest.{Forest, slot_of, key_of}
use Rattle.sg_standing.specs.Standing.{Agree, HasKinds, IsOwned, KeyAt, ReleasedAt, group_slot, group_of, rect_of, wanted}
use Rattle.sg_standing.specs.Changing.{IsChanged, IsGone}
use Rattle.sg_standing.proofs.Laws.{no_key}

is_there : (o : Option Item) → (o ≡ None) ⊎ ((item : Item) × (o ≡ Some item))
is_there None = inl refl
is_there (Some item) = inr (item, refl)

at_zero : (x : ℕ) (xs : List ℕ) (s place : ℕ) → slice_get (x ∷ xs) place ≡ Some s → x ≢ s → (p : ℕ) × (slice_get xs p ≡ Some s)
at_zero x xs s zero e ne = absurd (ne (same_Some x s e))
at_zero x xs s (suc place) e ne = (place, e)

-- whether a serial is in a list
in_or_not : (xs : List ℕ) (s : ℕ) → ((place : ℕ) × (slice_get xs place ≡ Some s)) ⊎ (¬ ((place : ℕ) × (slice_get xs place ≡ Some s)))
in_or_not [] s = inr (λ is. none-some s is.1)
in_or_not (x ∷ xs) s =
    ⊎_elim (λ (e : x ≡ s). inl (zero, ap Some e))
    (λ (ne : x ≢ s).
    ⊎_elim (λ (there : (place : ℕ) × (slice_get xs place ≡ Some s)). inl (suc there.0, there.1))
    (λ (absent : ¬ ((place : ℕ) × (slice_get xs place ≡ Some s))). inr (λ is. absent (at_zero x xs s is.0 is.1 ne)))
    (in_or_not xs s))
    (cases_eq x s)

map_places : {A : Type 0} (f g : ℕ → A) (xs : List ℕ) → ((place x : ℕ) → slice_get xs place ≡ Some x → f x ≡ g x) → list_map f xs ≡ list_map g xs
map_places f g [] same = refl
map_places f g (x ∷ xs) same = ap (λ y. y ∷ list_map f xs) (same zero x refl) ∙ ap (λ ys. g x ∷ ys) (map_places f g xs (λ place y e. same (suc place) y e))

from_take : (n : ℕ) (xs : List ℕ) (place x : ℕ) → slice_get (take n xs) place ≡ Some x → (p : ℕ) × (slice_get xs p ≡ Some x)
from_take zero xs place x e = absurd (none-some x e)
from_take (suc n) [] place x e = absurd (none-some x e)
from_take (suc n) (y ∷ ys) zero x e = (zero, e)
from_take (suc n) (y ∷ ys) (suc place) x e = let rest = from_take n ys place x e in (suc rest.0, rest.1)

from_drop : (n : ℕ) (xs : List ℕ) (place x : ℕ) → slice_get (drop n xs) place ≡ Some x → (p : ℕ) × (slice_get xs p ≡ Some x)
from_drop zero xs place x e = (place, e)
from_drop (suc n) [] place x e = absurd (none-some x e)
from_drop (suc n) (y ∷ ys) place x e = let rest = from_drop n ys place x e in (suc rest.0, rest.1)

there : (o : Option Item) → IsSome o → (i : Item) × (o ≡ Some i)
there None is = cc
there (Some i) is = (i, refl)

module _ {f : Forest} {old new : Picture} (agree : Agree f old) (change : IsChanged old new) where
  -- an item with a key was there, with the same keys
  was_there : (serial place slot : ℕ) (item : Item) → map.get new.items serial ≡ Some item → KeyAt item place slot → (was : Item) × ((map.get old.items serial ≡ Some was) × KeyAt was place slot)
  was_there serial place slot item e k =
      ⊎_elim (λ (none : map.get old.items serial ≡ None). absurd (no_key item place slot (change.new_keys serial item none e) k))
      (λ (was : (i : Item) × (map.get old.items serial ≡ Some i)).
      (was.0, (was.1, subst (λ (ks : ItemKeys). slice_get (keys_of ks) place ≡ Some (key_of slot)) (change.same_keys serial was.0 item was.1 e) k)))
      (is_there (map.get old.items serial))

  not_gone : (serial place slot : ℕ) (item : Item) → map.get new.items serial ≡ Some item → KeyAt item place slot → ¬ IsGone old.items new.items slot
  not_gone serial place slot item e k gone =
      let was = was_there serial place slot item e k in
      let same = (agree.one_item serial gone.0 was.0 gone.1.0 place gone.1.1.0 slot was.1.0 gone.1.1.1.0 was.1.1 gone.1.1.1.1.1).0 in
      none-some item (sym gone.1.1.1.1.0 ∙ (ap (map.get new.items) (sym same) ∙ e))

  group_same : (serial : ℕ) (was item : Item) → map.get old.items serial ≡ Some was → map.get new.items serial ≡ Some item → group_slot new.items serial ≡ group_slot old.items serial
  group_same serial was item e g =
      ap (λ o. option_map slot_of (option_and_then (λ (i : Item). i.keys.group) o)) g
      ∙ (ap (λ (ks : ItemKeys). option_map slot_of ks.group) (change.same_keys serial was item e g)
      ∙ ap (λ o. option_map slot_of (option_and_then (λ (i : Item). i.keys.group) o)) (sym e))

  child_same : (serial place child : ℕ) (was item : Item) → map.get old.items serial ≡ Some was → map.get new.items serial ≡ Some item → was.paint ≡ item.paint
      → slice_get item.paint.children place ≡ Some child → group_slot new.items child ≡ group_slot old.items child
  child_same serial place child was item e g paint at =
      let then = there (map.get old.items child) (agree.tree.named serial place child (was, (e, ap (λ (p : Paint). slice_get p.children place) paint ∙ at))) in
      let now = there (map.get new.items child) (change.tree.named serial place child (item, (g, at))) in
      group_same child then.0 now.0 then.1 now.1

  wanted_same : (serial : ℕ) (was item : Item) → map.get old.items serial ≡ Some was → map.get new.items serial ≡ Some item → was.paint ≡ item.paint → wanted old.items was ≡ wanted new.items item
  wanted_same serial was item e g paint =
      let same : was ≡ item = λ i. record { paint = paint i; keys = sym (change.same_keys serial was item e g) i } in
      ap (wanted old.items) same
      ∙ (ap (λ xs. xs ++ (list_map (λ key. Some (slot_of key)) (rect_keys item.keys.rects) ++ list_map (group_slot old.items) (drop item.paint.under item.paint.children)))
      (map_places (group_slot old.items) (group_slot new.items) (take item.paint.under item.paint.children)
      (λ place c at. let where_ = from_take item.paint.under item.paint.children place c at in sym (child_same serial where_.0 c was item e g paint where_.1)))
      ∙ ap (λ xs. list_map (group_slot new.items) (take item.paint.under item.paint.children) ++ (list_map (λ key. Some (slot_of key)) (rect_keys item.keys.rects) ++ xs))
      (map_places (group_slot old.items) (group_slot new.items) (drop item.paint.under item.paint.children)
      (λ place c at. let where_ = from_drop item.paint.under item.paint.children place c at in sym (child_same serial where_.0 c was item e g paint where_.1))))

  dirty_now : (serial : ℕ) (item : Item) → map.get new.items serial ≡ Some item → ((was : Item) → map.get old.items serial ≡ Some was → IsDirty old serial) → IsDirty new serial
  dirty_now serial item e was_dirty =
      ⊎_elim (λ (is : IsDirty new serial). is)
      (λ (still : ¬ IsDirty new serial). let was = change.clean serial item e still in absurd (was.0 (was_dirty was.1.0 was.1.1.0)))
      (in_or_not new.dirty serial)

  kinds_same : (serial : ℕ) (was item : Item) → map.get old.items serial ≡ Some was → map.get new.items serial ≡ Some item → HasKinds f was → HasKinds f item
  kinds_same serial was item e g has =
      subst (λ (ks : ItemKeys). HasKinds f (record { paint = item.paint; keys = ks })) (sym (change.same_keys serial was item e g)) has

  pub agree_changed : Agree f new
  agree_changed = record {
    tree = change.tree;
    one_item = λ a b item other i j slot e g k l.
        let one = was_there a i slot item e k in
        let two = was_there b j slot other g l in
        agree.one_item a b one.0 two.0 i j slot one.1.0 two.1.0 one.1.1 two.1.1;
    released_once = change.released_once;
    not_released = λ serial i j slot item e k freed.
        ⊎_elim
        (λ (before : (p : ℕ) × ReleasedAt old p slot). let was = was_there serial i slot item e k in agree.not_released serial i before.0 slot was.0 was.1.0 was.1.1 before.1)
        (λ (gone : IsGone old.items new.items slot). not_gone serial i slot item e k gone)
        (change.released j slot freed);
    of_nodes = λ serial i slot item e k. let was = was_there serial i slot item e k in agree.of_nodes serial i slot was.0 was.1.0 was.1.1;
    still_live = λ i slot freed.
        ⊎_elim
        (λ (before : (p : ℕ) × ReleasedAt old p slot). agree.still_live before.0 slot before.1)
        (λ (gone : IsGone old.items new.items slot). let node = agree.of_nodes gone.0 gone.1.1.0 slot gone.1.0 gone.1.1.1.0 gone.1.1.1.1.1 in ap is_some node.1.0)
        (change.released i slot freed);
    of_items = λ slot node e.
        ⊎_elim
        (λ (own : IsOwned old.items node.item slot).
        ⊎_elim
        (λ (none : map.get new.items node.item ≡ None). inr (change.now_released slot (node.item, (own.0, (own.1.1.0, (own.1.0, (none, own.1.1.1)))))))
        (λ (now : (i : Item) × (map.get new.items node.item ≡ Some i)).
        inl (
          now.0,
          (
            now.1,
            (
              own.1.1.0,
              subst (λ (ks : ItemKeys). slice_get (keys_of ks) own.1.1.0 ≡ Some (key_of slot)) (sym (change.same_keys node.item own.0 now.0 own.1.0 now.1)) own.1.1.1,
            ),
          ),
        ))
        (is_there (map.get new.items node.item)))
        (λ (freed : (i : ℕ) × ReleasedAt old i slot). inr (change.still_released freed.0 slot freed.1))
        (agree.of_items slot node e);
    keyed = λ serial item e.
        ⊎_elim
        (λ (none : map.get old.items serial ≡ None).
        inl (change.new_keys serial item none e, dirty_now serial item e (λ was is. absurd (none-some was (sym none ∙ is)))))
        (λ (was : (i : Item) × (map.get old.items serial ≡ Some i)).
        ⊎_elim
        (λ (bare : (was.0.keys ≡ no_keys) × IsDirty old serial).
        inl (change.same_keys serial was.0 item was.1 e ∙ bare.0, dirty_now serial item e (λ other is. bare.1)))
        (λ (has : HasKinds f was.0). inr (kinds_same serial was.0 item was.1 e has))
        (agree.keyed serial was.0 was.1))
        (is_there (map.get old.items serial));
    root = λ item key e k.
        let e_old = ap (map.get new.items) (sym change.same_root) ∙ e in
        ⊎_elim
        (λ (none : map.get old.items old.root ≡ None). absurd (none-some key (ap (λ (ks : ItemKeys). ks.group) (sym (change.new_keys old.root item none e_old)) ∙ k)))
        (λ (was : (i : Item) × (map.get old.items old.root ≡ Some i)).
        agree.root was.0 key was.1 (ap (λ (ks : ItemKeys). ks.group) (sym (change.same_keys old.root was.0 item was.1 e_old)) ∙ k))
        (is_there (map.get old.items old.root));
    clean = λ serial item e still.
        let was = change.clean serial item e still in
        let has = agree.clean serial was.1.0 was.1.1.0 was.0 in
        let keys = change.same_keys serial was.1.0 item was.1.1.0 e in
        record {
          group = has.group;
          group_is = ap (λ (ks : ItemKeys). ks.group) keys ∙ has.group_is;
          group_node = has.group_node ∙ ap (λ (p : Paint). Some (record { item = serial; body = GroupBody (group_of p) })) was.1.1.1;
          rect_nodes =
              ap (λ (ks : ItemKeys). list_map (λ key. f.node (slot_of key)) (rect_keys ks.rects)) keys
              ∙ (has.rect_nodes ∙ ap (λ (p : Paint). list_map (λ part. Some (record { item = serial; body = RectBody (rect_of part) })) (parts_of p.rects)) was.1.1.1);
          children = has.children ∙ wanted_same serial was.1.0 item was.1.1.0 e was.1.1.1;
        };
  }
