-- A step of a loop that moves nodes to the end of a parent's children.
use Rattle.std.proofs.Common.{◌≡◌, ◌≢◌, ℕ, ◌+◌, ◌<◌, List, [], ◌∷◌, ◌++◌, map as list_map, take, drop, length, get_or, Option, Some, None, IsSome, option_map, ap, sym, ◌∙◌, subst, append_assoc}
use Rattle.std.proofs.lemmas.List.{take-append-drop, map-append, drop_more, map_more, take_more, flat_map_more}
use Rattle.std.specs.List.{flat_map}
use Rattle.std.specs.FinMap as map
use Rattle.std.proofs.lemmas.Option.{same_Some}
use Rattle.scene.specs.declared.paint.Paint.{Paint}
use Rattle.scene.specs.declared.keys.ItemKeys.{ItemKeys}
use Rattle.links.specs.declared.node_key.NodeKey.{NodeKey}
use Rattle.scene.specs.Keys.{rect_keys}
use Rattle.scene.specs.Picture.{Item, Items}
use Rattle.sg_nodes.specs.Forest.{Forest, IsLive, IsFrom, moved, slot_of}
use Rattle.sg_sync.specs.Own.{slot_or, slots_of, slots_or_none}
use Rattle.sg_sync.proofs.Dressed.{the_item}
use Rattle.sg_sync.specs.Linking.{linked, CanMove}
use Rattle.sg_sync.proofs.Members.{in_first}
use Rattle.sg_sync.proofs.Linking.{linked-append, can_after, can_first, not_above}

split : {A : Type 0} (g : A → ℕ) (xs : List A) (i : ℕ) (d : A) → i < length xs → list_map g xs ≡ list_map g (take i xs) ++ (g (get_or xs i d) ∷ list_map g (drop (i + 1) xs))
split g xs i d lt =
    ap (list_map g) (sym (take-append-drop i xs))
    ∙ (map-append g (take i xs) (drop i xs) ∙ ap (λ ys. list_map g (take i xs) ++ list_map g ys) (drop_more xs i d lt))

module _ {A : Type 0} (g : A → ℕ) (xs : List A) (parent i : ℕ) (d : A) (lt : i < length xs) (f0 f : Forest) (can : CanMove f0 parent (list_map g xs))
    (now : f ≡ record f0 { children = linked f0.children (list_map g (take i xs)) parent }) (slot : ℕ) (is : g (get_or xs i d) ≡ slot) where
  can_now : CanMove f parent (slot ∷ list_map g (drop (i + 1) xs))
  can_now =
      subst (λ (h : Forest). CanMove h parent (slot ∷ list_map g (drop (i + 1) xs))) (sym now)
      (can_after f0 parent (list_map g (take i xs)) (slot ∷ list_map g (drop (i + 1) xs))
      (subst (CanMove f0 parent) (split g xs i d lt ∙ ap (λ s. list_map g (take i xs) ++ (s ∷ list_map g (drop (i + 1) xs))) is) can))

  pub step_live : IsLive f slot
  step_live = can_now.live slot (in_first slot (list_map g (drop (i + 1) xs)))

  pub step_parent : IsLive f parent
  step_parent = can_now.parent_live

  pub step_root : f.root ≢ Some slot
  step_root = can_now.not_root slot (in_first slot (list_map g (drop (i + 1) xs)))

  pub step_above : ¬ IsFrom f slot parent
  step_above = not_above f parent (slot ∷ list_map g (drop (i + 1) xs)) slot can_now (in_first slot (list_map g (drop (i + 1) xs)))

  pub step_after : (h : Forest) → h ≡ record f { children = moved f.children slot parent None } → h ≡ record f0 { children = linked f0.children (list_map g (take (i + 1) xs)) parent }
  step_after h e =
      e
      ∙ (ap (λ (k : Forest). record k { children = moved k.children slot parent None }) now
      ∙ (ap (λ (ch : ℕ → List ℕ). record f0 { children = ch }) (sym (linked-append f0.children (list_map g (take i xs)) (slot ∷ []) parent))
      ∙ ap (λ slots. record f0 { children = linked f0.children slots parent }) (ap (λ s. list_map g (take i xs) ++ s ∷ []) (sym is) ∙ sym (map_more g xs i d lt))))

-- the item of what was read
pub item_read : (o : Option Item) (paint : Paint) (keys : ItemKeys) → IsSome o → Some paint ≡ option_map (λ (i : Item). i.paint) o → Some keys ≡ option_map (λ (i : Item). i.keys) o
    → o ≡ Some (record { paint = paint; keys = keys })
item_read o paint keys is p k =
    let found = the_item o is in
    found.1
    ∙ ap Some (λ i. record {
      paint = same_Some found.0.paint paint (sym (p ∙ ap (option_map (λ (j : Item). j.paint)) found.1)) i;
      keys = same_Some found.0.keys keys (sym (k ∙ ap (option_map (λ (j : Item). j.keys)) found.1)) i;
    })

-- three rows of nodes that move one after the other
module _ (f0 f1 f2 f3 : Forest) (parent : ℕ) (xs ys zs all : List ℕ) (all_is : all ≡ xs ++ (ys ++ zs)) (can : CanMove f0 parent all)
    (first : f1 ≡ record f0 { children = linked f0.children xs parent }) where
  can_all : CanMove f0 parent (xs ++ (ys ++ zs))
  can_all = subst (CanMove f0 parent) all_is can

  pub can_xs : CanMove f0 parent xs
  can_xs = can_first f0 parent xs (ys ++ zs) can_all

  can_rest : CanMove f1 parent (ys ++ zs)
  can_rest = subst (λ (h : Forest). CanMove h parent (ys ++ zs)) (sym first) (can_after f0 parent xs (ys ++ zs) can_all)

  pub can_ys : CanMove f1 parent ys
  can_ys = can_first f1 parent ys zs can_rest

  pub can_zs : f2 ≡ record f1 { children = linked f1.children ys parent } → CanMove f2 parent zs
  can_zs second = subst (λ (h : Forest). CanMove h parent zs) (sym second) (can_after f1 parent ys zs can_rest)

  pub all_moved : f2 ≡ record f1 { children = linked f1.children ys parent } → f3 ≡ record f2 { children = linked f2.children zs parent } → f3 ≡ record f0 { children = linked f0.children all parent }
  all_moved second third =
      third
      ∙ (ap (λ (h : Forest). record h { children = linked h.children zs parent }) (second ∙ ap (λ (h : Forest). record h { children = linked h.children ys parent }) first)
      ∙ ap (λ (ch : ℕ → List ℕ). record f0 { children = ch })
      (ap (λ (ch : ℕ → List ℕ). linked ch zs parent) (sym (linked-append f0.children xs ys parent))
      ∙ (sym (linked-append f0.children (xs ++ ys) zs parent)
      ∙ ap (λ slots. linked f0.children slots parent) (append_assoc xs ys zs ∙ sym all_is))))

-- what the item wants, by what was read of it
pub own_read : (items : Items) (serial : ℕ) (paint : Paint) (keys : ItemKeys) (kids under over : List ℕ) (rects : List NodeKey)
    → IsSome (map.get items serial) → Some paint ≡ option_map (λ (i : Item). i.paint) (map.get items serial) → Some keys ≡ option_map (λ (i : Item). i.keys) (map.get items serial)
    → kids ≡ paint.children → under ≡ take paint.under kids → over ≡ drop paint.under kids → rects ≡ rect_keys keys.rects
    → slots_of items serial ≡ list_map (slot_or items) under ++ (list_map slot_of rects ++ list_map (slot_or items) over)
own_read items serial paint keys kids under over rects is p k kids_are front back rects_are =
    ap (slots_or_none items) (item_read (map.get items serial) paint keys is p k)
    ∙ (ap (λ xs. list_map (slot_or items) xs ++ (list_map slot_of (rect_keys keys.rects) ++ list_map (slot_or items) (drop paint.under paint.children))) (sym (front ∙ ap (take paint.under) kids_are))
    ∙ (ap (λ xs. list_map (slot_or items) under ++ (list_map slot_of xs ++ list_map (slot_or items) (drop paint.under paint.children))) (sym rects_are)
    ∙ ap (λ xs. list_map (slot_or items) under ++ (list_map slot_of rects ++ list_map (slot_or items) xs)) (sym (back ∙ ap (drop paint.under) kids_are))))

-- a step of a loop over items whose nodes move
pub flat_after : (g : ℕ → List ℕ) (xs : List ℕ) (parent i d : ℕ) → i < length xs → (f0 f h : Forest) → f ≡ record f0 { children = linked f0.children (flat_map g (take i xs)) parent }
    → h ≡ record f { children = linked f.children (g (get_or xs i d)) parent } → h ≡ record f0 { children = linked f0.children (flat_map g (take (i + 1) xs)) parent }
flat_after g xs parent i d lt f0 f h now e =
    e
    ∙ (ap (λ (k : Forest). record k { children = linked k.children (g (get_or xs i d)) parent }) now
    ∙ (ap (λ (ch : ℕ → List ℕ). record f0 { children = ch }) (sym (linked-append f0.children (flat_map g (take i xs)) (g (get_or xs i d)) parent))
    ∙ ap (λ slots. record f0 { children = linked f0.children slots parent }) (flat_map_more g [] (take i xs) (get_or xs i d) ∙ ap (flat_map g) (sym (take_more xs i d lt)))))

-- children that change again
pub same_but_children : (f0 f h : Forest) (children : ℕ → List ℕ) → f ≡ record f0 { children = f.children } → h ≡ record f { children = children } → h ≡ record f0 { children = h.children }
same_but_children f0 f h children now e =
    e ∙ (ap (λ (k : Forest). record k { children = children }) now ∙ ap (λ (ch : ℕ → List ℕ). record f0 { children = ch }) (sym (ap (λ (k : Forest). k.children) e)))
