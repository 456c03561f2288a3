-- Nodes that are set, made and freed, one after the other.
use Rattle.std.proofs.Common.{◌≡◌, ◌≢◌, ◌⊎◌, ⊎_elim, inl, inr, ℕ, zero, cond, List, [], ◌∷◌, ◌++◌, map as list_map, drop, Option, Some, None, refl, ap, sym, ◌∙◌, subst, eq-eqb}
use Rattle.std.specs.List.{slice_get}
use Rattle.std.proofs.lemmas.Option.{none-some, same_Some}
use Rattle.std.proofs.lemmas.Bool.{cases_eq, ne_eqb}
use Rattle.std.proofs.lemmas.List.{map-append}
use Rattle.links.specs.declared.node_key.NodeKey.{NodeKey}
use Rattle.sg_nodes.specs.declared.node.Node.{Node}
use Rattle.sg_nodes.specs.Forest.{Forest, put, without, freed, slot_of, key_of}
use Rattle.sg_sync.specs.Own.{IsIn}
use Rattle.sg_sync.specs.Linking.{HasSegment}
use Rattle.sg_sync.specs.Swapping.{IsSlotOf, Swapped}
use Rattle.sg_sync.proofs.Members.{in_none, in_first, in_rest, first_or_rest, in_left, in_right, in_either, in_without, segment_without, distinct-append}

pub put_at : {A : Type 0} (f : ℕ → A) (slot x : ℕ) (v : A) → x ≡ slot → put f slot v x ≡ v
put_at f slot x v e = ap (λ b. cond b v (f x)) (eq-eqb x slot e)

pub put_else : {A : Type 0} (f : ℕ → A) (slot x : ℕ) (v : A) → x ≢ slot → put f slot v x ≡ f x
put_else f slot x v ne = ap (λ b. cond b v (f x)) (ne_eqb x slot ne)

-- the slot of one key
pub only_slot : (key : NodeKey) (slot : ℕ) → IsSlotOf (key ∷ []) slot → slot ≡ key.slot
only_slot key slot is = ⊎_elim (λ (e : key ≡ key_of slot). ap slot_of (sym e)) (λ (no : IsIn [] (key_of slot)). absurd (in_none (key_of slot) no)) (first_or_rest key [] (key_of slot) is)

pub is_slot : (key : NodeKey) (slot : ℕ) → slot ≡ key.slot → IsSlotOf (key ∷ []) slot
is_slot key slot e = (zero, ap (λ s. Some (key_of s)) (sym e))

pub slot_or_not : (keys : List NodeKey) (slot : ℕ) → IsSlotOf keys slot ⊎ (¬ IsSlotOf keys slot)
slot_or_not [] slot = inr (in_none (key_of slot))
slot_or_not (key ∷ keys) slot =
    ⊎_elim (λ (e : key.slot ≡ slot). inl (zero, ap (λ s. Some (key_of s)) e))
    (λ (ne : key.slot ≢ slot).
    ⊎_elim (λ (there : IsSlotOf keys slot). inl (in_rest key keys (key_of slot) there))
    (λ (not_there : ¬ IsSlotOf keys slot). inr (λ is. ⊎_elim (λ (e : key ≡ key_of slot). ne (ap slot_of e)) not_there (first_or_rest key keys (key_of slot) is)))
    (slot_or_not keys slot))
    (cases_eq key.slot slot)

-- nothing happens
pub swapped_none : (f : Forest) → Swapped f f [] [] [] []
swapped_none f = record {
  has = refl;
  apart = tt;
  others = λ slot a b. refl;
  ended = λ slot a b. absurd (in_none (key_of slot) a);
  fresh = λ slot a b. absurd (in_none (key_of slot) a);
  fewer = λ parent child is. is;
  kept = λ parent segment loose has apart. has;
}

-- a node that stays
pub swapped_same : (f : Forest) (key : NodeKey) (node : Node) → f.node key.slot ≡ Some node → Swapped f f (key ∷ []) (key ∷ []) [] (node ∷ [])
swapped_same f key node e = record {
  has = ap (λ o. o ∷ []) e;
  apart = (in_none key, tt);
  others = λ slot a b. refl;
  ended = λ slot a b. absurd (b a);
  fresh = λ slot a b. absurd (b a);
  fewer = λ parent child is. is;
  kept = λ parent segment loose has apart. has;
}

-- a node that is made or set
pub swapped_put : (f g : Forest) (key : NodeKey) (spare : ℕ) (node : Node) (old : List NodeKey) → g ≡ record f { node = put f.node key.slot (Some node); spare = spare }
    → ((slot : ℕ) → IsSlotOf old slot → slot ≡ key.slot) → (¬ IsSlotOf old key.slot → f.node key.slot ≡ None) → Swapped f g old (key ∷ []) [] (node ∷ [])
swapped_put f g key spare node old e only fresh = record {
  has = ap (λ o. o ∷ []) (ap (λ (h : Forest). h.node key.slot) e ∙ put_at f.node key.slot key.slot (Some node) refl);
  apart = (in_none key, tt);
  others = λ slot a b. ap (λ (h : Forest). h.node slot) e ∙ put_else f.node key.slot slot (Some node) (λ same. b (is_slot key slot same));
  ended = λ slot a b. absurd (b (is_slot key slot (only slot a)));
  fresh = λ slot a b.
      let same = only_slot key slot a in
      ap f.node same ∙ fresh (λ is. b (subst (IsSlotOf old) (sym same) is));
  fewer = λ parent child is. (is.0, ap (λ (h : Forest). slice_get (h.children parent) is.0) (sym e) ∙ is.1);
  kept = λ parent segment loose has apart. subst (λ (h : Forest). HasSegment (h.children parent) segment) (sym e) has;
}

-- one that is set once more
pub swapped_again : (f g h : Forest) (key : NodeKey) (node last : Node) (old : List NodeKey) → Swapped f g old (key ∷ []) [] (node ∷ [])
    → h ≡ record g { node = put g.node key.slot (Some last) } → Swapped f h old (key ∷ []) [] (last ∷ [])
swapped_again f g h key node last old s e = record {
  has = ap (λ o. o ∷ []) (ap (λ (k : Forest). k.node key.slot) e ∙ put_at g.node key.slot key.slot (Some last) refl);
  apart = s.apart;
  others = λ slot a b.
      ap (λ (k : Forest). k.node slot) e ∙ (put_else g.node key.slot slot (Some last) (λ same. b (is_slot key slot same)) ∙ s.others slot a b);
  ended = λ slot a b.
      ap (λ (k : Forest). k.node slot) e ∙ (put_else g.node key.slot slot (Some last) (λ same. b (is_slot key slot same)) ∙ s.ended slot a b);
  fresh = s.fresh;
  fewer = λ parent child is. s.fewer parent child (is.0, ap (λ (k : Forest). slice_get (k.children parent) is.0) (sym e) ∙ is.1);
  kept = λ parent segment loose has apart. subst (λ (k : Forest). HasSegment (k.children parent) segment) (sym e) (s.kept parent segment loose has apart);
}

-- a node that is freed
freed_here : (f : Forest) (slot a : ℕ) → a ≡ slot → (freed f slot).children a ≡ []
freed_here f slot a e = ap (λ b. cond b [] (without slot (f.children a))) (eq-eqb a slot e)

freed_else : (f : Forest) (slot a : ℕ) → a ≢ slot → (freed f slot).children a ≡ without slot (f.children a)
freed_else f slot a ne = ap (λ b. cond b [] (without slot (f.children a))) (ne_eqb a slot ne)

pub swapped_freed : (f g : Forest) (key : NodeKey) → g ≡ freed f key.slot → Swapped f g (key ∷ []) [] (key ∷ []) []
swapped_freed f g key e = record {
  has = refl;
  apart = tt;
  others = λ slot a b. ap (λ (h : Forest). h.node slot) e ∙ put_else f.node key.slot slot None (λ same. a (is_slot key slot same));
  ended = λ slot a b. ap (λ (h : Forest). h.node slot) e ∙ put_at f.node key.slot slot None (only_slot key slot a);
  fresh = λ slot a b. absurd (in_none (key_of slot) a);
  fewer = λ parent child is.
      let was : IsIn ((freed f key.slot).children parent) child = subst (λ (h : Forest). IsIn (h.children parent) child) e is in
      ⊎_elim
      (λ (same : parent ≡ key.slot). absurd (in_none child (subst (λ xs. IsIn xs child) (freed_here f key.slot parent same) was)))
      (λ (ne : parent ≢ key.slot). in_without (f.children parent) key.slot child (subst (λ xs. IsIn xs child) (freed_else f key.slot parent ne) was))
      (cases_eq parent key.slot);
  kept = λ parent segment loose has apart.
      subst (λ (h : Forest). HasSegment (h.children parent) segment) (sym e)
      (subst (λ xs. HasSegment xs segment) (sym (freed_else f key.slot parent (λ same. loose (is_slot key parent same))))
      (segment_without (f.children parent) segment key.slot has (λ is. apart key.slot is (is_slot key key.slot refl))));
}

-- keys whose lists may be gone, as more than those that are
pub swapped_wider : (f g : Forest) (old new more : List NodeKey) (nodes : List Node) → Swapped f g old new [] nodes → Swapped f g old new more nodes
swapped_wider f g old new more nodes s = record {
  has = s.has;
  apart = s.apart;
  others = s.others;
  ended = s.ended;
  fresh = s.fresh;
  fewer = s.fewer;
  kept = λ parent segment loose has apart. s.kept parent segment (in_none (key_of parent)) has (λ slot is. in_none (key_of slot));
}

-- the node of a new key
pub new_node : (g : ℕ → Option Node) (new : List NodeKey) (nodes : List Node) (slot : ℕ) → list_map (λ key. g (slot_of key)) new ≡ list_map Some nodes → IsSlotOf new slot
    → (node : Node) × (IsIn nodes node × (g slot ≡ Some node))
new_node g [] nodes slot e is = absurd (in_none (key_of slot) is)
new_node g (key ∷ new) [] slot e is = cc
new_node g (key ∷ new) (node ∷ nodes) slot e is =
    ⊎_elim
    (λ (here : key ≡ key_of slot). (node, (in_first node nodes, ap (λ (k : NodeKey). g k.slot) (sym here) ∙ same_Some (g key.slot) (Some node) (ap (λ xs. slice_get xs 0) e))))
    (λ (later : IsSlotOf new slot).
    let found = new_node g new nodes slot (ap (λ xs. drop 1 xs) e) later in
    (found.0, (in_rest node nodes found.0 found.1.0, found.1.1)))
    (first_or_rest key new (key_of slot) is)

pub same_map : (g h : ℕ → Option Node) (keys : List NodeKey) → ((slot : ℕ) → IsSlotOf keys slot → h slot ≡ g slot) → list_map (λ key. h (slot_of key)) keys ≡ list_map (λ key. g (slot_of key)) keys
same_map g h [] same = refl
same_map g h (key ∷ keys) same =
    ap (λ o. o ∷ list_map (λ k. h (slot_of k)) keys) (same key.slot (zero, refl))
    ∙ ap (λ xs. g key.slot ∷ xs) (same_map g h keys (λ slot is. same slot (in_rest key keys (key_of slot) is)))

-- one after the other
module _ {f g h : Forest} {old_a new_a freed_a old_b new_b freed_b : List NodeKey} {nodes_a nodes_b : List Node} (a : Swapped f g old_a new_a freed_a nodes_a) (b : Swapped g h old_b new_b freed_b nodes_b)
    (old_apart : (slot : ℕ) → IsSlotOf old_a slot → ¬ IsSlotOf old_b slot) (new_apart : (slot : ℕ) → IsSlotOf new_a slot → ¬ IsSlotOf old_b slot) where
  -- what is new first isn't new once more
  not_again : (slot : ℕ) → IsSlotOf new_a slot → ¬ IsSlotOf new_b slot
  not_again slot is again =
      let node = new_node g.node new_a nodes_a slot a.has is in
      none-some node.0 (sym (b.fresh slot again (new_apart slot is)) ∙ node.1.1)

  pub swapped_append : Swapped f h (old_a ++ old_b) (new_a ++ new_b) (freed_a ++ freed_b) (nodes_a ++ nodes_b)
  swapped_append = record {
    has =
        map-append (λ key. h.node (slot_of key)) new_a new_b
        ∙ (ap (λ xs. xs ++ list_map (λ key. h.node (slot_of key)) new_b)
        (same_map g.node h.node new_a (λ slot is. b.others slot (new_apart slot is) (not_again slot is)) ∙ a.has)
        ∙ (ap (λ xs. list_map Some nodes_a ++ xs) b.has ∙ sym (map-append Some nodes_a nodes_b)));
    apart = distinct-append new_a new_b a.apart b.apart (λ key is. not_again key.slot is);
    others = λ slot no_old no_new.
        b.others slot (λ is. no_old (in_right old_a old_b (key_of slot) is)) (λ is. no_new (in_right new_a new_b (key_of slot) is))
        ∙ a.others slot (λ is. no_old (in_left old_a old_b (key_of slot) is)) (λ is. no_new (in_left new_a new_b (key_of slot) is));
    ended = λ slot is no_new.
        ⊎_elim
        (λ (first : IsSlotOf old_a slot).
        b.others slot (old_apart slot first) (λ k. no_new (in_right new_a new_b (key_of slot) k))
        ∙ a.ended slot first (λ k. no_new (in_left new_a new_b (key_of slot) k)))
        (λ (second : IsSlotOf old_b slot). b.ended slot second (λ k. no_new (in_right new_a new_b (key_of slot) k)))
        (in_either old_a old_b (key_of slot) is);
    fresh = λ slot is no_old.
        ⊎_elim
        (λ (first : IsSlotOf new_a slot). a.fresh slot first (λ k. no_old (in_left old_a old_b (key_of slot) k)))
        (λ (second : IsSlotOf new_b slot).
        sym (a.others slot (λ k. no_old (in_left old_a old_b (key_of slot) k)) (λ k. not_again slot k second))
        ∙ b.fresh slot second (λ k. no_old (in_right old_a old_b (key_of slot) k)))
        (in_either new_a new_b (key_of slot) is);
    fewer = λ parent child is. a.fewer parent child (b.fewer parent child is);
    kept = λ parent segment loose has apart.
        b.kept parent segment (λ k. loose (in_right freed_a freed_b (key_of parent) k))
        (a.kept parent segment (λ k. loose (in_left freed_a freed_b (key_of parent) k)) has (λ slot is k. apart slot is (in_left freed_a freed_b (key_of slot) k)))
        (λ slot is k. apart slot is (in_right freed_a freed_b (key_of slot) k));
  }

-- a node that is made
pub made_node : (f g : Forest) (key : NodeKey) (spare : ℕ) (node : Node) → g ≡ record f { node = put f.node key.slot (Some node); spare = spare } → g.node key.slot ≡ Some node
made_node f g key spare node e = ap (λ (h : Forest). h.node key.slot) e ∙ put_at f.node key.slot key.slot (Some node) refl

pub swapped_made : (f g : Forest) (key : NodeKey) (spare : ℕ) (node : Node) → f.node key.slot ≡ None → g ≡ record f { node = put f.node key.slot (Some node); spare = spare } → Swapped f g [] (key ∷ []) [] (node ∷ [])
swapped_made f g key spare node none e = swapped_put f g key spare node [] e (λ slot is. absurd (in_none (key_of slot) is)) (λ is. none)

pub first_node : (g : ℕ → Option Node) (key : NodeKey) (node : Node) → list_map (λ (k : NodeKey). g (slot_of k)) (key ∷ []) ≡ list_map Some (node ∷ []) → g key.slot ≡ Some node
first_node g key node e = same_Some (g key.slot) (Some node) (ap (λ xs. slice_get xs 0) e)
