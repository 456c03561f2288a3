-- Nodes stay a forest.
use Rattle.std.proofs.Common.{◌≡◌, ◌≢◌, ◌⊎◌, ⊎_elim, inl, inr, ℕ, zero, suc, Bool, true, false, cond, eqb, [], Option, Some, None, IsSome, is_some, refl, ap, sym, subst, ◌∙◌, eq-eqb}
use Rattle.std.specs.List.{slice_get}
use Rattle.std.proofs.lemmas.Option.{none-some, same_Some}
use Rattle.std.proofs.lemmas.Bool.{cases_eq, ne_eqb}
use Rattle.sg_nodes.specs.declared.node.Node.{Node}
use Rattle.sg_nodes.specs.Forest.{Forest, IsLive, IsChild, Steps, IsFrom, IsForest, put, without, placed_before, moved, root_without, freed}
use Rattle.links.proofs.Lists.{left}
use Rattle.sg_nodes.proofs.Slots.{left_once}
use Rattle.sg_nodes.proofs.Placing.{placed_there, placed_once}

-- two that agree at each slot are one
pub same_forest : (f g : Forest) → ((slot : ℕ) → f.node slot ≡ g.node slot) → ((slot : ℕ) → f.children slot ≡ g.children slot) → f.root ≡ g.root → f.spare ≡ g.spare → f ≡ g
same_forest f g node children root spare = λ i. record { node = λ slot. node slot i; children = λ slot. children slot i; root = root i; spare = spare i }

-- paths lead from one to the next
join : (f : Forest) (n m a b c : ℕ) → Steps f n a b → Steps f m b c → IsFrom f a c
join f zero m a b c p q = (m, subst (λ x. Steps f m x c) (sym p) q)
join f (suc n) m a b c p q = let rest = join f n m p.0 b c p.1.1 q in (suc rest.0, (p.0, (p.1.0, rest.1)))

-- a path stays one where each child is one
more_steps : (f g : Forest) → ((a c : ℕ) → IsChild f a c → IsChild g a c) → (n a b : ℕ) → Steps f n a b → Steps g n a b
more_steps f g kept zero a b p = p
more_steps f g kept (suc n) a b p = (p.0, (kept a p.0 p.1.0, more_steps f g kept n p.0 b p.1.1))

put_live : (b : Bool) (node : Node) (o : Option Node) → IsSome o → is_some (cond b (Some node) o) ≡ true
put_live true node o is = refl
put_live false node o is = is

root_was : (slot : ℕ) (root : Option ℕ) (s : ℕ) → root_without slot root ≡ Some s → (root ≡ Some s) × (s ≢ slot)
root_was slot None s e = absurd (none-some s e)
root_was slot (Some r) s e =
    ⊎_elim
    (λ (is : r ≡ slot). absurd (none-some s (ap (λ b. cond b None (Some r)) (sym (eq-eqb r slot is)) ∙ e)))
    (λ (ne : r ≢ slot).
    let same : Some r ≡ Some s = ap (λ b. cond b None (Some r)) (sym (ne_eqb r slot ne)) ∙ e in
    (same, λ is. ne (same_Some r s same ∙ is)))
    (cases_eq r slot)

freed_child : (f : Forest) (slot a i child : ℕ) → slice_get ((freed f slot).children a) i ≡ Some child → (a ≢ slot) × (slice_get (without slot (f.children a)) i ≡ Some child)
freed_child f slot a i child e =
    ⊎_elim
    (λ (is : a ≡ slot). absurd (none-some child (ap (λ b. slice_get (cond b [] (without slot (f.children a))) i) (sym (eq-eqb a slot is)) ∙ e)))
    (λ (ne : a ≢ slot). (ne, ap (λ b. slice_get (cond b [] (without slot (f.children a))) i) (sym (ne_eqb a slot ne)) ∙ e))
    (cases_eq a slot)

module _ {f : Forest} (holds : IsForest f) where
  -- another node has a slot, or has other facts
  pub forest_put : (slot spare : ℕ) (node : Node) → IsForest (record f { node = put f.node slot (Some node); spare = spare })
  forest_put slot spare node =
      let live : (other : ℕ) → IsLive f other → is_some (put f.node slot (Some node) other) ≡ true = λ other is. put_live (eqb other slot) node (f.node other) is in
      record {
        one_parent = holds.one_parent;
        one_place = holds.one_place;
        parent_live = λ a i child e. live a (holds.parent_live a i child e);
        child_live = λ a i child e. live child (holds.child_live a i child e);
        root_live = λ s e. live s (holds.root_live s e);
        root_free = holds.root_free;
        no_cycle = λ n s p. holds.no_cycle n s (more_steps (record f { node = put f.node slot (Some node); spare = spare }) f (λ a c is. is) (suc n) s s p);
      }

  pub forest_spare : (spare : ℕ) → IsForest (record f { spare = spare })
  forest_spare spare = record {
    one_parent = holds.one_parent;
    one_place = holds.one_place;
    parent_live = holds.parent_live;
    child_live = holds.child_live;
    root_live = holds.root_live;
    root_free = holds.root_free;
    no_cycle = λ n s p. holds.no_cycle n s (more_steps (record f { spare = spare }) f (λ a c is. is) (suc n) s s p);
  }

  -- another node without a parent is the root
  pub forest_root : (slot : ℕ) → IsLive f slot → ((parent : ℕ) → ¬ IsChild f parent slot) → IsForest (record f { root = Some slot })
  forest_root slot live free = record {
    one_parent = holds.one_parent;
    one_place = holds.one_place;
    parent_live = holds.parent_live;
    child_live = holds.child_live;
    root_live = λ s e. subst (IsLive f) (same_Some slot s e) live;
    root_free = λ s e parent. subst (λ x. ¬ IsChild f parent x) (same_Some slot s e) (free parent);
    no_cycle = λ n s p. holds.no_cycle n s (more_steps (record f { root = Some slot }) f (λ a c is. is) (suc n) s s p);
  }

  -- one is freed
  pub forest_freed : (slot : ℕ) → IsForest (freed f slot)
  forest_freed slot =
      let was : (a i child : ℕ) → slice_get ((freed f slot).children a) i ≡ Some child → (a ≢ slot) × (slice_get (without slot (f.children a)) i ≡ Some child) =
      λ a i child e. freed_child f slot a i child e in
      let child_was : (a c : ℕ) → IsChild (freed f slot) a c → IsChild f a c =
      λ a c is. let found = left (f.children a) slot is.0 c (was a is.0 c is.1).1 in (found.0, found.1.0) in
      let live : (other : ℕ) → other ≢ slot → IsLive f other → IsLive (freed f slot) other = λ other ne is. ap (λ b. is_some (cond b None (f.node other))) (ne_eqb other slot ne) ∙ is in
      record {
        one_parent = λ a b i j child e g.
            holds.one_parent a b (child_was a child (i, e)).0 (child_was b child (j, g)).0 child (child_was a child (i, e)).1 (child_was b child (j, g)).1;
        one_place = λ a i j child e g. left_once (f.children a) slot i j child (λ c d k l. holds.one_place a c d child k l) (was a i child e).1 (was a j child g).1;
        parent_live = λ a i child e. live a (was a i child e).0 (let is = child_was a child (i, e) in holds.parent_live a is.0 child is.1);
        child_live = λ a i child e.
            let found = left (f.children a) slot i child (was a i child e).1 in live child found.1.1 (holds.child_live a found.0 child found.1.0);
        root_live = λ s e. let r = root_was slot f.root s e in live s r.1 (holds.root_live s r.0);
        root_free = λ s e parent is. let r = root_was slot f.root s e in holds.root_free s r.0 parent (child_was parent s is);
        no_cycle = λ n s p. holds.no_cycle n s (more_steps (freed f slot) f child_was (suc n) s s p);
      }

  -- one is moved
  module _ (slot parent : ℕ) (at : Option ℕ) (live_slot : IsLive f slot) (live_parent : IsLive f parent) (not_root : f.root ≢ Some slot) (not_above : ¬ IsFrom f slot parent) where
    abbrev after : Forest
    after = record f { children = moved f.children slot parent at }

    -- a child then was one before, and another one, or is the one that moved
    child_was : (a i child : ℕ) → slice_get (after.children a) i ≡ Some child
        → ((j : ℕ) × ((slice_get (f.children a) j ≡ Some child) × (child ≢ slot))) ⊎ ((a ≡ parent) × (child ≡ slot))
    child_was a i child e =
        ⊎_elim
        (λ (is : a ≡ parent).
        ⊎_elim
        (λ (there : (j : ℕ) × (slice_get (without slot (f.children a)) j ≡ Some child)). inl (left (f.children a) slot there.0 child there.1))
        (λ (same : child ≡ slot). inr (is, same))
        (placed_there (without slot (f.children a)) at slot i child (λ c k. (left (f.children a) slot c slot k).1.1 refl) (ap (λ b. slice_get (cond b (placed_before slot at (without slot (f.children a))) (without slot (f.children a))) i) (sym (eq-eqb a parent is)) ∙ e)))
        (λ (ne : a ≢ parent).
        inl (left (f.children a) slot i child (ap (λ b. slice_get (cond b (placed_before slot at (without slot (f.children a))) (without slot (f.children a))) i) (sym (ne_eqb a parent ne)) ∙ e)))
        (cases_eq a parent)

    -- a path then is one before, or goes by the one that moved
    to_parent : (n a b : ℕ) → Steps after n a b → Steps f n a b ⊎ IsFrom f a parent
    to_parent zero a b p = inl p
    to_parent (suc n) a b p =
        ⊎_elim
        (λ (old : (j : ℕ) × ((slice_get (f.children a) j ≡ Some p.0) × (p.0 ≢ slot))).
        ⊎_elim
        (λ (rest : Steps f n p.0 b). inl (p.0, ((old.0, old.1.0), rest)))
        (λ (rest : IsFrom f p.0 parent). inr (suc rest.0, (p.0, ((old.0, old.1.0), rest.1))))
        (to_parent n p.0 b p.1.1))
        (λ (new : (a ≡ parent) × (p.0 ≡ slot)). inr (zero, new.0))
        (child_was a p.1.0.0 p.0 p.1.0.1)

    from_slot : (n a b : ℕ) → Steps after n a b → Steps f n a b ⊎ IsFrom f slot b
    from_slot zero a b p = inl p
    from_slot (suc n) a b p =
        ⊎_elim
        (λ (rest : Steps f n p.0 b).
        ⊎_elim
        (λ (old : (j : ℕ) × ((slice_get (f.children a) j ≡ Some p.0) × (p.0 ≢ slot))). inl (p.0, ((old.0, old.1.0), rest)))
        (λ (new : (a ≡ parent) × (p.0 ≡ slot)). inr (n, subst (λ x. Steps f n x b) new.1 rest))
        (child_was a p.1.0.0 p.0 p.1.0.1))
        (λ (rest : IsFrom f slot b). inr rest)
        (from_slot n p.0 b p.1.1)

    no_new_cycle : (n s : ℕ) → ¬ Steps after (suc n) s s
    no_new_cycle n s p =
        ⊎_elim
        (λ (old : Steps f (suc n) s s). holds.no_cycle n s old)
        (λ (up : IsFrom f s parent).
        ⊎_elim
        (λ (old : Steps f (suc n) s s). holds.no_cycle n s old)
        (λ (down : IsFrom f slot s). not_above (join f down.0 up.0 slot s parent down.1 up.1))
        (from_slot (suc n) s s p))
        (to_parent (suc n) s s p)

    pub forest_moved : IsForest after
    forest_moved = record {
      one_parent = λ a b i j child e g.
          ⊎_elim
          (λ (old : (k : ℕ) × ((slice_get (f.children a) k ≡ Some child) × (child ≢ slot))).
          ⊎_elim
          (λ (also : (k : ℕ) × ((slice_get (f.children b) k ≡ Some child) × (child ≢ slot))). holds.one_parent a b old.0 also.0 child old.1.0 also.1.0)
          (λ (new : (b ≡ parent) × (child ≡ slot)). absurd (old.1.1 new.1))
          (child_was b j child g))
          (λ (new : (a ≡ parent) × (child ≡ slot)).
          ⊎_elim
          (λ (old : (k : ℕ) × ((slice_get (f.children b) k ≡ Some child) × (child ≢ slot))). absurd (old.1.1 new.1))
          (λ (also : (b ≡ parent) × (child ≡ slot)). new.0 ∙ sym also.0)
          (child_was b j child g))
          (child_was a i child e);
      one_place = λ a i j child e g.
          let once : (c d : ℕ) → slice_get (without slot (f.children a)) c ≡ Some child → slice_get (without slot (f.children a)) d ≡ Some child → c ≡ d =
          λ c d k l. left_once (f.children a) slot c d child (λ x y u v. holds.one_place a x y child u v) k l in
          let gone : (c : ℕ) → slice_get (without slot (f.children a)) c ≢ Some slot = λ c k. (left (f.children a) slot c slot k).1.1 refl in
          ⊎_elim
          (λ (is : a ≡ parent).
          placed_once (without slot (f.children a)) at slot i j child once gone
          (ap (λ b. slice_get (cond b (placed_before slot at (without slot (f.children a))) (without slot (f.children a))) i) (sym (eq-eqb a parent is)) ∙ e)
          (ap (λ b. slice_get (cond b (placed_before slot at (without slot (f.children a))) (without slot (f.children a))) j) (sym (eq-eqb a parent is)) ∙ g))
          (λ (ne : a ≢ parent).
          once i j
          (ap (λ b. slice_get (cond b (placed_before slot at (without slot (f.children a))) (without slot (f.children a))) i) (sym (ne_eqb a parent ne)) ∙ e)
          (ap (λ b. slice_get (cond b (placed_before slot at (without slot (f.children a))) (without slot (f.children a))) j) (sym (ne_eqb a parent ne)) ∙ g))
          (cases_eq a parent);
      parent_live = λ a i child e.
          ⊎_elim
          (λ (old : (k : ℕ) × ((slice_get (f.children a) k ≡ Some child) × (child ≢ slot))). holds.parent_live a old.0 child old.1.0)
          (λ (new : (a ≡ parent) × (child ≡ slot)). subst (IsLive f) (sym new.0) live_parent)
          (child_was a i child e);
      child_live = λ a i child e.
          ⊎_elim
          (λ (old : (k : ℕ) × ((slice_get (f.children a) k ≡ Some child) × (child ≢ slot))). holds.child_live a old.0 child old.1.0)
          (λ (new : (a ≡ parent) × (child ≡ slot)). subst (IsLive f) (sym new.1) live_slot)
          (child_was a i child e);
      root_live = holds.root_live;
      root_free = λ s e p is.
          ⊎_elim
          (λ (old : (k : ℕ) × ((slice_get (f.children p) k ≡ Some s) × (s ≢ slot))). holds.root_free s e p (old.0, old.1.0))
          (λ (new : (p ≡ parent) × (s ≡ slot)). not_root (e ∙ ap Some new.1))
          (child_was p is.0 s is.1);
      no_cycle = no_new_cycle;
    }
