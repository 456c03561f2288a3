-- What std says of a `BTreeMap`, said of the finite maps that its entries stand for.
use Rattle.std.proofs.Common.{◌≡◌, ◌≢◌, ℕ, ◌+◌, Bool, true, false, cond, List, [], ◌∷◌, map as list_map, Option, None, Some, IsSome, is_some, option_map, nat_cmp, refl, ap, sym, subst, ◌∙◌, arith, eqb, eq-eqb}
use Rattle.std.specs.Ordering.{eq_by_cmp}
use Rattle.std.specs.Cmp.{nat_cmp_total, eq_by_cmp_equiv, unsigned_tied}
use Rattle.std.specs.BTreeMap as tree
use Rattle.std.specs.BTreeMap.{BTreeMap}
use Rattle.std.specs.Map.{lookup}
use Rattle.std.specs.FinMap as map
use Rattle.std.proofs.lemmas.Bool.{ne_eqb}
use Rattle.std.proofs.lemmas.Bool.Decides.{nat_tests}
use Rattle.std.proofs.lemmas.Map.Made.{lookup-map_values}

find-lookup : {X : Type 0} (q : ℕ) (es : List (ℕ × X)) → map.find nat_cmp q es ≡ lookup (eq_by_cmp nat_cmp q) es
find-lookup q [] = refl
find-lookup q (e ∷ es) = ap (λ r. cond (eq_by_cmp nat_cmp q e.0) (Some e.1) r) (find-lookup q es)

same_key : (k q : ℕ) → eq_by_cmp nat_cmp k q ≡ true → k ≡ q
same_key k q t = let e : eqb k q ≡ true = sym (unsigned_tied k q) ∙ t in grind (arith, nat_tests)

module _ {X Y : Type 0} (f : X → Y) where
  -- the map of what f shows of each value
  abbrev shown : List (ℕ × X) → map.FinMap nat_cmp Y
  shown es = map.from_entries (list_map (λ e. (e.0, f e.1)) es)

  pub get-shown : (m : BTreeMap ℕ X) (q : ℕ) → map.get (shown m.entries) q ≡ option_map f (tree.get nat_cmp m q)
  get-shown m q =
      map.get-from_entries nat_cmp_total (list_map (λ e. (e.0, f e.1)) m.entries) q
      ∙ (find-lookup q (list_map (λ e. (e.0, f e.1)) m.entries) ∙ lookup-map_values f (eq_by_cmp nat_cmp q) m.entries)

  pub get_shown : (m : BTreeMap ℕ X) (q : ℕ) (o : Option X) → tree.get nat_cmp m q ≡ o → map.get (shown m.entries) q ≡ option_map f o
  get_shown m q o e = get-shown m q ∙ ap (option_map f) e

  choice : (b : Bool) (v : X) (o : Option X) → option_map f (cond b (Some v) o) ≡ cond b (Some (f v)) (option_map f o)
  choice true v o = refl
  choice false v o = refl

  choice_none : (b : Bool) (o : Option X) → option_map f (cond b None o) ≡ cond b None (option_map f o)
  choice_none true o = refl
  choice_none false o = refl

  pub shown-insert : (m n : BTreeMap ℕ X) (k : ℕ) (v : X) → tree.Updates nat_cmp m n k (Some v) → shown n.entries ≡ map.insert (shown m.entries) k (f v)
  shown-insert m n k v u =
      map.same_map nat_cmp_total map.nat_cmp-IsAntisymmetric _ _ (λ q.
      get-shown n q ∙ (ap (option_map f) (u.0 q)
      ∙ (ap (λ b. option_map f (cond b (Some v) (tree.get nat_cmp m q))) ((eq_by_cmp_equiv nat_cmp_total).symm k q)
      ∙ (choice (eq_by_cmp nat_cmp q k) v (tree.get nat_cmp m q)
      ∙ (ap (λ o. cond (eq_by_cmp nat_cmp q k) (Some (f v)) o) (sym (get-shown m q))
      ∙ sym (map.get-insert nat_cmp_total (shown m.entries) k (f v) q))))))

  pub shown-remove : (m n : BTreeMap ℕ X) (k : ℕ) → tree.Updates nat_cmp m n k None → shown n.entries ≡ map.remove (shown m.entries) k
  shown-remove m n k u =
      map.same_map nat_cmp_total map.nat_cmp-IsAntisymmetric _ _ (λ q.
      get-shown n q ∙ (ap (option_map f) (u.0 q)
      ∙ (ap (λ b. option_map f (cond b None (tree.get nat_cmp m q))) ((eq_by_cmp_equiv nat_cmp_total).symm k q)
      ∙ (choice_none (eq_by_cmp nat_cmp q k) (tree.get nat_cmp m q)
      ∙ (ap (λ o. cond (eq_by_cmp nat_cmp q k) None o) (sym (get-shown m q))
      ∙ sym (map.get-remove nat_cmp_total (shown m.entries) k q))))))

  -- a value in place of one of which f shows the same
  shows_same : (b : Bool) (u v : X) (o : Option X) → f u ≡ f v → (b ≡ true → o ≡ Some u) → cond b (Some (f v)) (option_map f o) ≡ option_map f o
  shows_same true u v o e had = ap Some (sym e) ∙ ap (option_map f) (sym (had refl))
  shows_same false u v o e had = refl

  pub shown-same : (m n : BTreeMap ℕ X) (k : ℕ) (u v : X) → tree.Updates nat_cmp m n k (Some v) → tree.get nat_cmp m k ≡ Some u → f u ≡ f v → shown n.entries ≡ shown m.entries
  shown-same m n k u v up had e =
      map.same_map nat_cmp_total map.nat_cmp-IsAntisymmetric _ _ (λ q.
      get-shown n q ∙ (ap (option_map f) (up.0 q)
      ∙ (choice (eq_by_cmp nat_cmp k q) v (tree.get nat_cmp m q)
      ∙ (shows_same (eq_by_cmp nat_cmp k q) u v (tree.get nat_cmp m q) e (λ t. ap (tree.get nat_cmp m) (sym (same_key k q t)) ∙ had)
      ∙ sym (get-shown m q)))))

  -- a key that has a value
  pub has_value : (m : BTreeMap ℕ X) (k : ℕ) → IsSome (map.get (shown m.entries) k) → tree.get nat_cmp m k ≢ None
  has_value m k had none = let h : IsSome {T = Y} None = subst IsSome (get-shown m k ∙ ap (option_map f) none) had in cc

  pub has_none : (m : BTreeMap ℕ X) (k : ℕ) → map.get (shown m.entries) k ≡ None → tree.get nat_cmp m k ≡ None
  has_none m k e = from_none (tree.get nat_cmp m k) (sym (get-shown m k) ∙ e)
    where
      from_none : (o : Option X) → option_map f o ≡ None → o ≡ None
      from_none None h = refl
      from_none (Some x) h = let g = h in (cc)

-- a key that is new adds an entry
pub one_entry : {X : Type 0} (before after : ℕ) (o : Option X) → o ≡ None → after ≡ before + cond (is_some o) 0 1 → after ≡ before + 1
one_entry before after None none e = e
one_entry before after (Some x) none e = absurd (let h = none in (cc))

-- what a map has at a key that was written or removed, and at another
module _ {Y : Type 0} (m : map.FinMap nat_cmp Y) (k : ℕ) where
  tied : (q : ℕ) → q ≡ k → eq_by_cmp nat_cmp q k ≡ true
  tied q e = unsigned_tied q k ∙ eq-eqb q k e

  apart : (q : ℕ) → q ≢ k → eq_by_cmp nat_cmp q k ≡ false
  apart q ne = unsigned_tied q k ∙ ne_eqb q k ne

  pub inserted_here : (v : Y) → map.get (map.insert m k v) k ≡ Some v
  inserted_here v = map.get-insert nat_cmp_total m k v k ∙ ap (λ b. cond b (Some v) (map.get m k)) (tied k refl)

  pub inserted_apart : (v : Y) (q : ℕ) → q ≢ k → map.get (map.insert m k v) q ≡ map.get m q
  inserted_apart v q ne = map.get-insert nat_cmp_total m k v q ∙ ap (λ b. cond b (Some v) (map.get m q)) (apart q ne)

  pub removed_here : map.get (map.remove m k) k ≡ None
  removed_here = map.get-remove nat_cmp_total m k k ∙ ap (λ b. cond b None (map.get m k)) (tied k refl)

  pub removed_apart : (q : ℕ) → q ≢ k → map.get (map.remove m k) q ≡ map.get m q
  removed_apart q ne = map.get-remove nat_cmp_total m k q ∙ ap (λ b. cond b None (map.get m q)) (apart q ne)
