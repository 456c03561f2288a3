-- What std says of a `BTreeMap`, said of it as a finite map.
use Rattle.std.proofs.Common.{◌≡◌, ◌≢◌, ℕ, ◌+◌, cond, List, [], ◌∷◌, Option, None, Some, IsSome, is_some, nat_cmp, refl, ap, sym, subst, ◌∙◌, arith}
use Rattle.std.specs.Ordering.{eq_by_cmp}
use Rattle.std.specs.Cmp.{nat_cmp_total, eq_by_cmp_equiv}
use Rattle.std.specs.BTreeMap as tree
use Rattle.std.specs.BTreeMap.{BTreeMap}
use Rattle.std.specs.Map.{lookup}
use Rattle.std.specs.FinMap as map

module _ {X : Type 0} where
  find-lookup : (q : ℕ) (es : List (ℕ × X)) → map.find nat_cmp q es ≡ lookup (eq_by_cmp nat_cmp q) es
  find-lookup q [] = refl
  find-lookup q (e ∷ es) = ap (λ r. cond (eq_by_cmp nat_cmp q e.0) (Some e.1) r) (find-lookup q es)

  -- both maps have the same value at a key
  pub get-tree : (m : BTreeMap ℕ X) (q : ℕ) → map.get (map.from_entries {R = nat_cmp} m.entries) q ≡ tree.get nat_cmp m q
  get-tree m q = map.get-from_entries nat_cmp_total m.entries q ∙ find-lookup q m.entries

  -- a key gets a value
  pub tree-insert : (m n : BTreeMap ℕ X) (k : ℕ) (v : X) → tree.Updates nat_cmp m n k (Some v) → map.from_entries {R = nat_cmp} n.entries ≡ map.insert (map.from_entries m.entries) k v
  tree-insert m n k v u =
      map.same_map nat_cmp_total map.nat_cmp-IsAntisymmetric _ _ (λ q.
      get-tree n q ∙ u.0 q
      ∙ ap (λ b. cond b (Some v) (tree.get nat_cmp m q)) ((eq_by_cmp_equiv nat_cmp_total).symm k q)
      ∙ ap (λ o. cond (eq_by_cmp nat_cmp q k) (Some v) o) (sym (get-tree m q))
      ∙ sym (map.get-insert nat_cmp_total (map.from_entries m.entries) k v q))

  -- a key loses its value
  pub tree-remove : (m n : BTreeMap ℕ X) (k : ℕ) → tree.Updates nat_cmp m n k None → map.from_entries {R = nat_cmp} n.entries ≡ map.remove (map.from_entries m.entries) k
  tree-remove m n k u =
      map.same_map nat_cmp_total map.nat_cmp-IsAntisymmetric _ _ (λ q.
      get-tree n q ∙ u.0 q
      ∙ ap (λ b. cond b None (tree.get nat_cmp m q)) ((eq_by_cmp_equiv nat_cmp_total).symm k q)
      ∙ ap (λ o. cond (eq_by_cmp nat_cmp q k) None o) (sym (get-tree m q))
      ∙ sym (map.get-remove nat_cmp_total (map.from_entries m.entries) k q))

  -- a key that has a value
  pub tree-has : (m : BTreeMap ℕ X) (k : ℕ) → IsSome (map.get (map.from_entries {R = nat_cmp} m.entries) k) → tree.get nat_cmp m k ≢ None
  tree-has m k had none = let h : IsSome {T = X} None = subst IsSome (get-tree m k ∙ none) had in cc

  -- a value in place of another one adds no entry
  pub len-replaced : (before after : ℕ) (o : Option X) → o ≢ None → after ≡ before + cond (is_some o) 0 1 → after ≡ before
  len-replaced before after None had e = absurd (had refl)
  len-replaced before after (Some x) had e = omega arith
