-- Steps of the loop over dirty items.
use Rattle.std.proofs.Common.{◌≡◌, ◌≢◌, ℕ, ◌+◌, ◌<◌, List, [], ◌∷◌, ◌++◌, take, drop, length, get_or, Option, Some, refl, ap, sym, ◌∙◌, subst, arith}
use Rattle.std.specs.FinMap as map
use Rattle.std.proofs.lemmas.List.{take_more, drop_more, take-append-drop}
use Rattle.links.proofs.Lists.{skips}
use Rattle.scene.specs.Dirty.{without}
use Rattle.scene.specs.Picture.{Item, Items, Picture}
use Rattle.sg_sync.specs.declared.synced.Synced.{Synced}
use Rattle.sg_sync.specs.Own.{IsIn}
use Rattle.sg_sync.specs.Linking.{Distinct}
use Rattle.sg_sync.specs.Counting.{total}
use Rattle.sg_sync.proofs.Members.{in_left, in_right, without_absent, distinct_right, distinct_apart}

total_push : (count : Option Item → ℕ) (items : Items) (xs : List ℕ) (serial : ℕ) → total count items (xs ++ serial ∷ []) ≡ total count items xs + count (map.get items serial)
total_push count items [] serial = omega arith
total_push count items (x ∷ xs) serial = let rest = total_push count items xs serial in omega arith

-- the one at a place is neither among those before nor among those after it
module _ (serials : List ℕ) (i : ℕ) (lt : i < length serials) where
  pub at_place : IsIn serials (get_or serials i 0)
  at_place =
      subst (λ xs. IsIn xs (get_or serials i 0)) (take-append-drop i serials)
      (in_right (take i serials) (drop i serials) (get_or serials i 0) (subst (λ xs. IsIn xs (get_or serials i 0)) (sym (drop_more serials i 0 lt)) (0, refl)))

  split : take i serials ++ (get_or serials i 0 ∷ drop (i + 1) serials) ≡ serials
  split = ap (λ xs. take i serials ++ xs) (sym (drop_more serials i 0 lt)) ∙ take-append-drop i serials

  pub not_after : Distinct serials → ¬ IsIn (drop (i + 1) serials) (get_or serials i 0)
  not_after d = (distinct_right (take i serials) (get_or serials i 0 ∷ drop (i + 1) serials) (subst Distinct (sym split) d)).0

  pub not_before : Distinct serials → ¬ IsIn (take i serials) (get_or serials i 0)
  not_before d is = distinct_apart (take i serials) (get_or serials i 0 ∷ drop (i + 1) serials) (get_or serials i 0) (subst Distinct (sym split) d) is (0, refl)

  pub dirty_rest : Distinct serials → without (get_or serials i 0) (drop i serials) ≡ drop (i + 1) serials
  dirty_rest d =
      ap (without (get_or serials i 0)) (drop_more serials i 0 lt)
      ∙ (skips (get_or serials i 0) (get_or serials i 0) (drop (i + 1) serials) refl ∙ without_absent (drop (i + 1) serials) (get_or serials i 0) (not_after d))

  pub still_not : (serial : ℕ) → ¬ IsIn (take (i + 1) serials) serial → (serial ≢ get_or serials i 0) × (¬ IsIn (take i serials) serial)
  still_not serial absent = (
    λ same. absent (subst (λ xs. IsIn xs serial) (sym (take_more serials i 0 lt)) (in_right (take i serials) (get_or serials i 0 ∷ []) serial (0, ap Some (sym same)))),
    λ is. absent (subst (λ xs. IsIn xs serial) (sym (take_more serials i 0 lt)) (in_left (take i serials) (get_or serials i 0 ∷ []) serial is)),
  )

  pub total_more : (count : Option Item → ℕ) (items : Items) → total count items (take i serials) + count (map.get items (get_or serials i 0)) ≡ total count items (take (i + 1) serials)
  total_more count items = sym (ap (total count items) (take_more serials i 0 lt) ∙ total_push count items (take i serials) (get_or serials i 0))

pub scene_step : (first now next : Picture) (items : Items) (serial : ℕ) (dirty rest : List ℕ) → now ≡ record first { items = now.items; dirty = dirty }
    → next ≡ record now { items = items; dirty = without serial now.dirty } → without serial dirty ≡ rest → next ≡ record first { items = next.items; dirty = rest }
scene_step first now next items serial dirty rest before after gone =
    after
    ∙ (ap (λ (p : Picture). record p { items = items; dirty = without serial p.dirty }) before
    ∙ (ap (λ xs. record first { items = items; dirty = xs }) gone ∙ ap (λ (m : Items). record first { items = m; dirty = rest }) (sym (ap (λ (p : Picture). p.items) after))))

pub count_step : (first now next : Synced) (a b x y c d : ℕ) → now ≡ record first { made = first.made + a; released = first.released + b }
    → next ≡ record now { made = now.made + x; released = now.released + y } → a + x ≡ c → b + y ≡ d → next ≡ record first { made = first.made + c; released = first.released + d }
count_step first now next a b x y c d before after made freed =
    let one : (first.made + a) + x ≡ first.made + c = omega arith in
    let two : (first.released + b) + y ≡ first.released + d = omega arith in
    after
    ∙ (ap (λ (k : Synced). record k { made = k.made + x; released = k.released + y }) before
    ∙ (ap (λ n. record first { made = n; released = (first.released + b) + y }) one ∙ ap (λ n. record first { made = first.made + c; released = n }) two))
