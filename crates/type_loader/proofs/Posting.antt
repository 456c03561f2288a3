-- The steps of postorder.
use Rattle.std.proofs.Common.{◌≡◌, ◌≢◌, ℕ, zero, suc, ◌-◌, true, false, List, fold, Result, Ok, Err, OnOk, [], ◌∷◌, length, map, drop, ◌≤◌, subst, refl, sym, ap, ◌∙◌, arith}
use Rattle.type_loader.specs.Cycles.{mentioned_by}
use Rattle.type_loader.specs.Naming.{among, with_name}
use Rattle.type_loader.specs.Order.{post}
use Rattle.type_loader.specs.declared.source.Source.{Source}

pub post_none : (sources : List Source) (levels : ℕ) (done : List (List ℕ)) (name : List ℕ) → levels ≡ 0 → post sources levels done name ≡ done
post_none sources zero done name none = refl
post_none sources (suc levels) done name none = absurd (omega arith)

pub post_done : (sources : List Source) (levels : ℕ) (done : List (List ℕ)) (name : List ℕ) → among done name ≡ true → post sources levels done name ≡ done
post_done sources zero done name is = refl
post_done sources (suc levels) done name is = rw is refl

pub post_more : (sources : List Source) (levels : ℕ) (done : List (List ℕ)) (name : List ℕ) → levels ≢ 0 → among done name ≡ false
    → post sources levels done name ≡ with_name (fold (post sources (levels - 1)) done (mentioned_by sources name)) name
post_more sources zero done name some not = absurd (some refl)
post_more sources (suc levels) done name some not =
    let e : suc levels - 1 ≡ levels = omega arith in
    rw (not, e) refl

-- what follows on success
pub on_ok : {A E : Type 0} (result : Result A E) (P Q : Type 0) → (P → Q) → OnOk result P → OnOk result Q
on_ok (Ok x) P Q so p = so p
on_ok (Err e) P Q so p = tt

dropped : {A : Type 0} (xs : List A) (i : ℕ) → length xs ≤ i → drop i xs ≡ []
dropped [] zero past = refl
dropped [] (suc i) past = refl
dropped (x ∷ xs) zero past = absurd (omega arith)
dropped (x ∷ xs) (suc i) past = dropped xs i (omega arith)

-- what a loop over a list has done at its end
pub done_at_end : {A B D : Type 0} (f : D → B → D) (g : A → B) (done target : D) (items : List A) (i : ℕ) → length items ≤ i → fold f done (map g (drop i items)) ≡ target → done ≡ target
done_at_end f g done target items i past is = subst (λ xs. fold f done (map g xs) ≡ target) (dropped items i past) is
