-- Items that are put, and serials that are marked.
use Rattle.std.proofs.Common.{◌≡◌, ◌≢◌, ⊎_elim, ℕ, zero, suc, Bool, true, false, cond, eqb, List, [], ◌∷◌, ◌++◌, Some, IsSome, is_some, refl, ap, sym, ◌∙◌, subst, eq-eqb}
use Rattle.std.specs.List.{slice_get, list_any}
use Rattle.std.specs.Cmp.{nat_cmp_total, unsigned_tied}
use Rattle.std.specs.FinMap as map
use Rattle.std.proofs.lemmas.Option.{none-some}
use Rattle.std.proofs.lemmas.Bool.{cases_eq, ne_eqb, or_cases, eqb-true, false≢true}
use Rattle.scene.specs.declared.paint.Paint.{Paint}
use Rattle.scene.specs.Dirty.{marked}
use Rattle.scene.specs.Picture.{Items, with_paint, keys_or_none}
use Rattle.sg_sync.specs.Own.{IsIn}

-- one item is put
pub put_same : (items : Items) (s : ℕ) (paint : Paint) (t : ℕ) → t ≡ s → map.get (with_paint s paint items) t ≡ Some (record { paint = paint; keys = keys_or_none (map.get items s) })
put_same items s paint t e =
    map.get-insert nat_cmp_total items s (record { paint = paint; keys = keys_or_none (map.get items s) }) t
    ∙ ap (λ b. cond b (Some (record { paint = paint; keys = keys_or_none (map.get items s) })) (map.get items t)) (unsigned_tied t s ∙ eq-eqb t s e)

pub put_other : (items : Items) (s : ℕ) (paint : Paint) (t : ℕ) → t ≢ s → map.get (with_paint s paint items) t ≡ map.get items t
put_other items s paint t ne =
    map.get-insert nat_cmp_total items s (record { paint = paint; keys = keys_or_none (map.get items s) }) t
    ∙ ap (λ b. cond b (Some (record { paint = paint; keys = keys_or_none (map.get items s) })) (map.get items t)) (unsigned_tied t s ∙ ne_eqb t s ne)

-- one serial is marked
any_in : (xs : List ℕ) (s : ℕ) → list_any (λ x. eqb x s) xs ≡ true → IsIn xs s
any_in [] s e = absurd (false≢true e)
any_in (x ∷ xs) s e =
    ⊎_elim (λ (here : eqb x s ≡ true). (zero, ap Some (eqb-true x s here)))
    (λ (later : list_any (λ y. eqb y s) xs ≡ true). let rest = any_in xs s later in (suc rest.0, rest.1))
    (or_cases (eqb x s) (list_any (λ y. eqb y s) xs) e)

at_front : (xs ys : List ℕ) (s place : ℕ) → slice_get xs place ≡ Some s → IsIn (xs ++ ys) s
at_front [] ys s place e = absurd (none-some s e)
at_front (x ∷ xs) ys s zero e = (zero, e)
at_front (x ∷ xs) ys s (suc place) e = let rest = at_front xs ys s place e in (suc rest.0, rest.1)

pub in_front : (xs ys : List ℕ) (s : ℕ) → IsIn xs s → IsIn (xs ++ ys) s
in_front xs ys s is = at_front xs ys s is.0 is.1

in_back : (xs : List ℕ) (s : ℕ) → IsIn (xs ++ s ∷ []) s
in_back [] s = (zero, refl)
in_back (x ∷ xs) s = let rest = in_back xs s in (suc rest.0, rest.1)

marked_by : (b : Bool) (xs : List ℕ) (s : ℕ) → list_any (λ x. eqb x s) xs ≡ b → IsIn (cond b xs (xs ++ s ∷ [])) s
marked_by true xs s e = any_in xs s e
marked_by false xs s e = in_back xs s

pub is_marked : (s : ℕ) (xs : List ℕ) → IsIn (marked s xs) s
is_marked s xs = marked_by (list_any (λ x. eqb x s) xs) xs s refl

still_by : (b : Bool) (xs : List ℕ) (s t : ℕ) → IsIn xs t → IsIn (cond b xs (xs ++ s ∷ [])) t
still_by true xs s t is = is
still_by false xs s t is = in_front xs (s ∷ []) t is

pub still_marked : (s t : ℕ) (xs : List ℕ) → IsIn xs t → IsIn (marked s xs) t
still_marked s t xs is = still_by (list_any (λ x. eqb x s) xs) xs s t is

pub put_stays : (items : Items) (s : ℕ) (paint : Paint) (t : ℕ) → IsSome (map.get items t) → IsSome (map.get (with_paint s paint items) t)
put_stays items s paint t is =
    ⊎_elim (λ (e : t ≡ s). ap is_some (put_same items s paint t e)) (λ (ne : t ≢ s). subst IsSome (sym (put_other items s paint t ne)) is) (cases_eq t s)
