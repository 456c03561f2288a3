-- A list of dirty items that grows.
use Rattle.std.proofs.Common.{◌≡◌, ⊎_elim, ℕ, ◌<◌, ◌≤◌, List, [], ◌∷◌, ◌++◌, take, length, get_or, Option, Some, None, IsSome, ap, sym, ◌∙◌, subst, arith}
use Rattle.std.specs.Prelude.{IfSome}
use Rattle.std.specs.List.{slice_get}
use Rattle.std.specs.FinMap as map
use Rattle.std.proofs.lemmas.Option.{none-some, slice_get_within, get_or_from_slice_get, slice_get-get_or}
use Rattle.std.proofs.lemmas.List.{length_push, take_more, take_all}
use Rattle.std.proofs.lemmas.Bool.{cases_lt}
use Rattle.scene.specs.Picture.{Items}
use Rattle.sg_sync.specs.Own.{IsIn}
use Rattle.sg_sync.proofs.Members.{in_none, in_either, first_or_rest}

pub pushed : (xs dirty : List ℕ) (serial : ℕ) → xs ≡ take (length xs) dirty → slice_get dirty (length xs) ≡ Some serial → xs ++ serial ∷ [] ≡ take (length (xs ++ serial ∷ [])) dirty
pushed xs dirty serial so_far at =
    let lt = slice_get_within dirty (length xs) serial at in
    ap (λ ys. ys ++ serial ∷ []) so_far
    ∙ (ap (λ s. take (length xs) dirty ++ s ∷ []) (sym (get_or_from_slice_get dirty (length xs) serial 0 at))
    ∙ (sym (take_more dirty (length xs) 0 lt) ∙ ap (λ n. take n dirty) (sym (length_push xs serial))))

pub pushed_within : (xs dirty : List ℕ) (serial : ℕ) → slice_get dirty (length xs) ≡ Some serial → length (xs ++ serial ∷ []) ≤ length dirty
pushed_within xs dirty serial at = let lt = slice_get_within dirty (length xs) serial at in let more = length_push xs serial in omega arith

pub pushed_items : (items : Items) (xs : List ℕ) (serial : ℕ) → ((s : ℕ) → IsIn xs s → IsSome (map.get items s)) → IsSome (map.get items serial) → (s : ℕ) → IsIn (xs ++ serial ∷ []) s → IsSome (map.get items s)
pushed_items items xs serial were is s among =
    ⊎_elim (λ (old : IsIn xs s). were s old)
    (λ (last : IsIn (serial ∷ []) s).
    ⊎_elim (λ (e : serial ≡ s). subst (λ t. IsSome (map.get items t)) e is) (λ (none : IsIn [] s). absurd (in_none s none)) (first_or_rest serial [] s last))
    (in_either xs (serial ∷ []) s among)

pub all_there : (xs dirty : List ℕ) → xs ≡ take (length xs) dirty → slice_get dirty (length xs) ≡ None → xs ≡ dirty
all_there xs dirty so_far at =
    so_far
    ∙ take_all (length xs) dirty
    (⊎_elim (λ (lt : length xs < length dirty). absurd (none-some (get_or dirty (length xs) 0) (sym at ∙ slice_get-get_or dirty (length xs) 0 lt))) (λ (le : length dirty ≤ length xs). le) (cases_lt (length xs) (length dirty)))

pub item_at : (items : Items) (o : Option ℕ) → IfSome o (λ serial. IsSome (map.get items serial)) → (serial : ℕ) → o ≡ Some serial → IsSome (map.get items serial)
item_at items o is serial e = subst (λ p. IfSome p (λ s. IsSome (map.get items s))) e is

pub none_first : (xs dirty : List ℕ) → xs ≡ [] → xs ≡ take (length xs) dirty
none_first xs dirty e = e ∙ ap (λ ys. take (length ys) dirty) (sym e)
