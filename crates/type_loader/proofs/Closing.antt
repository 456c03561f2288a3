-- The documents of a whole list: what they mention is among them, and each is where its name is.
use Rattle.std.proofs.Common.{◌≡◌, ◌⊎◌, inl, inr, ℕ, zero, suc, ◌+◌, ◌<◌, ◌≤◌, Bool, true, false, nat_eq, ◌||◌, cond, List, [], ◌∷◌, length, map, fold, find, slice_get, Option, None, Some, refl, sym, ap, subst, ◌∙◌, true≢false, arith}
use Rattle.std.specs.Cmp.Lexicographic.{pointwise}
use Rattle.std.specs.Option.{option_map}
use Rattle.std.proofs.lemmas.Option.{slice_get_within, slice_get-map}
use Rattle.type_loader.specs.Cycles.{AreClosed, mentioned_by, names_in_some}
use Rattle.type_loader.specs.Naming.{among, with_name}
use Rattle.type_loader.specs.Sources.{AreAll, AreFirst, AreNext, IsNext, names_in, names_of, source_named, with_mentions}
use Rattle.type_loader.specs.declared.source.Source.{Source}
use Rattle.type_loader.proofs.NameLists.{IsFrontOf, among_all_added, among_front, among_standing, front_itself, front_of_front, front_with_names, stands_among, stands_in_front}

-- a list of names grows at its end
front_with_all : (names : List (List ℕ)) (sources : List Source) → IsFrontOf names (fold with_mentions names sources)
front_with_all names [] = front_itself names
front_with_all names (s ∷ sources) = front_of_front names (with_mentions names s) (fold with_mentions (with_mentions names s) sources) (front_with_names names (names_in s)) (front_with_all (with_mentions names s) sources)

-- each document stands at the place of its name
named_at : (names : List (List ℕ)) (place : ℕ) (sources : List Source) (k : ℕ) (source : Source) → AreNext names place sources → slice_get sources k ≡ Some source
    → slice_get (fold with_mentions names sources) (place + k) ≡ Some source.name
named_at names place [] k source each at = absurd cc
named_at names place (s ∷ sources) zero source each at =
    let e : place ≡ place + 0 = omega arith in
    let same : s ≡ source = cc in
    let front : IsFrontOf names (fold with_mentions (with_mentions names s) sources) = front_of_front names (with_mentions names s) (fold with_mentions (with_mentions names s) sources) (front_with_names names (names_in s)) (front_with_all (with_mentions names s) sources) in
    subst (λ p. slice_get (fold with_mentions (with_mentions names s) sources) p ≡ Some source.name) e
    (stands_in_front names (fold with_mentions (with_mentions names s) sources) place source.name front (each.0.named ∙ ap (λ t. Some t.name) same))
named_at names place (s ∷ sources) (suc k) source each at =
    let e : place + 1 + k ≡ place + suc k = omega arith in
    subst (λ p. slice_get (fold with_mentions (with_mentions names s) sources) p ≡ Some source.name) e
    (named_at (with_mentions names s) (place + 1) sources k source each.1 at)

-- what a document mentions is named
named_by : (names : List (List ℕ)) (sources : List Source) (from to : List ℕ) → among (mentioned_by sources from) to ≡ true → among (fold with_mentions names sources) to ≡ true
named_by names [] from to h = absurd (true≢false (sym h))
named_by names (s ∷ sources) from to h =
    elim (pointwise nat_eq from s.name) as (λ b. among (names_in_some (cond b (Some s) (source_named sources from))) to ≡ true → among (fold with_mentions (with_mentions names s) sources) to ≡ true) [
      | true ↦ λ k. among_front (with_mentions names s) (fold with_mentions (with_mentions names s) sources) to (front_with_all (with_mentions names s) sources) (among_all_added names (names_in s) to k)
      | false ↦ λ k. named_by (with_mentions names s) sources from to k
    ] h

-- a place in a list has something
something_at : {A : Type 0} (xs : List A) (i : ℕ) → i < length xs → (x : A) × (slice_get xs i ≡ Some x)
something_at [] i within = absurd (omega arith)
something_at (x ∷ xs) zero within = (x, refl)
something_at (x ∷ xs) (suc i) within = something_at xs i (omega arith)

-- a list that ends there has no more places
pub ended : {A : Type 0} (xs : List A) (n : ℕ) → slice_get xs n ≡ None → length xs ≤ n
ended [] n none = omega arith
ended (x ∷ xs) zero none = absurd cc
ended (x ∷ xs) (suc n) none = let rest : length xs ≤ n = ended xs n none in omega (arith, rest)

pub closed : (root : List ℕ) (sources : List Source) → AreAll root sources → AreClosed sources
closed root sources all = record { each = λ from to h. by to (stands_among (names_of root sources) to (named_by (root ∷ []) sources from to h)) }
  where
    at_place : (to : List ℕ) (i : ℕ) → slice_get (names_of root sources) i ≡ Some to → ((s : Source) × (slice_get sources i ≡ Some s)) → among (map (λ s. s.name) sources) to ≡ true
    at_place to i at here =
        let place : 0 + i ≡ i = omega arith in
        let named : slice_get (names_of root sources) i ≡ Some here.0.name = subst (λ p. slice_get (names_of root sources) p ≡ Some here.0.name) place (named_at (root ∷ []) 0 sources i here.0 all.first.each here.1) in
        let same : here.0.name ≡ to = cc in
        subst (λ n. among (map (λ s. s.name) sources) n ≡ true) same
        (among_standing (map (λ s. s.name) sources) i here.0.name (slice_get-map (λ s. s.name) sources i ∙ ap (option_map (λ (s : Source). s.name)) here.1))

    by : (to : List ℕ) → ((i : ℕ) × (slice_get (names_of root sources) i ≡ Some to)) → among (map (λ s. s.name) sources) to ≡ true
    by to at =
        let within : at.0 < length (names_of root sources) = slice_get_within (names_of root sources) at.0 to at.1 in
        let few : length (names_of root sources) ≤ length sources = ended (names_of root sources) (length sources) all.no_more in
        at_place to at.0 at.1 (something_at sources at.0 (omega (arith, within, few)))
