-- The first of places that are noted one behind another.
use Rattle.std.proofs.lemmas.List.Sums.{fold-append}
use Rattle.std.proofs.lemmas.List.{at_drop_more, at_drop_all}
use Rattle.std.proofs.Common.{◌≡◌, ◌∙◌, ℕ, ◌+◌, ◌≤◌, ◌<◌, length, get_or, drop, flat_map, fold, Option, Some, None, List, ◌∷◌, ◌++◌, sym, ap}
use Rattle.qml_ast.specs.declared.span.Span.{Span}
use Rattle.qml_types.specs.declared.component.ComponentType.{ComponentType}
use Rattle.unit_check.specs.declared.unrun.Unrun.{Unrun}
use Rattle.unit_check.specs.Unrun.{earlier, first_place, first_behind, place_or}

-- what one more gives is noted
pub noted_more : {X : Type 0} (places : X → List Span) (xs : List X) (i : ℕ) (x : X) (first found all : Option Span) → i < length xs →
    x ≡ get_or xs i x → found ≡ fold earlier first (places x) → fold earlier first (flat_map places (drop i xs)) ≡ all →
    fold earlier found (flat_map places (drop (i + 1) xs)) ≡ all
noted_more places xs i x first found all within stands is before =
    let rest = flat_map places (drop (i + 1) xs) in
    ap (λ f. fold earlier f rest) is
    ∙ (sym (fold-append earlier first (places x) rest)
    ∙ (ap (λ y. fold earlier first (places y ++ rest)) stands
    ∙ (sym (at_drop_more (λ ys. fold earlier first (flat_map places ys)) xs i x within) ∙ before)))

-- all is noted
pub noted_all : {X : Type 0} (places : X → List Span) (xs : List X) (i : ℕ) (first all : Option Span) → length xs ≤ i →
    fold earlier first (flat_map places (drop i xs)) ≡ all → first ≡ all
noted_all places xs i first all past before = sym (at_drop_all (λ ys. fold earlier first (flat_map places ys)) xs i past) ∙ before

-- the first of the documents that are left has such a place
pub place_found : (components : List ComponentType) (i : ℕ) (component : ComponentType) (at : Span) (all : Option Unrun) → i < length components →
    component ≡ get_or components i component → Some at ≡ first_place component → first_behind i (drop i components) ≡ all →
    Some (record { document = i; at = at }) ≡ all
place_found components i component at all within stands is before =
    first ∙ (ap (λ c. first_behind i (c ∷ drop (i + 1) components)) stands ∙ (sym (at_drop_more (first_behind i) components i component within) ∙ before))
  where
    first : Some (record { document = i; at = at }) ≡ first_behind i (component ∷ drop (i + 1) components)
    first = ap (λ place. place_or i place (first_behind (i + 1) (drop (i + 1) components))) is

-- the first of the documents that are left has none
pub place_behind : (components : List ComponentType) (i : ℕ) (component : ComponentType) (all : Option Unrun) → i < length components →
    component ≡ get_or components i component → None ≡ first_place component → first_behind i (drop i components) ≡ all →
    first_behind (i + 1) (drop (i + 1) components) ≡ all
place_behind components i component all within stands is before =
    first ∙ (ap (λ c. first_behind i (c ∷ drop (i + 1) components)) stands ∙ (sym (at_drop_more (first_behind i) components i component within) ∙ before))
  where
    first : first_behind (i + 1) (drop (i + 1) components) ≡ first_behind i (component ∷ drop (i + 1) components)
    first = ap (λ place. place_or i place (first_behind (i + 1) (drop (i + 1) components))) is

-- no document is left
pub no_place : (components : List ComponentType) (i : ℕ) (all : Option Unrun) → length components ≤ i → first_behind i (drop i components) ≡ all → None ≡ all
no_place components i all past before = sym (at_drop_all (first_behind i) components i past) ∙ before
