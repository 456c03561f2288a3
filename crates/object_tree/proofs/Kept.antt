-- The places that are kept are those that were given.
use Rattle.std.proofs.Common.{◌≡◌, ℕ, Bool, true, false, List, [], ◌∷◌, refl, ap, sym, ◌∙◌, arith}
use Rattle.std.specs.Prelude.{◌==◌, ◌&&◌, ◌||◌, fold}
use Rattle.std.proofs.lemmas.Bool.Decides.{nat_tests}
use Rattle.std.proofs.lemmas.List.Folds.{list_any-append}
use Rattle.qml_ast.specs.declared.place.Place.{Place}
use Rattle.qml_ast.specs.declared.place.Side.{Side}
use Rattle.qml_ast.specs.declared.place.Side.TheVariants.{Set, Shown}
use Rattle.expr_eval.specs.Traces.{are_same, are_same_sides, noted}
use Rattle.object_tree.specs.Ignored.{is_among, KeptAreIgnored}
use Rattle.object_tree.specs.Store.{Store}

-- ---- places that are alike are one
number_same : (a b : ℕ) → (a == b) ≡ true → a ≡ b
number_same a b h = grind (arith, nat_tests)

side_same : (a b : Side) → are_same_sides a b ≡ true → a ≡ b
side_same Set Set h = refl
side_same Shown Shown h = refl
side_same Set Shown h = absurd cc
side_same Shown Set h = absurd cc

both_true : (a b : Bool) → (a && b) ≡ true → (a ≡ true) × (b ≡ true)
both_true true true h = (refl, refl)
both_true true false h = absurd cc
both_true false b h = absurd cc

place_same : (p q : Place) → are_same p q ≡ true → p ≡ q
place_same p q h =
    let first = both_true (p.serial == q.serial) ((p.slot == q.slot) && are_same_sides p.side q.side) h in
    let second = both_true (p.slot == q.slot) (are_same_sides p.side q.side) first.1 in
    same_fields p q (number_same p.serial q.serial first.0) (number_same p.slot q.slot second.0) (side_same p.side q.side second.1)
  where
    same_fields : (p q : Place) → p.serial ≡ q.serial → p.slot ≡ q.slot → p.side ≡ q.side → p ≡ q
    same_fields p q a b c = λ i. record { serial = a i; slot = b i; side = c i }

-- ---- lists
or_false : (a : Bool) → (a || false) ≡ a
or_false true = refl
or_false false = refl

or_last : (a b c : Bool) → (a || (b || c)) ≡ ((a || b) || c)
or_last true b c = refl
or_last false b c = refl

-- where the place that is noted stands there already
noted_again : (p q : Place) (xs : List Place) → is_among q xs ≡ true → (b : Bool) → are_same p q ≡ b → is_among p xs ≡ (is_among p xs || b)
noted_again p q xs there true is = ap (λ r. is_among r xs) (place_same p q is) ∙ (there ∙ sym (ap (λ c. c || true) (ap (λ r. is_among r xs) (place_same p q is) ∙ there)))
noted_again p q xs there false is = sym (or_false (is_among p xs))

among_noted : (p q : Place) (xs : List Place) → is_among p (noted xs q) ≡ (is_among p xs || are_same p q)
among_noted p q xs = by (is_among q xs) refl
  where
    by : (b : Bool) → is_among q xs ≡ b → is_among p (noted xs q) ≡ (is_among p xs || are_same p q)
    by true there = rw there (noted_again p q xs there (are_same p q) refl)
    by false there = rw there (list_any-append (are_same p) xs (q ∷ []) ∙ ap (λ b. is_among p xs || b) (or_false (are_same p q)))

among_all : (p : Place) (places xs : List Place) → is_among p (fold noted xs places) ≡ (is_among p xs || is_among p places)
among_all p [] xs = sym (or_false (is_among p xs))
among_all p (q ∷ places) xs =
    among_all p places (noted xs q)
    ∙ (ap (λ b. b || is_among p places) (among_noted p q xs) ∙ sym (or_last (is_among p xs) (are_same p q) (is_among p places)))

pub kept_are_ignored : (place : Place) (places : List Place) (store : Store) → KeptAreIgnored place places store
kept_are_ignored place places store = among_all place places []
