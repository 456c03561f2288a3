-- Texts one behind another, with another text between each two.
use Rattle.std.proofs.Common.{◌≡◌, ◌∙◌, ℕ, ◌-◌, ◌≤◌, length, take, drop, get_or, arith, List, [], ◌∷◌, ◌++◌, map, append-nil, refl, sym, ap}
use Rattle.std.specs.Prelude.{flat_map}
use Rattle.std.proofs.lemmas.List.{append_assoc, take_all}
use Rattle.qml_grammar.specs.CanonicalExpressions.{join}

-- the first, and each other one with the text before it
pub join_flat : {X : Type 0} (f : X → List ℕ) (between : List ℕ) (x : X) (xs : List X) →
    join between (map f (x ∷ xs)) ≡ f x ++ flat_map (λ y. between ++ f y) xs
join_flat f between x [] = sym (append-nil (f x))
join_flat f between x (y ∷ ys) =
    ap (λ rest. f x ++ (between ++ rest)) (join_flat f between y ys)
    ∙ ap (λ rest. f x ++ rest) (sym (append_assoc between (f y) (flat_map (λ z. between ++ f z) ys)))

-- a walk that puts the first one down, and then each other one behind the text between
pub joined_all : {X : Type 0} (f : X → List ℕ) (between : List ℕ) (xs : List X) (first : X) (n : ℕ) (start middle all : List ℕ) →
    first ≡ get_or xs 0 first → 1 ≤ length xs → length (take (length xs - 1) (drop 1 xs)) ≤ n → middle ≡ start ++ f first →
    all ≡ middle ++ flat_map (λ y. between ++ f y) (take n (take (length xs - 1) (drop 1 xs))) → all ≡ start ++ join between (map f xs)
joined_all f between [] first n start middle all is some past begun walked = absurd (omega (arith, some))
joined_all f between (x ∷ xs) first n start middle all is some past begun walked =
    let others : take (length (x ∷ xs) - 1) (drop 1 (x ∷ xs)) ≡ xs = take_all (length (x ∷ xs) - 1) xs (omega arith) in
    let left : take n (take (length (x ∷ xs) - 1) (drop 1 (x ∷ xs))) ≡ xs = take_all n (take (length (x ∷ xs) - 1) (drop 1 (x ∷ xs))) past ∙ others in
    walked
    ∙ ap (λ ys. middle ++ flat_map (λ y. between ++ f y) ys) left
    ∙ ap (λ text. text ++ flat_map (λ y. between ++ f y) xs) (begun ∙ ap (λ y. start ++ f y) is)
    ∙ append_assoc start (f x) (flat_map (λ y. between ++ f y) xs)
    ∙ ap (λ text. start ++ text) (sym (join_flat f between x xs))

pub map_twice : {X Y Z : Type 0} (f : Y → Z) (g : X → Y) (xs : List X) → map f (map g xs) ≡ map (λ x. f (g x)) xs
map_twice f g [] = refl
map_twice f g (x ∷ xs) = ap (λ ys. f (g x) ∷ ys) (map_twice f g xs)

-- the same of what is mapped twice
pub joined_twice : {X Y : Type 0} (f : Y → List ℕ) (g : X → Y) (between : List ℕ) (xs : List X) (first : X) (n : ℕ) (start middle all : List ℕ) →
    first ≡ get_or xs 0 first → 1 ≤ length xs → length (take (length xs - 1) (drop 1 xs)) ≤ n → middle ≡ start ++ f (g first) →
    all ≡ middle ++ flat_map (λ y. between ++ f (g y)) (take n (take (length xs - 1) (drop 1 xs))) → all ≡ start ++ join between (map f (map g xs))
joined_twice f g between xs first n start middle all is some past begun walked =
    joined_all (λ x. f (g x)) between xs first n start middle all is some past begun walked
    ∙ ap (λ texts. start ++ join between texts) (sym (map_twice f g xs))
