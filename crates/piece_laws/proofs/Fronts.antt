-- The front of a list that passes a test.
use Rattle.std.proofs.Common.{◌≡◌, ℕ, zero, suc, ◌+◌, ◌<◌, Bool, true, false, ◌&&◌, List, [], ◌∷◌, ◌++◌, length, get_or, reverse, replicate, refl, ap, ◌∙◌, arith}
use Rattle.std.specs.List.{list_all, prefix_len}
use Rattle.std.proofs.lemmas.List.{reverse-append}
use Rattle.std.proofs.lemmas.List.Folds.{list_all-append}
use Rattle.qml_lex.proofs.LongestMark.{and_left, and_right}

pub and_both : (a b : Bool) → a ≡ true → b ≡ true → (a && b) ≡ true
and_both true b h g = g
and_both false b h g = cc

-- the front of what begins with an element that passes
one_more : (p : ℕ → Bool) (x : ℕ) (xs : List ℕ) (n : ℕ) → p x ≡ true → prefix_len p xs ≡ n → prefix_len p (x ∷ xs) ≡ 1 + n
one_more p x xs n passes is = rw (passes, is) refl

-- what passes belongs to the front with what goes on behind it
pub front_more : (p : ℕ → Bool) (s rest : List ℕ) (n : ℕ) → list_all p s ≡ true → prefix_len p rest ≡ n → prefix_len p (s ++ rest) ≡ length s + n
front_more p [] rest n all is = is ∙ omega arith
front_more p (x ∷ s) rest n all is =
    let here : p x ≡ true = and_left (p x) (list_all p s) all in
    let later : prefix_len p (s ++ rest) ≡ length s + n = front_more p s rest n (and_right (p x) (list_all p s) all) is in
    let len : 1 + (length s + n) ≡ length (x ∷ s) + n = omega arith in
    one_more p x (s ++ rest) (length s + n) here later ∙ len

-- before something that does not begin so it is the whole front
pub front_len : (p : ℕ → Bool) (s rest : List ℕ) → list_all p s ≡ true → prefix_len p rest ≡ 0 → prefix_len p (s ++ rest) ≡ length s
front_len p s rest all none = front_more p s rest 0 all none ∙ omega arith

-- nothing passes where the first byte does not, 0 standing for no byte
pub no_front : (p : ℕ → Bool) (rest : List ℕ) → p (get_or rest 0 0) ≡ false → prefix_len p rest ≡ 0
no_front p [] fails = refl
no_front p (x ∷ rest) fails = rw fails refl

-- what passes one test passes another one
pub all_others : (p q : ℕ → Bool) (s : List ℕ) → ((x : ℕ) → p x ≡ true → q x ≡ true) → list_all p s ≡ true → list_all q s ≡ true
all_others p q [] implies all = refl
all_others p q (x ∷ s) implies all =
    and_both (q x) (list_all q s) (implies x (and_left (p x) (list_all p s) all)) (all_others p q s implies (and_right (p x) (list_all p s) all))

-- the first byte of a text that has one
pub first_passes : (p : ℕ → Bool) (s : List ℕ) → 0 < length s → list_all p s ≡ true → p (get_or s 0 0) ≡ true
first_passes p [] some all = absurd (omega arith)
first_passes p (x ∷ s) some all = and_left (p x) (list_all p s) all

-- a test that each passes
pub all_same : (p : ℕ → Bool) (n x : ℕ) → p x ≡ true → list_all p (replicate n x) ≡ true
all_same p zero x passes = refl
all_same p (suc n) x passes = and_both (p x) (list_all p (replicate n x)) passes (all_same p n x passes)

pub all_append : (p : ℕ → Bool) (s t : List ℕ) → list_all p s ≡ true → list_all p t ≡ true → list_all p (s ++ t) ≡ true
all_append p s t here there = list_all-append p s t ∙ and_both (list_all p s) (list_all p t) here there

pub all_reversed : (p : ℕ → Bool) (s : List ℕ) → list_all p s ≡ true → list_all p (reverse s) ≡ true
all_reversed p [] all = refl
all_reversed p (x ∷ s) all =
    let e : reverse (x ∷ s) ≡ reverse s ++ x ∷ [] = reverse-append (x ∷ []) s in
    ap (list_all p) e ∙ all_append p (reverse s) (x ∷ []) (all_reversed p s (and_right (p x) (list_all p s) all)) (and_both (p x) true (and_left (p x) (list_all p s) all) refl)
