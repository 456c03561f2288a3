-- The first mark of a table from long to short is the longest.
use Rattle.std.proofs.Common.{◌≡◌, ℕ, ◌≤◌, Bool, true, false, ◌&&◌, cond, List, [], ◌∷◌, length, Some, refl, ap, subst, arith, leb-true}
use Rattle.std.specs.Prelude.{nat_eq, nat_le, IsTrue, find}
use Rattle.std.specs.List.{starts_with, list_all, AllByRecursion}
use Rattle.qml_lex.specs.Laws.{IsLongestMark}
use Rattle.qml_lex.specs.Marks.{marks, mark_of}

-- a table from long to short
abbrev descends : List (List ℕ) → Bool
descends [] = true
descends (mark ∷ more) = list_all (λ other. nat_le (length other) (length mark)) more && descends more

pub and_left : (a b : Bool) → (a && b) ≡ true → a ≡ true
and_left true b h = refl
and_left false b h = h

pub and_right : (a b : Bool) → (a && b) ≡ true → b ≡ true
and_right true b h = h
and_right false b h = cc

-- what is found passes
found_at : (p : List ℕ → Bool) (mark found : List ℕ) (more : List (List ℕ)) (b : Bool) → p mark ≡ b → cond b (Some mark) (find p more) ≡ Some found → (find p more ≡ Some found → p found ≡ true) → p found ≡ true
found_at p mark found more true passes h later = let same : mark ≡ found = cc in rw (← same) passes
found_at p mark found more false passes h later = later h

pub found_passes : (p : List ℕ → Bool) (table : List (List ℕ)) (found : List ℕ) → find p table ≡ Some found → p found ≡ true
found_passes p [] found h = cc
found_passes p (mark ∷ more) found h = found_at p mark found more (p mark) refl h (found_passes p more found)

-- those after a mark are no longer than it
no_longer : (p : List ℕ → Bool) (n : ℕ) (table : List (List ℕ)) → list_all (λ other. nat_le (length other) n) table ≡ true → AllByRecursion (λ other. IsTrue (p other) → length other ≤ n) table
no_longer p n [] h = tt
no_longer p n (mark ∷ more) h = (
  λ _. leb-true (length mark) n (and_left (nat_le (length mark) n) (list_all (λ other. nat_le (length other) n) more) h),
  no_longer p n more (and_right (nat_le (length mark) n) (list_all (λ other. nat_le (length other) n) more) h),
)

-- no longer one passes than what is found
longest_at : (p : List ℕ → Bool) (mark found : List ℕ) (more : List (List ℕ)) (b : Bool) → p mark ≡ b → cond b (Some mark) (find p more) ≡ Some found → list_all (λ other. nat_le (length other) (length mark)) more ≡ true → (find p more ≡ Some found → AllByRecursion (λ other. IsTrue (p other) → length other ≤ length found) more) → (IsTrue (p mark) → length mark ≤ length found) × AllByRecursion (λ other. IsTrue (p other) → length other ≤ length found) more
longest_at p mark found more true passes h shorter later =
    let same : mark ≡ found = cc in
    let P : List ℕ → Type 0 = λ m. AllByRecursion (λ other. IsTrue (p other) → length other ≤ length m) more in
    (λ _. omega (arith, ap length same), subst P same (no_longer p (length mark) more shorter))
longest_at p mark found more false passes h shorter later =
    (λ t. let no : ⊥ = cc in absurd no, later h)

found_is_longest : (p : List ℕ → Bool) (table : List (List ℕ)) (found : List ℕ) → descends table ≡ true → find p table ≡ Some found → AllByRecursion (λ other. IsTrue (p other) → length other ≤ length found) table
found_is_longest p [] found sorted h = tt
found_is_longest p (mark ∷ more) found sorted h =
    let shorter : list_all (λ other. nat_le (length other) (length mark)) more ≡ true = and_left (list_all (λ other. nat_le (length other) (length mark)) more) (descends more) sorted in
    let sorted_more : descends more ≡ true = and_right (list_all (λ other. nat_le (length other) (length mark)) more) (descends more) sorted in
    longest_at p mark found more (p mark) refl h shorter (found_is_longest p more found sorted_more)

pub the_longest_mark_is_taken : (text mark : List ℕ) → mark_of text ≡ Some mark → IsLongestMark text mark
unfolding mark_of
the_longest_mark_is_taken text mark h = record {
  begins = found_passes (λ other. starts_with nat_eq text other) marks mark h;
  longest = found_is_longest (λ other. starts_with nat_eq text other) marks mark refl h;
}
