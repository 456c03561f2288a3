-- The slots of a type in the order of their paths.
use Rattle.std.specs.Prelude.{ℕ, zero, suc, Bool, true, ◌&&◌, nat_eq, nat_lt, List, [], ◌∷◌, length, slice_index_or}
use Rattle.std.specs.List.{list_all, list_any}
use Rattle.std.specs.Ordering.{nat_cmp, is_lt}
use Rattle.std.specs.Cmp.Lexicographic.{slice_cmp}

-- the path of this number, or the empty one
abbrev pub path_at : List (List ℕ) → ℕ → List ℕ
path_at paths i = slice_index_or paths i []

-- the paths of these numbers rise, letter by letter, each of them after this first one
abbrev pub rises : List (List ℕ) → List ℕ → List ℕ → Bool
rises paths first [] = true
rises paths first (i ∷ rest) = is_lt (slice_cmp nat_cmp first (path_at paths i)) && rises paths (path_at paths i) rest

-- each number below n is among these
abbrev pub has_below : ℕ → List ℕ → Bool
has_below zero order = true
has_below (suc n) order = list_any (nat_eq n) order && has_below n order

-- these are the numbers of the paths, by rising paths
abbrev pub is_order : List (List ℕ) → List ℕ → Bool
is_order paths order =
    rises paths [] order && (list_all (λ i. nat_lt i (length paths)) order && has_below (length paths) order)
