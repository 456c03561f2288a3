-- Cells and lists under all numbers below a count.
use Rattle.std.specs.Prelude.{◌≡◌, ◌≢◌, ℕ, true, length, Some, None, slice_get, replicate}
use Rattle.links.specs.Chains.{Chains, cells_in}

-- each number below the count has a cell and a list, and no other has
pub record IsFull (links : Chains) (count : ℕ) : Type 0 where
  pub cells : links.cells ≡ replicate count true
  pub lists : length links.lists ≡ count
  pub no_gap : (list : ℕ) → slice_get links.lists list ≢ Some None

-- each list has the cells that it had, where a list that wasn't there had none
abbrev pub SameLists : Chains → Chains → Type 0
SameLists old new = (list : ℕ) → cells_in new.lists list ≡ cells_in old.lists list

-- the same numbers have cells and lists
abbrev pub KeepsNumbers : Chains → Chains → Type 0
KeepsNumbers old new = (count : ℕ) → IsFull old count → IsFull new count
