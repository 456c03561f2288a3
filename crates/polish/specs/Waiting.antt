-- The positioners that a round has yet to lay out.
use Rattle.std.specs.Prelude.{◌≡◌, ℕ, true, List, [], ◌∷◌, Some, replicate}
use Rattle.links.specs.Chains.{Chains, cells_in}

-- how many positioners there are, and the numbers of those that wait, in order
pub record Positioners : Type 0 where
  pub count : ℕ
  pub left : List ℕ

-- there is one list, and a cell for each positioner
pub record IsWaiting (links : Chains) (list count : ℕ) : Type 0 where
  pub first_list : list ≡ 0
  pub only_list : links.lists ≡ Some (cells_in links.lists list) ∷ []
  pub cells : links.cells ≡ replicate count true
