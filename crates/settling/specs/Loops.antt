-- The loops that a settle finds.
use Rattle.std.specs.Prelude.{◌≡◌, Bool, false, List, [], ◌∷◌}
use Rattle.std.specs.List.{list_any}
use Rattle.settling.specs.Runs.{Run}
use Rattle.settling.specs.Spaces.{Space}
use Rattle.settling.specs.Holding.{IsChain}
use Rattle.settling.specs.declared.found.LoopFound.{LoopFound}

-- a loop as its place and its chain
abbrev pub shown : {P : Type 0} → LoopFound P → P × List P
shown found = (found.place, found.chain.items)

module _ {S P V F : Type 0} (space : Space S P V F) where
  -- whether a loop was found at the place
  abbrev pub has_loop : List (P × List P) → P → Bool
  has_loop loops p = list_any (λ found. space.are_same found.0 p) loops

  -- no loop was found twice
  abbrev pub AreOnce : List (P × List P) → Type 0
  AreOnce [] = Unit {0}
  AreOnce (found ∷ loops) = (has_loop loops found.0 ≡ false) × AreOnce loops

module _ {S P V F : Type 0} (space : Space S P V F) (tree : P → Run P V F) where
  -- the chain of each loop is one over the state
  abbrev pub AreChains : S → List (P × List P) → Type 0
  AreChains s [] = Unit {0}
  AreChains s (found ∷ loops) = IsChain space tree s found.0 found.1 × AreChains s loops
