-- The stack of evaluations that are under way, bottom first, and the loops that were found. No public clause cites this module.
use Rattle.std.specs.Prelude.{◌≡◌, ◌||◌, true, false, List, [], ◌∷◌}
use Rattle.settling.specs.Runs.{Run}
use Rattle.settling.specs.Cells.{is_fresh, is_open, is_halted}
use Rattle.settling.specs.Spaces.{Space, is_among}
use Rattle.settling.specs.Settling.{Visits}
use Rattle.settling.specs.Loops.{has_loop, AreOnce, AreChains}
use Rattle.settling.specs.Holding.{Reads, Later}

module _ {S P V F : Type 0} (space : Space S P V F) where
  -- no place stands twice
  abbrev pub AreApart : List P → Type 0
  AreApart [] = Unit {0}
  AreApart (p ∷ ps) = (is_among space ps p ≡ false) × AreApart ps

  -- an evaluation is under way only at one of these places, and only these weren't visited
  abbrev pub IsWithin : List P → S → Type 0
  IsWithin places s = (q : P) → (is_fresh (space.at s q) || is_open (space.at s q)) ≡ true → is_among space places q ≡ true

module _ {S P V F : Type 0} (space : Space S P V F) (tree : P → Run P V F) where
  -- the expression of each place reads the next place
  abbrev pub AreLinked : S → List P → Type 0
  AreLinked s [] = Unit {0}
  AreLinked s (p ∷ []) = Unit {0}
  AreLinked s (p ∷ q ∷ qs) = Reads space tree s p q × AreLinked s (q ∷ qs)

  -- The stack has the places whose evaluations are under way, each of which reads the next one, now and later. The loops are those of the
  -- places that were read while their evaluations were under way, with their chains, now and later.
  pub record Stands (stack : List P) (s : S) (loops : List (P × List P)) : Type 0 where
    pub opens : (x : P) → is_open (space.at s x) ≡ is_among space stack x
    pub apart : AreApart space stack
    pub linked : (u : S) → Later space s u → AreLinked u stack
    pub chains : (u : S) → Later space s u → AreChains space tree u loops
    pub halted : (x : P) → is_halted (space.at s x) ≡ has_loop space loops x
    pub once : AreOnce space loops

  -- a visit to the place leads from s to t
  abbrev pub IsVisited : S → P → S → Type 0
  IsVisited s p t = (v : V) × Visits space tree s p v t
