-- States with places.
use Rattle.std.specs.Prelude.{◌≡◌, Bool, true, false, List}
use Rattle.std.specs.List.{list_any}
use Rattle.settling.specs.Cells.{Cell, value_of, is_plain}

-- A state has a cell at each place, and another cell can be put at a place that has an expression.
pub record Space (S P V F : Type 0) : Type 0 where
  pub at : S → P → Cell V F
  pub put : S → P → Cell V F → S
  pub are_same : P → P → Bool
  pub one_place : (p q : P) → are_same p q ≡ true → p ≡ q
  pub itself : (p : P) → are_same p p ≡ true
  pub there : (s : S) (p : P) (c : Cell V F) → is_plain (at s p) ≡ false → is_plain c ≡ false → at (put s p c) p ≡ c
  pub elsewhere : (s : S) (p : P) (c : Cell V F) (q : P) → are_same p q ≡ false → at (put s p c) q ≡ at s q

module _ {S P V F : Type 0} (space : Space S P V F) where
  -- the values that the places have
  abbrev pub values : S → P → V
  values s p = value_of (space.at s p)

  -- whether the place is one of these
  abbrev pub is_among : List P → P → Bool
  is_among places p = list_any (λ x. space.are_same x p) places
