-- What is so of every settle.
use Rattle.std.specs.Prelude.{◌≡◌, true, false}
use Rattle.settling.specs.Runs.{Run}
use Rattle.settling.specs.Cells.{value_of, mark_of, is_fresh, is_ended, is_active, is_valued}
use Rattle.settling.specs.Spaces.{Space}
use Rattle.settling.specs.Holding.{Holds}

module _ {S P V F : Type 0} (space : Space S P V F) (tree : P → Run P V F) where
  -- What one place has once a settle from s has come to t. It was visited, and if it had waited for that its equation holds over t.
  -- If it had ended before, it is as it was. Only where it has the value of its expression may its value be another one, and
  -- its mark only where its expression was evaluated to the end.
  pub record IsSettled (s t : S) (p : P) : Type 0 where
    pub ended : is_ended (space.at t p) ≡ true
    pub holds : is_fresh (space.at s p) ≡ true → Holds space tree t p
    pub as_before : is_fresh (space.at s p) ≡ false → space.at t p ≡ space.at s p
    pub last_value : is_valued (space.at t p) ≡ false → value_of (space.at t p) ≡ value_of (space.at s p)
    pub last_mark : is_active (space.at t p) ≡ false → mark_of (space.at t p) ≡ mark_of (space.at s p)
