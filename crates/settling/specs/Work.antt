-- How many evaluations a settle may take.
use Rattle.std.specs.Prelude.{ℕ, suc, ◌+◌, ◌-◌, ◌≤◌, if◌then◌else◌, List, [], ◌∷◌, length, Option, Some, None}
use Rattle.settling.specs.Runs.{Run, reads}
use Rattle.settling.specs.Cells.{Cell, stopped, clean, is_fresh, is_ended}
use Rattle.settling.specs.Spaces.{Space, values, is_among}
use Rattle.settling.specs.Holding.{Later}

-- the sum over the places
abbrev pub total : {P : Type 0} → (P → ℕ) → List P → ℕ
total w [] = 0
total w (p ∷ ps) = w p + total w ps

-- one where there is no value
abbrev pub missing : {V : Type 0} → Option V → ℕ
missing None = 1
missing (Some v) = 0

module _ {S P V F : Type 0} (space : Space S P V F) where
  -- the places without repeats
  abbrev pub each_once : List P → List P
  each_once [] = []
  each_once (p ∷ ps) = if is_among space ps p then each_once ps else p ∷ each_once ps

module _ {S P V F : Type 0} (space : Space S P V F) (tree : P → Run P V F) where
  -- the places that the expression of a place reads
  abbrev pub reads_of : S → P → List P
  reads_of t p = each_once space (reads (tree p) (values space t))

  -- for each of the places that wasn't visited in s, one and the number of its reads over t
  abbrev pub work : List P → S → S → ℕ
  work places s t = total (λ p. if is_fresh (space.at s p) then 1 + length (reads_of t p) else 0) places

  -- What follows is cited by no public clause: how many of the reads of a place over u have no value in s.
  abbrev pub pending : S → S → P → ℕ
  pending s u p = total (λ q. missing (clean (space.at s q))) (reads_of u p)

  -- how many evaluations the place may still take, and all places
  abbrev pub owed : S → S → P → ℕ
  owed s u p = if is_ended (space.at s p) then 0 else 1 + pending s u p

  abbrev pub owing : List P → S → S → ℕ
  owing places s u = total (owed s u) places

  -- So many evaluations were paid for by what the places owed at the start. All on the stack but one have been evaluated once more.
  abbrev pub IsPaid : List P → ℕ → S → ℕ → List P → S → Type 0
  IsPaid places first start count stack s = (u : S) → Later space s u
      → count + owing places s u ≤ first + owing places start u + (length stack - 1)

-- control is at a place with this cell: it is evaluated, once, unless it is stopped
abbrev pub MaySpend : {V F : Type 0} → Cell V F → ℕ → ℕ → Type 0
MaySpend (stopped k) m n = n ≤ m
MaySpend c m n = n ≤ suc m
