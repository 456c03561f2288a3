-- Settling: places are visited, and each visit evaluates what the place reads first.
use Rattle.std.specs.Prelude.{◌≡◌, ℕ, zero, suc, true, List, [], ◌∷◌, length, Some}
use Rattle.settling.specs.Runs.{Run, gives, faults, asks}
use Rattle.settling.specs.Cells.{Kept, Cell, fresh, under_way, stopped, active, marked, suspended, value_of, clean, is_fresh, is_ready}
use Rattle.settling.specs.Spaces.{Space, is_among}

-- As a relation. `Visits s p v t`: a visit to the place p gives v and leads from s to t. `Runs p r s t`: control is
-- at p, of whose evaluation r is left, and p's evaluation leads from s to t.
mutual
  -- A visit to a place that is done gives its value. One to a place whose evaluation is under way suspends it and gives its last value.
  -- Every other visit evaluates the place's expression.
  pub data Visits {S P V F : Type 0} (space : Space S P V F) (tree : P → Run P V F) : S → P → V → S → Type 0 where
    done : {s : S} {p : P} {v : V} {t : S} → clean (space.at s p) ≡ Some v → t ≡ s → Visits space tree s p v t
    again : {s : S} {p : P} {v : V} {t : S} (k : Kept V F) → space.at s p ≡ under_way k → v ≡ k.value → t ≡ space.put s p (stopped k)
        → Visits space tree s p v t
    first : {s : S} {p : P} {v : V} {t : S} (k : Kept V F) → space.at s p ≡ fresh k
        → Runs space tree p (tree p) (space.put s p (under_way k)) t → clean (space.at t p) ≡ Some v → Visits space tree s p v t

  -- Where the place was suspended in between, its evaluation stops and it keeps its last value. Else its evaluation ends,
  -- or visits the place that it reads next and goes on with that value.
  pub data Runs {S P V F : Type 0} (space : Space S P V F) (tree : P → Run P V F) : P → Run P V F → S → S → Type 0 where
    stops : {p : P} {r : Run P V F} {s t : S} (k : Kept V F) → space.at s p ≡ stopped k → t ≡ space.put s p (suspended k) → Runs space tree p r s t
    ends : {p : P} {r : Run P V F} {s t : S} (k : Kept V F) (v : V) → space.at s p ≡ under_way k → r ≡ gives v
        → t ≡ space.put s p (active v) → Runs space tree p r s t
    fails : {p : P} {r : Run P V F} {s t : S} (k : Kept V F) (f : F) → space.at s p ≡ under_way k → r ≡ faults f
        → t ≡ space.put s p (marked k.value f) → Runs space tree p r s t
    goes : {p : P} {r : Run P V F} {s t : S} (k : Kept V F) (q : P) (next : V → Run P V F) (v : V) (m : S) → space.at s p ≡ under_way k
        → r ≡ asks q next → Visits space tree s q v m → Runs space tree p (next v) m t → Runs space tree p r s t

-- the places are visited in order
pub data Settles {S P V F : Type 0} (space : Space S P V F) (tree : P → Run P V F) : List P → S → S → Type 0 where
  none : {ps : List P} {s t : S} → ps ≡ [] → t ≡ s → Settles space tree ps s t
  more : {ps : List P} {s t : S} (p : P) (qs : List P) (v : V) (m : S) → ps ≡ p ∷ qs → Visits space tree s p v m
      → Settles space tree qs m t → Settles space tree ps s t

module _ {S P V F : Type 0} (space : Space S P V F) where
  -- what control does at a place with this cell: it stops the evaluation, or goes on
  abbrev pub controlled : Cell V F → P → S → (Kept V F → S) → S
  controlled (stopped k) p s go = space.put s p (suspended k)
  controlled (under_way k) p s go = go k
  controlled _ p s go = s

  -- the state after what is left of a place's evaluation, with visits by this function
  unfoldable pub run : (P → S → S) → P → Run P V F → S → S
  run visited p (gives v) s = controlled (space.at s p) p s (λ k. space.put s p (active v))
  run visited p (faults f) s = controlled (space.at s p) p s (λ k. space.put s p (marked k.value f))
  run visited p (asks q next) s =
      controlled (space.at s p) p s (λ k. run visited p (next (value_of (space.at (visited q s) q))) (visited q s))

  -- what a visit does to a place with this cell, where an evaluation is this function
  abbrev pub entered : Cell V F → P → S → (S → S) → S
  entered (fresh k) p s evaluated = evaluated (space.put s p (under_way k))
  entered (under_way k) p s evaluated = space.put s p (stopped k)
  entered _ p s evaluated = s

module _ {S P V F : Type 0} (space : Space S P V F) (tree : P → Run P V F) where
  -- the state after a visit, in which so many evaluations can nest
  unfoldable pub visit : ℕ → P → S → S
  visit zero p s = entered space (space.at s p) p s (λ m. m)
  visit (suc most) p s = entered space (space.at s p) p s (run space (visit most) p (tree p))

  unfoldable pub visits : ℕ → List P → S → S
  visits most [] s = s
  visits most (p ∷ ps) s = visits most ps (visit most p s)

  -- the state once all these places were visited in order. No more evaluations nest than there are places.
  unfoldable pub settled : List P → S → S
  settled places s = visits (length places) places s

-- Each place that wasn't visited is among these.
abbrev pub Covers : {S P V F : Type 0} → Space S P V F → List P → S → Type 0
Covers {P = P} space places s = (q : P) → is_fresh (space.at s q) ≡ true → is_among space places q ≡ true

-- No evaluation is under way, and those that stand suspended are resting.
abbrev pub IsReady : {S P V F : Type 0} → Space S P V F → S → Type 0
IsReady {P = P} space s = (q : P) → is_ready (space.at s q) ≡ true
