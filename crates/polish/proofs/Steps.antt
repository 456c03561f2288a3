-- A round as far as it has come, and rounds one after another.
use Rattle.std.proofs.Common.{◌≡◌, ℕ, zero, suc, ◌+◌, ◌-◌, ◌<◌, ◌≤◌, Bool, true, false, ◌||◌, List, [], ◌∷◌, refl, ap, subst, sym, ◌∙◌, arith}
use Rattle.std.specs.List.{range_with_len}
use Rattle.polish.specs.Rounds.{LaidOut, Round, ChangingRounds}

module _ {S : Type 0} (lays_out : S → ℕ → Bool → S → Type 0) where
  -- so many positioners are laid out, and the others wait
  pub record IsLaidOut (count : ℕ) (old : S) (changed : Bool) (new : S) (left : List ℕ) : Type 0 where
    pub done : ℕ
    pub within : done ≤ count
    pub waiting : left ≡ range_with_len done (count - done)
    pub laid_out : LaidOut lays_out done old changed new

-- the first number of a range
first_of_range : (from n first : ℕ) (rest : List ℕ) → first ∷ rest ≡ range_with_len from n → (first ≡ from) × ((0 < n) × (rest ≡ range_with_len (from + 1) (n - 1)))
first_of_range from zero first rest e = absurd (cc)
first_of_range from (suc n) first rest e =
    let less : suc n - 1 ≡ n = omega arith in
    (cc, (omega arith, rw less (cc)))

no_range : (from n : ℕ) → [] ≡ range_with_len from n → n ≡ 0
no_range from zero e = refl
no_range from (suc n) e = absurd (cc)

module _ {S : Type 0} (lays_out : S → ℕ → Bool → S → Type 0) where
  pub IsLaidOut-none : (count all : ℕ) (old : S) (left : List ℕ) → left ≡ range_with_len 0 all → all ≡ count → IsLaidOut lays_out count old false old left
  unfolding LaidOut
  IsLaidOut-none count all old left e same =
      let rest : all ≡ count - 0 = omega arith in
      record { done = 0; within = omega arith; waiting = e ∙ ap (range_with_len 0) rest; laid_out = (refl, refl) }

  -- the next positioner is below the count
  pub next_within : (count : ℕ) (old mid : S) (changed : Bool) (left rest : List ℕ) (next : ℕ) → IsLaidOut lays_out count old changed mid left → left ≡ next ∷ rest → next < count
  next_within count old mid changed left rest next so_far e =
      let first = first_of_range so_far.done (count - so_far.done) next rest (sym e ∙ so_far.waiting) in omega arith

  -- one more is laid out
  pub IsLaidOut-more : (count : ℕ) (old mid new : S) (changed wrote : Bool) (left rest : List ℕ) (next : ℕ) → IsLaidOut lays_out count old changed mid left → left ≡ next ∷ rest
      → lays_out mid next wrote new → IsLaidOut lays_out count old (changed || wrote) new rest
  unfolding LaidOut
  IsLaidOut-more count old mid new changed wrote left rest next so_far e step =
      let first = first_of_range so_far.done (count - so_far.done) next rest (sym e ∙ so_far.waiting) in
      let from : so_far.done + 1 ≡ suc so_far.done = omega arith in
      let fewer : count - so_far.done - 1 ≡ count - suc so_far.done = omega arith in
      record {
        done = suc so_far.done;
        within = omega arith;
        waiting = first.1.1 ∙ (ap (λ n. range_with_len n (count - so_far.done - 1)) from ∙ ap (range_with_len (suc so_far.done)) fewer);
        laid_out = (mid, (changed, (wrote, (so_far.laid_out, (subst (λ (n : ℕ). lays_out mid n wrote new) first.0 step, refl)))));
      }

  -- all are laid out
  pub LaidOut-all : (count : ℕ) (old new : S) (changed : Bool) (left : List ℕ) → IsLaidOut lays_out count old changed new left → left ≡ [] → LaidOut lays_out count old changed new
  LaidOut-all count old new changed left so_far e =
      let none = no_range so_far.done (count - so_far.done) (sym e ∙ so_far.waiting) in
      let all : so_far.done ≡ count = let within = so_far.within in omega arith in
      rw all at so_far.laid_out

module _ {S : Type 0} (lays_out : S → ℕ → Bool → S → Type 0) (settles : S → S → Type 0) where
  pub ChangingRounds-none : (count : ℕ) (old : S) → ChangingRounds lays_out settles count 0 old old
  unfolding ChangingRounds
  ChangingRounds-none count old = refl

  -- one more round that changed something
  pub ChangingRounds-more : (count own n : ℕ) (old mid new : S) (changed : Bool) → ChangingRounds lays_out settles count n old mid → own ≡ count → Round lays_out settles own mid changed new
      → changed ≡ true → ChangingRounds lays_out settles count (n + 1) old new
  unfolding ChangingRounds
  ChangingRounds-more count own n old mid new changed before same round is_changed =
      let last : Round lays_out settles count mid true new =
      subst (λ (b : Bool). Round lays_out settles count mid b new) is_changed (subst (λ (m : ℕ). Round lays_out settles m mid changed new) same round) in
      let next : suc n ≡ n + 1 = omega arith in
      subst (λ (m : ℕ). ChangingRounds lays_out settles count m old new) next (mid, (before, last))
