-- What rounds of layout do, over what laying out one positioner and settling may do.
use Rattle.std.specs.Prelude.{◌≡◌, ℕ, zero, suc, ◌+◌, ◌≤◌, Bool, true, false, ◌||◌}
use Rattle.polish.specs.declared.rounds.Rounds.{Rounds}
use Rattle.polish.specs.declared.rounds.Rounds.TheVariants.{Still, Loop}

-- so many rounds at most
abbrev pub most_rounds : ℕ
most_rounds = 16

module _ {S : Type 0} (lays_out : S → ℕ → Bool → S → Type 0) where
  -- the first so many positioners were laid out in order, and some of them wrote something or none
  unfoldable pub LaidOut : ℕ → S → Bool → S → Type 0
  LaidOut zero old wrote new = (new ≡ old) × (wrote ≡ false)
  LaidOut (suc i) old wrote new =
      (mid : S) × ((before : Bool) × ((last : Bool) × (LaidOut i old before mid × (lays_out mid i last new × (wrote ≡ (before || last))))))

module _ {S : Type 0} (lays_out : S → ℕ → Bool → S → Type 0) (settles : S → S → Type 0) where
  -- a round laid out so many positioners in order and then settled; it changed something exactly where some layout wrote
  abbrev pub Round : ℕ → S → Bool → S → Type 0
  Round count old changed new = (mid : S) × (LaidOut lays_out count old changed mid × settles mid new)

  -- so many rounds, each of which changed something
  unfoldable pub ChangingRounds : ℕ → ℕ → S → S → Type 0
  ChangingRounds count zero old new = new ≡ old
  ChangingRounds count (suc n) old new = (mid : S) × (ChangingRounds count n old mid × Round count mid true new)

  -- the rounds of a polish: up to the first that changed nothing, or as many as there may be, each of which changed something
  abbrev pub Polishes : ℕ → S → Rounds → S → Type 0
  Polishes count old (Still n) new =
      (changing : ℕ) × ((n ≡ changing + 1) × ((n ≤ most_rounds) × ((mid : S) × (ChangingRounds count changing old mid × Round count mid false new))))
  Polishes count old Loop new = ChangingRounds count most_rounds old new
