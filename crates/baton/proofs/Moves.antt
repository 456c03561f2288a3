-- A step is proved for each moment at which its end may make it, and everywhere else its end doesn't stand so.
use Rattle.std.proofs.Common.{◌≡◌, ℕ, zero, suc, List, [], ◌∷◌, Option, refl, sym, ap, subst}
use mathlib.Core.Option.{Option as Home, some, some-injective, some-ne-none}
use lib.ListN.{get_elem?}
use Rattle.std.specs.Prelude.{slice_index}
use Rattle.atomic_table.specs.Table.{State, Me, Act, Valid, Allows, stepped, carried_after}
use Rattle.baton.specs.declared.view.View.{View}
use Rattle.baton.specs.declared.view.Cargo.{Cargo}
use Rattle.baton.specs.Moments.{Moment, word_of, phase_at, asker_at, server_at, sole, fresh, idle, asked, working, answered, closed, parted, joined}
use Rattle.baton.specs.Rule.{HomeAt, Kept}
use Rattle.baton.specs.Sides.{IsServer}

-- it is so of the first, if there is one
abbrev pub Head : {V : Type 0} → List V → (V → Type 0) → Type 0
Head [] G = Unit {0}
Head (v ∷ vs) G = G v

-- a list of one has something in its first place alone
only_first : {V : Type 0} (w v : V) (n : ℕ) → get_elem? (w ∷ []) n ≡ some v → (n ≡ 0) × (w ∷ [] ≡ v ∷ [])
only_first w v zero e = (refl, ap (λ u. u ∷ []) (some-injective w v e))
only_first w v (suc n) e = absurd (some-ne-none v (sym e))

module _ {Q A : Type 0} where
  server_place : (m : Moment Q A) (n : ℕ) (v : View Q A) → get_elem? (server_at m) n ≡ some v → (n ≡ 0) × (server_at m ≡ v ∷ [])
  server_place sole n v e = absurd (some-ne-none v (sym e))
  server_place fresh n v e = only_first _ v n e
  server_place (idle ts) n v e = only_first _ v n e
  server_place (asked ts q) n v e = only_first _ v n e
  server_place (working ts q) n v e = only_first _ v n e
  server_place (answered ts q a) n v e = only_first _ v n e
  server_place (closed ts) n v e = only_first _ v n e
  server_place (parted ts) n v e = only_first _ v n e
  server_place (joined ts) n v e = only_first _ v n e

  asker_asks : (counts : ℕ × ℕ) (m : Moment Q A) → IsServer (asker_at counts m).stage → ⊥
  asker_asks counts sole serves = serves
  asker_asks counts fresh serves = serves
  asker_asks counts (idle ts) serves = serves
  asker_asks counts (asked ts q) serves = serves
  asker_asks counts (working ts q) serves = serves
  asker_asks counts (answered ts q a) serves = serves
  asker_asks counts (closed ts) serves = serves
  asker_asks counts (parted ts) serves = serves
  asker_asks counts (joined ts) serves = serves

  -- whoever serves sits in the second seat
  pub in_the_second : (counts : ℕ × ℕ) (m : Moment Q A) (n : ℕ) (v : View Q A) → get_elem? (asker_at counts m ∷ server_at m) n ≡ some v → IsServer v.stage
      → (n ≡ 1) × (server_at m ≡ v ∷ [])
  in_the_second counts m zero v e serves =
      absurd (asker_asks counts m (subst (λ (u : View Q A). IsServer u.stage) (sym (some-injective (asker_at counts m) v e)) serves))
  in_the_second counts m (suc n) v e serves = let there = server_place m n v e in (ap suc there.0, there.1)

  -- the seat beside the first
  pub other_seat : (b : View Q A) (m : Moment Q A) (n : ℕ) (v : View Q A) → get_elem? (b ∷ server_at m) n ≡ some v → ¬ (n ≡ 0) → (n ≡ 1) × (server_at m ≡ v ∷ [])
  other_seat b m zero v e apart = absurd (apart refl)
  other_seat b m (suc n) v e apart = let there = server_place m n v e in (ap suc there.0, there.1)

module _ {X Y Q A : Type 0} (asked_of : X → Q) (told_of : Y → A) (may_ask : List (Q × A) → Q → Type 0) (may_answer : List (Q × A) → Q → A → Type 0) where
  abbrev pub Rule : State (Option (Cargo X Y)) (View Q A) → Type 0
  Rule = Kept asked_of told_of may_ask may_answer

  -- the gate at a moment
  abbrev pub gate_at : Moment Q A → ℕ × ℕ → Home (Option (Cargo X Y)) → State (Option (Cargo X Y)) (View Q A)
  gate_at m counts home = record { words = word_of (phase_at m) ∷ []; homes = home ∷ []; views = asker_at counts m ∷ server_at m }

  abbrev pub kept : (m : Moment Q A) (counts : ℕ × ℕ) (home : Home (Option (Cargo X Y))) → HomeAt asked_of told_of may_ask may_answer home m → Rule (gate_at m counts home)
  kept m counts home fits = record { moment = m; counts = counts; home = home; words = refl; homes = refl; views = refl; fits = fits }

  pub is_gate_at : (s : State (Option (Cargo X Y)) (View Q A)) (k : Rule s) → s ≡ gate_at k.moment k.counts k.home
  is_gate_at s k = λ i. record { words = k.words i; homes = k.homes i; views = k.views i }

  -- the end has a new view and an act that keep the rule
  abbrev pub Goes : (ℕ → ℕ) → (ℕ → Me (Option (Cargo X Y)) (View Q A) → Type 0) → ℕ → Me (Option (Cargo X Y)) (View Q A) → State (Option (Cargo X Y)) (View Q A) → Type 0
  Goes f then id me s = (w : View Q A) × (a : Act (Option (Cargo X Y))) × Valid s.homes me.1 a × Rule (stepped s 0 (f (slice_index s.words 0)) id me.1 w a)
      × then (slice_index s.words 0) (w, carried_after me.1 a)

  module _ (f : ℕ → ℕ) (then : Me (Option (Cargo X Y)) (View Q A) → ℕ → Me (Option (Cargo X Y)) (View Q A) → Type 0) (P : View Q A → Type 0) (c : List (ℕ × Option (Cargo X Y))) where
    -- a step of the asker, which sits in the first seat
    pub asker_goes : ((m : Moment Q A) (counts : ℕ × ℕ) (home : Home (Option (Cargo X Y))) → HomeAt asked_of told_of may_ask may_answer home m
        → P (asker_at counts m) → Goes f (then (asker_at counts m, c)) 0 (asker_at counts m, c) (gate_at m counts home))
        → (slots id : ℕ) (me : Me (Option (Cargo X Y)) (View Q A)) → id ≡ 0 → me.1 ≡ c → P me.0
        → Allows Rule slots id me 0 f (then me)
    asker_goes each slots id me is_first carries stands s k long seen fits =
        let m = k.moment in
        let g : State (Option (Cargo X Y)) (View Q A) = gate_at m k.counts k.home in
        let there : get_elem? s.views 0 ≡ some me.0 = subst (λ (n : ℕ). get_elem? s.views n ≡ some me.0) is_first seen in
        let here : some (asker_at k.counts m) ≡ some me.0 = subst (λ (t : State (Option (Cargo X Y)) (View Q A)). get_elem? t.views 0 ≡ some me.0) (is_gate_at s k) there in
        let same : asker_at k.counts m ≡ me.0 = some-injective (asker_at k.counts m) me.0 here in
        let whole : (asker_at k.counts m, c) ≡ me = λ i. (same i, sym carries i) in
        let first = each m k.counts k.home k.fits (subst P (sym same) stands) in
        let second = subst (λ (x : Me (Option (Cargo X Y)) (View Q A)). Goes f (then x) 0 x g) whole first in
        let third = subst (λ (t : State (Option (Cargo X Y)) (View Q A)). Goes f (then me) 0 me t) (sym (is_gate_at s k)) second in
        subst (λ (n : ℕ). Goes f (then me) n me s) (sym is_first) third

    -- a step of the server, which sits in the second seat
    pub server_goes : ((m : Moment Q A) (counts : ℕ × ℕ) (home : Home (Option (Cargo X Y))) → HomeAt asked_of told_of may_ask may_answer home m
        → Head (server_at m) (λ v. P v → Goes f (then (v, c)) 1 (v, c) (gate_at m counts home)))
        → ((v : View Q A) → P v → IsServer v.stage)
        → (slots id : ℕ) (me : Me (Option (Cargo X Y)) (View Q A)) → me.1 ≡ c → P me.0
        → Allows Rule slots id me 0 f (then me)
    server_goes each serves slots id me carries stands s k long seen fits =
        let m = k.moment in
        let g : State (Option (Cargo X Y)) (View Q A) = gate_at m k.counts k.home in
        let here : get_elem? (asker_at k.counts m ∷ server_at m) id ≡ some me.0 = subst (λ (t : State (Option (Cargo X Y)) (View Q A)). get_elem? t.views id ≡ some me.0) (is_gate_at s k) seen in
        let two = in_the_second k.counts m id me.0 here (serves me.0 stands) in
        let first : P me.0 → Goes f (then (me.0, c)) 1 (me.0, c) g = subst (λ (l : List (View Q A)). Head l (λ v. P v → Goes f (then (v, c)) 1 (v, c) g)) two.1 (each m k.counts k.home k.fits) in
        let whole : (me.0, c) ≡ me = λ i. (me.0, sym carries i) in
        let second = subst (λ (x : Me (Option (Cargo X Y)) (View Q A)). Goes f (then x) 1 x g) whole (first stands) in
        let third = subst (λ (t : State (Option (Cargo X Y)) (View Q A)). Goes f (then me) 1 me t) (sym (is_gate_at s k)) second in
        subst (λ (n : ℕ). Goes f (then me) n me s) (sym two.0) third
