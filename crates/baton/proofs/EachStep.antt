-- Each kind of step keeps the rule.
use Rattle.std.proofs.Common.{◌≡◌, ◌∙◌, lit<, ℕ, ◌+◌, List, [], ◌∷◌, ◌++◌, Bool, true, false, Option, Some, None, refl, sym, ap, subst, ◌==◌}
use Rattle.std.specs.Prelude.{slice_set}
use mathlib.Core.Option.{Option as Home, some, none, some-injective}
use lib.ListN.{get_elem?}
use prog.Atomic.{either}
use Rattle.atomic_table.specs.Seated.{TableId}
use Rattle.atomic_table.specs.Table.{State, Me, keeps, takes, gives, Allows, Splits, Joins, opening, rest}
use Rattle.baton.specs.declared.view.Stage.{Stage}
use Rattle.baton.specs.declared.view.Stage.TheVariants.{Idle, Asked, Ended, Met, Waiting, Working, Dismissed}
use Rattle.baton.specs.declared.view.View.{View}
use Rattle.baton.specs.declared.view.Cargo.{Cargo}
use Rattle.baton.specs.declared.view.Cargo.TheVariants.{Question, Answer}
use Rattle.baton.specs.Moments.{Moment, view, word_of, phase_at, asker_at, server_at, sole, fresh, idle, asked, working, answered, closed, parted, joined}
use Rattle.baton.specs.Rule.{HomeAt, Kept}
use Rattle.baton.specs.Steps.{alone, parted as part, newcomer, nobody, taken_back, Starts, Asks, Takes, Replies, Collects, Closes, Learns}
use Rattle.baton.proofs.Standing.{IsSole, IsFresh, IsIdle, IsEnded, IsDismissed, IsMet}
use Rattle.baton.specs.Sides.{IsAsked, MayTake, IsServer, MayAnswerAt, MayAnswer, InHand, Side, side_of}
use Rattle.baton.proofs.Moves.{Head, gate_at, kept, is_gate_at, Goes, asker_goes, server_goes, other_seat}

-- the slot that was taken last, beside nothing
pub in_hand : {S : Type 0} (c : List (ℕ × S)) (x : S) → c ≡ (0, x) ∷ [] → c ≡ (0, x) ∷ rest c
in_hand c x e = e ∙ ap (λ (l : List (ℕ × _)). (0, x) ∷ rest l) (sym e)

-- The content of a slot in hand, or else another one
module _ {X Y : Type 0} where
  abbrev question_in : X → List (ℕ × Option (Cargo X Y)) → X
  question_in d ((n, Some (Question x)) ∷ c) = x
  question_in d _ = d

  abbrev answer_in : Y → List (ℕ × Option (Cargo X Y)) → Y
  answer_in d ((n, Some (Answer y)) ∷ c) = y
  answer_in d _ = d

-- What a stage has, or else another one
module _ {Q A : Type 0} where
  abbrev met_with : List (Q × A) → Stage Q A → List (Q × A)
  met_with d (Met ts) = ts
  met_with d _ = d

-- an end that has taken a question, and has the empty slot in hand
pub working_hand : {S Q A : Type 0} (may : Q → A → Type 0) (stage : Stage Q A) (a : A) (carried : List (ℕ × Option S)) → InHand stage carried → MayAnswerAt may stage a → carried ≡ (0, None) ∷ []
working_hand may (Working q) a carried hand stands = hand
working_hand may _ a carried hand stands = absurd stands

-- an end that may take has nothing in hand
pub taking_hand : {S Q A : Type 0} (stage : Stage Q A) (carried : List (ℕ × Option S)) → InHand stage carried → MayTake stage → carried ≡ []
taking_hand Waiting carried hand stands = hand
taking_hand Dismissed carried hand stands = hand
taking_hand _ carried hand stands = absurd stands

-- an end that has asked has nothing in hand
pub asked_hand : {S Q A : Type 0} (stage : Stage Q A) (carried : List (ℕ × Option S)) → InHand stage carried → IsAsked stage → carried ≡ []
asked_hand (Asked q) carried hand stands = hand
asked_hand _ carried hand stands = absurd stands

module _ {X Y Q A : Type 0} (asked_of : X → Q) (told_of : Y → A) (may_ask : List (Q × A) → Q → Type 0) (may_answer : List (Q × A) → Q → A → Type 0) where
  abbrev Slots : Type 0
  Slots = Option (Cargo X Y)

  abbrev Sitter : Type 0
  Sitter = Me (Option (Cargo X Y)) (View Q A)

  abbrev OK : State (Option (Cargo X Y)) (View Q A) → Type 0
  OK = Kept asked_of told_of may_ask may_answer

  abbrev At : Home (Option (Cargo X Y)) → Moment Q A → Type 0
  At = HomeAt asked_of told_of may_ask may_answer

  abbrev Keeps : (m : Moment Q A) (counts : ℕ × ℕ) (home : Home (Option (Cargo X Y))) → At home m → OK (gate_at asked_of told_of may_ask may_answer m counts home)
  Keeps = kept asked_of told_of may_ask may_answer

  -- the asker of a moment goes, with these slots in hand
  abbrev AskerGoes : (ℕ → ℕ) → (Sitter → ℕ → Sitter → Type 0) → List (ℕ × Option (Cargo X Y)) → Moment Q A → ℕ × ℕ → Home (Option (Cargo X Y)) → Type 0
  AskerGoes f then c m counts home = Goes asked_of told_of may_ask may_answer f (then (asker_at counts m, c)) 0 (asker_at counts m, c) (gate_at asked_of told_of may_ask may_answer m counts home)

  abbrev ServerGoes : (View Q A → Type 0) → (ℕ → ℕ) → (Sitter → ℕ → Sitter → Type 0) → List (ℕ × Option (Cargo X Y)) → Moment Q A → ℕ × ℕ → Home (Option (Cargo X Y)) → Type 0
  ServerGoes P f then c m counts home = Head (server_at m) (λ v. P v → Goes asked_of told_of may_ask may_answer f (then (v, c)) 1 (v, c) (gate_at asked_of told_of may_ask may_answer m counts home))

  pub opens : OK (opening (0 ∷ []) (None ∷ []) alone)
  opens = Keeps sole (0, 0) (some None) refl

  -- the split
  parts_at : (m : Moment Q A) (counts : ℕ × ℕ) (home : Home (Option (Cargo X Y))) → At home m → IsSole (asker_at counts m).stage
      → OK record { words = word_of (phase_at m) ∷ []; homes = home ∷ []; views = slice_set (asker_at counts m ∷ server_at m) 0 (part (asker_at counts m)) ++ newcomer (asker_at counts m) ∷ [] }
  parts_at sole counts home fits stands = Keeps fresh counts home fits
  parts_at _ counts home fits stands = absurd stands

  is_gate : (s : State (Option (Cargo X Y)) (View Q A)) (k : OK s) → s ≡ gate_at asked_of told_of may_ask may_answer k.moment k.counts k.home
  is_gate = is_gate_at asked_of told_of may_ask may_answer

  -- the first view of a state is the first one at its moment
  at_first : (id : ℕ) (v : View Q A) (s : State (Option (Cargo X Y)) (View Q A)) (k : OK s) → id ≡ 0 → get_elem? s.views id ≡ some v → get_elem? (asker_at k.counts k.moment ∷ server_at k.moment) 0 ≡ some v
  at_first id v s k is_first seen =
      let there : get_elem? s.views 0 ≡ some v = subst (λ (n : ℕ). get_elem? s.views n ≡ some v) is_first seen in
      subst (λ (t : State (Option (Cargo X Y)) (View Q A)). get_elem? t.views 0 ≡ some v) (is_gate s k) there

  pub parts : (id : ℕ) (v : View Q A) → id ≡ 0 → IsSole v.stage → Splits OK id v (part v) (newcomer v)
  parts id v is_first stands s k seen =
      let m = k.moment in
      let g : State (Option (Cargo X Y)) (View Q A) = gate_at asked_of told_of may_ask may_answer m k.counts k.home in
      let here : get_elem? g.views 0 ≡ some v = at_first id v s k is_first seen in
      let same : asker_at k.counts m ≡ v = some-injective (asker_at k.counts m) v here in
      let first = parts_at m k.counts k.home k.fits (subst (λ (u : View Q A). IsSole u.stage) (sym same) stands) in
      let second = subst (λ (u : View Q A). OK record { words = g.words; homes = g.homes; views = slice_set g.views 0 (part u) ++ newcomer u ∷ [] }) same first in
      let third = subst (λ (t : State (Option (Cargo X Y)) (View Q A)). OK record { words = t.words; homes = t.homes; views = slice_set t.views 0 (part v) ++ newcomer v ∷ [] }) (sym (is_gate s k)) second in
      subst (λ (n : ℕ). OK record { words = s.words; homes = s.homes; views = slice_set s.views n (part v) ++ newcomer v ∷ [] }) (sym is_first) third

  starts_at : (m : Moment Q A) (counts : ℕ × ℕ) (home : Home (Option (Cargo X Y))) → At home m → IsFresh (asker_at counts m).stage → AskerGoes (λ _. 1) Starts [] m counts home
  starts_at fresh counts home fits stands = (view Idle [] counts, takes 0 None, ap some fits, Keeps (idle []) counts none refl, refl)
  starts_at _ counts home fits stands = absurd stands

  pub starts : (slots id : ℕ) (me : Sitter) → id ≡ 0 → me.1 ≡ [] → IsFresh me.0.stage → Allows OK slots id me 0 (λ _. 1) (λ _. Starts me 1)
  starts slots id me = asker_goes asked_of told_of may_ask may_answer (λ _. 1) Starts (λ v. IsFresh v.stage) [] starts_at slots id me

  asks_at : (x : X) (m : Moment Q A) (counts : ℕ × ℕ) (home : Home (Option (Cargo X Y))) → At home m → IsIdle (asker_at counts m).stage × may_ask (asker_at counts m).turns (asked_of x)
      → AskerGoes (λ _. 2) (Asks asked_of) ((0, Some (Question x)) ∷ []) m counts home
  asks_at x (idle ts) counts home fits stands = (
    view (Asked (asked_of x)) ts counts,
    gives,
    tt,
    Keeps (asked ts (asked_of x)) counts (some (Some (Question x))) (x, refl, refl, stands.1),
    λ x' e. ap (λ (c : List (ℕ × Option (Cargo X Y))). (view (Asked (asked_of (question_in x c))) ts counts, [])) e,
  )
  asks_at x _ counts home fits stands = absurd stands.0

  pub asks : (x : X) (slots id : ℕ) (me : Sitter) → id ≡ 0 → me.1 ≡ (0, Some (Question x)) ∷ [] → IsIdle me.0.stage × may_ask me.0.turns (asked_of x)
      → Allows OK slots id me 0 (λ _. 2) (λ _. Asks asked_of me 2)
  asks x slots id me = asker_goes asked_of told_of may_ask may_answer (λ _. 2) (Asks asked_of) (λ v. IsIdle v.stage × may_ask v.turns (asked_of x)) ((0, Some (Question x)) ∷ []) (asks_at x) slots id me

  takes_at : (m : Moment Q A) (counts : ℕ × ℕ) (home : Home (Option (Cargo X Y))) → At home m
      → ServerGoes (λ v. MayTake v.stage) (λ n. either (n == 2) 3 n) (Takes asked_of may_ask) [] m counts home
  takes_at sole counts home fits = tt
  takes_at fresh counts home fits = λ stands. (view Waiting [] (0, 0), keeps, tt, Keeps fresh counts home fits, (refl, lit< tt))
  takes_at (idle ts) counts home fits = λ stands. (view Waiting ts (0, 0), keeps, tt, Keeps (idle ts) counts home fits, (refl, lit< tt))
  takes_at (asked ts q) counts home (x, lies, is, may) = λ stands. (
    view (Working q) ts (0, 0),
    takes 0 (Some (Question x)),
    ap some lies,
    Keeps (working ts q) counts none refl,
    (x, refl, subst (may_ask ts) (sym is) may, λ i. (view (Working (sym is i)) ts (0, 0), (0, Some (Question x)) ∷ [])),
  )
  takes_at (working ts q) counts home fits = λ stands. absurd stands
  takes_at (answered ts q a) counts home fits = λ stands. (view Waiting (ts ++ (q, a) ∷ []) (0, 0), keeps, tt, Keeps (answered ts q a) counts home fits, (refl, lit< tt))
  takes_at (closed ts) counts home fits = λ stands. (view Dismissed ts (0, 0), keeps, tt, Keeps (parted ts) counts home fits, refl)
  takes_at (parted ts) counts home fits = λ stands. (view Dismissed ts (0, 0), keeps, tt, Keeps (parted ts) counts home fits, refl)
  takes_at (joined ts) counts home fits = λ stands. absurd stands

  waits_serves : (v : View Q A) → MayTake v.stage → IsServer v.stage
  waits_serves v = waits_at v.stage
    where
      waits_at : (stage : Stage Q A) → MayTake stage → IsServer stage
      waits_at Waiting h = tt
      waits_at Dismissed h = tt
      waits_at _ h = absurd h

  pub takes_question : (slots id : ℕ) (me : Sitter) → me.1 ≡ [] → MayTake me.0.stage → Allows OK slots id me 0 (λ n. either (n == 2) 3 n) (Takes asked_of may_ask me)
  takes_question slots id me = server_goes asked_of told_of may_ask may_answer (λ n. either (n == 2) 3 n) (Takes asked_of may_ask) (λ v. MayTake v.stage) [] takes_at waits_serves slots id me

  replies_at : (y : Y) (m : Moment Q A) (counts : ℕ × ℕ) (home : Home (Option (Cargo X Y))) → At home m
      → ServerGoes (λ v. MayAnswerAt (may_answer v.turns) v.stage (told_of y)) (λ _. 4) (Replies told_of) ((0, Some (Answer y)) ∷ []) m counts home
  replies_at y sole counts home fits = tt
  replies_at y (working ts q) counts home fits = λ may. (
    view Waiting (ts ++ (q, told_of y) ∷ []) (0, 0),
    gives,
    tt,
    Keeps (answered ts q (told_of y)) counts (some (Some (Answer y))) (y, refl, refl, may),
    λ y' is_y. (q, refl, λ i. (view Waiting (ts ++ (q, told_of (answer_in {X = X} y (is_y i))) ∷ []) (0, 0), [])),
  )
  replies_at y _ counts home fits = λ may. absurd may

  works_serves : (y : Y) (v : View Q A) → MayAnswerAt (may_answer v.turns) v.stage (told_of y) → IsServer v.stage
  works_serves y v = works_at (may_answer v.turns) v.stage
    where
      works_at : (may : Q → A → Type 0) (stage : Stage Q A) → MayAnswerAt may stage (told_of y) → IsServer stage
      works_at may (Working q) h = tt
      works_at may _ h = absurd h

  pub replies : (y : Y) (slots id : ℕ) (me : Sitter) → me.1 ≡ (0, Some (Answer y)) ∷ [] → MayAnswerAt (may_answer me.0.turns) me.0.stage (told_of y)
      → Allows OK slots id me 0 (λ _. 4) (λ _. Replies told_of me 4)
  replies y slots id me = server_goes asked_of told_of may_ask may_answer (λ _. 4) (Replies told_of) (λ v. MayAnswerAt (may_answer v.turns) v.stage (told_of y)) ((0, Some (Answer y)) ∷ []) (replies_at y) (works_serves y) slots id me

  collects_at : (waiting : Bool) (m : Moment Q A) (counts : ℕ × ℕ) (home : Home (Option (Cargo X Y))) → At home m → IsAsked (asker_at counts m).stage
      → AskerGoes (λ n. either (n == 4) 1 n) (Collects told_of may_answer waiting) [] m counts home
  collects_at true (asked ts q) counts home fits stands = (view (Asked q) ts counts, keeps, tt, Keeps (asked ts q) counts home fits, (refl, lit< tt))
  collects_at false (asked ts q) counts home fits stands = (view (Asked q) ts (counts.0 + 1, counts.1), keeps, tt, Keeps (asked ts q) (counts.0 + 1, counts.1) home fits, (refl, lit< tt))
  collects_at true (working ts q) counts home fits stands = (view (Asked q) ts counts, keeps, tt, Keeps (working ts q) counts home fits, (refl, lit< tt))
  collects_at false (working ts q) counts home fits stands = (view (Asked q) ts (counts.0 + 1, counts.1), keeps, tt, Keeps (working ts q) (counts.0 + 1, counts.1) home fits, (refl, lit< tt))
  collects_at true (answered ts q a) counts home (y, lies, is, may) stands = (
    view Idle (ts ++ (q, a) ∷ []) (counts.0, counts.1 + 1),
    takes 0 (Some (Answer y)),
    ap some lies,
    Keeps (idle (ts ++ (q, a) ∷ [])) (counts.0, counts.1 + 1) none refl,
    (q, y, refl, subst (may_answer ts q) (sym is) may, λ i. (view Idle (ts ++ (q, sym is i) ∷ []) (counts.0, counts.1 + 1), (0, Some (Answer y)) ∷ [])),
  )
  collects_at false (answered ts q a) counts home (y, lies, is, may) stands = (
    view Idle (ts ++ (q, a) ∷ []) counts,
    takes 0 (Some (Answer y)),
    ap some lies,
    Keeps (idle (ts ++ (q, a) ∷ [])) counts none refl,
    (q, y, refl, subst (may_answer ts q) (sym is) may, λ i. (view Idle (ts ++ (q, sym is i) ∷ []) counts, (0, Some (Answer y)) ∷ [])),
  )
  collects_at _ _ counts home fits stands = absurd stands

  pub collects : (waiting : Bool) (slots id : ℕ) (me : Sitter) → id ≡ 0 → me.1 ≡ [] → IsAsked me.0.stage
      → Allows OK slots id me 0 (λ n. either (n == 4) 1 n) (Collects told_of may_answer waiting me)
  collects waiting slots id me = asker_goes asked_of told_of may_ask may_answer (λ n. either (n == 4) 1 n) (Collects told_of may_answer waiting) (λ v. IsAsked v.stage) [] (collects_at waiting) slots id me

  closes_at : (m : Moment Q A) (counts : ℕ × ℕ) (home : Home (Option (Cargo X Y))) → At home m → IsIdle (asker_at counts m).stage → AskerGoes (λ _. 5) Closes ((0, None) ∷ []) m counts home
  closes_at (idle ts) counts home fits stands = (view Ended ts counts, gives, tt, Keeps (closed ts) counts (some None) refl, refl)
  closes_at _ counts home fits stands = absurd stands

  pub closes : (slots id : ℕ) (me : Sitter) → id ≡ 0 → me.1 ≡ (0, None) ∷ [] → IsIdle me.0.stage → Allows OK slots id me 0 (λ _. 5) (λ _. Closes me 5)
  closes slots id me = asker_goes asked_of told_of may_ask may_answer (λ _. 5) Closes (λ v. IsIdle v.stage) ((0, None) ∷ []) closes_at slots id me

  -- the server is taken back
  joins_at : (m : Moment Q A) (counts : ℕ × ℕ) (home : Home (Option (Cargo X Y))) → At home m → IsEnded (asker_at counts m).stage
      → Head (server_at m) (λ w. IsDismissed w.stage
      → OK record { words = word_of (phase_at m) ∷ []; homes = home ∷ []; views = slice_set (slice_set (asker_at counts m ∷ server_at m) 0 (taken_back (asker_at counts m) w)) 1 nobody })
  joins_at (closed ts) counts home fits stands = λ gone. absurd gone
  joins_at (parted ts) counts home fits stands = λ gone. Keeps (joined ts) counts home fits
  joins_at _ counts home fits stands = absurd stands

  pub joins : (id : ℕ) (v : View Q A) (other : ℕ) (w : View Q A) → id ≡ 0 → IsEnded v.stage → IsDismissed w.stage → Joins OK id v other w (taken_back v w) nobody
  joins id v other w is_first ended gone s k seen apart there =
      let m = k.moment in
      let g : State (Option (Cargo X Y)) (View Q A) = gate_at asked_of told_of may_ask may_answer m k.counts k.home in
      let u : View Q A = asker_at k.counts m in
      let same : u ≡ v = some-injective u v (at_first id v s k is_first seen) in
      let from_first : get_elem? (slice_set s.views 0 (taken_back v w)) other ≡ some w = subst (λ (n : ℕ). get_elem? (slice_set s.views n (taken_back v w)) other ≡ some w) is_first there in
      let beside : get_elem? (taken_back v w ∷ server_at m) other ≡ some w = subst (λ (t : State (Option (Cargo X Y)) (View Q A)). get_elem? (slice_set t.views 0 (taken_back v w)) other ≡ some w) (is_gate s k) from_first in
      let two = other_seat (taken_back v w) m other w beside (subst (λ (n : ℕ). ¬ (other ≡ n)) is_first apart) in
      let first : IsDismissed w.stage → OK record { words = g.words; homes = g.homes; views = slice_set (slice_set g.views 0 (taken_back u w)) 1 nobody } =
      subst (λ (l : List (View Q A)). Head l (λ x. IsDismissed x.stage → OK record { words = g.words; homes = g.homes; views = slice_set (slice_set g.views 0 (taken_back u x)) 1 nobody }))
      two.1 (joins_at m k.counts k.home k.fits (subst (λ (x : View Q A). IsEnded x.stage) (sym same) ended)) in
      let second = subst (λ (x : View Q A). OK record { words = g.words; homes = g.homes; views = slice_set (slice_set g.views 0 (taken_back x w)) 1 nobody }) same (first gone) in
      let third = subst (λ (t : State (Option (Cargo X Y)) (View Q A)). OK record { words = t.words; homes = t.homes; views = slice_set (slice_set t.views 0 (taken_back v w)) 1 nobody }) (sym (is_gate s k)) second in
      let fourth = subst (λ (n : ℕ). OK record { words = s.words; homes = s.homes; views = slice_set (slice_set s.views 0 (taken_back v w)) n nobody }) (sym two.0) third in
      subst (λ (n : ℕ). OK record { words = s.words; homes = s.homes; views = slice_set (slice_set s.views n (taken_back v w)) other nobody }) (sym is_first) fourth

  learns_at : (m : Moment Q A) (counts : ℕ × ℕ) (home : Home (Option (Cargo X Y))) → At home m → IsMet (asker_at counts m).stage → AskerGoes (λ n. n) Learns [] m counts home
  learns_at (joined ts) counts home fits stands = (view (Met ts) ts counts, keeps, tt, Keeps (joined ts) counts home fits, λ ts' e. ap (met_with ts) (sym e))
  learns_at _ counts home fits stands = absurd stands

  pub learns : (slots id : ℕ) (me : Sitter) → id ≡ 0 → me.1 ≡ [] → IsMet me.0.stage → Allows OK slots id me 0 (λ n. n) (Learns me)
  learns slots id me = asker_goes asked_of told_of may_ask may_answer (λ n. n) Learns (λ v. IsMet v.stage) [] learns_at slots id me

  -- The steps of a loop, in which an end knows and holds what it did when the loop began
  pub collects_again : (waiting : Bool) (slots id : ℕ) (me was : Sitter) → me ≡ was → id ≡ 0 → InHand was.0.stage was.1 → IsAsked was.0.stage
      → Allows OK slots id me 0 (λ n. either (n == 4) 1 n) (Collects told_of may_answer waiting me)
  collects_again waiting slots id me was same is_first hand stands =
      collects waiting slots id me is_first (ap (λ (m : Sitter). m.1) same ∙ asked_hand was.0.stage was.1 hand stands) (subst (λ (m : Sitter). IsAsked m.0.stage) (sym same) stands)

  pub takes_again : (slots id : ℕ) (me was : Sitter) → me ≡ was → InHand was.0.stage was.1 → MayTake was.0.stage
      → Allows OK slots id me 0 (λ n. either (n == 2) 3 n) (Takes asked_of may_ask me)
  takes_again slots id me was same hand stands =
      takes_question slots id me
      (ap (λ (m : Sitter). m.1) same ∙ taking_hand was.0.stage was.1 hand stands)
      (subst (λ (m : Sitter). MayTake m.0.stage) (sym same) stands)

  -- The same over the ends as contracts see them, once the empty slot was exchanged for one with the question, or the answer
  pub asks_from : (x : X) (slots id : ℕ) (gate : TableId) (side : Side Q A) (was me : Sitter) → side_of gate was.0 ≡ side → side.stage ≡ Idle → may_ask side.turns (asked_of x)
      → InHand was.0.stage was.1 → me ≡ (was.0, (0, Some (Question x)) ∷ rest was.1) → id ≡ 0 → Allows OK slots id me 0 (λ _. 2) (λ _. Asks asked_of me 2)
  asks_from x slots id gate side was me seen quiet may hand now is_first =
      let stands : was.0.stage ≡ Idle = ap (λ (s : Side Q A). s.stage) seen ∙ quiet in
      let empty : was.1 ≡ (0, None) ∷ [] = subst (λ (stage : Stage Q A). InHand stage was.1) stands hand in
      let lawful : may_ask was.0.turns (asked_of x) = subst (λ (s : Side Q A). may_ask s.turns (asked_of x)) (sym seen) may in
      subst (λ (m : Sitter). Allows OK slots id m 0 (λ _. 2) (λ _. Asks asked_of m 2)) (sym now)
      (asks x slots id (was.0, (0, Some (Question x)) ∷ rest was.1) is_first (ap (λ (c : List (ℕ × Option (Cargo X Y))). (0, Some (Question x)) ∷ rest c) empty) (subst IsIdle (sym stands) tt, lawful))

  pub replies_from : (y : Y) (slots id : ℕ) (gate : TableId) (side : Side Q A) (was me : Sitter) → side_of gate was.0 ≡ side → MayAnswer may_answer side (told_of y)
      → InHand was.0.stage was.1 → me ≡ (was.0, (0, Some (Answer y)) ∷ rest was.1) → Allows OK slots id me 0 (λ _. 4) (λ _. Replies told_of me 4)
  replies_from y slots id gate side was me seen may hand now =
      let stands : MayAnswerAt (may_answer was.0.turns) was.0.stage (told_of y) = subst (λ (s : Side Q A). MayAnswer may_answer s (told_of y)) (sym seen) may in
      let empty : was.1 ≡ (0, None) ∷ [] = working_hand (may_answer was.0.turns) was.0.stage (told_of y) was.1 hand stands in
      subst (λ (m : Sitter). Allows OK slots id m 0 (λ _. 4) (λ _. Replies told_of m 4)) (sym now)
      (replies y slots id (was.0, (0, Some (Answer y)) ∷ rest was.1) (ap (λ (c : List (ℕ × Option (Cargo X Y))). (0, Some (Answer y)) ∷ rest c) empty) stands)

  pub closes_from : (slots id : ℕ) (gate : TableId) (side : Side Q A) (me : Sitter) → side_of gate me.0 ≡ side → side.stage ≡ Idle → InHand me.0.stage me.1 → id ≡ 0
      → Allows OK slots id me 0 (λ _. 5) (λ _. Closes me 5)
  closes_from slots id gate side me seen quiet hand is_first =
      let stands : me.0.stage ≡ Idle = ap (λ (s : Side Q A). s.stage) seen ∙ quiet in
      closes slots id me is_first (subst (λ (stage : Stage Q A). InHand stage me.1) stands hand) (subst IsIdle (sym stands) tt)

  pub collects_from : (slots id : ℕ) (gate : TableId) (side : Side Q A) (me : Sitter) → side_of gate me.0 ≡ side → IsAsked side.stage → InHand me.0.stage me.1 → id ≡ 0
      → Allows OK slots id me 0 (λ n. either (n == 4) 1 n) (Collects told_of may_answer false me)
  collects_from slots id gate side me seen asked_side hand is_first =
      collects_again false slots id me me refl is_first hand (subst (λ (s : Side Q A). IsAsked s.stage) (sym seen) asked_side)

  pub joins_from : (id : ℕ) (v : View Q A) (other : ℕ) (w : View Q A) → id ≡ 0 → v.stage ≡ Ended → w.stage ≡ Dismissed → Joins OK id v other w (taken_back v w) nobody
  joins_from id v other w is_first ended gone = joins id v other w is_first (subst IsEnded (sym ended) tt) (subst IsDismissed (sym gone) tt)
