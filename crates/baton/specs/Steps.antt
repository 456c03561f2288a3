-- What each step tells the end that makes it: of what it knew and held before, the word that it found, and what it knows and holds afterwards.
use Rattle.std.specs.Prelude.{◌≡◌, ℕ, ◌+◌, ◌<◌, ◌==◌, Bool, true, false, List, [], ◌∷◌, ◌++◌, Option, Some, None, MatchBool}
use Rattle.atomic_table.specs.Table.{Me}
use Rattle.baton.specs.declared.phase.Phase.TheVariants.{Asked as AskedPhase, Answered as AnsweredPhase, Closed as ClosedPhase}
use Rattle.baton.specs.declared.view.Stage.{Stage}
use Rattle.baton.specs.declared.view.Stage.TheVariants.{Sole, Fresh, Idle, Asked, Ended, Met, Waiting, Working, Dismissed, Spent}
use Rattle.baton.specs.declared.view.View.{View}
use Rattle.baton.specs.declared.view.Cargo.{Cargo}
use Rattle.baton.specs.declared.view.Cargo.TheVariants.{Question, Answer}
use Rattle.baton.specs.Moments.{view, word_of}

module _ {Q A : Type 0} where
  -- before the gate has a server
  abbrev pub alone : View Q A
  alone = view Sole [] (0, 0)

  -- it stands elsewhere, and knows the same turns
  abbrev pub moved : Stage Q A → View Q A → View Q A
  moved stage v = record v { stage = stage }

  -- there is a server now
  abbrev pub parted : View Q A → View Q A
  parted = moved Fresh

  abbrev pub newcomer : View Q A → View Q A
  newcomer v = view Waiting [] (0, 0)

  abbrev pub nobody : View Q A
  nobody = view Spent [] (0, 0)

  -- the asker keeps the turns of the server
  abbrev pub taken_back : View Q A → View Q A → View Q A
  taken_back v server = moved (Met server.turns) v

  -- a turn is whole
  abbrev pub gained : Stage Q A → Q → A → View Q A → View Q A
  gained stage q a v = record v { stage = stage; turns = v.turns ++ (q, a) ∷ [] }

  -- the answer was collected by a call that waits, or by one that doesn't
  abbrev pub collected : Bool → View Q A → View Q A
  collected true v = record v { waits = v.waits + 1 }
  collected false v = v

  -- there was no answer
  abbrev pub missed : Bool → View Q A → View Q A
  missed true v = v
  missed false v = record v { misses = v.misses + 1 }

-- what an end knows, and the slot if it has it in hand
abbrev pub Holder : Type 0 → Type 0 → Type 0 → Type 0 → Type 0
Holder X Y Q A = Me (Option (Cargo X Y)) (View Q A)

module _ {X Y Q A : Type 0} where
  abbrev pub Starts : Holder X Y Q A → ℕ → Holder X Y Q A → Type 0
  Starts m found w = w ≡ (moved Idle m.0, (0, None) ∷ [])

  abbrev pub Asks : (X → Q) → Holder X Y Q A → ℕ → Holder X Y Q A → Type 0
  Asks asked_of m found w = (x : X) → m.1 ≡ (0, Some (Question x)) ∷ [] → w ≡ (moved (Asked (asked_of x)) m.0, [])

  abbrev pub Takes : (X → Q) → (List (Q × A) → Q → Type 0) → Holder X Y Q A → ℕ → Holder X Y Q A → Type 0
  Takes asked_of may_ask m found w = MatchBool (found == word_of AskedPhase)
      ((x : X) × (m.0.stage ≡ Waiting) × may_ask m.0.turns (asked_of x) × (w ≡ (moved (Working (asked_of x)) m.0, (0, Some (Question x)) ∷ [])))
      (MatchBool (found == word_of ClosedPhase) (w ≡ (moved Dismissed m.0, m.1)) ((w ≡ m) × (found < 6)))

  abbrev pub Replies : (Y → A) → Holder X Y Q A → ℕ → Holder X Y Q A → Type 0
  Replies told_of m found w = (y : Y) → m.1 ≡ (0, Some (Answer y)) ∷ []
      → (q : Q) × (m.0.stage ≡ Working q) × (w ≡ (gained Waiting q (told_of y) m.0, []))

  abbrev pub Collects : (Y → A) → (List (Q × A) → Q → A → Type 0) → Bool → Holder X Y Q A → ℕ → Holder X Y Q A → Type 0
  Collects told_of may_answer waiting m found w = MatchBool (found == word_of AnsweredPhase)
      ((q : Q) × (y : Y) × (m.0.stage ≡ Asked q) × may_answer m.0.turns q (told_of y)
      × (w ≡ (collected waiting (gained Idle q (told_of y) m.0), (0, Some (Answer y)) ∷ [])))
      ((w ≡ (missed waiting m.0, m.1)) × (found < 6))

  abbrev pub Closes : Holder X Y Q A → ℕ → Holder X Y Q A → Type 0
  Closes m found w = w ≡ (moved Ended m.0, [])

  abbrev pub Learns : Holder X Y Q A → ℕ → Holder X Y Q A → Type 0
  Learns m found w = (ts : List (Q × A)) → m.0.stage ≡ Met ts → ts ≡ m.0.turns
