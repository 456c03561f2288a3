-- The two ends of a gate, as contracts see them.
use Rattle.std.specs.Prelude.{◌≡◌, ℕ, List, [], ◌∷◌, ◌++◌, Option, None}
use Rattle.atomic_table.specs.Table.{Me}
use Rattle.atomic_table.specs.Seated.{TableId}
use Rattle.baton.specs.declared.view.Stage.{Stage}
use Rattle.baton.specs.declared.view.Stage.TheVariants.{Idle, Asked, Waiting, Working, Dismissed}
use Rattle.baton.specs.declared.view.View.{View}

-- One end of a gate: which gate it is, where this end stands, and the turns that are whole for it.
-- `misses` counts how often the asker looked without waiting and found a phase other than Answered, and `waits` the answers that it waited for; a server has 0 of both
pub record Side (Q A : Type 0) : Type 0 where
  pub gate : TableId
  pub stage : Stage Q A
  pub turns : List (Q × A)
  pub misses : ℕ
  pub waits : ℕ

module _ {Q A : Type 0} where
  abbrev pub side_of : TableId → View Q A → Side Q A
  side_of gate v = record { gate = gate; stage = v.stage; turns = v.turns; misses = v.misses; waits = v.waits }

  -- no turn so far
  abbrev pub unused : TableId → Stage Q A → Side Q A
  unused gate stage = record { gate = gate; stage = stage; turns = []; misses = 0; waits = 0 }

  -- the end serves, and was not taken back
  abbrev pub IsServer : Stage Q A → Type 0
  IsServer Waiting = Unit {0}
  IsServer (Working q) = Unit {0}
  IsServer Dismissed = Unit {0}
  IsServer _ = ⊥

  -- a question is out
  abbrev pub IsAsked : Stage Q A → Type 0
  IsAsked (Asked q) = Unit {0}
  IsAsked _ = ⊥

  -- no question was taken that isn't answered
  abbrev pub MayTake : Stage Q A → Type 0
  MayTake Waiting = Unit {0}
  MayTake Dismissed = Unit {0}
  MayTake _ = ⊥

  -- a question was taken, for which this answer is lawful
  abbrev pub MayAnswerAt : (Q → A → Type 0) → Stage Q A → A → Type 0
  MayAnswerAt may (Working q) a = may q a
  MayAnswerAt may _ a = ⊥

  abbrev pub MayAnswer : (List (Q × A) → Q → A → Type 0) → Side Q A → A → Type 0
  MayAnswer may_answer side a = MayAnswerAt (may_answer side.turns) side.stage a

  -- the open question, and its turn with this answer
  abbrev pub Gains : (List (Q × A) → Q → A → Type 0) → ℕ → Side Q A → A → Side Q A → Type 0
  Gains may_answer waits old a new = (q : Q) × (old.stage ≡ Asked q) × may_answer old.turns q a
      × (new ≡ record old { stage = Idle; turns = old.turns ++ (q, a) ∷ []; waits = waits })

  -- the server's question, and its turn with this answer
  abbrev pub Serves : Side Q A → A → Side Q A → Type 0
  Serves old a new = (q : Q) × (old.stage ≡ Working q) × (new ≡ record old { stage = Waiting; turns = old.turns ++ (q, a) ∷ [] })

  -- the empty slot, where the end is one that has it in hand
  abbrev pub InHand : {S : Type 0} → Stage Q A → List (ℕ × Option S) → Type 0
  InHand Idle carried = carried ≡ (0, None) ∷ []
  InHand (Working q) carried = carried ≡ (0, None) ∷ []
  InHand _ carried = carried ≡ []

  -- the end sits at a table of one word and one slot
  abbrev pub Sits : {S : Type 0} → TableId → TableId → Me (Option S) (View Q A) → Type 0
  Sits table of me = (of ≡ table) × (table.words ≡ 1) × (table.slots ≡ 1) × InHand me.0.stage me.1
