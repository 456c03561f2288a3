-- The moments of a gate: each is one that may be between two of its steps, with the word, what each end knows, and no more.
use Rattle.std.specs.Prelude.{ℕ, List, [], ◌∷◌, ◌++◌}
use Rattle.baton.specs.declared.phase.Phase.{Phase}
use Rattle.baton.specs.declared.phase.Phase.TheVariants.{Fresh as FreshPhase, Idle as IdlePhase, Asked as AskedPhase, Working as WorkingPhase, Answered as AnsweredPhase, Closed as ClosedPhase}
use Rattle.baton.specs.declared.view.Stage.{Stage}
use Rattle.baton.specs.declared.view.Stage.TheVariants.{Sole, Fresh, Idle, Asked, Ended, Met, Waiting, Working, Dismissed, Spent}
use Rattle.baton.specs.declared.view.View.{View}

-- `ts` are the turns that are over for the asker
pub data Moment (Q A : Type 0) : Type 0 where
  sole : Moment Q A
  fresh : Moment Q A
  idle : List (Q × A) → Moment Q A
  asked : List (Q × A) → Q → Moment Q A
  working : List (Q × A) → Q → Moment Q A
  answered : List (Q × A) → Q → A → Moment Q A
  closed : List (Q × A) → Moment Q A
  parted : List (Q × A) → Moment Q A
  joined : List (Q × A) → Moment Q A

-- how the word has a phase
abbrev pub word_of : Phase → ℕ
word_of FreshPhase = 0
word_of IdlePhase = 1
word_of AskedPhase = 2
word_of WorkingPhase = 3
word_of AnsweredPhase = 4
word_of ClosedPhase = 5

module _ {Q A : Type 0} where
  abbrev pub phase_at : Moment Q A → Phase
  phase_at sole = FreshPhase
  phase_at fresh = FreshPhase
  phase_at (idle ts) = IdlePhase
  phase_at (asked ts q) = AskedPhase
  phase_at (working ts q) = WorkingPhase
  phase_at (answered ts q a) = AnsweredPhase
  phase_at (closed ts) = ClosedPhase
  phase_at (parted ts) = ClosedPhase
  phase_at (joined ts) = ClosedPhase

  -- the counts are the misses and the waits
  abbrev pub view : Stage Q A → List (Q × A) → ℕ × ℕ → View Q A
  view stage ts counts = record { stage = stage; turns = ts; misses = counts.0; waits = counts.1 }

  abbrev pub asker_at : ℕ × ℕ → Moment Q A → View Q A
  asker_at counts sole = view Sole [] counts
  asker_at counts fresh = view Fresh [] counts
  asker_at counts (idle ts) = view Idle ts counts
  asker_at counts (asked ts q) = view (Asked q) ts counts
  asker_at counts (working ts q) = view (Asked q) ts counts
  asker_at counts (answered ts q a) = view (Asked q) ts counts
  asker_at counts (closed ts) = view Ended ts counts
  asker_at counts (parted ts) = view Ended ts counts
  asker_at counts (joined ts) = view (Met ts) ts counts

  -- the server's lists are the asker's, and with the turn that the asker has yet to collect once it is answered
  abbrev pub server_at : Moment Q A → List (View Q A)
  server_at sole = []
  server_at fresh = view Waiting [] (0, 0) ∷ []
  server_at (idle ts) = view Waiting ts (0, 0) ∷ []
  server_at (asked ts q) = view Waiting ts (0, 0) ∷ []
  server_at (working ts q) = view (Working q) ts (0, 0) ∷ []
  server_at (answered ts q a) = view Waiting (ts ++ (q, a) ∷ []) (0, 0) ∷ []
  server_at (closed ts) = view Waiting ts (0, 0) ∷ []
  server_at (parted ts) = view Dismissed ts (0, 0) ∷ []
  server_at (joined ts) = view Spent [] (0, 0) ∷ []
