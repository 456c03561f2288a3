-- Where an end stands, by cases, so that it computes at each moment.
use Rattle.baton.specs.declared.view.Stage.{Stage}
use Rattle.baton.specs.declared.view.Stage.TheVariants.{Sole, Fresh, Idle, Ended, Met, Dismissed}

module _ {Q A : Type 0} where
  abbrev pub IsSole : Stage Q A → Type 0
  IsSole Sole = Unit {0}
  IsSole _ = ⊥

  abbrev pub IsFresh : Stage Q A → Type 0
  IsFresh Fresh = Unit {0}
  IsFresh _ = ⊥

  abbrev pub IsIdle : Stage Q A → Type 0
  IsIdle Idle = Unit {0}
  IsIdle _ = ⊥

  abbrev pub IsEnded : Stage Q A → Type 0
  IsEnded Ended = Unit {0}
  IsEnded _ = ⊥

  abbrev pub IsDismissed : Stage Q A → Type 0
  IsDismissed Dismissed = Unit {0}
  IsDismissed _ = ⊥

  abbrev pub IsMet : Stage Q A → Type 0
  IsMet (Met ts) = Unit {0}
  IsMet _ = ⊥
