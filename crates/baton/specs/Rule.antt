-- The rule of a gate, which is so between any two of its steps.
use Rattle.std.specs.Prelude.{◌≡◌, ℕ, List, [], ◌∷◌, Option, Some, None}
use mathlib.Core.Option.{Option as Home, some, none}
use Rattle.atomic_table.specs.Table.{State}
use Rattle.baton.specs.declared.view.View.{View}
use Rattle.baton.specs.declared.view.Cargo.{Cargo}
use Rattle.baton.specs.declared.view.Cargo.TheVariants.{Question, Answer}
use Rattle.baton.specs.Moments.{Moment, sole, fresh, idle, asked, working, answered, closed, parted, joined, word_of, phase_at, asker_at, server_at}

module _ {X Y Q A : Type 0} (asked_of : X → Q) (told_of : Y → A) (may_ask : List (Q × A) → Q → Type 0) (may_answer : List (Q × A) → Q → A → Type 0) where
  -- what lies in the slot, if it is at home
  abbrev pub HomeAt : Home (Option (Cargo X Y)) → Moment Q A → Type 0
  HomeAt home sole = home ≡ some None
  HomeAt home fresh = home ≡ some None
  HomeAt home (idle ts) = home ≡ none
  HomeAt home (asked ts q) = (x : X) × (home ≡ some (Some (Question x))) × (asked_of x ≡ q) × may_ask ts q
  HomeAt home (working ts q) = home ≡ none
  HomeAt home (answered ts q a) = (y : Y) × (home ≡ some (Some (Answer y))) × (told_of y ≡ a) × may_answer ts q a
  HomeAt home (closed ts) = home ≡ some None
  HomeAt home (parted ts) = home ≡ some None
  HomeAt home (joined ts) = home ≡ some None

  -- the gate is at some moment
  pub record Kept (s : State (Option (Cargo X Y)) (View Q A)) : Type 0 where
    pub moment : Moment Q A
    pub counts : ℕ × ℕ
    pub home : Home (Option (Cargo X Y))
    pub words : s.words ≡ word_of (phase_at moment) ∷ []
    pub homes : s.homes ≡ home ∷ []
    pub views : s.views ≡ asker_at counts moment ∷ server_at moment
    pub fits : HomeAt home moment
