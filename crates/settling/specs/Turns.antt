-- One turn of the loop that settles. No public clause cites this module.
use Rattle.std.specs.Prelude.{◌≡◌, if◌then◌else◌, List, [], ◌∷◌, ◌++◌, Some, None}
use Rattle.settling.specs.Runs.{Run}
use Rattle.settling.specs.Cells.{Kept, fresh, under_way, stopped, suspended}
use Rattle.settling.specs.Spaces.{Space}
use Rattle.settling.specs.Evaluations.{evaluated}

module _ {S P V F : Type 0} (space : Space S P V F) where
  -- the places after this one
  abbrev pub above : P → List P → List P
  above p [] = []
  above p (q ∷ qs) = if space.are_same q p then qs else above p qs

-- A place that has no value yet is needed: its evaluation begins; or it is under way, and a loop is found.
pub data Meets {S P V F : Type 0} (space : Space S P V F) (q : P) (stack : List P) (s : S) (loops : List (P × List P)) (stack' : List P) (t : S) (loops' : List (P × List P)) : Type 0 where
  enters : (k : Kept V F) → space.at s q ≡ fresh k → t ≡ space.put s q (under_way k) → stack' ≡ stack ++ q ∷ [] → loops' ≡ loops
      → Meets space q stack s loops stack' t loops'
  stops : (k : Kept V F) → space.at s q ≡ under_way k → t ≡ space.put s q (stopped k) → stack' ≡ stack → loops' ≡ loops ++ (q, above space q stack) ∷ []
      → Meets space q stack s loops stack' t loops'

-- A place is taken from the stack: it is suspended where it was read meanwhile; or its evaluation ends; or it needs a place that has no value yet.
pub data Turns {S P V F : Type 0} (space : Space S P V F) (tree : P → Run P V F) (top : P) (below : List P) (s : S) (loops : List (P × List P)) (stack' : List P) (t : S) (loops' : List (P × List P)) : Type 0 where
  gives_up : (k : Kept V F) → space.at s top ≡ stopped k → t ≡ space.put s top (suspended k) → stack' ≡ below → loops' ≡ loops
      → Turns space tree top below s loops stack' t loops'
  comes_to_end : (k : Kept V F) → space.at s top ≡ under_way k → evaluated space top (tree top) s ≡ (None, t) → stack' ≡ below → loops' ≡ loops
      → Turns space tree top below s loops stack' t loops'
  needs : (k : Kept V F) (q : P) (m : S) → space.at s top ≡ under_way k → evaluated space top (tree top) s ≡ (Some q, m) → Meets space q (below ++ top ∷ []) m loops stack' t loops'
      → Turns space tree top below s loops stack' t loops'
