-- What is so of the loop of one visit, from turn to turn.
use Rattle.std.proofs.Common.{◌≡◌, ◌<◌, Bool, true, false, ◌||◌, List, [], ◌∷◌, ◌++◌, Some, refl, sym, ap, subst, ◌∙◌}
use Rattle.std.proofs.lemmas.List.Folds.{list_any-append}
use Rattle.settling.specs.Runs.{Run}
use Rattle.settling.specs.Cells.{Kept, Cell, plain, resting, fresh, under_way, stopped, active, marked, suspended, clean, is_fresh, is_open}
use Rattle.settling.specs.Cells as cells
use Rattle.settling.specs.Spaces.{Space, is_among}
use Rattle.settling.specs.Settling.{done, first}
use Rattle.settling.specs.Phases.{phase_of, Moves, begun}
use Rattle.settling.specs.declared.field.Phase.TheVariants.{Fresh}
use Rattle.settling.specs.Turns.{Turns}
use Rattle.settling.specs.Stacks.{Stands, IsWithin, IsVisited}
use Rattle.settling.proofs.Visited.{runs_clean}
use Rattle.settling.proofs.Once.{runs_at}
use Rattle.settling.proofs.Unwinding.{Unwinds, turns_unwind}
use Rattle.settling.proofs.Standing.{push_stands, turns_stand}
use Rattle.settling.proofs.Measure.{waiting, moved_later, moved_falls, within_later, turns_move}
use Rattle.settling.proofs.Calls.{fresh_by}

module _ {S P V F : Type 0} (space : Space S P V F) (tree : P → Run P V F) (places : List P) where
  -- Once the stack unwinds the place was visited. The stack and the loops stand.
  pub record IsGoing (start : S) (place : P) (stack : List P) (s : S) (loops : List (P × List P)) : Type 0 where
    pub visits : (u : S) → Unwinds space tree stack s u → IsVisited space tree start place u
    pub stands : Stands space tree stack s loops
    pub within : IsWithin space places s

  pub going_first : (place : P) (s t : S) (loops : List (P × List P)) (k : Kept V F) → Stands space tree [] s loops → IsWithin space places s
      → space.at s place ≡ fresh k → t ≡ space.put s place (under_way k) → IsGoing s place (place ∷ []) t loops
  going_first place s t loops k stands within e i = record {
    visits = λ u w.
        let r = runs_at space tree refl (w.1 ∙ i) w.2 in
        let clean = runs_clean space tree r in
        (clean.0, first k e r clean.1);
    stands = push_stands space tree [] place s t loops k stands e i (λ u l. tt);
    within = within_later space places within (moved_later space (record { place = place; cell = under_way k; step = cells.begins k e refl; put = i }));
  }

  pub going_on : (start : S) (place top : P) (below : List P) (s : S) (loops : List (P × List P)) (stack : List P) (t : S) (loops' : List (P × List P))
      → IsGoing start place (below ++ top ∷ []) s loops → Turns space tree top below s loops stack t loops' → IsGoing start place stack t loops'
  going_on start place top below s loops stack t loops' h turn = record {
    visits = λ u w. h.visits u (turns_unwind space tree top below s loops stack t loops' turn u w);
    stands = turns_stand space tree top below s loops stack t loops' h.stands turn;
    within = within_later space places h.within (moved_later space (turns_move space tree top below s loops stack t loops' turn));
  }

  -- the place at the top of the stack is one whose evaluation is under way
  pub top_open : (top : P) (below : List P) (s : S) (loops : List (P × List P)) → Stands space tree (below ++ top ∷ []) s loops → is_open (space.at s top) ≡ true
  top_open top below s loops h =
      h.opens top ∙ list_any-append (λ y. space.are_same y top) below (top ∷ [])
      ∙ ap (λ (b : Bool). is_among space below top || (b || false)) (space.itself top) ∙ or_true (is_among space below top)
    where
      or_true : (b : Bool) → (b || true) ≡ true
      or_true true = refl
      or_true false = refl

  pub going_ended : (start : S) (place : P) (s : S) (loops : List (P × List P)) → IsGoing start place [] s loops → IsVisited space tree start place s
  going_ended start place s loops h = h.visits s refl

  going_as : (start : S) (place : P) (stack stack' : List P) (s : S) (loops : List (P × List P)) → stack ≡ stack' → IsGoing start place stack s loops
      → IsGoing start place stack' s loops
  going_as start place stack stack' s loops e h = subst (λ (x : List P). IsGoing start place x s loops) e h

  -- the first evaluation of a visit is under way
  pub going_enters : (place : P) (s t : S) (loops : List (P × List P)) (old stack : List P) → Stands space tree [] s loops → IsWithin space places s
      → phase_of (space.at s place) ≡ Fresh → Moves space begun s place t → old ≡ [] → stack ≡ old ++ place ∷ [] → IsGoing s place stack t loops
  going_enters place s t loops old stack stands within phase moves none pushed =
      let cell = fresh_by space (space.at s place) phase in
      going_as s place (place ∷ []) stack t loops (sym (pushed ∙ ap (λ (xs : List P). xs ++ place ∷ []) none))
      (going_first place s t loops cell.0 stands within cell.1 (moves ∙ ap (λ (c : Cell V F). space.put s place (begun c)) cell.1))

  -- a turn, for expressions that are the same as before
  pub going_turn : (other : P → Run P V F) (start : S) (place top : P) (all below : List P) (s : S) (loops : List (P × List P)) (stack : List P) (t : S)
      (loops' : List (P × List P)) → other ≡ tree → all ≡ below ++ top ∷ [] → IsGoing start place all s loops → Turns space other top below s loops stack t loops'
      → IsGoing start place stack t loops' × (waiting space places t < waiting space places s)
  going_turn other start place top all below s loops stack t loops' same popped h turn =
      let turned : Turns space tree top below s loops stack t loops' = subst (λ (x : P → Run P V F). Turns space x top below s loops stack t loops') same turn in
      let before = going_as start place all (below ++ top ∷ []) s loops popped h in (
        going_on start place top below s loops stack t loops' before turned,
        moved_falls space places before.within (turns_move space tree top below s loops stack t loops' turned),
      )

  pub going_top : (start : S) (place top : P) (all below : List P) (s : S) (loops : List (P × List P)) → all ≡ below ++ top ∷ [] → IsGoing start place all s loops
      → is_open (space.at s top) ≡ true
  going_top start place top all below s loops popped h =
      top_open top below s loops (going_as start place all (below ++ top ∷ []) s loops popped h).stands

  closed_clean : (c : Cell V F) → is_fresh c ≡ false → is_open c ≡ false → (v : V) × (clean c ≡ Some v)
  closed_clean (plain k) f o = (k.value, refl)
  closed_clean (resting k) f o = (k.value, refl)
  closed_clean (fresh k) f o = cc
  closed_clean (under_way k) f o = cc
  closed_clean (stopped k) f o = (k.value, refl)
  closed_clean (active v) f o = (v, refl)
  closed_clean (marked v g) f o = (v, refl)
  closed_clean (suspended k) f o = (k.value, refl)

  -- a visit to a place that has ended
  pub ended_visited : (place : P) (s : S) (loops : List (P × List P)) → Stands space tree [] s loops → is_fresh (space.at s place) ≡ false → IsVisited space tree s place s
  ended_visited place s loops h f = let value = closed_clean (space.at s place) f (h.opens place) in (value.0, done value.1 refl)
