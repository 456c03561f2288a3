-- A settle leaves the store of a state as it is: what it finds stands in the entries.
use Rattle.std.proofs.Common.{◌≡◌, ℕ, zero, suc, List, [], ◌∷◌, length}
use Rattle.qml_ast.specs.declared.eval_fault.EvalFault.{EvalFault}
use Rattle.qml_ast.specs.declared.place.Place.{Place}
use Rattle.qml_ast.specs.declared.value.Value.{Value}
use Rattle.settling.specs.Runs.{Run, gives, faults, asks}
use Rattle.settling.specs.Cells.{Kept, Cell, plain, resting, fresh, under_way, stopped, active, marked, suspended, value_of}
use Rattle.settling.specs.Settling.{controlled, run, entered, visit, visits, settled}
use Rattle.object_tree.specs.Store.{Store}
use Rattle.binding_engine.specs.Entries.{State, at, space}

module _ (store : Store) where
  abbrev Stays : State → Type 0
  Stays s = s.0 ≡ store

  controlled_stays : (c : Cell Value EvalFault) (p : Place) (s : State) (go : Kept Value EvalFault → State) → Stays s → ((k : Kept Value EvalFault) → Stays (go k)) → Stays (controlled space c p s go)
  controlled_stays (plain k) p s go h rest = h
  controlled_stays (resting k) p s go h rest = h
  controlled_stays (fresh k) p s go h rest = h
  controlled_stays (under_way k) p s go h rest = rest k
  controlled_stays (stopped k) p s go h rest = h
  controlled_stays (active v) p s go h rest = h
  controlled_stays (marked v f) p s go h rest = h
  controlled_stays (suspended k) p s go h rest = h

  entered_stays : (c : Cell Value EvalFault) (p : Place) (s : State) (go : State → State) → Stays s → ((m : State) → Stays m → Stays (go m)) → Stays (entered space c p s go)
  entered_stays (plain k) p s go h rest = h
  entered_stays (resting k) p s go h rest = h
  entered_stays (fresh k) p s go h rest = rest (space.put s p (under_way k)) h
  entered_stays (under_way k) p s go h rest = h
  entered_stays (stopped k) p s go h rest = h
  entered_stays (active v) p s go h rest = h
  entered_stays (marked v f) p s go h rest = h
  entered_stays (suspended k) p s go h rest = h

  run_stays : (v : Place → State → State) → ((q : Place) (m : State) → Stays m → Stays (v q m)) → (p : Place) (r : Run Place Value EvalFault) (s : State) → Stays s → Stays (run space v p r s)
  unfolding run
  run_stays v each p (gives x) s h = controlled_stays (at s p) p s (λ k. space.put s p (active x)) h (λ k. h)
  run_stays v each p (faults f) s h = controlled_stays (at s p) p s (λ k. space.put s p (marked k.value f)) h (λ k. h)
  run_stays v each p (asks q next) s h =
      controlled_stays (at s p) p s (λ k. run space v p (next (value_of (at (v q s) q))) (v q s)) h (λ k. run_stays v each p (next (value_of (at (v q s) q))) (v q s) (each q s h))

  module _ (tree : Place → Run Place Value EvalFault) where
    visit_stays : (most : ℕ) (p : Place) (s : State) → Stays s → Stays (visit space tree most p s)
    unfolding visit
    visit_stays zero p s h = entered_stays (at s p) p s (λ m. m) h (λ m g. g)
    visit_stays (suc most) p s h = entered_stays (at s p) p s (run space (visit space tree most) p (tree p)) h (run_stays (visit space tree most) (visit_stays most) p (tree p))

    visits_stay : (most : ℕ) (ps : List Place) (s : State) → Stays s → Stays (visits space tree most ps s)
    unfolding visits
    visits_stay most [] s h = h
    visits_stay most (p ∷ ps) s h = visits_stay most ps (visit space tree most p s) (visit_stays most p s h)

    pub settled_stays : (ps : List Place) (s : State) → Stays s → Stays (settled space tree ps s)
    unfolding settled
    settled_stays ps s h = visits_stay (length ps) ps s h
