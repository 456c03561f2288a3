-- Faults are found in the order of places.
use Rattle.std.proofs.Common.{◌≡◌, true, List, [], ◌∷◌, ◌++◌}
use Rattle.std.specs.Prelude.{Option, None, Some, fold}
use Rattle.qml_ast.specs.declared.eval_fault.EvalFault.{EvalFault}
use Rattle.qml_ast.specs.declared.place.Place.{Place}
use Rattle.object_tree.specs.Order.{is_before, AllAfter, AreRising}
use Rattle.object_tree.specs.Reading.{held_at}
use Rattle.object_tree.specs.Store.{Store}
use Rattle.binding_engine.specs.Findings.{new_mark, with_noted, with_fault, faulted_in, faulted_from, places_faulted}
use Rattle.binding_engine.specs.Equations.{equated}
use Rattle.binding_engine.specs.Settling.{settled_from}
use Rattle.settling.specs.Cells.{mark_of}
use Rattle.binding_engine.specs.Standing.{kept_in}

abbrev Faults : Type 0
Faults = List (Place × EvalFault)

-- each of these comes before all those places
abbrev Before : Faults → List Place → Type 0
Before [] ps = Unit {0}
Before (f ∷ fs) ps = AllAfter f.0 ps × Before fs ps

before_rest : (fs : Faults) (p : Place) (ps : List Place) → Before fs (p ∷ ps) → Before fs ps
before_rest [] p ps h = tt
before_rest (f ∷ fs) p ps h = (h.0.1, before_rest fs p ps h.1)

before_one : (fs : Faults) (p : Place) (f : EvalFault) (ps : List Place) → Before fs ps → AllAfter p ps → Before (fs ++ (p, f) ∷ []) ps
before_one [] p f ps h a = (a, tt)
before_one (g ∷ gs) p f ps h a = (h.0, before_one gs p f ps h.1 a)

after_one : (q : Place) (fs : Faults) (p : Place) (f : EvalFault) → AllAfter q (places_faulted fs) → is_before q p ≡ true → AllAfter q (places_faulted (fs ++ (p, f) ∷ []))
after_one q [] p f h b = (b, tt)
after_one q (g ∷ gs) p f h b = (h.0, after_one q gs p f h.1 b)

rising_one : (fs : Faults) (p : Place) (f : EvalFault) (ps : List Place) → AreRising (places_faulted fs) → Before fs (p ∷ ps) → AreRising (places_faulted (fs ++ (p, f) ∷ []))
rising_one [] p f ps h b = (tt, tt)
rising_one (g ∷ gs) p f ps h b = (after_one g.0 gs p f h.0 b.0.0, rising_one gs p f ps h.1 b.1)

module _ (marks : Place → Option EvalFault) (store : Store) where
  rises : (ps : List Place) (fs : Faults) → AreRising (places_faulted fs) → Before fs ps → AreRising ps → AreRising (places_faulted (fold (with_fault marks store) fs ps))
  rises [] fs h b r = h
  rises (p ∷ ps) fs h b r = rises ps (with_fault marks store fs p) (still (new_mark (marks p) (kept_in (held_at p store)).mark)) (before (new_mark (marks p) (kept_in (held_at p store)).mark)) r.1
    where
      still : (o : Option EvalFault) → AreRising (places_faulted (with_noted fs p o))
      still None = h
      still (Some f) = rising_one fs p f ps h b

      before : (o : Option EvalFault) → Before (with_noted fs p o) ps
      before None = before_rest fs p ps b
      before (Some f) = before_one fs p f ps (before_rest fs p ps b) r.0

  pub faults_rise : (ps : List Place) → AreRising ps → AreRising (places_faulted (faulted_in marks store ps))
  faults_rise ps r = rises ps [] tt tt r

-- those of a store whose places get settled rise
pub faulted_rises : (store : Store) → AreRising (equated store) → AreRising (places_faulted (faulted_from store))
unfolding faulted_from
faulted_rises store r = faults_rise (λ place. mark_of (settled_from store place)) store (equated store) r
