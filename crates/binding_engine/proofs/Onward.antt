-- What evaluations met that wait is met still as other places go on.
use Rattle.std.proofs.Common.{◌≡◌, Bool, true, false, ℕ, zero, suc, List, [], ◌∷◌, ◌++◌, refl, sym, ap, subst, ◌∙◌, slice_get}
use Rattle.std.specs.Prelude.{Option, None, Some, is_some, if◌then◌else◌}
use Rattle.qml_ast.specs.declared.eval_fault.EvalFault.{EvalFault}
use Rattle.qml_ast.specs.declared.place.Place.{Place}
use Rattle.qml_ast.specs.declared.value.Value.{Value}
use Rattle.settling.specs.Cells.{Cell, plain, resting, fresh, under_way, stopped, active, marked, suspended, value_of, clean, Step, begins, stops, ends, fails, suspends, Becomes}
use Rattle.settling.specs.Phases.{phase_of, begun, halted, left}
use Rattle.settling.specs.Holding.{Later}
use Rattle.settling.specs.declared.field.Phase.TheVariants.{Fresh, UnderWay, Stopped}
use Rattle.settling.proofs.Changes.{later_put}
use Rattle.settling.proofs.Steps.{becomes_clean, clean_value}
use Rattle.item_equations.specs.Asking.{sight}
use Rattle.item_equations.specs.Progress.{SeesMore, nothing_met}
use Rattle.item_equations.specs.declared.native.Native.{Native}
use Rattle.item_equations.specs.declared.progress.Progress.{Progress}
use Rattle.item_equations.proofs.Growing.{met_grows, nothing_is_met}
use Rattle.object_tree.specs.Reading.{value_read}
use Rattle.binding_engine.specs.Entries.{Entries, State, at, space, with_entry, entry_with, staged, failed}
use Rattle.binding_engine.specs.Equations.{family_of, native_at}
use Rattle.binding_engine.specs.Progress.{seeing, IsMetBy, IsMetAt, AreMet}
use Rattle.binding_engine.specs.declared.cells.Stage.TheVariants as stage
use Rattle.binding_engine.specs.declared.waiting.Waiting.{Waiting}
use Rattle.binding_engine.proofs.Moves as moves

-- ---- a state and a later one
module _ (s : State) (es : Entries) (later : Later space s (s.0, es)) where
  abbrev seen_of : Cell Value EvalFault → Option Value
  seen_of c = if is_some (clean c) then Some (value_read s.0 (value_of c)) else None

  seen_clean : (c : Cell Value EvalFault) (x : Value) → clean c ≡ Some x → seen_of c ≡ Some (value_read s.0 x)
  seen_clean c x h = rw h (ap (λ y. Some (value_read s.0 y)) (clean_value c h))

  seen_later : (c d : Cell Value EvalFault) → Becomes c d → (v : Value) → seen_of c ≡ Some v → seen_of d ≡ Some v
  seen_later c d becomes v h = by (clean c) refl
    where
      by : (o : Option Value) → clean c ≡ o → seen_of d ≡ Some v
      by None e = absurd (let no : None ≡ Some v = rw e at h in cc)
      by (Some x) e = seen_clean d x (becomes_clean becomes e) ∙ sym (seen_clean c x e) ∙ h

  sees_more : SeesMore (seeing s) (seeing (s.0, es))
  unfolding sight
  sees_more p v h = seen_later (at s p) (at (s.0, es) p) (later p) v h

  met_by_later : (place : Place) (far : Progress) (n : Option Native) → IsMetBy s place far n → IsMetBy (s.0, es) place far n
  met_by_later place far None h = tt
  met_by_later place far (Some n) h = met_grows (seeing s) (seeing (s.0, es)) sees_more (family_of s.0) n place.serial far h

  met_later : (ws : List Waiting) → AreMet s ws → AreMet (s.0, es) ws
  met_later [] h = tt
  met_later (w ∷ ws) h = (met_by_later w.place w.progress (native_at s.0 w.place) h.0, met_later ws h.1)

-- ---- the steps of a place
step_begun : (c : Cell Value EvalFault) → phase_of c ≡ Fresh → Step c (begun c)
step_begun (plain k) h = absurd cc
step_begun (resting k) h = absurd cc
step_begun (fresh k) h = begins k refl refl
step_begun (under_way k) h = absurd cc
step_begun (stopped k) h = absurd cc
step_begun (active v) h = absurd cc
step_begun (marked v f) h = absurd cc
step_begun (suspended k) h = absurd cc

step_left : (c : Cell Value EvalFault) → phase_of c ≡ Stopped → Step c (left c)
step_left (plain k) h = absurd cc
step_left (resting k) h = absurd cc
step_left (fresh k) h = absurd cc
step_left (under_way k) h = absurd cc
step_left (stopped k) h = suspends k refl refl
step_left (active v) h = absurd cc
step_left (marked v f) h = absurd cc
step_left (suspended k) h = absurd cc

-- an evaluation that is under way is stopped, or gives its value, or has its fault
record Ways (c : Cell Value EvalFault) : Type 0 where
  halts : Step c (halted c)
  gives : (v : Value) → Step c (active v)
  faults : (f : EvalFault) → Step c (marked (value_of c) f)

ways : (c : Cell Value EvalFault) → phase_of c ≡ UnderWay → Ways c
ways (plain k) h = absurd cc
ways (resting k) h = absurd cc
ways (fresh k) h = absurd cc
ways (under_way k) h = record { halts = stops k refl refl; gives = λ v. ends k v refl refl; faults = λ f. fails k f refl refl }
ways (stopped k) h = absurd cc
ways (active v) h = absurd cc
ways (marked v f) h = absurd cc
ways (suspended k) h = absurd cc

module _ (s : State) (p : Place) (ws : List Waiting) (met : AreMet s ws) where
  met_put : (c : Cell Value EvalFault) → Step (at s p) c → AreMet (space.put s p c) ws
  met_put c step = met_later s (space.put s p c).1 (later_put space {s = s} {p = p} {c = c} step) ws met

  pub met_begun : phase_of (at s p) ≡ Fresh → AreMet (s.0, staged p stage.UnderWay s.1) ws
  met_begun h = subst (λ (t : State). AreMet t ws) (sym (moves.begins s p h)) (met_put (begun (at s p)) (step_begun (at s p) h))

  pub met_halted : phase_of (at s p) ≡ UnderWay → AreMet (s.0, staged p stage.Stopped s.1) ws
  met_halted h = subst (λ (t : State). AreMet t ws) (sym (moves.stops s p h)) (met_put (halted (at s p)) (ways (at s p) h).halts)

  pub met_left : phase_of (at s p) ≡ Stopped → AreMet (s.0, staged p stage.Suspended s.1) ws
  met_left h = subst (λ (t : State). AreMet t ws) (sym (moves.gives_up s p h)) (met_put (left (at s p)) (step_left (at s p) h))

  pub met_valued : (v : Value) → phase_of (at s p) ≡ UnderWay → AreMet (s.0, with_entry p (entry_with stage.Active v None) s.1) ws
  met_valued v h = met_put (active v) ((ways (at s p) h).gives v)

  pub met_failed : (f : EvalFault) → phase_of (at s p) ≡ UnderWay → AreMet (s.0, failed p f s.1) ws
  met_failed f h = subst (λ (t : State). AreMet t ws) (sym (moves.fails s p f)) (met_put (marked (value_of (at s p)) f) ((ways (at s p) h).faults f))

-- ---- what waits
module _ (s : State) where
  pub nothing_met_at : (place : Place) → IsMetAt s place nothing_met
  nothing_met_at place = by (native_at s.0 place)
    where
      by : (n : Option Native) → IsMetBy s place nothing_met n
      by None = tt
      by (Some n) = nothing_is_met (seeing s) (family_of s.0) n place.serial

  -- one of those that wait
  pub met_at : (ws : List Waiting) (i : ℕ) (w : Waiting) → slice_get ws i ≡ Some w → AreMet s ws → IsMetAt s w.place w.progress
  met_at [] i w h met = absurd cc
  met_at (x ∷ xs) zero w h met =
      let same : x ≡ w = cc in
      subst (λ (y : Waiting). IsMetAt s y.place y.progress) same met.0
  met_at (x ∷ xs) (suc i) w h met = met_at xs i w h met.1

  -- the first ones
  pub met_first : (ws rest : List Waiting) → AreMet s (ws ++ rest) → AreMet s ws
  met_first [] rest met = tt
  met_first (w ∷ ws) rest met = (met.0, met_first ws rest met.1)

  -- with one more at the end
  met_more : (ws : List Waiting) (place : Place) (far : Progress) → AreMet s ws → IsMetAt s place far → AreMet s (ws ++ record { place = place; progress = far } ∷ [])
  met_more [] place far met one = (one, tt)
  met_more (w ∷ ws) place far met one = (met.0, met_more ws place far met.1 one)

  -- one more is put at the end, or not
  pub met_pushed : (ws : List Waiting) (place : Place) (far : Progress) (b : Bool) → AreMet s ws → IsMetAt s place far →
      AreMet s (if b then ws ++ record { place = place; progress = far } ∷ [] else ws)
  met_pushed ws place far true met one = met_more ws place far met one
  met_pushed ws place far false met one = met
