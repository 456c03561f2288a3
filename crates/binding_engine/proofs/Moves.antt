-- What the calls of a field make of entries.
use Rattle.std.proofs.Common.{◌≡◌, Bool, true, false, [], ◌∷◌, refl, sym, ap, ◌∙◌}
use Rattle.std.specs.Prelude.{Option, None, Some, if◌then◌else◌}
use Rattle.std.specs.Map.{lookup, set_value}
use Rattle.qml_ast.specs.declared.eval_fault.EvalFault.{EvalFault}
use Rattle.qml_ast.specs.declared.place.Place.{Place}
use Rattle.qml_ast.specs.declared.value.Value.{Value}
use Rattle.qml_ast.specs.declared.value.Value.TheVariants.{Obj}
use Rattle.expr_eval.specs.Traces.{are_same}
use Rattle.expr_eval.specs.Trees.{Tree}
use Rattle.settling.specs.Cells.{marked, value_of}
use Rattle.settling.specs.Evaluations.{has_value, has_fault, has_need, walk, written, evaluated}
use Rattle.settling.specs.Phases.{phase_of, begun, halted, left, Moves}
use Rattle.settling.specs.declared.field.Phase.TheVariants.{Fresh, UnderWay, Stopped}
use Rattle.object_tree.specs.declared.property.Held.{Held}
use Rattle.object_tree.specs.Reading.{is_live, held_at, value_read}
use Rattle.object_tree.specs.Store.{Store}
use Rattle.binding_engine.specs.Entries.{Entries, State, at, space, entry_at, with_entry, entry_with, entry_of, cell_of, cell_in, staged_by, staged, failed_by, failed}
use Rattle.binding_engine.specs.declared.cells.Entry.{Entry}
use Rattle.binding_engine.specs.declared.cells.Stage.{Stage}
use Rattle.binding_engine.specs.declared.cells.Stage.TheVariants as stage

-- where there is no entry, none is put
pub not_set : (p : Place) (e : Entry) (es : Entries) → entry_at p es ≡ None → es ≡ with_entry p e es
not_set p e [] h = refl
not_set p e (x ∷ es) h = by (are_same p x.0) refl (λ g. not_set p e es g)
  where
    by : (b : Bool) → are_same p x.0 ≡ b → (entry_at p es ≡ None → es ≡ with_entry p e es) → x ∷ es ≡ with_entry p e (x ∷ es)
    by true is rest = absurd (let no : Some x.1 ≡ None = rw is at h in cc)
    by false is rest = rw is (ap (λ ys. x ∷ ys) (rest (rw is at h)))

-- an entry with another stage in its place, where this test is that of the place
pub set_staged : (test : Place → Bool) (p : Place) (s : Stage) (whole es after : Entries) (e new : Entry) → ((q : Place) → test q ≡ are_same p q) → es ≡ whole → Some e ≡ lookup test es → new ≡ entry_with s e.value e.mark → after ≡ set_value test es new → after ≡ staged p s whole
unfolding staged
set_staged test p s whole es after e new tests same found is put =
    let one : test ≡ are_same p = λ i q. tests q i in
    put ∙ ap (λ (x : Entry). set_value test es x) is ∙ ap (λ (t : Place → Bool). set_value t es (entry_with s e.value e.mark)) one
    ∙ ap (λ (o : Option Entry). staged_by o p s es) (found ∙ ap (λ (t : Place → Bool). lookup t es) one) ∙ ap (λ (xs : Entries). staged_by (entry_at p xs) p s xs) same

pub not_staged : (test : Place → Bool) (p : Place) (s : Stage) (whole es after : Entries) → ((q : Place) → test q ≡ are_same p q) → es ≡ whole → None ≡ lookup test es → after ≡ es → after ≡ staged p s whole
unfolding staged
not_staged test p s whole es after tests same none is =
    let one : test ≡ are_same p = λ i q. tests q i in
    is ∙ ap (λ (o : Option Entry). staged_by o p s es) (none ∙ ap (λ (t : Place → Bool). lookup t es) one) ∙ ap (λ (xs : Entries). staged_by (entry_at p xs) p s xs) same

-- ---- as a field's calls have it
module _ (held : Option Held) (p : Place) (es : Entries) where
  begun_stage : (s : Stage) (v : Value) (m : Option EvalFault) → phase_of (cell_of (entry_with s v m)) ≡ Fresh → entry_with stage.UnderWay v m ≡ entry_of (begun (cell_of (entry_with s v m)))
  begun_stage stage.Resting v m h = absurd cc
  begun_stage stage.Fresh v m h = refl
  begun_stage stage.UnderWay v m h = absurd cc
  begun_stage stage.Stopped v m h = absurd cc
  begun_stage stage.Active v m h = absurd cc
  begun_stage (stage.Marked f) v m h = absurd cc
  begun_stage stage.Suspended v m h = absurd cc

  halted_stage : (s : Stage) (v : Value) (m : Option EvalFault) → phase_of (cell_of (entry_with s v m)) ≡ UnderWay → entry_with stage.Stopped v m ≡ entry_of (halted (cell_of (entry_with s v m)))
  halted_stage stage.Resting v m h = absurd cc
  halted_stage stage.Fresh v m h = absurd cc
  halted_stage stage.UnderWay v m h = refl
  halted_stage stage.Stopped v m h = absurd cc
  halted_stage stage.Active v m h = absurd cc
  halted_stage (stage.Marked f) v m h = absurd cc
  halted_stage stage.Suspended v m h = absurd cc

  left_stage : (s : Stage) (v : Value) (m : Option EvalFault) → phase_of (cell_of (entry_with s v m)) ≡ Stopped → entry_with stage.Suspended v m ≡ entry_of (left (cell_of (entry_with s v m)))
  left_stage stage.Resting v m h = absurd cc
  left_stage stage.Fresh v m h = absurd cc
  left_stage stage.UnderWay v m h = absurd cc
  left_stage stage.Stopped v m h = refl
  left_stage stage.Active v m h = absurd cc
  left_stage (stage.Marked f) v m h = absurd cc
  left_stage stage.Suspended v m h = absurd cc

  begun_by : (o : Option Entry) → phase_of (cell_in o held) ≡ Fresh → staged_by o p stage.UnderWay es ≡ with_entry p (entry_of (begun (cell_in o held))) es
  begun_by None h = absurd cc
  begun_by (Some e) h = ap (λ (x : Entry). with_entry p x es) (begun_stage e.stage e.value e.mark h)

  halted_by : (o : Option Entry) → phase_of (cell_in o held) ≡ UnderWay → staged_by o p stage.Stopped es ≡ with_entry p (entry_of (halted (cell_in o held))) es
  halted_by None h = absurd cc
  halted_by (Some e) h = ap (λ (x : Entry). with_entry p x es) (halted_stage e.stage e.value e.mark h)

  left_by : (o : Option Entry) → phase_of (cell_in o held) ≡ Stopped → staged_by o p stage.Suspended es ≡ with_entry p (entry_of (left (cell_in o held))) es
  left_by None h = absurd cc
  left_by (Some e) h = ap (λ (x : Entry). with_entry p x es) (left_stage e.stage e.value e.mark h)

  value_stage : (s : Stage) (v : Value) (m : Option EvalFault) → value_of (cell_of (entry_with s v m)) ≡ v
  value_stage stage.Resting v m = refl
  value_stage stage.Fresh v m = refl
  value_stage stage.UnderWay v m = refl
  value_stage stage.Stopped v m = refl
  value_stage stage.Active v m = refl
  value_stage (stage.Marked f) v m = refl
  value_stage stage.Suspended v m = refl

  failed_as : (f : EvalFault) (o : Option Entry) → entry_at p es ≡ o → failed_by o p f es ≡ with_entry p (entry_of (marked (value_of (cell_in o held)) f)) es
  failed_as f None h = not_set p (entry_of (marked (value_of (cell_in None held)) f)) es h
  failed_as f (Some e) h = ap (λ (v : Value). with_entry p (entry_with (stage.Marked f) v None) es) (sym (value_stage e.stage e.value e.mark))

pub begins : (s : State) (p : Place) → phase_of (at s p) ≡ Fresh → Moves space begun s p (s.0, staged p stage.UnderWay s.1)
unfolding staged
begins s p h = ap (λ (es : Entries). (s.0, es)) (begun_by (held_at p s.0) p s.1 (entry_at p s.1) h)

pub stops : (s : State) (p : Place) → phase_of (at s p) ≡ UnderWay → Moves space halted s p (s.0, staged p stage.Stopped s.1)
unfolding staged
stops s p h = ap (λ (es : Entries). (s.0, es)) (halted_by (held_at p s.0) p s.1 (entry_at p s.1) h)

pub gives_up : (s : State) (p : Place) → phase_of (at s p) ≡ Stopped → Moves space left s p (s.0, staged p stage.Suspended s.1)
unfolding staged
gives_up s p h = ap (λ (es : Entries). (s.0, es)) (left_by (held_at p s.0) p s.1 (entry_at p s.1) h)

pub fails : (s : State) (p : Place) (f : EvalFault) → (s.0, failed p f s.1) ≡ space.put s p (marked (value_of (at s p)) f)
fails s p f = ap (λ (es : Entries). (s.0, es)) (failed_as (held_at p s.0) p s.1 f (entry_at p s.1) refl)

-- ---- what comes of an evaluation
pub comes_to_value : (s : State) (p : Place) (r : Tree) (v : Value) → has_value v ≡ walk space r s → evaluated space p r s ≡ (None, (s.0, with_entry p (entry_with stage.Active v None) s.1))
comes_to_value s p r v h = ap (written space p s) (sym h)

pub comes_to_fault : (s : State) (p : Place) (r : Tree) (f : EvalFault) → has_fault f ≡ walk space r s → evaluated space p r s ≡ (None, (s.0, failed p f s.1))
comes_to_fault s p r f h = ap (written space p s) (sym h) ∙ ap (λ (t : State). (None, t)) (sym (fails s p f))

pub comes_to_need : (s : State) (p : Place) (r : Tree) (q : Place) → has_need q ≡ walk space r s → evaluated space p r s ≡ (Some q, s)
comes_to_need s p r q h = ap (written space p s) (sym h)

-- null is read as null
pub null_read : (store : Store) → value_read store (Obj 0) ≡ Obj 0
null_read store = by (is_live 0 store)
  where
    by : (b : Bool) → (if b then Obj 0 else Obj 0) ≡ Obj 0
    by true = refl
    by false = refl
