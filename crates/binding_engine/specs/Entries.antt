-- The places of a store, with entries for those that have an expression. No public clause cites this module.
use Rattle.std.specs.Prelude.{◌≡◌, Bool, true, false, if◌then◌else◌, Option, None, Some, List, [], ◌∷◌, fold, refl}
use Rattle.std.proofs.Common.{sym, ap, ◌∙◌}
use Rattle.std.specs.Map.{lookup, set_value}
use Rattle.indexmap.specs.IndexMap.{insert_entry}
use Rattle.qml_ast.specs.declared.eval_fault.EvalFault.{EvalFault}
use Rattle.qml_ast.specs.declared.eval_fault.EvalFault.TheVariants.{WrongKind}
use Rattle.qml_ast.specs.declared.place.Place.{Place}
use Rattle.qml_ast.specs.declared.value.Value.{Value}
use Rattle.expr_eval.specs.Traces.{are_same}
use Rattle.expr_eval.specs.Trees.{Tree}
use Rattle.expr_eval.specs.declared.answer.Eval.{Eval}
use Rattle.expr_eval.specs.declared.answer.Eval.TheVariants as answer
use Rattle.settling.specs.Cells.{Kept, Cell, plain, resting, fresh, under_way, stopped, active, marked, suspended, is_plain, mark_of}
use Rattle.settling.specs.Evaluations.{Outcome, has_value, has_fault, has_need}
use Rattle.settling.specs.Spaces.{Space}
use Rattle.object_tree.specs.declared.property.Held.{Held}
use Rattle.object_tree.specs.Reading.{held_at}
use Rattle.object_tree.specs.Store.{Store}
use Rattle.binding_engine.specs.Equations.{equation}
use Rattle.binding_engine.specs.Settling.{with_cell}
use Rattle.binding_engine.specs.Standing.{one_place, itself, kept_in, is_suspended_in}
use Rattle.binding_engine.specs.declared.cells.Entry.{Entry}
use Rattle.binding_engine.specs.declared.cells.Stage.{Stage}
use Rattle.binding_engine.specs.declared.cells.Stage.TheVariants as stage

abbrev pub Entries : Type 0
Entries = List (Place × Entry)

abbrev pub cell_at : Stage → Kept Value EvalFault → Cell Value EvalFault
cell_at stage.Resting k = resting k
cell_at stage.Fresh k = fresh k
cell_at stage.UnderWay k = under_way k
cell_at stage.Stopped k = stopped k
cell_at stage.Active k = active k.value
cell_at (stage.Marked f) k = marked k.value f
cell_at stage.Suspended k = suspended k

abbrev pub cell_of : Entry → Cell Value EvalFault
cell_of e = cell_at e.stage (record { value = e.value; mark = e.mark })

abbrev pub entry_with : Stage → Value → Option EvalFault → Entry
entry_with s v m = record { stage = s; value = v; mark = m }

abbrev pub entry_of : Cell Value EvalFault → Entry
entry_of (plain k) = entry_with stage.Resting k.value k.mark
entry_of (resting k) = entry_with stage.Resting k.value k.mark
entry_of (fresh k) = entry_with stage.Fresh k.value k.mark
entry_of (under_way k) = entry_with stage.UnderWay k.value k.mark
entry_of (stopped k) = entry_with stage.Stopped k.value k.mark
entry_of (active v) = entry_with stage.Active v None
entry_of (marked v f) = entry_with (stage.Marked f) v None
entry_of (suspended k) = entry_with stage.Suspended k.value k.mark

cell_again : (c : Cell Value EvalFault) → is_plain c ≡ false → cell_of (entry_of c) ≡ c
cell_again (plain k) h = absurd cc
cell_again (resting k) h = refl
cell_again (fresh k) h = refl
cell_again (under_way k) h = refl
cell_again (stopped k) h = refl
cell_again (active v) h = refl
cell_again (marked v f) h = refl
cell_again (suspended k) h = refl

-- ---- entries by their places
abbrev pub entry_at : Place → Entries → Option Entry
entry_at p es = lookup (are_same p) es

abbrev pub with_entry : Place → Entry → Entries → Entries
with_entry p e es = set_value (are_same p) es e

-- with another stage
abbrev pub staged_by : Option Entry → Place → Stage → Entries → Entries
staged_by None p s es = es
staged_by (Some e) p s es = with_entry p (entry_with s e.value e.mark) es

unfoldable pub staged : Place → Stage → Entries → Entries
staged p s es = staged_by (entry_at p es) p s es

-- with the fault of its expression
abbrev pub failed_by : Option Entry → Place → EvalFault → Entries → Entries
failed_by None p f es = es
failed_by (Some e) p f es = with_entry p (entry_with (stage.Marked f) e.value None) es

abbrev pub failed : Place → EvalFault → Entries → Entries
failed p f es = failed_by (entry_at p es) p f es

-- ---- the store, and the entries of its places
abbrev pub State : Type 0
State = Store × Entries

abbrev pub cell_in : Option Entry → Option Held → Cell Value EvalFault
cell_in None held = plain (kept_in held)
cell_in (Some e) held = cell_of e

abbrev pub at : State → Place → Cell Value EvalFault
at s p = cell_in (entry_at p s.1) (held_at p s.0)

abbrev pub put : State → Place → Cell Value EvalFault → State
put s p c = (s.0, with_entry p (entry_of c) s.1)

found_there : (p : Place) (es : Entries) (e : Entry) (held : Option Held) → is_plain (cell_in (entry_at p es) held) ≡ false → entry_at p (with_entry p e es) ≡ Some e
found_there p [] e held h = absurd cc
found_there p (x ∷ es) e held h = by (are_same p x.0) refl (λ g. found_there p es e held g)
  where
    by : (b : Bool) → are_same p x.0 ≡ b → (is_plain (cell_in (entry_at p es) held) ≡ false → entry_at p (with_entry p e es) ≡ Some e) → entry_at p (with_entry p e (x ∷ es)) ≡ Some e
    by true is rest = rw (is, is) refl
    by false is rest = rw (is, is) (rest (rw is at h))

found_elsewhere : (p q : Place) (es : Entries) (e : Entry) → are_same p q ≡ false → entry_at q (with_entry p e es) ≡ entry_at q es
found_elsewhere p q [] e h = refl
found_elsewhere p q (x ∷ es) e h = by (are_same p x.0) refl (are_same q x.0) refl (found_elsewhere p q es e h)
  where
    by : (b : Bool) → are_same p x.0 ≡ b → (c : Bool) → are_same q x.0 ≡ c → entry_at q (with_entry p e es) ≡ entry_at q es → entry_at q (with_entry p e (x ∷ es)) ≡ entry_at q (x ∷ es)
    by true is true other rest =
        let one : p ≡ q = one_place p x.0 is ∙ sym (one_place q x.0 other) in
        absurd (let no : true ≡ false = sym (itself p) ∙ ap (are_same p) one ∙ h in cc)
    by true is false other rest = rw (is, other) refl
    by false is true other rest = rw (is, other) refl
    by false is false other rest = rw (is, other) rest

pub there : (s : State) (p : Place) (c : Cell Value EvalFault) → is_plain (at s p) ≡ false → is_plain c ≡ false → at (put s p c) p ≡ c
there s p c h i = ap (λ o. cell_in o (held_at p s.0)) (found_there p s.1 (entry_of c) (held_at p s.0) h) ∙ cell_again c i

pub elsewhere : (s : State) (p : Place) (c : Cell Value EvalFault) (q : Place) → are_same p q ≡ false → at (put s p c) q ≡ at s q
elsewhere s p c q h = ap (λ o. cell_in o (held_at q s.0)) (found_elsewhere p q s.1 (entry_of c) h)

abbrev pub space : Space State Place Value EvalFault
space = record {
  at = at;
  put = put;
  are_same = are_same;
  one_place = one_place;
  itself = itself;
  there = there;
  elsewhere = elsewhere;
}

-- ---- as a settle begins
abbrev pub first_entry_of : Option Tree → Option Held → Option Entry
first_entry_of None held = None
first_entry_of (Some tree) held = Some (entry_with (if is_suspended_in held then stage.Resting else stage.Fresh) (kept_in held).value (kept_in held).mark)

abbrev pub first_entry : Store → Place → Option Entry
first_entry store p = first_entry_of (equation store p) (held_at p store)

abbrev pub inserted : Place → Option Entry → Entries → Entries
inserted p None es = es
inserted p (Some e) es = insert_entry are_same es p e

abbrev pub with_first : Store → Entries → Place → Entries
with_first store es p = inserted p (first_entry store p) es

-- the entries of all places that have an expression
abbrev pub first_entries : Store → List Place → Entries
first_entries store places = fold (with_first store) [] places

-- ---- evaluations
abbrev pub outcome_of : Eval → Outcome Place Value EvalFault
outcome_of (answer.Is v) = has_value v
outcome_of (answer.Faulted f) = has_fault f
outcome_of (answer.Needs p) = has_need p

-- what comes of a value that the slot takes or not
abbrev pub told : Option Value → Outcome Place Value EvalFault
told None = has_fault WrongKind
told (Some v) = has_value v

-- the marks of places
abbrev pub marks_in : Store → Entries → Place → Option EvalFault
marks_in store es p = mark_of (at (store, es) p)

-- ---- what is written to the store
abbrev pub entry_written : Option Entry → Store → Place → Store
entry_written None store place = store
entry_written (Some e) store place = with_cell place (cell_of e) store

abbrev pub with_entry_of : Entries → Store → Place → Store
with_entry_of es store place = entry_written (entry_at place es) store place

-- the store in which these places have what their entries say
abbrev pub with_entries : Entries → List Place → Store → Store
with_entries es places store = fold (with_entry_of es) store places
