-- What is written to a store once its places are settled.
use Rattle.std.proofs.Common.{◌≡◌, List, [], ◌∷◌, refl, sym, ap, ◌∙◌}
use Rattle.std.specs.Prelude.{Option, None, Some}
use Rattle.qml_ast.specs.declared.eval_fault.EvalFault.{EvalFault}
use Rattle.qml_ast.specs.declared.place.Place.{Place}
use Rattle.qml_ast.specs.declared.value.Value.{Value}
use Rattle.settling.specs.Cells.{is_suspended}
use Rattle.settling.specs.Loops.{has_loop, AreOnce, AreChains}
use Rattle.settling.specs.Settling.{settled}
use Rattle.object_tree.specs.declared.property.Held.{Held}
use Rattle.object_tree.specs.Places.{places_of}
use Rattle.object_tree.specs.Reading.{held_at}
use Rattle.object_tree.specs.Store.{Store}
use Rattle.object_tree.specs.Writing.{marked as with_marks_at}
use Rattle.binding_engine.specs.Equations.{tree_at, equated}
use Rattle.binding_engine.specs.Standing.{Standing, first}
use Rattle.binding_engine.specs.Standing as standing
use Rattle.binding_engine.specs.Settling.{settled_from, marks_of, valued, with_cell, with_cells, settled_store}
use Rattle.binding_engine.specs.Entries.{Entries, State, at, space, cell_of, cell_in, entry_at, entry_with, first_entries, entry_written, with_entries}
use Rattle.binding_engine.specs.declared.cells.Entry.{Entry}
use Rattle.binding_engine.specs.declared.cells.Stage.{Stage}
use Rattle.binding_engine.specs.declared.cells.Stage.TheVariants as stage
use Rattle.binding_engine.proofs.Alike.{settled_alike}
use Rattle.binding_engine.proofs.Covered.{first_alike}
use Rattle.binding_engine.specs.Findings.{AreLoops}
use Rattle.binding_engine.proofs.Marking.{chains_alike}
use Rattle.binding_engine.proofs.Unmoved.{settled_stays}

cell_by : (place : Place) (store : Store) (s : Stage) (v : Value) (m : Option EvalFault) →
    with_marks_at place (marks_of (cell_of (entry_with s v m))) (valued (held_at place store) place v store) ≡ with_cell place (cell_of (entry_with s v m)) store
cell_by place store stage.Resting v m = refl
cell_by place store stage.Fresh v m = refl
cell_by place store stage.UnderWay v m = refl
cell_by place store stage.Stopped v m = refl
cell_by place store stage.Active v m = refl
cell_by place store (stage.Marked f) v m = refl
cell_by place store stage.Suspended v m = refl

-- what an entry leaves
pub entry_cell : (place : Place) (store : Store) (e : Entry) → with_marks_at place (marks_of (cell_of e)) (valued (held_at place store) place e.value store) ≡ with_cell place (cell_of e) store
entry_cell place store e = cell_by place store e.stage e.value e.mark

-- once the places are settled, each stands as the function has it
pub stands_settled : (store x y : Store) (es fs : Entries) (places : List Place) → x ≡ store → es ≡ first_entries store (places_of store) → places ≡ equated store →
    (y, fs) ≡ settled space (tree_at x) places (x, es) → (p : Place) → at (store, fs) p ≡ settled_from store p
unfolding settled_from
stands_settled store x y es fs places is first_are these_are ends p =
    let start : State = (store, first_entries store (places_of store)) in
    let same : (y, fs) ≡ settled space (tree_at store) (equated store) start = rw (is, first_are, these_are) at ends in
    let still : y ≡ store = ap (λ (s : State). s.0) same ∙ settled_stays store (tree_at store) (equated store) start refl in
    ap (λ (s : Store). at (s, fs) p) (sym still) ∙ ap (λ (s : State). at s p) same
    ∙ settled_alike space standing.space (λ a b. refl) (tree_at store) (equated store) start (first store) (first_alike store) p

-- the loops are those of the settled places
pub loops_settled : (store x y : Store) (es fs : Entries) (places : List Place) (loops : List (Place × List Place)) → x ≡ store → ((p : Place) → at (store, fs) p ≡ settled_from store p) → y ≡ store →
    AreChains space (tree_at x) (y, fs) loops → ((p : Place) → is_suspended (at (y, fs) p) ≡ has_loop space loops p) → AreOnce space loops → AreLoops store loops
loops_settled store x y es fs places loops is stands still chains suspended once =
    let kept : AreChains space (tree_at store) (store, fs) loops = rw (is, still) at chains in
    record {
      chains = chains_alike space standing.space (tree_at store) (store, fs) (settled_from store) stands loops kept;
      suspended = λ p. ap is_suspended (sym (stands p) ∙ ap (λ (s : Store). at (s, fs) p) (sym still)) ∙ suspended p;
      once = once;
    }

-- a settle keeps the store of the state
pub store_still : (store x y : Store) (es fs : Entries) (places : List Place) → x ≡ store → (y, fs) ≡ settled space (tree_at x) places (x, es) → y ≡ store
store_still store x y es fs places is ends = ap (λ (s : State). s.0) ends ∙ settled_stays store (tree_at x) places (x, es) is

entry_as_cell : (o : Option Entry) (held : Option Held) (place : Place) (store : Store) → entry_written o store place ≡ with_cell place (cell_in o held) store
entry_as_cell None held place store = refl
entry_as_cell (Some e) held place store = refl

entries_as_cells : (x : Store) (es : Entries) (places : List Place) (store : Store) → with_entries es places store ≡ with_cells (λ p. at (x, es) p) places store
entries_as_cells x es [] store = refl
entries_as_cells x es (p ∷ places) store =
    ap (with_entries es places) (entry_as_cell (entry_at p es) (held_at p x) p store) ∙ entries_as_cells x es places (with_cell p (at (x, es) p) store)

-- so the store with its places settled is written
pub cells_settled : (store : Store) (es : Entries) (places : List Place) → places ≡ equated store → ((p : Place) → at (store, es) p ≡ settled_from store p) → with_entries es places store ≡ settled_store store
unfolding settled_store
cells_settled store es places are h =
    ap (λ (ps : List Place). with_entries es ps store) are ∙ entries_as_cells store es (equated store) store ∙ (λ i. with_cells (λ p. h p i) (equated store) store)
