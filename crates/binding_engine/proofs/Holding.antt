-- The equations hold of the store once its places are settled.
use Rattle.std.proofs.Common.{◌≡◌, ℕ, Bool, true, false, List, [], ◌∷◌, refl, sym, ap, subst, ◌∙◌, arith}
use Rattle.std.specs.Prelude.{Option, None, Some, is_some, option_map, unwrap_or, if◌then◌else◌, Result, ◌&&◌, ◌||◌, ◌==◌, ℤ, bytes_eq, not}
use Rattle.std.specs.Ordering.{int_eq}
use Rattle.std.proofs.lemmas.Bool.Decides.{nat_tests}
use Rattle.qml_ast.specs.Equality.{are_equal, are_same_lines, edge_number}
use Rattle.qml_ast.specs.declared.eval_fault.EvalFault.{EvalFault}
use Rattle.qml_ast.specs.declared.eval_fault.EvalFault.TheVariants.{WrongKind}
use Rattle.qml_ast.specs.declared.place.Place.{Place}
use Rattle.qml_ast.specs.declared.value.Edge.{Edge}
use Rattle.qml_ast.specs.declared.value.Edge.TheVariants as edge
use Rattle.qml_ast.specs.declared.value.LineRef.{LineRef}
use Rattle.qml_ast.specs.declared.value.Value.{Value}
use Rattle.qml_ast.specs.declared.value.Value.TheVariants as value
use Rattle.expr_eval.specs.Needs.{value_and_reads}
use Rattle.expr_eval.specs.Traces.{are_same}
use Rattle.expr_eval.specs.Trees.{Tree}
use Rattle.expr_eval.specs.Walks.{ends_as}
use Rattle.expr_eval.specs.declared.answer.Eval.{Eval}
use Rattle.expr_eval.specs.declared.answer.Eval.TheVariants as said
use Rattle.expr_eval.proofs.Follows.{answers}
use Rattle.item_equations.proofs.Answered as law
use Rattle.item_equations.specs.declared.native.Native.{Native}
use Rattle.settling.specs.Cells.{Kept, Cell, plain, resting, fresh, under_way, stopped, active, marked, suspended, value_of, mark_of, is_plain, is_suspended, is_valued, is_fresh, is_ended}
use Rattle.settling.specs.Cells.{Becomes}
use Rattle.settling.specs.Cells as cells
use Rattle.settling.specs.Holding.{Equation}
use Rattle.settling.specs.Laws.{IsSettled}
use Rattle.settling.specs.Runs.{answer, faults}
use Rattle.settling.proofs.Fuel.{settled_is}
use Rattle.settling.proofs.Fulfilled.{settles_later}
use Rattle.settling.proofs.Outcome.{settled_ends}
use Rattle.object_tree.specs.declared.property.Binding.{Binding}
use Rattle.object_tree.specs.declared.property.Held.{Held}
use Rattle.object_tree.specs.Ignored.{with_ignored}
use Rattle.object_tree.specs.Places.{places_of}
use Rattle.object_tree.specs.Reading.{instance_at, binding_at, info_at, held_at, value_read}
use Rattle.object_tree.specs.Store.{Store}
use Rattle.object_tree.specs.Writing.{kept, marked as with_marks_at, ended}
use Rattle.binding_engine.specs.Equations.{shape_of, given, taken_in, bound_tree, family_of, native_tree, native_at, has_owner, equation_by, equation, has_equation, tree_at, equated}
use Rattle.binding_engine.specs.Holding.{value_in, meanings_of, taken_or_wrong, result_of, result_by, result_at, Fulfils, Unless, HoldsOf, EquationsHold, KeepsLast, is_newly_suspended}
use Rattle.binding_engine.specs.Settling.{settled_from, is_stopped, marks_of, valued, with_cell, with_cells, settled_store}
use Rattle.binding_engine.specs.Standing.{Standing, space, one_place, kept_in, is_suspended_in, first_of, first}
use Rattle.binding_engine.proofs.Covered.{among, equation_placed, equation_equated, first_covers, first_is_ready}
use Rattle.binding_engine.proofs.Hollow.{hollowed, kept_hollow, marked_hollow, ended_hollow, same_equations, same_places}
use Rattle.binding_engine.proofs.Slots.{with_held_value, with_held_marks, kept_there, kept_beside, marked_there, marked_beside, ended_held}

-- ---- values that are equal are one
number : (a b : ℕ) → (a == b) ≡ true → a ≡ b
number a b h = grind (arith, nat_tests)

bytes : (xs ys : List ℕ) → bytes_eq xs ys ≡ true → xs ≡ ys
bytes [] [] h = refl
bytes [] (y ∷ ys) h = absurd cc
bytes (x ∷ xs) [] h = absurd cc
bytes (x ∷ xs) (y ∷ ys) h = by (x == y) refl h (bytes xs ys)
  where
    by : (b : Bool) → (x == y) ≡ b → (b && bytes_eq xs ys) ≡ true → (bytes_eq xs ys ≡ true → xs ≡ ys) → x ∷ xs ≡ y ∷ ys
    by true e g rest = λ i. number x y e i ∷ rest g i
    by false e g rest = absurd cc

edges : (a b : Edge) → edge_number a ≡ edge_number b → a ≡ b
edges edge.Left edge.Left h = refl
edges edge.Right edge.Right h = refl
edges edge.Top edge.Top h = refl
edges edge.Bottom edge.Bottom h = refl
edges edge.HCenter edge.HCenter h = refl
edges edge.VCenter edge.VCenter h = refl
edges _ _ h = absurd (omega arith)

lines : (a b : Option LineRef) → are_same_lines a b ≡ true → a ≡ b
lines None None h = refl
lines None (Some b) h = absurd cc
lines (Some a) None h = absurd cc
lines (Some a) (Some b) h = by (a.serial == b.serial) refl h
  where
    by : (c : Bool) → (a.serial == b.serial) ≡ c → (c && (edge_number a.edge == edge_number b.edge)) ≡ true → ◌≡◌ {A = Option LineRef} (Some a) (Some b)
    by true e g = λ i. Some (record { serial = number a.serial b.serial e i; edge = edges a.edge b.edge (number (edge_number a.edge) (edge_number b.edge) g) i })
    by false e g = absurd cc

flags : (a b : Bool) → (if a then b else not b) ≡ true → a ≡ b
flags true true h = refl
flags true false h = absurd cc
flags false true h = absurd cc
flags false false h = refl

integers : (a b : ℤ) → int_eq a b ≡ true → a ≡ b
integers a b h = grind (arith, nat_tests)

pub equal_one : (v w : Value) → are_equal v w ≡ true → v ≡ w
equal_one (value.Int x) (value.Int y) h = ap (λ n. value.Int n) (integers x y h)
equal_one (value.Bool x) (value.Bool y) h = ap (λ b. value.Bool b) (flags x y h)
equal_one (value.Str x) (value.Str y) h = ap (λ t. value.Str t) (bytes x y h)
equal_one (value.Color x) (value.Color y) h = ap (λ n. value.Color n) (number x y h)
equal_one (value.Obj x) (value.Obj y) h = ap (λ n. value.Obj n) (number x y h)
equal_one (value.Line x) (value.Line y) h = ap (λ l. value.Line l) (lines x y h)
equal_one _ _ h = absurd cc

-- ---- what places hold once cells are written
abbrev held_of_cell : Cell Value EvalFault → Held
held_of_cell c = record { value = value_of c; marks = marks_of c }

valued_there : (p : Place) (v : Value) (store : Store) (h : Held) → held_at p store ≡ Some h → held_at p (valued (held_at p store) p v store) ≡ Some (with_held_value v h)
valued_there p v store h is = rw is (by (are_equal h.value v) refl)
  where
    by : (b : Bool) → are_equal h.value v ≡ b → held_at p (if b then store else kept p v store) ≡ Some (with_held_value v h)
    by true e = is ∙ ap (λ (x : Value). Some (with_held_value x h)) (equal_one h.value v e)
    by false e = kept_there p v store ∙ ap (option_map (with_held_value v)) is

valued_beside : (p : Place) (v : Value) (store : Store) (q : Place) → are_same p q ≡ false → (o : Option Held) → held_at q (valued o p v store) ≡ held_at q store
valued_beside p v store q h None = refl
valued_beside p v store q h (Some held) = by (are_equal held.value v)
  where
    by : (b : Bool) → held_at q (if b then store else kept p v store) ≡ held_at q store
    by true = refl
    by false = kept_beside p v store q h

module _ (p : Place) (store : Store) where
  abbrev written : Cell Value EvalFault → Store
  written c = with_marks_at p (marks_of c) (valued (held_at p store) p (value_of c) store)

  cell_writes : (c : Cell Value EvalFault) → is_plain c ≡ false → with_cell p c store ≡ written c
  cell_writes (plain k) h = absurd cc
  cell_writes (resting k) h = refl
  cell_writes (fresh k) h = refl
  cell_writes (under_way k) h = refl
  cell_writes (stopped k) h = refl
  cell_writes (active v) h = refl
  cell_writes (marked v f) h = refl
  cell_writes (suspended k) h = refl

  cell_there : (c : Cell Value EvalFault) (h : Held) → is_plain c ≡ false → held_at p store ≡ Some h → held_at p (with_cell p c store) ≡ Some (held_of_cell c)
  cell_there c h whole is =
      ap (held_at p) (cell_writes c whole) ∙ marked_there p (marks_of c) (valued (held_at p store) p (value_of c) store)
      ∙ ap (option_map (with_held_marks (marks_of c))) (valued_there p (value_of c) store h is)

  cell_beside : (c : Cell Value EvalFault) (q : Place) → are_same p q ≡ false → held_at q (with_cell p c store) ≡ held_at q store
  cell_beside c q h = by (is_plain c) refl
    where
      none : (c : Cell Value EvalFault) → is_plain c ≡ true → held_at q (with_cell p c store) ≡ held_at q store
      none (plain k) e = refl
      none (resting k) e = absurd cc
      none (fresh k) e = absurd cc
      none (under_way k) e = absurd cc
      none (stopped k) e = absurd cc
      none (active v) e = absurd cc
      none (marked v f) e = absurd cc
      none (suspended k) e = absurd cc

      by : (b : Bool) → is_plain c ≡ b → held_at q (with_cell p c store) ≡ held_at q store
      by true e = none c e
      by false e =
          ap (held_at q) (cell_writes c e) ∙ marked_beside p (marks_of c) (valued (held_at p store) p (value_of c) store) q h ∙ valued_beside p (value_of c) store q h (held_at p store)

  cell_hollow : (c : Cell Value EvalFault) → hollowed (with_cell p c store) ≡ hollowed store
  cell_hollow c = by (is_plain c) refl
    where
      none : (c : Cell Value EvalFault) → is_plain c ≡ true → hollowed (with_cell p c store) ≡ hollowed store
      none (plain k) e = refl
      none (resting k) e = absurd cc
      none (fresh k) e = absurd cc
      none (under_way k) e = absurd cc
      none (stopped k) e = absurd cc
      none (active v) e = absurd cc
      none (marked v f) e = absurd cc
      none (suspended k) e = absurd cc

      value_kept : (o : Option Held) (v : Value) → hollowed (valued o p v store) ≡ hollowed store
      value_kept None v = refl
      value_kept (Some held) v = choice (are_equal held.value v)
        where
          choice : (b : Bool) → hollowed (if b then store else kept p v store) ≡ hollowed store
          choice true = refl
          choice false = kept_hollow p v store

      by : (b : Bool) → is_plain c ≡ b → hollowed (with_cell p c store) ≡ hollowed store
      by true e = none c e
      by false e = ap hollowed (cell_writes c e) ∙ marked_hollow p (marks_of c) (valued (held_at p store) p (value_of c) store) ∙ value_kept (held_at p store) (value_of c)

module _ (s : Standing) where
  cells_hollow : (ps : List Place) (store : Store) → hollowed (with_cells s ps store) ≡ hollowed store
  cells_hollow [] store = refl
  cells_hollow (p ∷ ps) store = cells_hollow ps (with_cell p (s p) store) ∙ cell_hollow p store (s p)

  module _ (q : Place) where
    -- a place without an expression is left
    plain_left : (ps : List Place) (store : Store) → is_plain (s q) ≡ true → held_at q (with_cells s ps store) ≡ held_at q store
    plain_left [] store h = refl
    plain_left (p ∷ ps) store h = plain_left ps (with_cell p (s p) store) h ∙ by (are_same p q) refl
      where
        none : (c : Cell Value EvalFault) → is_plain c ≡ true → held_at q (with_cell p c store) ≡ held_at q store
        none (plain k) e = refl
        none (resting k) e = absurd cc
        none (fresh k) e = absurd cc
        none (under_way k) e = absurd cc
        none (stopped k) e = absurd cc
        none (active v) e = absurd cc
        none (marked v f) e = absurd cc
        none (suspended k) e = absurd cc

        by : (b : Bool) → are_same p q ≡ b → held_at q (with_cell p (s p) store) ≡ held_at q store
        by true e = none (s p) (ap (λ (x : Place). is_plain (s x)) (one_place p q e) ∙ h)
        by false e = cell_beside p store (s p) q e

    -- one with an expression stays as it was written
    stays : (ps : List Place) (store : Store) → is_plain (s q) ≡ false → held_at q store ≡ Some (held_of_cell (s q)) → held_at q (with_cells s ps store) ≡ Some (held_of_cell (s q))
    stays [] store whole h = h
    stays (p ∷ ps) store whole h = stays ps (with_cell p (s p) store) whole (by (are_same p q) refl)
      where
        by : (b : Bool) → are_same p q ≡ b → held_at q (with_cell p (s p) store) ≡ Some (held_of_cell (s q))
        by true e = subst (λ (x : Place). held_at q (with_cell x (s x) store) ≡ Some (held_of_cell (s q))) (sym (one_place p q e)) (cell_there q store (s q) (held_of_cell (s q)) whole h)
        by false e = cell_beside p store (s p) q e ∙ h

    -- and is written
    comes : (ps : List Place) (store : Store) (h : Held) → is_plain (s q) ≡ false → held_at q store ≡ Some h → among ps q ≡ true → held_at q (with_cells s ps store) ≡ Some (held_of_cell (s q))
    comes [] store h whole is a = absurd cc
    comes (p ∷ ps) store h whole is a = by (are_same p q) refl (λ g i. comes ps (with_cell p (s p) store) h whole i g)
      where
        by : (b : Bool) → are_same p q ≡ b → (among ps q ≡ true → held_at q (with_cell p (s p) store) ≡ Some h → held_at q (with_cells s ps (with_cell p (s p) store)) ≡ Some (held_of_cell (s q))) →
            held_at q (with_cells s ps (with_cell p (s p) store)) ≡ Some (held_of_cell (s q))
        by true e rest =
            stays ps (with_cell p (s p) store) whole
            (subst (λ (x : Place). held_at q (with_cell x (s x) store) ≡ Some (held_of_cell (s q))) (sym (one_place p q e)) (cell_there q store (s q) h whole is))
        by false e rest = rest (rw e at a) (cell_beside p store (s p) q e ∙ is)

-- ---- results by trees
given_answer : (o : Option Value) (values : Place → Value) → answer (given o) values ≡ taken_or_wrong o
given_answer None values = refl
given_answer (Some v) values = refl

bound_result : (store : Store) (q : Place) (e : Eval) (r : Result Value EvalFault) → ends_as (value_in store) (λ v. given (taken_in (info_at q store) store v)) e r → result_of store q e ≡ r
bound_result store q (said.Is v) r h = sym (h ∙ given_answer (taken_in (info_at q store) store v) (value_in store))
bound_result store q (said.Faulted f) r h = sym h
bound_result store q (said.Needs p) r h = absurd h

results : (store : Store) (q : Place) → result_at store q ≡ option_map (λ t. answer t (value_in store)) (equation store q)
unfolding result_at equation bound_tree native_tree
results store q = by (has_owner (instance_at q.serial store)) (binding_at q store) (native_at store q)
  where
    by : (owned : Bool) (b : Option Binding) (native : Option Native) → (if owned then result_by store q b native else None) ≡ option_map (λ t. answer t (value_in store)) (if owned then equation_by store q b native else None)
    by true (Some b) native =
        ap Some (bound_result store q (value_and_reads (meanings_of store) b.expr b.frame []).0 (answer (bound_tree store q b) (value_in store))
        (answers (shape_of store) (value_in store) b.expr b.frame [] (λ v. given (taken_in (info_at q store) store v))).answers)
    by true None (Some native) = ap Some (sym (law.answers (family_of store) (value_in store) (value_read store) native q.serial))
    by true None None = refl
    by false b native = refl

-- ---- the settled places
abbrev is_resting : Cell Value EvalFault → Bool
is_resting (resting k) = true
is_resting _ = false

module _ {V F : Type 0} where
  step_whole : {c d : Cell V F} → cells.Step c d → is_plain d ≡ false
  step_whole (cells.begins k e f) = ap is_plain f
  step_whole (cells.stops k e f) = ap is_plain f
  step_whole (cells.ends k v e f) = ap is_plain f
  step_whole (cells.fails k x e f) = ap is_plain f
  step_whole (cells.suspends k e f) = ap is_plain f

  becomes_whole : {c d : Cell V F} → Becomes c d → is_plain c ≡ false → is_plain d ≡ false
  becomes_whole (cells.stays e) h = ap is_plain e ∙ h
  becomes_whole (cells.goes_on m step rest) h = becomes_whole rest (step_whole step)

-- ignored: the anchors that count for nothing
module _ (store : Store) (ignored : List Place) where
  abbrev over : Store
  over = with_ignored ignored (ended (settled_store store))

  abbrev cell : Place → Cell Value EvalFault
  cell = settled_from store

  later : (q : Place) → Becomes (first store q) (cell q)
  unfolding settled_from
  later q = settles_later space (tree_at store) (settled_is space (tree_at store) (equated store) (first store) (first_covers store)) q

  outcome : (q : Place) → IsSettled space (tree_at store) (first store) cell q
  unfolding settled_from
  outcome q = settled_ends space (tree_at store) (equated store) (first store) (first_covers store) (first_is_ready store) q

  first_whole : (o : Option Tree) (held : Option Held) → is_some o ≡ true → is_plain (first_of o held) ≡ false
  first_whole None held h = absurd cc
  first_whole (Some t) held h = by (is_suspended_in held) refl
    where
      by : (b : Bool) → is_suspended_in held ≡ b → is_plain (first_of (Some t) held) ≡ false
      by true e = rw e refl
      by false e = rw e refl

  whole : (q : Place) → has_equation store q ≡ true → is_plain (cell q) ≡ false
  whole q h = becomes_whole (later q) (first_whole (equation store q) (held_at q store) h)

  held_equated : (q : Place) → has_equation store q ≡ true → held_at q over ≡ Some (held_of_cell (cell q))
  unfolding settled_store
  held_equated q h = ended_held (with_cells cell (equated store) store) q ∙ by (held_at q store) refl (equation_placed store q h)
    where
      by : (o : Option Held) → held_at q store ≡ o → is_some o ≡ true → held_at q (with_cells cell (equated store) store) ≡ Some (held_of_cell (cell q))
      by None e s = absurd cc
      by (Some held) e s = comes cell q (equated store) store held (whole q h) e (equation_equated store q h)

  first_plain : (o : Option Tree) (held : Option Held) → is_some o ≡ false → first_of o held ≡ plain (kept_in held)
  first_plain None held h = refl
  first_plain (Some t) held h = absurd cc

  cell_plain : (q : Place) → has_equation store q ≡ false → cell q ≡ plain (kept_in (held_at q store))
  cell_plain q h =
      let start : first store q ≡ plain (kept_in (held_at q store)) = first_plain (equation store q) (held_at q store) h in
      (outcome q).as_before (ap is_fresh start) ∙ start

  held_other : (q : Place) → has_equation store q ≡ false → held_at q over ≡ held_at q store
  unfolding settled_store
  held_other q h = ended_held (with_cells cell (equated store) store) q ∙ plain_left cell q (equated store) store (ap is_plain (cell_plain q h))

  pub value_over : (q : Place) → value_in over q ≡ value_of (cell q)
  value_over q = by (has_equation store q) refl
    where
      by : (b : Bool) → has_equation store q ≡ b → value_in over q ≡ value_of (cell q)
      by true h = ap (λ (o : Option Held). (kept_in o).value) (held_equated q h)
      by false h = ap (λ (o : Option Held). (kept_in o).value) (held_other q h) ∙ ap value_of (sym (cell_plain q h))

  -- the marks, and which places are suspended
  pub mark_over : (q : Place) → (kept_in (held_at q over)).mark ≡ mark_of (cell q)
  mark_over q = by (has_equation store q) refl
    where
      by : (b : Bool) → has_equation store q ≡ b → (kept_in (held_at q over)).mark ≡ mark_of (cell q)
      by true h = ap (λ (o : Option Held). (kept_in o).mark) (held_equated q h)
      by false h = ap (λ (o : Option Held). (kept_in o).mark) (held_other q h) ∙ ap mark_of (sym (cell_plain q h))

  never_rests : {c d : Cell Value EvalFault} → Becomes c d → is_resting c ≡ false → is_resting d ≡ false
  never_rests (cells.stays e) h = ap is_resting e ∙ h
  never_rests (cells.goes_on m step rest) h = never_rests rest (by step)
    where
      by : {c : Cell Value EvalFault} → cells.Step c m → is_resting m ≡ false
      by (cells.begins k e f) = ap is_resting f
      by (cells.stops k e f) = ap is_resting f
      by (cells.ends k v e f) = ap is_resting f
      by (cells.fails k x e f) = ap is_resting f
      by (cells.suspends k e f) = ap is_resting f

  stopped_now : (c : Cell Value EvalFault) → is_resting c ≡ false → is_stopped c ≡ is_suspended c
  stopped_now (plain k) h = refl
  stopped_now (resting k) h = absurd cc
  stopped_now (fresh k) h = refl
  stopped_now (under_way k) h = refl
  stopped_now (stopped k) h = refl
  stopped_now (active v) h = refl
  stopped_now (marked v f) h = refl
  stopped_now (suspended k) h = refl

  and_not : (b : Bool) → (b && not b) ≡ false
  and_not true = refl
  and_not false = refl

  and_false : (b : Bool) → (b && false) ≡ false
  and_false true = refl
  and_false false = refl

  and_true : (b : Bool) → (b && true) ≡ b
  and_true true = refl
  and_true false = refl

  equated_suspended : (q : Place) (t : Tree) → equation store q ≡ Some t → is_suspended (cell q) ≡ is_newly_suspended store over q
  equated_suspended q t is = by (is_suspended_in (held_at q store)) refl
    where
      now_is : is_suspended_in (held_at q over) ≡ is_stopped (cell q)
      now_is = ap is_suspended_in (held_equated q (ap is_some is))

      start : first store q ≡ first_of (Some t) (held_at q store)
      start = ap (λ (o : Option Tree). first_of o (held_at q store)) is

      by : (b : Bool) → is_suspended_in (held_at q store) ≡ b → is_suspended (cell q) ≡ is_newly_suspended store over q
      by true e =
          let rests : first store q ≡ resting (kept_in (held_at q store)) = rw e at start in
          let is_still : cell q ≡ resting (kept_in (held_at q store)) = (outcome q).as_before (ap is_fresh rests) ∙ rests in
          ap is_suspended is_still ∙ sym (ap (λ (b : Bool). is_suspended_in (held_at q over) && not b) e ∙ and_false (is_suspended_in (held_at q over)))
      by false e =
          let waits : first store q ≡ fresh (kept_in (held_at q store)) = rw e at start in
          sym (stopped_now (cell q) (never_rests (later q) (ap is_resting waits)))
          ∙ sym (ap (λ (b : Bool). is_suspended_in (held_at q over) && not b) e ∙ and_true (is_suspended_in (held_at q over)) ∙ now_is)

  -- those whose evaluation was stopped are the newly suspended ones
  pub suspended_over : (q : Place) → is_suspended (cell q) ≡ is_newly_suspended store over q
  suspended_over q = by (equation store q) refl
    where
      by : (o : Option Tree) → equation store q ≡ o → is_suspended (cell q) ≡ is_newly_suspended store over q
      by (Some t) is = equated_suspended q t is
      by None is =
          let has : has_equation store q ≡ false = ap is_some is in
          ap is_suspended (cell_plain q has)
          ∙ sym (ap (λ (o : Option Held). is_suspended_in o && not (is_suspended_in (held_at q store))) (held_other q has) ∙ and_not (is_suspended_in (held_at q store)))

  -- a place that is marked or suspended keeps its last value
  not_valued : (c : Cell Value EvalFault) → (is_some (mark_of c) || is_stopped c) ≡ true → is_valued c ≡ false
  not_valued (plain k) h = refl
  not_valued (resting k) h = refl
  not_valued (fresh k) h = refl
  not_valued (under_way k) h = refl
  not_valued (stopped k) h = refl
  not_valued (active v) h = absurd cc
  not_valued (marked v f) h = refl
  not_valued (suspended k) h = refl

  first_value : (o : Option Tree) (held : Option Held) → value_of (first_of o held) ≡ (kept_in held).value
  first_value None held = refl
  first_value (Some t) held = by (is_suspended_in held) refl
    where
      by : (b : Bool) → is_suspended_in held ≡ b → value_of (first_of (Some t) held) ≡ (kept_in held).value
      by true e = rw e refl
      by false e = rw e refl

  pub keeps_last : KeepsLast store over
  keeps_last q h = by (has_equation store q) refl
    where
      by : (b : Bool) → has_equation store q ≡ b → value_in over q ≡ value_in store q
      by false e = ap (λ (o : Option Held). (kept_in o).value) (held_other q e)
      by true e =
          let here : (is_some (mark_of (cell q)) || is_stopped (cell q)) ≡ true = subst (λ (o : Option Held). (is_some (kept_in o).mark || is_suspended_in o) ≡ true) (held_equated q e) h in
          value_over q ∙ (outcome q).last_value (not_valued (cell q) here) ∙ first_value (equation store q) (held_at q store)

  pub equation_over : (q : Place) → equation over q ≡ equation store q
  unfolding settled_store
  equation_over q = same_equations over store (ended_hollow (with_cells cell (equated store) store) ∙ cells_hollow cell (equated store) store) q

  -- it has the same places
  pub places_over : places_of over ≡ places_of store
  unfolding settled_store
  places_over = same_places over store (ended_hollow (with_cells cell (equated store) store) ∙ cells_hollow cell (equated store) store)

  abbrev cell_values : Place → Value
  cell_values p = value_of (cell p)

  result_over : (q : Place) → result_at over q ≡ option_map (λ t. answer t cell_values) (equation store q)
  result_over q =
      results over q ∙ (λ i. option_map (λ t. answer t (λ p. value_over p i)) (equation over q)) ∙ ap (option_map (λ t. answer t cell_values)) (equation_over q)

  -- a cell whose equation holds
  fulfilled : (c : Cell Value EvalFault) (t : Tree) → is_plain c ≡ false → Equation t cell_values c → Unless (is_stopped c) (Fulfils (answer t cell_values) (held_of_cell c))
  fulfilled (plain k) t w e = absurd cc
  fulfilled (resting k) t w e = tt
  fulfilled (fresh k) t w e = absurd e
  fulfilled (under_way k) t w e = absurd e
  fulfilled (stopped k) t w e = absurd e
  fulfilled (active v) t w e = subst (λ r. Fulfils r (held_of_cell (active v))) (sym e) (refl, refl)
  fulfilled (marked v f) t w e = subst (λ r. Fulfils r (held_of_cell (marked v f))) (sym e) refl
  fulfilled (suspended k) t w e = tt

  bound_holds : (q : Place) (t : Tree) → equation store q ≡ Some t → Unless (is_stopped (cell q)) (Fulfils (answer t cell_values) (held_of_cell (cell q)))
  bound_holds q t is = by (is_suspended_in (held_at q store)) refl
    where
      has : has_equation store q ≡ true
      has = ap is_some is

      same_tree : tree_at store q ≡ t
      same_tree = ap (λ (o : Option Tree). unwrap_or o (faults WrongKind)) is

      start : first store q ≡ first_of (Some t) (held_at q store)
      start = ap (λ (o : Option Tree). first_of o (held_at q store)) is

      by : (b : Bool) → is_suspended_in (held_at q store) ≡ b → Unless (is_stopped (cell q)) (Fulfils (answer t cell_values) (held_of_cell (cell q)))
      by true e =
          let rests : first store q ≡ resting (kept_in (held_at q store)) = rw e at start in
          let is_still : cell q ≡ resting (kept_in (held_at q store)) = (outcome q).as_before (ap is_fresh rests) ∙ rests in
          subst (λ c. Unless (is_stopped c) (Fulfils (answer t cell_values) (held_of_cell c))) (sym is_still) tt
      by false e =
          let waits : first store q ≡ fresh (kept_in (held_at q store)) = rw e at start in
          fulfilled (cell q) t (whole q has) (subst (λ r. Equation r cell_values (cell q)) same_tree ((outcome q).holds (ap is_fresh waits)))

  -- the equations hold once the places of a store are settled
  pub equations_hold : EquationsHold over
  equations_hold q = by (equation store q) refl
    where
      by : (o : Option Tree) → equation store q ≡ o → HoldsOf (result_at over q) (held_at q over)
      by None is =
          subst (λ r. HoldsOf r (held_at q over)) (sym (result_over q ∙ ap (option_map (λ t. answer t cell_values)) is)) tt
      by (Some t) is =
          subst (λ r. HoldsOf r (held_at q over)) (sym (result_over q ∙ ap (option_map (λ t. answer t cell_values)) is))
          (subst (λ h. HoldsOf (Some (answer t cell_values)) h) (sym (held_equated q (ap is_some is))) (bound_holds q t is))
