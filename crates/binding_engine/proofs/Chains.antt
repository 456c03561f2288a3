-- The chains of loops are chains of reads over the settled store.
use Rattle.std.proofs.Common.{◌≡◌, Bool, true, false, List, [], ◌∷◌, ◌++◌, refl, sym, ap, subst, ◌∙◌}
use Rattle.std.specs.Prelude.{Option, None, Some, unwrap_or, if◌then◌else◌}
use Rattle.std.specs.List.{list_any}
use Rattle.qml_ast.specs.declared.eval_fault.EvalFault.TheVariants.{WrongKind}
use Rattle.qml_ast.specs.declared.place.Place.{Place}
use Rattle.qml_ast.specs.declared.value.Value.{Value}
use Rattle.expr_eval.specs.Needs.{value_and_reads}
use Rattle.expr_eval.specs.Traces.{are_same, noted}
use Rattle.expr_eval.specs.Trees.{Tree}
use Rattle.expr_eval.specs.Walks.{all_noted, reads_then}
use Rattle.expr_eval.specs.declared.answer.Eval.{Eval}
use Rattle.expr_eval.specs.declared.answer.Eval.TheVariants as said
use Rattle.expr_eval.proofs.Follows.{answers}
use Rattle.item_equations.specs.declared.native.Native.{Native}
use Rattle.settling.specs.Cells.{value_of}
use Rattle.settling.specs.Holding.{IsPath, Reads}
use Rattle.settling.specs.Loops.{AreChains}
use Rattle.settling.specs.Runs.{faults, reads, IsRead, now, later}
use Rattle.object_tree.specs.declared.property.Binding.{Binding}
use Rattle.object_tree.specs.Ignored.{with_ignored}
use Rattle.object_tree.specs.Reading.{instance_at, binding_at, info_at}
use Rattle.object_tree.specs.Store.{Store}
use Rattle.object_tree.specs.Writing.{ended}
use Rattle.binding_engine.specs.Equations.{shape_of, given, taken_in, bound_tree, native_tree, native_at, has_owner, equation_by, equation, tree_at, equated}
use Rattle.binding_engine.specs.Holding.{value_in, meanings_of, reads_by, reads_at, ReadsIn, IsPathIn, AreChainsIn, mark_in, AreLoopsIn}
use Rattle.binding_engine.specs.Findings.{faulted_in, faulted_from, AreLoops}
use Rattle.binding_engine.specs.Settling.{settled_from, settled_store}
use Rattle.binding_engine.specs.Standing.{space, one_place, itself}
use Rattle.binding_engine.proofs.Covered.{among}
use Rattle.binding_engine.proofs.Holding.{value_over, mark_over, suspended_over, equation_over}

-- ---- lists of reads
among_of : (p : Place) (ps : List Place) (q : Place) (b : Bool) → are_same p q ≡ b → among ps q ≡ true → among (p ∷ ps) q ≡ true
among_of p ps q true e h = rw e refl
among_of p ps q false e h = rw e h

read_listed : (values : Place → Value) (q : Place) (r : Tree) → IsRead values q r → among (reads r values) q ≡ true
read_listed values q r (now p next is same) =
    subst (λ (x : Tree). among (reads x values) q ≡ true) (sym is) (subst (λ (x : Place). among (x ∷ reads (next (values x)) values) q ≡ true) same (rw (itself q) refl))
read_listed values q r (later p next is rest) =
    subst (λ (x : Tree). among (reads x values) q ≡ true) (sym is) (among_of p (reads (next (values p)) values) q (are_same p q) refl (read_listed values q (next (values p)) rest))

among_end : (ps : List Place) (p q : Place) → are_same p q ≡ true → among (ps ++ p ∷ []) q ≡ true
among_end [] p q h = rw h refl
among_end (x ∷ ps) p q h = among_of x (ps ++ p ∷ []) q (are_same x q) refl (among_end ps p q h)

among_before : (ps qs : List Place) (q : Place) → among ps q ≡ true → among (ps ++ qs) q ≡ true
among_before [] qs q h = absurd cc
among_before (p ∷ ps) qs q h = by (are_same p q) refl (λ g. among_before ps qs q g)
  where
    by : (b : Bool) → are_same p q ≡ b → (among ps q ≡ true → among (ps ++ qs) q ≡ true) → among (p ∷ (ps ++ qs)) q ≡ true
    by true e rest = rw e refl
    by false e rest = rw e (rest (rw e at h))

turned : (p q : Place) (b : Bool) → are_same p q ≡ b → are_same q p ≡ true → are_same p q ≡ true
turned p q true e h = e
turned p q false e h = subst (λ (x : Place). are_same p x ≡ true) (sym (one_place q p h)) (itself p)

any_among : (ps : List Place) (q : Place) → list_any (are_same q) ps ≡ true → among ps q ≡ true
any_among [] q h = h
any_among (p ∷ ps) q h = by (are_same q p) refl (λ g. any_among ps q g)
  where
    by : (b : Bool) → are_same q p ≡ b → (list_any (are_same q) ps ≡ true → among ps q ≡ true) → among (p ∷ ps) q ≡ true
    by true e rest = rw (turned p q (are_same p q) refl e) refl
    by false e rest = among_of p ps q (are_same p q) refl (rest (rw e at h))

noted_before : (trace : List Place) (p q : Place) → among trace q ≡ true → among (noted trace p) q ≡ true
noted_before trace p q h = by (list_any (are_same p) trace)
  where
    by : (b : Bool) → among (if b then trace else trace ++ p ∷ []) q ≡ true
    by true = h
    by false = among_before trace (p ∷ []) q h

noted_itself : (trace : List Place) (p q : Place) → are_same p q ≡ true → among (noted trace p) q ≡ true
noted_itself trace p q h = by (list_any (are_same p) trace) refl
  where
    by : (b : Bool) → list_any (are_same p) trace ≡ b → among (if b then trace else trace ++ p ∷ []) q ≡ true
    by true e = subst (λ (x : Place). among trace x ≡ true) (one_place p q h) (any_among trace p e)
    by false e = among_end trace p q h

kept_noted : (ps trace : List Place) (q : Place) → among trace q ≡ true → among (all_noted trace ps) q ≡ true
kept_noted [] trace q h = h
kept_noted (p ∷ ps) trace q h = kept_noted ps (noted trace p) q (noted_before trace p q h)

read_noted : (ps trace : List Place) (q : Place) → among ps q ≡ true → among (all_noted trace ps) q ≡ true
read_noted [] trace q h = absurd cc
read_noted (p ∷ ps) trace q h = by (are_same p q) refl (λ g. read_noted ps (noted trace p) q g)
  where
    by : (b : Bool) → are_same p q ≡ b → (among ps q ≡ true → among (all_noted (noted trace p) ps) q ≡ true) → among (all_noted (noted trace p) ps) q ≡ true
    by true e rest = kept_noted ps (noted trace p) q (noted_itself trace p q e)
    by false e rest = rest (rw e at h)

-- ---- reads by trees
given_reads : (o : Option Value) (values : Place → Value) → reads (given o) values ≡ []
given_reads None values = refl
given_reads (Some v) values = refl

bound_reads : (store : Store) (p : Place) (e : Eval × List Place) → reads_then (value_in store) (λ v. given (taken_in (info_at p store) store v)) e ≡ e.1
bound_reads store p (said.Is v, trace) = ap (all_noted trace) (given_reads (taken_in (info_at p store) store v) (value_in store))
bound_reads store p (said.Faulted f, trace) = refl
bound_reads store p (said.Needs q, trace) = refl

tree_reads : (store : Store) (p q : Place) → IsRead (value_in store) q (tree_at store p) → ReadsIn store p q
unfolding reads_at equation bound_tree
tree_reads store p q h = by (has_owner (instance_at p.serial store)) (binding_at p store) (native_at store p) h
  where
    by : (owned : Bool) (b : Option Binding) (native : Option Native) → IsRead (value_in store) q (unwrap_or (if owned then equation_by store p b native else None) (faults WrongKind)) →
        among (if owned then reads_by store p b native else []) q ≡ true
    by true (Some b) native h =
        let whole = answers (shape_of store) (value_in store) b.expr b.frame [] (λ v. given (taken_in (info_at p store) store v)) in
        subst (λ (ps : List Place). among ps q ≡ true) (whole.reads ∙ bound_reads store p (value_and_reads (meanings_of store) b.expr b.frame []))
        (read_noted (reads (bound_tree store p b) (value_in store)) [] q (read_listed (value_in store) q (bound_tree store p b) h))
    by true None (Some native) h = read_listed (value_in store) q (native_tree store native p.serial) h
    by true None None h = read_listed (value_in store) q (faults WrongKind) h
    by false b native h = read_listed (value_in store) q (faults WrongKind) h

-- ---- over the settled store
-- ignored: the anchors that count for nothing
module _ (store : Store) (ignored : List Place) where
  abbrev over : Store
  over = with_ignored ignored (ended (settled_store store))

  reads_over : (p q : Place) → Reads space (tree_at store) (settled_from store) p q → ReadsIn over p q
  reads_over p q h =
      let trees : tree_at over p ≡ tree_at store p = ap (λ (o : Option Tree). unwrap_or o (faults WrongKind)) (equation_over store ignored p) in
      let same : value_in over ≡ (λ (r : Place). value_of (settled_from store r)) = λ i r. value_over store ignored r i in
      let valued : IsRead (value_in over) q (tree_at store p) = subst (λ (v : Place → Value). IsRead v q (tree_at store p)) (sym same) h in
      tree_reads over p q (subst (λ (t : Tree). IsRead (value_in over) q t) (sym trees) valued)

  path_over : (p : Place) (chain : List Place) (end : Place) → IsPath space (tree_at store) (settled_from store) p chain end → IsPathIn over p chain end
  path_over p [] end h = reads_over p end h
  path_over p (q ∷ qs) end h = (reads_over p q h.0, path_over q qs end h.1)

  -- the chains are ones over the store
  pub chains_over : (loops : List (Place × List Place)) → AreChains space (tree_at store) (settled_from store) loops → AreChainsIn over loops
  chains_over [] h = h
  chains_over (found ∷ loops) h = (path_over found.0 found.1 found.0 h.0, chains_over loops h.1)

  -- the loops are those of the newly suspended places
  pub loops_over : (loops : List (Place × List Place)) → AreLoops store loops → AreLoopsIn store over loops
  loops_over loops h = record { suspended = λ p. sym (h.suspended p) ∙ suspended_over store ignored p; once = h.once }

  -- the faults are those that are marked in the store
  pub faults_over : faulted_from store ≡ faulted_in (mark_in over) store (equated store)
  unfolding faulted_from
  faults_over = λ i. faulted_in (λ p. sym (mark_over store ignored p) i) store (equated store)
