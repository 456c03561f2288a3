use Rattle.std.proofs.Common.{◌≡◌, ◌∙◌, ap, subst, sym, List}
use Rattle.std.specs.Prelude.{map}
use Rattle.qml_ast.specs.declared.place.Place.{Place}
use Rattle.settling.specs.Loops.{shown}
use Rattle.object_tree.specs.Ignored.{with_ignored}
use Rattle.object_tree.specs.Store.{Store}
use Rattle.object_tree.specs.Writing.{ended}
use Rattle.binding_engine.specs.Equations.{equated}
use Rattle.binding_engine.specs.Findings.{faulted_in}
use Rattle.binding_engine.specs.Holding.{EquationsHold, KeepsLast, AreChainsIn, AreLoopsIn, mark_in}
use Rattle.binding_engine.specs.Settling.{resumed_by, settled_store}
use Rattle.binding_engine.proofs.Chains.{chains_over, loops_over, faults_over}
use Rattle.object_tree.specs.Order.{AreRising}
use Rattle.object_tree.specs.Places.{places_of}
use Rattle.binding_engine.proofs.Holding.{equations_hold, keeps_last, places_over}
use Rattle.binding_engine.proofs.Looped.{loops_listed}
use Rattle.binding_engine.proofs.engine.Engine.settle.Goals as goal

-- what the settled store is
abbrev Whole : List Place → Store → Store → Type 0
Whole ignored after before = after ≡ with_ignored ignored (ended (settled_store before))

pub returns-clause-holds : goal.returns-clause-holds
returns-clause-holds c =
    let is : Whole c.as_slice-4.result.now c.keep_ignored.new.self c.resume_all.new.objects =
    c.in_ok-keep_ignored.ensures ∙ ap (with_ignored c.as_slice-4.result.now) (c.end_settle.ensures ∙ ap ended c.in_ok-settled.ensures.store) in
    subst (λ (s : Store). EquationsHold s) (sym is) (equations_hold c.resume_all.new.objects c.as_slice-4.result.now)

pub returns-clause-faulted : goal.returns-clause-faulted
returns-clause-faulted c =
    let is : Whole c.as_slice-4.result.now c.keep_ignored.new.self c.resume_all.new.objects =
    c.in_ok-keep_ignored.ensures ∙ ap (with_ignored c.as_slice-4.result.now) (c.end_settle.ensures ∙ ap ended c.in_ok-settled.ensures.store) in
    c.in_ok-settled.ensures.faulted ∙ faults_over c.resume_all.new.objects c.as_slice-4.result.now
    ∙ ap (λ (s : Store). faulted_in (mark_in s) c.resume_all.new.objects (equated c.resume_all.new.objects)) (sym is)
    ∙ ap (λ (b : Store). faulted_in (mark_in c.keep_ignored.new.self) b (equated b)) (c.resume_all.ensures ∙ ap (λ (ws : List Place). resumed_by ws c.args.objects.now) c.as_slice.ensures)

pub returns-clause-loops : goal.returns-clause-loops
returns-clause-loops c =
    let is : Whole c.as_slice-4.result.now c.keep_ignored.new.self c.resume_all.new.objects =
    c.in_ok-keep_ignored.ensures ∙ ap (with_ignored c.as_slice-4.result.now) (c.end_settle.ensures ∙ ap ended c.in_ok-settled.ensures.store) in
    let found : AreLoopsIn c.resume_all.new.objects c.keep_ignored.new.self (map shown c.in_ok-settled.settled.loops.items) =
    subst (λ (s : Store). AreLoopsIn c.resume_all.new.objects s (map shown c.in_ok-settled.settled.loops.items)) (sym is)
    (loops_over c.resume_all.new.objects c.as_slice-4.result.now (map shown c.in_ok-settled.settled.loops.items) c.in_ok-settled.ensures.loops) in
    subst (λ (b : Store). AreLoopsIn b c.keep_ignored.new.self (map shown c.in_ok-settled.settled.loops.items))
    (c.resume_all.ensures ∙ ap (λ (ws : List Place). resumed_by ws c.args.objects.now) c.as_slice.ensures) found

pub returns-clause-chains : goal.returns-clause-chains
returns-clause-chains c =
    let is : Whole c.as_slice-4.result.now c.keep_ignored.new.self c.resume_all.new.objects =
    c.in_ok-keep_ignored.ensures ∙ ap (with_ignored c.as_slice-4.result.now) (c.end_settle.ensures ∙ ap ended c.in_ok-settled.ensures.store) in
    subst (λ (s : Store). AreChainsIn s (map shown c.in_ok-settled.settled.loops.items)) (sym is)
    (chains_over c.resume_all.new.objects c.as_slice-4.result.now (map shown c.in_ok-settled.settled.loops.items) (c.in_ok-settled.ensures.loops).chains)

pub returns-clause-keeps : goal.returns-clause-keeps
returns-clause-keeps c =
    let is : Whole c.as_slice-4.result.now c.keep_ignored.new.self c.resume_all.new.objects =
    c.in_ok-keep_ignored.ensures ∙ ap (with_ignored c.as_slice-4.result.now) (c.end_settle.ensures ∙ ap ended c.in_ok-settled.ensures.store) in
    subst (λ (b : Store). KeepsLast b c.keep_ignored.new.self) (c.resume_all.ensures ∙ ap (λ (ws : List Place). resumed_by ws c.args.objects.now) c.as_slice.ensures)
    (subst (λ (s : Store). KeepsLast c.resume_all.new.objects s) (sym is) (keeps_last c.resume_all.new.objects c.as_slice-4.result.now))

pub returns-clause-looped : goal.returns-clause-looped
returns-clause-looped c =
    let is : Whole c.as_slice-4.result.now c.keep_ignored.new.self c.resume_all.new.objects =
    c.in_ok-keep_ignored.ensures ∙ ap (with_ignored c.as_slice-4.result.now) (c.end_settle.ensures ∙ ap ended c.in_ok-settled.ensures.store) in
    let rises : AreRising (places_of c.keep_ignored.new.self) =
    subst (λ (ps : List Place). AreRising ps) (sym (ap places_of is ∙ places_over c.resume_all.new.objects c.as_slice-4.result.now)) c.in_ok-settled.ensures.rising in
    loops_listed (resumed_by c.args.writes.now c.args.objects.now) c.keep_ignored.new.self c.in_ok-settled.settled.loops.items rises (returns-clause-loops c) c.in_ok-settled.ensures.ordered
