-- The world with which a run starts, step by step.
use Rattle.std.proofs.Common.{◌≡◌, ◌∙◌, ℕ, ℤ, pos, List, [], ◌∷◌, ap, fold}
use Rattle.std.specs.Prelude.{Option}
use Rattle.std.specs.Map.{keys_of}
use Rattle.qml_ast.specs.declared.place.Place.{Place}
use Rattle.qml_types.specs.declared.component.ComponentType.{ComponentType}
use Rattle.type_table.specs.declared.item_slots.TheConstants.{WIDTH, HEIGHT}
use Rattle.binding_engine.specs.Holding.{EquationsHold}
use Rattle.binding_engine.specs.declared.engine.Engine.{Engine}
use Rattle.handler_laws.proofs.Held.{reacts, completes}
use Rattle.item_paint.specs.declared.showing.TheConstants.{CONTENT_ITEM}
use Rattle.object_tree.specs.First.{first_store}
use Rattle.object_tree.specs.Limits.{make_fault}
use Rattle.object_tree.specs.Store.{Store}
use Rattle.script_text.specs.declared.note.LimitKind.{LimitKind}
use Rattle.signals.specs.Calls.{fresh_world, react_ran}
use Rattle.signals.specs.declared.ending.Ran.{Ran}
use Rattle.signals.specs.declared.world.World.{World}
use Rattle.stage_run.specs.Shown.{StartHolds}
use Rattle.stage_run.specs.Started.{rooted, sized, started, with_content, with_limit, refusal_of, unsettled, completed, all_completed}

pub started_so : (main : ComponentType) (width height : ℤ) (s0 s1 s2 s3 : Store) (met : Option LimitKind) (engine : Engine) (w1 w2 w3 w4 : World) (writes : List Place) (ran : Ran) →
    s0 ≡ first_store → s1 ≡ with_content WIDTH width s0 → s2 ≡ with_content HEIGHT height s1 → s3 ≡ rooted main s2 → met ≡ refusal_of (make_fault main CONTENT_ITEM s2) →
    w1 ≡ fresh_world s3 engine → w2 ≡ with_limit met main w1 → writes ≡ [] → (ran, w3) ≡ react_ran writes w2 → w4 ≡ all_completed w3 → w4 ≡ started main width height
unfolding started
started_so main width height s0 s1 s2 s3 met engine w1 w2 w3 w4 writes ran first wide high made limit fresh noted none settled done =
    let sized_so : s2 ≡ sized width height first_store = high ∙ ap (with_content HEIGHT height) (wide ∙ ap (with_content WIDTH width) first) in
    let before : w2 ≡ unsettled main (sized width height first_store) (record {}) =
    noted ∙ (ap (with_limit met main) (fresh ∙ ap (λ s. fresh_world s engine) made)
    ∙ (ap (λ m. with_limit m main (fresh_world (rooted main s2) engine)) limit
    ∙ ap (λ s. unsettled main s (record {})) sized_so)) in
    done ∙ ap all_completed (ap (λ (p : Ran × World). p.1) settled ∙ (ap (λ ws. (react_ran ws w2).1) none ∙ ap (λ w. (react_ran [] w).1) before))

-- the equations hold after the completion of these objects, where they held before
all_hold : (serials : List ℕ) (w : World) → EquationsHold w.objects → EquationsHold (fold completed w serials).objects
all_hold [] w p = p
all_hold (serial ∷ serials) w p = all_hold serials (completed w serial) (completes serial w p)

-- the equations hold of the objects with which a run starts
pub start_holds : (components : List ComponentType) → StartHolds components
unfolding started
start_holds [] = tt
start_holds (main ∷ _) =
    let before = unsettled main (sized (pos 640) (pos 480) first_store) (record {}) in
    let settled = (react_ran [] before).1 in
    all_hold (keys_of settled.objects.objects.things) settled (reacts [] before)
