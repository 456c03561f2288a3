-- The turns of a loop, as code makes them.
use Rattle.std.proofs.Common.{◌≡◌, ◌<◌, ◌∙◌, ℕ, zero, suc, Bool, true, false, List, Option, refl, sym, ap, subst, arith}
use Rattle.std.specs.Prelude.{Ok, Err, if◌then◌else◌}
use Rattle.qml_ast.specs.declared.expr.Expr.{Expr}
use Rattle.expr_eval.specs.declared.found.Frame.{Frame}
use Rattle.expr_eval.specs.declared.locals.NamedLocal.{NamedLocal}
use Rattle.signals.specs.Endings.{Flowing, Doing, on, followed, with_value, Leaves, Gives}
use Rattle.signals.specs.Running.{turns, looped}
use Rattle.signals.specs.Values.{condition_in}
use Rattle.signals.specs.declared.ending.Flow.TheVariants.{Going, Returned}
use Rattle.signals.specs.declared.ending.Stop.{Stop}
use Rattle.signals.specs.declared.world.World.{World}
use Rattle.signals.proofs.Following.{stops_value, stops_followed}

-- so many turns, more than statements are left, make the rest of the loop
abbrev pub Turning : Frame → Option Expr → Doing → World → List NamedLocal → Flowing → Type 0
Turning frame test turn w locals whole = (n : ℕ) × (w.left < n) × (turns frame test turn n w locals ≡ whole)

pub begins : (frame : Frame) (test : Option Expr) (turn : Doing) (w : World) (locals : List NamedLocal) → Turning frame test turn w locals (looped frame test turn w locals)
unfolding looped
begins frame test turn w locals = (suc w.left, omega arith, refl)

module _ (frame : Frame) (test : Option Expr) (turn : Doing) (w : World) (locals : List NamedLocal) (whole : Flowing) where
  abbrev next : ℕ → Bool → Flowing
  next n holds = if holds then followed (turn w locals) (turns frame test turn n) else on w locals

  pub test_stops : (stop : Stop) → Turning frame test turn w locals whole → Gives (condition_in frame w.objects locals test) (Err stop) → Leaves whole (Err stop) w locals
  test_stops stop (zero, less, same) h = absurd (omega (arith, less))
  test_stops stop (suc n, less, same) h =
      subst (λ o. Leaves o (Err stop) w locals) same (stops_value (condition_in frame w.objects locals test) stop w locals (next n) h)

  -- where the condition has a value
  tested : (n : ℕ) (v : Bool) → condition_in frame w.objects locals test ≡ Ok v → turns frame test turn (suc n) w locals ≡ next n v
  tested n v is = ap (λ r. with_value r w locals (next n)) is

  pub test_fails : (v : Bool) → Turning frame test turn w locals whole → condition_in frame w.objects locals test ≡ Ok v → v ≡ false → whole ≡ on w locals
  test_fails v (zero, less, same) is fails = absurd (omega (arith, less))
  test_fails v (suc n, less, same) is fails =
      sym same ∙ (tested n v is ∙ ap (λ b. if b then followed (turn w locals) (turns frame test turn n) else on w locals) fails)

  -- where it holds
  turned : (n : ℕ) (v : Bool) → condition_in frame w.objects locals test ≡ Ok v → v ≡ true → turns frame test turn (suc n) w locals ≡ followed (turn w locals) (turns frame test turn n)
  turned n v is holds = tested n v is ∙ ap (λ b. if b then followed (turn w locals) (turns frame test turn n) else on w locals) holds

  pub turn_stops : (v : Bool) (stop : Stop) (w2 : World) (l2 : List NamedLocal) → Turning frame test turn w locals whole → condition_in frame w.objects locals test ≡ Ok v → v ≡ true →
      Leaves (turn w locals) (Err stop) w2 l2 → Leaves whole (Err stop) w2 l2
  turn_stops v stop w2 l2 (zero, less, same) is holds h = absurd (omega (arith, less))
  turn_stops v stop w2 l2 (suc n, less, same) is holds h =
      subst (λ o. Leaves o (Err stop) w2 l2) (sym (turned n v is holds) ∙ same) (stops_followed (turn w locals) (turns frame test turn n) stop w2 l2 h)

  pub turn_returns : (v : Bool) (w2 : World) (l2 : List NamedLocal) → Turning frame test turn w locals whole → condition_in frame w.objects locals test ≡ Ok v → v ≡ true →
      turn w locals ≡ (Ok Returned, (w2, l2)) → whole ≡ (Ok Returned, (w2, l2))
  turn_returns v w2 l2 (zero, less, same) is holds h = absurd (omega (arith, less))
  turn_returns v w2 l2 (suc n, less, same) is holds h = sym same ∙ (turned n v is holds ∙ ap (λ o. followed o (turns frame test turn n)) h)

  pub turn_goes : (v : Bool) (w2 : World) (l2 : List NamedLocal) → Turning frame test turn w locals whole → condition_in frame w.objects locals test ≡ Ok v → v ≡ true →
      turn w locals ≡ (Ok Going, (w2, l2)) → w2.left < w.left → Turning frame test turn w2 l2 whole
  turn_goes v w2 l2 (zero, less, same) is holds h fewer = absurd (omega (arith, less))
  turn_goes v w2 l2 (suc n, less, same) is holds h fewer =
      (n, omega (arith, less, fewer), sym (ap (λ o. followed o (turns frame test turn n)) h) ∙ (sym (turned n v is holds) ∙ same))
