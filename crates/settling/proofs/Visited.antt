-- The value that a visit gave never changes, and an evaluation that begins again goes on.
use Rattle.std.proofs.Common.{◌≡◌, Some, refl, sym, ap, subst, ◌∙◌}
use Rattle.settling.specs.Runs.{Run}
use Rattle.settling.specs.Cells.{Kept, Cell, fresh, under_way, stopped, active, marked, suspended, clean, Step, Becomes}
use Rattle.settling.specs.Cells as cells
use Rattle.settling.specs.Spaces.{Space}
use Rattle.settling.specs.Settling.{Visits, Runs, done, again, first, stops, ends, fails, goes}
use Rattle.settling.specs.Holding.{Later}
use Rattle.settling.proofs.Changes.{put_there, later_put, later_itself, later_again}

module _ {S P V F : Type 0} (space : Space S P V F) (tree : P → Run P V F) where
  mutual
    pub visits_later : {s : S} {p : P} {v : V} {t : S} → Visits space tree s p v t → Later space s t
    visits_later {s = s} (done e i) = subst (λ (x : S). Later space s x) (sym i) (later_itself space s)
    visits_later {s = s} (again k e g i) = subst (λ (x : S). Later space s x) (sym i) (later_put space (cells.stops k e refl))
    visits_later (first k e r c) = later_again space (later_put space (cells.begins k e refl)) (runs_later r)

    pub runs_later : {p : P} {r : Run P V F} {s t : S} → Runs space tree p r s t → Later space s t
    runs_later {s = s} (stops k e i) = subst (λ (x : S). Later space s x) (sym i) (later_put space (cells.suspends k e refl))
    runs_later {s = s} (ends k v e g i) = subst (λ (x : S). Later space s x) (sym i) (later_put space (cells.ends k v e refl))
    runs_later {s = s} (fails k f e g i) = subst (λ (x : S). Later space s x) (sym i) (later_put space (cells.fails k f e refl))
    runs_later (goes k q next v m e g visit rest) = later_again space (visits_later visit) (runs_later rest)

  -- the place has the value that a visit gave
  pub visits_clean : {s : S} {p : P} {v : V} {t : S} → Visits space tree s p v t → clean (space.at t p) ≡ Some v
  visits_clean {p = p} (done e i) = ap (λ (x : S). clean (space.at x p)) i ∙ e
  visits_clean {p = p} (again k e g i) = ap (λ (x : S). clean (space.at x p)) i ∙ ap clean (put_there space (cells.stops k e refl)) ∙ ap Some (sym g)
  visits_clean (first k e r c) = c

  -- a place whose evaluation has come to its end has a value
  pub runs_clean : {p : P} {r : Run P V F} {s t : S} → Runs space tree p r s t → (v : V) × (clean (space.at t p) ≡ Some v)
  runs_clean {p = p} (stops k e i) = (k.value, ap (λ (x : S). clean (space.at x p)) i ∙ ap clean (put_there space (cells.suspends k e refl)))
  runs_clean {p = p} (ends k v e g i) = (v, ap (λ (x : S). clean (space.at x p)) i ∙ ap clean (put_there space (cells.ends k v e refl)))
  runs_clean {p = p} (fails k f e g i) = (k.value, ap (λ (x : S). clean (space.at x p)) i ∙ ap clean (put_there space (cells.fails k f e refl)))
  runs_clean (goes k q next v m e g visit rest) = runs_clean rest
