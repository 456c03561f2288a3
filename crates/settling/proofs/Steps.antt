-- What the steps of a place keep.
use Rattle.std.proofs.Common.{◌≡◌, true, false, Some, refl, sym, ap, subst, ◌∙◌}
use Rattle.settling.specs.Cells.{Kept, Cell, plain, resting, fresh, under_way, stopped, active, marked, suspended, value_of, mark_of, clean, is_fresh, is_active, is_ready, is_ended, is_valued, Step, begins, stops, ends, fails, suspends, Becomes, stays, goes_on}

module _ {V F : Type 0} where
  pub becomes_itself : (c : Cell V F) → Becomes c c
  becomes_itself c = stays refl

  pub becomes_by : {c d : Cell V F} → Step c d → Becomes c d
  becomes_by {d = d} step = goes_on d step (stays refl)

  pub becomes_again : {c m d : Cell V F} → Becomes c m → Becomes m d → Becomes c d
  becomes_again {c = c} {m = m} {d = d} (stays e) h = subst (λ (x : Cell V F). Becomes x d) e h
  becomes_again (goes_on n step rest) h = goes_on n step (becomes_again rest h)

  -- a step of a place that has no value so far, or was read while its evaluation was under way
  step_clean : {c d : Cell V F} {v : V} → Step c d → clean c ≡ Some v → clean d ≡ Some v
  step_clean (begins k e i) h = let g = ap clean e in cc
  step_clean (stops k e i) h = let g = ap clean e in cc
  step_clean (ends k w e i) h = let g = ap clean e in cc
  step_clean (fails k f e i) h = let g = ap clean e in cc
  step_clean (suspends k e i) h = ap clean i ∙ sym (ap clean e) ∙ h

  pub becomes_clean : {c d : Cell V F} {v : V} → Becomes c d → clean c ≡ Some v → clean d ≡ Some v
  becomes_clean (stays e) h = ap clean e ∙ h
  becomes_clean (goes_on m step rest) h = becomes_clean rest (step_clean step h)

  pub clean_value : {v : V} (c : Cell V F) → clean c ≡ Some v → value_of c ≡ v
  clean_value (plain k) h = cc
  clean_value (resting k) h = cc
  clean_value (fresh k) h = cc
  clean_value (under_way k) h = cc
  clean_value (stopped k) h = cc
  clean_value (active w) h = cc
  clean_value (marked w f) h = cc
  clean_value (suspended k) h = cc

  step_ended : {c d : Cell V F} → Step c d → is_ended c ≡ false
  step_ended (begins k e i) = ap is_ended e
  step_ended (stops k e i) = ap is_ended e
  step_ended (ends k w e i) = ap is_ended e
  step_ended (fails k f e i) = ap is_ended e
  step_ended (suspends k e i) = ap is_ended e

  -- no step leads from a place that has ended
  pub becomes_ended : {c d : Cell V F} → Becomes c d → is_ended c ≡ true → d ≡ c
  becomes_ended (stays e) h = e
  becomes_ended (goes_on m step rest) h = let g = step_ended step in cc

  step_fresh : {c d : Cell V F} → Step c d → is_fresh d ≡ false
  step_fresh (begins k e i) = ap is_fresh i
  step_fresh (stops k e i) = ap is_fresh i
  step_fresh (ends k w e i) = ap is_fresh i
  step_fresh (fails k f e i) = ap is_fresh i
  step_fresh (suspends k e i) = ap is_fresh i

  -- no place becomes fresh
  pub becomes_fresh : {c d : Cell V F} → Becomes c d → is_fresh c ≡ false → is_fresh d ≡ false
  becomes_fresh (stays e) h = ap is_fresh e ∙ h
  becomes_fresh (goes_on m step rest) h = becomes_fresh rest (step_fresh step)

  pub clean_fresh : {v : V} (c : Cell V F) → clean c ≡ Some v → is_fresh c ≡ false
  clean_fresh (plain k) h = refl
  clean_fresh (resting k) h = refl
  clean_fresh (fresh k) h = cc
  clean_fresh (under_way k) h = refl
  clean_fresh (stopped k) h = refl
  clean_fresh (active w) h = refl
  clean_fresh (marked w f) h = refl
  clean_fresh (suspended k) h = refl

  pub fresh_cell : (c : Cell V F) → is_fresh c ≡ true → (k : Kept V F) × (c ≡ fresh k)
  fresh_cell (plain k) h = cc
  fresh_cell (resting k) h = cc
  fresh_cell (fresh k) h = (k, refl)
  fresh_cell (under_way k) h = cc
  fresh_cell (stopped k) h = cc
  fresh_cell (active w) h = cc
  fresh_cell (marked w f) h = cc
  fresh_cell (suspended k) h = cc

  -- as a settle begins, what isn't fresh has ended
  pub ready_ended : (c : Cell V F) → is_ready c ≡ true → is_fresh c ≡ false → is_ended c ≡ true
  ready_ended (plain k) h f = refl
  ready_ended (resting k) h f = refl
  ready_ended (fresh k) h f = sym f
  ready_ended (under_way k) h f = h
  ready_ended (stopped k) h f = h
  ready_ended (active w) h f = refl
  ready_ended (marked w g) h f = refl
  ready_ended (suspended k) h f = refl

  pub becomes_value : {c d : Cell V F} → Becomes c d → is_valued d ≡ false → value_of d ≡ value_of c
  becomes_value (stays e) h = ap value_of e
  becomes_value (goes_on m (begins k e i) rest) h = becomes_value rest h ∙ ap value_of i ∙ sym (ap value_of e)
  becomes_value (goes_on m (stops k e i) rest) h = becomes_value rest h ∙ ap value_of i ∙ sym (ap value_of e)
  becomes_value (goes_on m (ends k v e i) rest) h = let g = ap is_valued (becomes_ended rest (ap is_ended i) ∙ i) in cc
  becomes_value (goes_on m (fails k f e i) rest) h = becomes_value rest h ∙ ap value_of i ∙ sym (ap value_of e)
  becomes_value (goes_on m (suspends k e i) rest) h = becomes_value rest h ∙ ap value_of i ∙ sym (ap value_of e)

  pub becomes_mark : {c d : Cell V F} → Becomes c d → is_active d ≡ false → mark_of d ≡ mark_of c
  becomes_mark (stays e) h = ap mark_of e
  becomes_mark (goes_on m (begins k e i) rest) h = becomes_mark rest h ∙ ap mark_of i ∙ sym (ap mark_of e)
  becomes_mark (goes_on m (stops k e i) rest) h = becomes_mark rest h ∙ ap mark_of i ∙ sym (ap mark_of e)
  becomes_mark (goes_on m (ends k v e i) rest) h = let g = ap is_active (becomes_ended rest (ap is_ended i) ∙ i) in cc
  becomes_mark (goes_on m (fails k f e i) rest) h = let g = ap is_active (becomes_ended rest (ap is_ended i) ∙ i) in cc
  becomes_mark (goes_on m (suspends k e i) rest) h = becomes_mark rest h ∙ ap mark_of i ∙ sym (ap mark_of e)
