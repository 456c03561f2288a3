-- A settle comes to the same in two kinds of states in which the places have the same.
use Rattle.std.proofs.Common.{◌≡◌, ℕ, zero, suc, Bool, true, false, List, [], ◌∷◌, length, refl, sym, ap, subst, ◌∙◌}
use Rattle.settling.specs.Runs.{Run, gives, faults, asks}
use Rattle.settling.specs.Cells.{Kept, Cell, plain, resting, fresh, under_way, stopped, active, marked, suspended, value_of, is_plain}
use Rattle.settling.specs.Spaces.{Space}
use Rattle.settling.specs.Settling.{controlled, run, entered, visit, visits, settled}

module _ {S T P V F : Type 0} (one : Space S P V F) (other : Space T P V F) (same : (p q : P) → one.are_same p q ≡ other.are_same p q) where
  abbrev pub Alike : S → T → Type 0
  Alike s t = (q : P) → one.at s q ≡ other.at t q

  put_alike : (s : S) (t : T) (p : P) (c : Cell V F) → Alike s t → is_plain (one.at s p) ≡ false → is_plain c ≡ false → Alike (one.put s p c) (other.put t p c)
  put_alike s t p c h bound whole q = by (one.are_same p q) refl
    where
      here : one.at (one.put s p c) p ≡ other.at (other.put t p c) p
      here = one.there s p c bound whole ∙ sym (other.there t p c (ap is_plain (sym (h p)) ∙ bound) whole)

      by : (b : Bool) → one.are_same p q ≡ b → one.at (one.put s p c) q ≡ other.at (other.put t p c) q
      by true e = subst (λ (x : P). one.at (one.put s p c) x ≡ other.at (other.put t p c) x) (one.one_place p q e) here
      by false e = one.elsewhere s p c q e ∙ h q ∙ sym (other.elsewhere t p c q (sym (same p q) ∙ e))

  module _ (s : S) (t : T) (p : P) (h : Alike s t) where
    controlled_by : (c : Cell V F) → one.at s p ≡ c → (go : Kept V F → S) (along : Kept V F → T) → ((k : Kept V F) → one.at s p ≡ under_way k → Alike (go k) (along k)) → Alike (controlled one c p s go) (controlled other c p t along)
    controlled_by (plain k) e go along rest = h
    controlled_by (resting k) e go along rest = h
    controlled_by (fresh k) e go along rest = h
    controlled_by (under_way k) e go along rest = rest k e
    controlled_by (stopped k) e go along rest = put_alike s t p (suspended k) h (ap is_plain e) refl
    controlled_by (active v) e go along rest = h
    controlled_by (marked v f) e go along rest = h
    controlled_by (suspended k) e go along rest = h

    controlled_alike : (go : Kept V F → S) (along : Kept V F → T) → ((k : Kept V F) → one.at s p ≡ under_way k → Alike (go k) (along k)) → Alike (controlled one (one.at s p) p s go) (controlled other (other.at t p) p t along)
    controlled_alike go along rest =
        subst (λ (c : Cell V F). Alike (controlled one (one.at s p) p s go) (controlled other c p t along)) (h p) (controlled_by (one.at s p) refl go along rest)

    entered_by : (c : Cell V F) → one.at s p ≡ c → (f : S → S) (g : T → T) → ((m : S) (n : T) → Alike m n → Alike (f m) (g n)) → Alike (entered one c p s f) (entered other c p t g)
    entered_by (plain k) e f g rest = h
    entered_by (resting k) e f g rest = h
    entered_by (fresh k) e f g rest = rest (one.put s p (under_way k)) (other.put t p (under_way k)) (put_alike s t p (under_way k) h (ap is_plain e) refl)
    entered_by (under_way k) e f g rest = put_alike s t p (stopped k) h (ap is_plain e) refl
    entered_by (stopped k) e f g rest = h
    entered_by (active v) e f g rest = h
    entered_by (marked v x) e f g rest = h
    entered_by (suspended k) e f g rest = h

    entered_alike : (f : S → S) (g : T → T) → ((m : S) (n : T) → Alike m n → Alike (f m) (g n)) → Alike (entered one (one.at s p) p s f) (entered other (other.at t p) p t g)
    entered_alike f g rest = subst (λ (c : Cell V F). Alike (entered one (one.at s p) p s f) (entered other c p t g)) (h p) (entered_by (one.at s p) refl f g rest)

  module _ (v : P → S → S) (w : P → T → T) (each : (q : P) (s : S) (t : T) → Alike s t → Alike (v q s) (w q t)) where
    run_alike : (p : P) (r : Run P V F) (s : S) (t : T) → Alike s t → Alike (run one v p r s) (run other w p r t)
    unfolding run
    run_alike p (gives x) s t h = controlled_alike s t p h (λ k. one.put s p (active x)) (λ k. other.put t p (active x)) (λ k e. put_alike s t p (active x) h (ap is_plain e) refl)
    run_alike p (faults f) s t h =
        controlled_alike s t p h (λ k. one.put s p (marked k.value f)) (λ k. other.put t p (marked k.value f)) (λ k e. put_alike s t p (marked k.value f) h (ap is_plain e) refl)
    run_alike p (asks q next) s t h =
        controlled_alike s t p h
        (λ k. run one v p (next (value_of (one.at (v q s) q))) (v q s))
        (λ k. run other w p (next (value_of (other.at (w q t) q))) (w q t))
        (λ k e. subst (λ (c : Cell V F). Alike (run one v p (next (value_of (one.at (v q s) q))) (v q s)) (run other w p (next (value_of c)) (w q t))) (each q s t h q)
        (run_alike p (next (value_of (one.at (v q s) q))) (v q s) (w q t) (each q s t h)))

  module _ (tree : P → Run P V F) where
    visit_alike : (most : ℕ) (p : P) (s : S) (t : T) → Alike s t → Alike (visit one tree most p s) (visit other tree most p t)
    unfolding visit
    visit_alike zero p s t h = entered_alike s t p h (λ m. m) (λ m. m) (λ m n g. g)
    visit_alike (suc most) p s t h =
        entered_alike s t p h (run one (visit one tree most) p (tree p)) (run other (visit other tree most) p (tree p)) (run_alike (visit one tree most) (visit other tree most) (visit_alike most) p (tree p))

    visits_alike : (most : ℕ) (ps : List P) (s : S) (t : T) → Alike s t → Alike (visits one tree most ps s) (visits other tree most ps t)
    unfolding visits
    visits_alike most [] s t h = h
    visits_alike most (p ∷ ps) s t h = visits_alike most ps (visit one tree most p s) (visit other tree most p t) (visit_alike most p s t h)

    pub settled_alike : (ps : List P) (s : S) (t : T) → Alike s t → Alike (settled one tree ps s) (settled other tree ps t)
    unfolding settled
    settled_alike ps s t h = visits_alike (length ps) ps s t h
