-- What is so of a settle, from place to place.
use Rattle.std.proofs.Common.{◌≡◌, ℕ, ◌+◌, Bool, true, false, ◌||◌, List, [], ◌∷◌, ◌++◌, length, take, Some, refl, sym, ap, subst, ◌∙◌, arith}
use Rattle.std.specs.Prelude.{slice_get}
use Rattle.std.proofs.lemmas.List.{take_more, take_all}
use Rattle.std.proofs.lemmas.Option.{slice_get_within, get_or_from_slice_get}
use Rattle.settling.specs.Runs.{Run}
use Rattle.settling.specs.Cells.{Cell, plain, resting, fresh, under_way, stopped, active, marked, suspended, is_fresh, is_open, is_halted, is_suspended, is_ready, is_ended}
use Rattle.settling.specs.Spaces.{Space}
use Rattle.settling.specs.Settling.{Visits, Settles, none, more, Covers, IsReady, settled}
use Rattle.settling.specs.Laws.{IsSettled}
use Rattle.settling.specs.Loops.{has_loop, AreOnce, AreChains}
use Rattle.settling.specs.Stacks.{Stands, IsWithin, IsVisited}
use Rattle.settling.proofs.Changes.{later_itself}
use Rattle.settling.proofs.Visited.{visits_later}
use Rattle.settling.proofs.Fuel.{settles_settled}
use Rattle.settling.proofs.Fulfilled.{settles_end}
use Rattle.settling.proofs.Outcome.{settles_outcome}
use Rattle.settling.proofs.Measure.{within_later}

only_fresh : (a b : Bool) → b ≡ false → (a || b) ≡ true → a ≡ true
only_fresh true b h e = refl
only_fresh false b h e = cc

module _ {V F : Type 0} where
  ready_closed : (c : Cell V F) → is_ready c ≡ true → is_open c ≡ false
  ready_closed (plain k) h = refl
  ready_closed (resting k) h = refl
  ready_closed (fresh k) h = refl
  ready_closed (under_way k) h = sym h
  ready_closed (stopped k) h = sym h
  ready_closed (active v) h = refl
  ready_closed (marked v f) h = refl
  ready_closed (suspended k) h = refl

  ready_unhalted : (c : Cell V F) → is_ready c ≡ true → is_halted c ≡ false
  ready_unhalted (plain k) h = refl
  ready_unhalted (resting k) h = refl
  ready_unhalted (fresh k) h = refl
  ready_unhalted (under_way k) h = refl
  ready_unhalted (stopped k) h = sym h
  ready_unhalted (active v) h = refl
  ready_unhalted (marked v f) h = refl
  ready_unhalted (suspended k) h = sym h

  -- once a place has ended, it was read while its evaluation was under way exactly where it is suspended
  ended_halted : (c : Cell V F) → is_ended c ≡ true → is_suspended c ≡ is_halted c
  ended_halted (plain k) h = refl
  ended_halted (resting k) h = refl
  ended_halted (fresh k) h = refl
  ended_halted (under_way k) h = refl
  ended_halted (stopped k) h = h
  ended_halted (active v) h = refl
  ended_halted (marked v f) h = refl
  ended_halted (suspended k) h = refl

module _ {S P V F : Type 0} (space : Space S P V F) (tree : P → Run P V F) (places : List P) where
  -- the places before the index were visited
  pub record IsRound (start : S) (index : ℕ) (stack : List P) (s : S) (loops : List (P × List P)) : Type 0 where
    pub settles : Settles space tree (take index places) start s
    pub stands : Stands space tree [] s loops
    pub within : IsWithin space places s
    pub empty : stack ≡ []

  pub first_round : (s : S) (stack : List P) (loops : List (P × List P)) → IsReady space s → Covers space places s → stack ≡ [] → loops ≡ []
      → IsRound s 0 stack s loops
  first_round s stack loops ready covers empty no_loops = record {
    settles = none refl refl;
    stands = subst (λ (ls : List (P × List P)). Stands space tree [] s ls) (sym no_loops)
        (record {
          opens = λ x. ready_closed (space.at s x) (ready x);
          apart = tt;
          linked = λ u l. tt;
          chains = λ u l. tt;
          halted = λ x. ready_unhalted (space.at s x) (ready x);
          once = tt;
        });
    within = λ q h. covers q (only_fresh (is_fresh (space.at s q)) (is_open (space.at s q)) (ready_closed (space.at s q) (ready q)) h);
    empty = empty;
  }

  settles_then : (ps : List P) (p : P) (s m t : S) → Settles space tree ps s m → IsVisited space tree m p t → Settles space tree (ps ++ p ∷ []) s t
  settles_then ps p s m t (none e i) visit =
      subst (λ (xs : List P). Settles space tree (xs ++ p ∷ []) s t) (sym e)
      (more p [] visit.0 t refl (subst (λ (x : S). Visits space tree x p visit.0 t) i visit.1) (none refl refl))
  settles_then ps p s m t (more q qs v n e one rest) visit =
      subst (λ (xs : List P). Settles space tree (xs ++ p ∷ []) s t) (sym e) (more q (qs ++ p ∷ []) v n refl one (settles_then qs p n m t rest visit))

  pub next_round : (start : S) (index : ℕ) (place : P) (stack stack' : List P) (s t : S) (loops loops' : List (P × List P)) → slice_get places index ≡ Some place
      → IsRound start index stack s loops → IsVisited space tree s place t → Stands space tree [] t loops' → stack' ≡ [] → IsRound start (index + 1) stack' t loops'
  next_round start index place stack stack' s t loops loops' at h visit stands empty =
      let taken : take (index + 1) places ≡ take index places ++ place ∷ [] =
      take_more places index place (slice_get_within places index place at)
      ∙ ap (λ (x : P). take index places ++ x ∷ []) (get_or_from_slice_get places index place place at) in
      record {
        settles = subst (λ (xs : List P). Settles space tree xs start t) (sym taken) (settles_then (take index places) place start s t h.settles visit);
        stands = stands;
        within = within_later space places h.within (visits_later space tree visit.1);
        empty = empty;
      }

  -- what a settle comes to
  pub record IsDone (start s : S) (loops : List (P × List P)) : Type 0 where
    pub state : s ≡ settled space tree places start
    pub holds : (p : P) → IsSettled space tree start s p
    pub chains : AreChains space tree s loops
    pub places_of : (p : P) → is_suspended (space.at s p) ≡ has_loop space loops p
    pub once : AreOnce space loops

  pub last_round : (start : S) (index : ℕ) (stack : List P) (s : S) (loops : List (P × List P)) → IsReady space start → Covers space places start → index ≡ length places
      → IsRound start index stack s loops → IsDone start s loops
  last_round start index stack s loops ready covers all h =
      let visited : Settles space tree places start s = subst (λ (xs : List P). Settles space tree xs start s)
      (ap (λ (n : ℕ). take n places) all ∙ take_all (length places) places (omega arith)) h.settles in
      record {
        state = settles_settled space tree covers visited;
        holds = λ p. settles_outcome space tree visited covers ready p;
        chains = h.stands.chains s (later_itself space s);
        places_of = λ p. ended_halted (space.at s p) (settles_end space tree visited covers ready p) ∙ h.stands.halted p;
        once = h.stands.once;
      }

  -- the next round, for expressions that are the same as before
  pub round_on : (other : P → Run P V F) (start : S) (index : ℕ) (place : P) (stack stack' : List P) (s t : S) (loops loops' : List (P × List P)) (field : List P) → other ≡ tree
      → field ≡ places → slice_get field index ≡ Some place → IsRound start index stack s loops → IsVisited space other s place t → Stands space other [] t loops'
      → stack' ≡ [] → IsRound start (index + 1) stack' t loops'
  round_on other start index place stack stack' s t loops loops' field same all at h visit stands empty =
      next_round start index place stack stack' s t loops loops' (subst (λ (xs : List P). slice_get xs index ≡ Some place) all at) h
      (subst (λ (x : P → Run P V F). IsVisited space x s place t) same visit) (subst (λ (x : P → Run P V F). Stands space x [] t loops') same stands) empty

  pub round_stands : (other : P → Run P V F) (start : S) (index : ℕ) (stack : List P) (s : S) (loops : List (P × List P)) → other ≡ tree
      → IsRound start index stack s loops → Stands space other [] s loops
  round_stands other start index stack s loops same h = subst (λ (x : P → Run P V F). Stands space x [] s loops) (sym same) h.stands
