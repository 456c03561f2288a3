-- What the calls of one turn come to.
use Rattle.std.proofs.Common.{◌≡◌, List, [], ◌∷◌, ◌++◌, map, Option, Some, None, Result, Ok, Err, refl, sym, ap, subst, ◌∙◌}
use Rattle.std.specs.Prelude.{OnOk}
use Rattle.settling.specs.Runs.{Run}
use Rattle.settling.specs.Cells.{Kept, Cell, plain, resting, fresh, under_way, stopped, active, marked, suspended, clean}
use Rattle.settling.specs.Spaces.{Space}
use Rattle.settling.specs.Evaluations.{evaluated}
use Rattle.settling.specs.Phases.{phase_of, Moves, begun, halted, left}
use Rattle.std.proofs.lemmas.List.{map-append}
use Rattle.settling.specs.Loops.{shown}
use Rattle.settling.specs.declared.found.LoopFound.{LoopFound}
use Rattle.settling.specs.Turns.{above, Meets, enters, stops, Turns, gives_up, comes_to_end, needs}
use Rattle.settling.specs.declared.field.Phase.TheVariants as phase
use Rattle.settling.proofs.Resumed.{evaluated_needs, needs_unclean}

pub on_ok : {T E : Type 0} {A B C : Type 0} (r : Result T E) → (A → B → C) → OnOk r A → OnOk r B → OnOk r C
on_ok (Ok x) h a b = h a b
on_ok (Err e) h a b = tt

module _ {S P V F : Type 0} (space : Space S P V F) where
  -- the cells of these phases
  pub fresh_by : (c : Cell V F) → phase_of c ≡ phase.Fresh → (k : Kept V F) × (c ≡ fresh k)
  fresh_by (plain k) h = cc
  fresh_by (resting k) h = cc
  fresh_by (fresh k) h = (k, refl)
  fresh_by (under_way k) h = cc
  fresh_by (stopped k) h = cc
  fresh_by (active v) h = cc
  fresh_by (marked v f) h = cc
  fresh_by (suspended k) h = cc

  under_way_by : (c : Cell V F) → phase_of c ≡ phase.UnderWay → (k : Kept V F) × (c ≡ under_way k)
  under_way_by (plain k) h = cc
  under_way_by (resting k) h = cc
  under_way_by (fresh k) h = cc
  under_way_by (under_way k) h = (k, refl)
  under_way_by (stopped k) h = cc
  under_way_by (active v) h = cc
  under_way_by (marked v f) h = cc
  under_way_by (suspended k) h = cc

  stopped_by : (c : Cell V F) → phase_of c ≡ phase.Stopped → (k : Kept V F) × (c ≡ stopped k)
  stopped_by (plain k) h = cc
  stopped_by (resting k) h = cc
  stopped_by (fresh k) h = cc
  stopped_by (under_way k) h = cc
  stopped_by (stopped k) h = (k, refl)
  stopped_by (active v) h = cc
  stopped_by (marked v f) h = cc
  stopped_by (suspended k) h = cc

  pub enters_at : {q : P} {stack : List P} {s : S} {loops : List (P × List P)} {stack' : List P} {t : S} → phase_of (space.at s q) ≡ phase.Fresh
      → Moves space begun s q t → stack' ≡ stack ++ q ∷ [] → Meets space q stack s loops stack' t loops
  enters_at {q = q} {s = s} h moves pushed =
      let cell = fresh_by (space.at s q) h in
      enters cell.0 cell.1 (moves ∙ ap (λ (c : Cell V F). space.put s q (begun c)) cell.1) pushed refl

  pub stops_at : {q : P} {stack : List P} {s : S} {loops : List (P × List P)} {t : S} {loops' : List (P × List P)} → phase_of (space.at s q) ≡ phase.UnderWay
      → Moves space halted s q t → loops' ≡ loops ++ (q, above space q stack) ∷ [] → Meets space q stack s loops stack t loops'
  stops_at {q = q} {s = s} h moves found =
      let cell = under_way_by (space.at s q) h in
      stops cell.0 cell.1 (moves ∙ ap (λ (c : Cell V F). space.put s q (halted c)) cell.1) refl found

  -- a place that an evaluation needs has no value
  pub needed_unclean : {q : P} {t : S} {needed : Option P} (p : P) (r : Run P V F) (s : S) → evaluated space p r s ≡ (needed, t) → needed ≡ Some q
      → clean (space.at t q) ≡ None
  needed_unclean {q = q} {t = t} p r s h e =
      let found = evaluated_needs space p r s (h ∙ ap (λ (o : Option P). (o, t)) e) in
      subst (λ (x : S). clean (space.at x q) ≡ None) (sym found.1) (needs_unclean space found.0)

module _ {S P V F : Type 0} (space : Space S P V F) (tree : P → Run P V F) where
  pub gives_up_at : {top : P} {below : List P} {s : S} {loops : List (P × List P)} {t : S} → phase_of (space.at s top) ≡ phase.Stopped
      → Moves space left s top t → Turns space tree top below s loops below t loops
  gives_up_at {top = top} {s = s} h moves =
      let cell = stopped_by space (space.at s top) h in
      gives_up cell.0 cell.1 (moves ∙ ap (λ (c : Cell V F). space.put s top (left c)) cell.1) refl refl

  pub ends_at : {top : P} {below : List P} {s : S} {loops : List (P × List P)} {t : S} {needed : Option P} → phase_of (space.at s top) ≡ phase.UnderWay
      → evaluated space top (tree top) s ≡ (needed, t) → needed ≡ None → Turns space tree top below s loops below t loops
  ends_at {top = top} {s = s} {t = t} h e none =
      let cell = under_way_by space (space.at s top) h in comes_to_end cell.0 cell.1 (e ∙ ap (λ (o : Option P). (o, t)) none) refl refl

  pub needs_at : {top q : P} {below above : List P} {s m : S} {loops : List (P × List P)} {stack : List P} {t : S} {loops' : List (P × List P)} {needed : Option P}
      → phase_of (space.at s top) ≡ phase.UnderWay → evaluated space top (tree top) s ≡ (needed, m) → needed ≡ Some q → above ≡ below ++ top ∷ []
      → Meets space q above m loops stack t loops' → Turns space tree top below s loops stack t loops'
  needs_at {top = top} {q = q} {s = s} {m = m} {loops = loops} {stack = stack} {t = t} {loops' = loops'} h e some pushed meets =
      let cell = under_way_by space (space.at s top) h in
      needs cell.0 q m cell.1 (e ∙ ap (λ (o : Option P). (o, m)) some) (subst (λ (xs : List P). Meets space q xs m loops stack t loops') pushed meets)

-- a loop more
pub shown_push : {P : Type 0} (old new : List (LoopFound P)) (found : LoopFound P) (chain : List P) → new ≡ old ++ found ∷ [] → found.chain.items ≡ chain
    → map shown new ≡ map shown old ++ (found.place, chain) ∷ []
shown_push {P = P} old new found chain pushed same =
    ap (map shown) pushed ∙ map-append shown old (found ∷ []) ∙ ap (λ (xs : List P). map shown old ++ (found.place, xs) ∷ []) same
