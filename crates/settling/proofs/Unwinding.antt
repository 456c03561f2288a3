-- A stack of evaluations that unwinds: each one's evaluation goes on where the one above it has come to.
use Rattle.std.proofs.Common.{◌≡◌, List, [], ◌∷◌, ◌++◌, refl, sym, subst}
use Rattle.settling.specs.Runs.{Run}
use Rattle.settling.specs.Cells.{Kept, under_way}
use Rattle.settling.specs.Spaces.{Space}
use Rattle.settling.specs.Settling.{Visits, Runs, done, again, first}
use Rattle.settling.specs.Settling as visit
use Rattle.settling.specs.Turns.{Meets, enters, stops, Turns, gives_up, comes_to_end, needs}
use Rattle.settling.proofs.Visited.{runs_clean}
use Rattle.settling.proofs.Once.{runs_at}
use Rattle.settling.proofs.Resumed.{Needs, runs_again, evaluated_needs, evaluated_ends}

module _ {S P V F : Type 0} (space : Space S P V F) (tree : P → Run P V F) where
  -- the evaluations of the places lead from s to t, the last one's first
  abbrev pub Unwinds : List P → S → S → Type 0
  Unwinds [] s t = t ≡ s
  Unwinds (p ∷ ps) s t = (m : S) × Unwinds ps s m × Runs space tree p (tree p) m t

  unwinds_push : (stack : List P) (q : P) (s m t : S) → Runs space tree q (tree q) s m → Unwinds stack m t → Unwinds (stack ++ q ∷ []) s t
  unwinds_push [] q s m t r h = (s, refl, subst (λ (x : S). Runs space tree q (tree q) s x) (sym h) r)
  unwinds_push (p ∷ ps) q s m t r h = (h.0, unwinds_push ps q s m h.0 r h.1, h.2)

  unwinds_pop : (stack : List P) (q : P) (s t : S) → Unwinds (stack ++ q ∷ []) s t → (m : S) × Runs space tree q (tree q) s m × Unwinds stack m t
  unwinds_pop [] q s t h = (t, runs_at space tree refl h.1 h.2, refl)
  unwinds_pop (p ∷ ps) q s t h = let inner = unwinds_pop ps q s h.0 h.1 in (inner.0, inner.1, (h.0, inner.2, h.2))

  unwinds_as : {stack stack' : List P} (s t : S) → stack ≡ stack' → Unwinds stack s t → Unwinds stack' s t
  unwinds_as s t e h = subst (λ (x : List P). Unwinds x s t) e h

  -- once what is needed was visited, the evaluation begins again
  meets_unwind : (below : List P) (top q : P) (s : S) (k : Kept V F) (stack : List P) (t : S) (loops loops' : List (P × List P)) → space.at s top ≡ under_way k
      → Needs space s q (tree top) → Meets space q (below ++ top ∷ []) s loops stack t loops' → (u : S) → Unwinds stack t u → Unwinds (below ++ top ∷ []) s u
  meets_unwind below top q s k stack t loops loops' e needed (enters h f i pushed l) u w =
      let inner = unwinds_pop (below ++ top ∷ []) q t u (unwinds_as t u pushed w) in
      let outer = unwinds_pop below top inner.0 u inner.2 in
      let clean = runs_clean space tree inner.1 in
      let visited : Visits space tree s q clean.0 inner.0 = first h f (runs_at space tree refl i inner.1) clean.1 in
      unwinds_push below top s outer.0 u (runs_again space tree k e needed visited outer.1) outer.2
  meets_unwind below top q s k stack t loops loops' e needed (stops h f i same l) u w =
      let outer = unwinds_pop below top t u (unwinds_as t u same w) in
      let visited : Visits space tree s q h.value t = again h f refl i in
      unwinds_push below top s outer.0 u (runs_again space tree k e needed visited outer.1) outer.2

  meets_from : (q : P) (stack : List P) (s m : S) (loops : List (P × List P)) (stack' : List P) (t : S) (loops' : List (P × List P)) → m ≡ s
      → Meets space q stack m loops stack' t loops' → Meets space q stack s loops stack' t loops'
  meets_from q stack s m loops stack' t loops' e h = subst (λ (x : S). Meets space q stack x loops stack' t loops') e h

  -- a turn of the loop is a part of the evaluations
  pub turns_unwind : (top : P) (below : List P) (s : S) (loops : List (P × List P)) (stack : List P) (t : S) (loops' : List (P × List P))
      → Turns space tree top below s loops stack t loops' → (u : S) → Unwinds stack t u → Unwinds (below ++ top ∷ []) s u
  turns_unwind top below s loops stack t loops' (gives_up k e i same l) u w = unwinds_push below top s t u (visit.stops k e i) (unwinds_as t u same w)
  turns_unwind top below s loops stack t loops' (comes_to_end k e h same l) u w =
      unwinds_push below top s t u (evaluated_ends space tree top (tree top) s k e h) (unwinds_as t u same w)
  turns_unwind top below s loops stack t loops' (needs k q m e h meets) u w =
      let needed = evaluated_needs space top (tree top) s h in
      meets_unwind below top q s k stack t loops loops' e needed.0 (meets_from q (below ++ top ∷ []) s m loops stack t loops' needed.1 meets) u w
