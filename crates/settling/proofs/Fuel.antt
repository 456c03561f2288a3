-- No more evaluations nest than there are places that weren't visited, so the function is the relation.
use Rattle.std.proofs.Common.{◌≡◌, ℕ, zero, suc, ◌+◌, ◌≤◌, ◌<◌, Bool, true, false, cond, List, [], ◌∷◌, length, refl, sym, ap, subst, ◌∙◌, arith}
use Rattle.settling.specs.Runs.{Run, gives, faults, asks}
use Rattle.settling.specs.Cells.{Kept, Cell, plain, resting, fresh, under_way, stopped, active, marked, suspended, value_of, clean, is_fresh, is_open, Becomes}
use Rattle.settling.specs.Cells as cells
use Rattle.settling.specs.Spaces.{Space, is_among}
use Rattle.settling.specs.Settling.{Visits, Runs, Settles, done, again, first, stops, ends, fails, goes, none, more, Covers, controlled, run, entered, visit, visits, settled}
use Rattle.settling.specs.Holding.{Later}
use Rattle.settling.specs.Work.{total}
use Rattle.settling.proofs.Steps.{clean_value, becomes_fresh}
use Rattle.settling.proofs.Changes.{put_there, later_put}
use Rattle.settling.proofs.Visited.{visits_clean, visits_later, runs_clean}
use Rattle.settling.proofs.Once.{visits_once}

-- Sums over lists of places

module _ {P : Type 0} where
  pub total_le : (v w : P → ℕ) → ((p : P) → v p ≤ w p) → (ps : List P) → total v ps ≤ total w ps
  total_le v w h [] = omega arith
  total_le v w h (p ∷ ps) = let one = h p in let rest = total_le v w h ps in omega arith

  pub total_most : (w : P → ℕ) (most : ℕ) → ((p : P) → w p ≤ 1) → (ps : List P) → total w ps ≤ length ps
  total_most w most h [] = omega arith
  total_most w most h (p ∷ ps) = let one = h p in let rest = total_most w most h ps in omega arith

module _ {S P V F : Type 0} (space : Space S P V F) where
  -- a sum falls where it falls at one of the places and rises at none
  pub total_lt : (v w : P → ℕ) → ((q : P) → v q ≤ w q) → (ps : List P) (p : P) → is_among space ps p ≡ true → v p < w p → total v ps < total w ps
  total_lt v w h [] p a l = cc
  total_lt v w h (q ∷ ps) p a l = by (space.are_same q p) refl a (λ b. total_lt v w h ps p b l)
    where
      by : (b : Bool) → space.are_same q p ≡ b → is_among space (q ∷ ps) p ≡ true → (is_among space ps p ≡ true → total v ps < total w ps)
          → v q + total v ps < w q + total w ps
      by true e b rest =
          let here : v q < w q = subst (λ (x : P). v x < w x) (sym (space.one_place q p e)) l in
          let others = total_le v w h ps in
          omega arith
      by false e b rest = let others = rest (rw e at b) in let here = h q in omega arith

  abbrev pub fresh_weight : S → P → ℕ
  fresh_weight s p = cond (is_fresh (space.at s p)) 1 0

  -- how many of the places weren't visited
  abbrev pub fresh_count : List P → S → ℕ
  fresh_count places s = total (fresh_weight s) places

  count_step : (b c : Bool) → (b ≡ false → c ≡ false) → cond c 1 0 ≤ cond b 1 0
  count_step true true h = omega arith
  count_step true false h = omega arith
  count_step false true h = let g = h refl in cc
  count_step false false h = omega arith

  pub count_later : (places : List P) {s t : S} → Later space s t → fresh_count places t ≤ fresh_count places s
  count_later places {s} {t} h =
      total_le (fresh_weight t) (fresh_weight s) (λ q. count_step (is_fresh (space.at s q)) (is_fresh (space.at t q)) (λ f. becomes_fresh (h q) f)) places

  was_fresh : (b c : Bool) → (b ≡ false → c ≡ false) → c ≡ true → b ≡ true
  was_fresh true c h e = refl
  was_fresh false c h e = let g = h refl in cc

  pub covers_later : (places : List P) {s t : S} → Covers space places s → Later space s t → Covers space places t
  covers_later places {s} {t} covers h q f = covers q (was_fresh (is_fresh (space.at s q)) (is_fresh (space.at t q)) (λ g. becomes_fresh (h q) g) f)

  -- one place less is fresh once an evaluation has begun
  pub count_begun : (places : List P) (s : S) (p : P) (k : Kept V F) → Covers space places s → space.at s p ≡ fresh k
      → fresh_count places (space.put s p (under_way k)) < fresh_count places s
  count_begun places s p k covers e =
      let begun : Later space s (space.put s p (under_way k)) = later_put space (cells.begins k e refl) in
      let before : fresh_weight s p ≡ 1 = ap (λ (c : Cell V F). cond (is_fresh c) 1 0) e in
      let afterwards : fresh_weight (space.put s p (under_way k)) p ≡ 0 = ap (λ (c : Cell V F). cond (is_fresh c) 1 0) (put_there space (cells.begins k e refl)) in
      total_lt (fresh_weight (space.put s p (under_way k))) (fresh_weight s)
      (λ q. count_step (is_fresh (space.at s q)) (is_fresh (space.at (space.put s p (under_way k)) q)) (λ f. becomes_fresh (begun q) f))
      places p (covers p (ap is_fresh e)) (omega arith)

module _ {S P V F : Type 0} (space : Space S P V F) (tree : P → Run P V F) where
  open_at : (s : S) (p : P) (c : Cell V F) (x : P) (b : Bool) → space.are_same p x ≡ b → (b ≡ true → is_open (space.at (space.put s p c) p) ≡ true)
      → is_open (space.at s x) ≡ true → is_open (space.at (space.put s p c) x) ≡ true
  open_at s p c x true e h o = subst (λ (y : P). is_open (space.at (space.put s p c) y) ≡ true) (space.one_place p x e) (h refl)
  open_at s p c x false e h o = ap is_open (space.elsewhere s p c x e) ∙ o

  open_put : {s t : S} {p : P} (c : Cell V F) (x : P) → t ≡ space.put s p c → space.are_same p x ≡ false → is_open (space.at s x) ≡ true → is_open (space.at t x) ≡ true
  open_put {s = s} {p = p} c x i e o = ap (λ (y : S). is_open (space.at y x)) i ∙ ap is_open (space.elsewhere s p c x e) ∙ o

  open_else : (s : S) (p : P) (k : Kept V F) (x : P) (b : Bool) → space.are_same p x ≡ b → space.at s p ≡ fresh k → is_open (space.at s x) ≡ true → b ≡ false
  open_else s p k x true e f o = let same = ap (λ (y : P). is_open (space.at s y)) (space.one_place p x e) in let closed = ap is_open f in cc
  open_else s p k x false e f o = refl

  mutual
    -- an evaluation that is under way stays so while another place is visited
    pub visits_open : {s : S} {p : P} {v : V} {t : S} → Visits space tree s p v t → (x : P) → is_open (space.at s x) ≡ true → is_open (space.at t x) ≡ true
    visits_open (done e i) x o = ap (λ (y : S). is_open (space.at y x)) i ∙ o
    visits_open {s = s} {p = p} (again k e g i) x o =
        ap (λ (y : S). is_open (space.at y x)) i
        ∙ open_at s p (stopped k) x (space.are_same p x) refl (λ h. ap is_open (put_there space (cells.stops k e refl))) o
    visits_open {s = s} {p = p} (first k e r c) x o =
        let apart = open_else s p k x (space.are_same p x) refl e o in
        runs_open r x apart (ap is_open (space.elsewhere s p (under_way k) x apart) ∙ o)

    pub runs_open : {p : P} {r : Run P V F} {s t : S} → Runs space tree p r s t → (x : P) → space.are_same p x ≡ false → is_open (space.at s x) ≡ true
        → is_open (space.at t x) ≡ true
    runs_open (stops k e i) x a o = open_put (suspended k) x i a o
    runs_open (ends k v e g i) x a o = open_put (active v) x i a o
    runs_open (fails k f e g i) x a o = open_put (marked k.value f) x i a o
    runs_open (goes k q go v m e g visit rest) x a o = runs_open rest x a (visits_open visit x o)

  controlled_is : {p : P} {r : Run P V F} {s : S} (c : Cell V F) → space.at s p ≡ c → is_open c ≡ true → (go : Kept V F → S)
      → ((k : Kept V F) → space.at s p ≡ under_way k → Runs space tree p r s (go k)) → Runs space tree p r s (controlled space c p s go)
  controlled_is (stopped k) e o go h = stops k e refl
  controlled_is (under_way k) e o go h = h k e
  controlled_is (plain k) e o go h = cc
  controlled_is (resting k) e o go h = cc
  controlled_is (fresh k) e o go h = cc
  controlled_is (active v) e o go h = cc
  controlled_is (marked v f) e o go h = cc
  controlled_is (suspended k) e o go h = cc

  entered_is : {p : P} {s : S} (c : Cell V F) → space.at s p ≡ c → (evaluated : S → S)
      → ((k : Kept V F) → space.at s p ≡ fresh k → Runs space tree p (tree p) (space.put s p (under_way k)) (evaluated (space.put s p (under_way k))))
      → (v : V) × Visits space tree s p v (entered space c p s evaluated)
  entered_is (fresh k) e evaluated h = let r = h k e in let c = runs_clean space tree r in (c.0, first k e r c.1)
  entered_is (under_way k) e evaluated h = (k.value, again k e refl refl)
  entered_is (plain k) e evaluated h = (k.value, done (ap clean e) refl)
  entered_is (resting k) e evaluated h = (k.value, done (ap clean e) refl)
  entered_is (stopped k) e evaluated h = (k.value, done (ap clean e) refl)
  entered_is (active v) e evaluated h = (v, done (ap clean e) refl)
  entered_is (marked v f) e evaluated h = (v, done (ap clean e) refl)
  entered_is (suspended k) e evaluated h = (k.value, done (ap clean e) refl)

  -- visits by this function are visits, while no more places than these are fresh
  abbrev pub AreVisits : List P → ℕ → (P → S → S) → Type 0
  AreVisits places most visited =
      (q : P) (s : S) → Covers space places s → fresh_count space places s ≤ most → (v : V) × Visits space tree s q v (visited q s)

  run_is : (places : List P) (most : ℕ) (visited : P → S → S) → AreVisits places most visited → (p : P) (r : Run P V F) (s : S)
      → Covers space places s → fresh_count space places s ≤ most → is_open (space.at s p) ≡ true → Runs space tree p r s (run space visited p r s)
  unfolding run
  run_is places most visited h p (gives v) s covers few o = controlled_is (space.at s p) refl o (λ k. space.put s p (active v)) (λ k e. ends k v e refl refl)
  run_is places most visited h p (faults f) s covers few o =
      controlled_is (space.at s p) refl o (λ k. space.put s p (marked k.value f)) (λ k e. fails k f e refl refl)
  run_is places most visited h p (asks q go) s covers few o =
      let m : S = visited q s in
      let visit = h q s covers few in
      let later = visits_later space tree visit.1 in
      let fewer = count_later space places later in
      let value : visit.0 ≡ value_of (space.at m q) = sym (clean_value (space.at m q) (visits_clean space tree visit.1)) in
      let there = subst (λ (v : V). Visits space tree s q v (visited q s)) value visit.1 in
      let rest = run_is places most visited h p (go (value_of (space.at (visited q s) q))) (visited q s) (covers_later space places covers later) (omega arith) (visits_open visit.1 p o) in
      controlled_is (space.at s p) refl o (λ k. run space visited p (go (value_of (space.at (visited q s) q))) (visited q s))
      (λ k e. goes k q go (value_of (space.at (visited q s) q)) (visited q s) e refl there rest)

  pub visit_is : (places : List P) (most : ℕ) → AreVisits places most (visit space tree most)
  unfolding visit
  visit_is places zero q s covers few = entered_is (space.at s q) refl (λ m. m) (λ k e. let falls = count_begun space places s q k covers e in absurd (omega arith))
  visit_is places (suc most) q s covers few =
      entered_is (space.at s q) refl (run space (visit space tree most) q (tree q))
      (λ k e.
      let falls = count_begun space places s q k covers e in
      run_is places most (visit space tree most) (visit_is places most) q (tree q) (space.put s q (under_way k))
      (covers_later space places covers (later_put space (cells.begins k e refl))) (omega arith)
      (ap is_open (put_there space (cells.begins k e refl))))

  visits_are : (places : List P) (most : ℕ) (ps : List P) (s : S) → Covers space places s → fresh_count space places s ≤ most
      → Settles space tree ps s (visits space tree most ps s)
  unfolding visits
  visits_are places most [] s covers few = none refl refl
  visits_are places most (p ∷ ps) s covers few =
      let one = visit_is places most p s covers few in
      let later = visits_later space tree one.1 in
      let fewer = count_later space places later in
      more p ps one.0 (visit space tree most p s) refl one.1
      (visits_are places most ps (visit space tree most p s) (covers_later space places covers later) (omega arith))

  -- the function is the relation
  pub settled_is : (places : List P) (s : S) → Covers space places s → Settles space tree places s (settled space tree places s)
  unfolding settled
  settled_is places s covers =
      visits_are places (length places) places s covers
      (total_most (λ q. cond (is_fresh (space.at s q)) 1 0) 1 (λ q. count_step space true (is_fresh (space.at s q)) (λ h. cc)) places)

  settles_one : {ps : List P} {s m t u : S} (p : P) (qs : List P) → ps ≡ p ∷ qs → ((w : V) (n : S) → Visits space tree s p w n → m ≡ n)
      → ((x : S) → Settles space tree qs m x → t ≡ x) → Settles space tree ps s u → t ≡ u
  settles_one p qs e one others (none g i) = cc
  settles_one {s = s} {m = m} {u = u} p qs e one others (more x xs w n g visited rest) =
      let place : x ≡ p = cc in
      let left : xs ≡ qs = cc in
      let state = one w n (subst (λ (y : P). Visits space tree s y w n) place visited) in
      others u (subst (λ (y : S). Settles space tree qs y u) (sym state) (subst (λ (y : List P). Settles space tree y n u) left rest))

  -- a settle leads to one state
  pub settles_once : {ps : List P} {s t : S} → Settles space tree ps s t → (u : S) → Settles space tree ps s u → t ≡ u
  settles_once (none e i) u (none g j) = i ∙ sym j
  settles_once (none e i) u (more x xs w n g visit rest) = cc
  settles_once (more p qs v m e visited rest) u h = settles_one p qs e (λ w n x. (visits_once space tree visited w n x).1) (settles_once rest) h

  pub settles_settled : {places : List P} {s t : S} → Covers space places s → Settles space tree places s t → t ≡ settled space tree places s
  settles_settled {places = places} {s = s} covers h = settles_once h (settled space tree places s) (settled_is places s covers)
