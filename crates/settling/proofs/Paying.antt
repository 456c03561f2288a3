-- Each evaluation is paid for: by the place that it ends, or by a read that has its value from then on.
use Rattle.std.proofs.Common.{◌≡◌, ℕ, suc, ◌+◌, ◌<◌, ◌≤◌, Bool, true, false, ◌||◌, cond, if◌then◌else◌, List, [], ◌∷◌, ◌++◌, length, Option, Some, None, inl, inr, refl, sym, ap, subst, ◌∙◌, arith, length-append}
use Rattle.std.specs.Prelude.{◌⊎◌}
use Rattle.std.proofs.lemmas.List.Folds.{list_any-append}
use Rattle.settling.specs.Runs.{Run, reads, IsRead, now, later}
use Rattle.settling.specs.Cells.{Kept, Cell, plain, resting, fresh, under_way, stopped, active, marked, suspended, clean, is_fresh, is_open, is_ended, Becomes}
use Rattle.settling.specs.Cells as cells
use Rattle.settling.specs.Spaces.{Space, values, is_among}
use Rattle.settling.specs.Settling.{IsReady}
use Rattle.settling.specs.Holding.{Reads, Later}
use Rattle.settling.specs.Stacks.{AreLinked, Stands, IsWithin}
use Rattle.settling.specs.Turns.{Meets, enters, Turns, gives_up, comes_to_end, needs}
use Rattle.settling.specs.Turns as turn
use Rattle.settling.specs.Work.{total, each_once, reads_of, work, missing, pending, owed, owing, IsPaid, MaySpend}
use Rattle.settling.proofs.Steps.{becomes_ended, ready_ended}
use Rattle.settling.proofs.Changes.{put_there, later_put, later_again, later_clean}
use Rattle.settling.proofs.Resumed.{needs_read, evaluated_needs, evaluated_ends}
use Rattle.settling.proofs.Visited.{runs_clean}
use Rattle.settling.proofs.Fulfilled.{runs_ended}
use Rattle.settling.proofs.Fuel.{total_le, total_lt, total_most}
use Rattle.settling.proofs.Standing.{evaluated_puts, apart_pop}

or_right : (a b : Bool) → b ≡ true → (a || b) ≡ true
or_right true b h = refl
or_right false b h = h

or_left : (a b : Bool) → a ≡ true → (a || b) ≡ true
or_left true b h = refl
or_left false b h = cc

module _ {V : Type 0} where
  missing_falls : (o q : Option V) → ((v : V) → o ≡ Some v → q ≡ Some v) → missing q ≤ missing o
  missing_falls None None h = omega arith
  missing_falls None (Some v) h = omega arith
  missing_falls (Some v) q h = let there = ap missing (h v refl) in omega arith

  missing_most : (o : Option V) → missing o ≤ 1
  missing_most None = omega arith
  missing_most (Some v) = omega arith

cond_least : (b : Bool) (n : ℕ) → cond b 0 (1 + n) ≤ 1 + n
cond_least true n = omega arith
cond_least false n = omega arith

owed_cases : (b c : Bool) (m n : ℕ) → (b ≡ true → c ≡ true) → n ≤ m → cond c 0 (1 + n) ≤ cond b 0 (1 + m)
owed_cases true c m n h l = let ended = ap (λ (x : Bool). cond x 0 (1 + n)) (h refl) in omega arith
owed_cases false true m n h l = omega arith
owed_cases false false m n h l = omega arith

module _ {S P V F : Type 0} (space : Space S P V F) where
  once_among : (xs : List P) (q : P) → is_among space xs q ≡ true → is_among space (each_once space xs) q ≡ true
  once_among [] q a = a
  once_among (x ∷ xs) q a = by (is_among space xs x) refl (space.are_same x q) refl (once_among xs)
    where
      by : (b : Bool) → is_among space xs x ≡ b → (c : Bool) → space.are_same x q ≡ c → ((y : P) → is_among space xs y ≡ true → is_among space (each_once space xs) y ≡ true)
          → is_among space (each_once space (x ∷ xs)) q ≡ true
      by true e true i rest = rw e (rest q (subst (λ (y : P). is_among space xs y ≡ true) (space.one_place x q i) e))
      by true e false i rest = rw e (rest q (let left = rw i at a in left))
      by false e true i rest = rw e (rw i refl)
      by false e false i rest = rw e (rw i (rest q (let left = rw i at a in left)))

  -- a sum falls by two where it falls at two of the places
  total_two : (v w : P → ℕ) → ((q : P) → v q ≤ w q) → (ps : List P) (p r : P) → is_among space ps p ≡ true → is_among space ps r ≡ true
      → (space.are_same p r ≡ true → ⊥) → v p < w p → v r < w r → total v ps + 2 ≤ total w ps
  total_two v w h [] p r a b apart l m = cc
  total_two v w h (x ∷ xs) p r a b apart l m = by (space.are_same x p) refl (space.are_same x r) refl (λ a b. total_two v w h xs p r a b apart l m)
    where
      by : (c : Bool) → space.are_same x p ≡ c → (d : Bool) → space.are_same x r ≡ d
          → (is_among space xs p ≡ true → is_among space xs r ≡ true → total v xs + 2 ≤ total w xs) → (v x + total v xs) + 2 ≤ w x + total w xs
      by true e true i rest = absurd (apart (subst (λ (y : P). space.are_same y r ≡ true) (space.one_place x p e) i))
      by true e false i rest =
          let here : v x < w x = subst (λ (y : P). v y < w y) (sym (space.one_place x p e)) l in
          let others = total_lt space v w h xs r (rw i at b) m in
          omega arith
      by false e true i rest =
          let here : v x < w x = subst (λ (y : P). v y < w y) (sym (space.one_place x r i)) m in
          let others = total_lt space v w h xs p (rw e at a) l in
          omega arith
      by false e false i rest = let here = h x in let others = rest (rw e at a) (rw i at b) in omega arith

  missing_later : {s t : S} → Later space s t → (q : P) → missing (clean (space.at t q)) ≤ missing (clean (space.at s q))
  missing_later {s = s} {t = t} h q = missing_falls (clean (space.at s q)) (clean (space.at t q)) (λ v c. later_clean space q h c)

  open_waits : (c : Cell V F) → is_open c ≡ true → is_ended c ≡ false
  open_waits (plain k) o = cc
  open_waits (resting k) o = cc
  open_waits (fresh k) o = refl
  open_waits (under_way k) o = refl
  open_waits (stopped k) o = refl
  open_waits (active v) o = cc
  open_waits (marked v f) o = cc
  open_waits (suspended k) o = cc

  ended_later : {s t : S} → Later space s t → (p : P) → is_ended (space.at s p) ≡ true → is_ended (space.at t p) ≡ true
  ended_later h p e = ap is_ended (becomes_ended (h p) e) ∙ e

module _ {S P V F : Type 0} (space : Space S P V F) (tree : P → Run P V F) where
  read_among : {vs : P → V} {q : P} {r : Run P V F} → IsRead vs q r → is_among space (reads r vs) q ≡ true
  read_among {vs = vs} {q = q} (now x go e same) =
      ap (λ (r : Run P V F). is_among space (reads r vs) q) e
      ∙ or_left (space.are_same x q) (is_among space (reads (go (vs x)) vs) q) (subst (λ (y : P). space.are_same y q ≡ true) same (space.itself q))
  read_among {vs = vs} {q = q} (later x go e rest) =
      ap (λ (r : Run P V F). is_among space (reads r vs) q) e ∙ or_right (space.are_same x q) (is_among space (reads (go (vs x)) vs) q) (read_among rest)

  pending_later : {s t : S} → Later space s t → (u : S) (p : P) → pending space tree t u p ≤ pending space tree s u p
  pending_later {s = s} {t = t} h u p =
      total_le (λ q. missing (clean (space.at t q))) (λ q. missing (clean (space.at s q))) (missing_later space h) (reads_of space tree u p)

  -- a read of the place has its value now
  pending_falls : {s t : S} → Later space s t → (u : S) (p q : P) (v : V) → Reads space tree u p q → clean (space.at s q) ≡ None → clean (space.at t q) ≡ Some v
      → pending space tree t u p < pending space tree s u p
  pending_falls {s = s} {t = t} h u p q v r unclean there =
      let before = ap missing unclean in
      let afterwards = ap missing there in
      total_lt space (λ x. missing (clean (space.at t x))) (λ x. missing (clean (space.at s x))) (missing_later space h) (reads_of space tree u p) q
      (once_among space (reads (tree p) (values space u)) q (read_among r)) (omega arith)

  pending_most : (s u : S) (p : P) → pending space tree s u p ≤ length (reads_of space tree u p)
  pending_most s u p = total_most (λ q. missing (clean (space.at s q))) 1 (λ q. missing_most (clean (space.at s q))) (reads_of space tree u p)

  owed_later : {s t : S} → Later space s t → (u : S) (p : P) → owed space tree t u p ≤ owed space tree s u p
  owed_later {s = s} {t = t} h u p =
      owed_cases (is_ended (space.at s p)) (is_ended (space.at t p)) (pending space tree s u p) (pending space tree t u p) (ended_later space h p) (pending_later h u p)

  owed_ends : (s t u : S) (p : P) → is_ended (space.at s p) ≡ false → is_ended (space.at t p) ≡ true → owed space tree t u p < owed space tree s u p
  owed_ends s t u p before afterwards =
      let old = ap (λ (b : Bool). cond b 0 (1 + pending space tree s u p)) before in
      let new = ap (λ (b : Bool). cond b 0 (1 + pending space tree t u p)) afterwards in
      omega arith

  owed_reads : {s t : S} → Later space s t → (u : S) (p q : P) (v : V) → is_ended (space.at s p) ≡ false → Reads space tree u p q → clean (space.at s q) ≡ None
      → clean (space.at t q) ≡ Some v → owed space tree t u p < owed space tree s u p
  owed_reads {s = s} {t = t} h u p q v waits r unclean there =
      let old = ap (λ (b : Bool). cond b 0 (1 + pending space tree s u p)) waits in
      let falls = pending_falls h u p q v r unclean there in
      let new = owed_cases false (is_ended (space.at t p)) (pending space tree t u p) (pending space tree t u p) (λ e. cc) (omega arith) in
      omega arith

  pub owing_later : (places : List P) {s t : S} → Later space s t → (u : S) → owing space tree places t u ≤ owing space tree places s u
  owing_later places {s} {t} h u = total_le (owed space tree t u) (owed space tree s u) (owed_later h u) places

  -- the place below the top of the stack reads the top
  below_reads : (u : S) (below : List P) (top : P) → AreLinked space tree u (below ++ top ∷ [])
      → (below ≡ []) ⊎ ((r : P) × (is_among space below r ≡ true) × Reads space tree u r top)
  below_reads u [] top h = inl refl
  below_reads u (p ∷ []) top h = inr (p, or_left (space.are_same p p) false (space.itself p), h.0)
  below_reads u (p ∷ q ∷ qs) top h =
      elim (below_reads u (q ∷ qs) top h.1) [
        | inl e ↦ (let none : q ∷ qs ≡ [] = e in cc)
        | inr found ↦ inr (found.0, or_right (space.are_same p found.0) (is_among space (q ∷ qs) found.0) found.1, found.2)
      ]

  -- One turn

  last_length : (xs : List P) (x : P) → length (xs ++ x ∷ []) ≡ suc (length xs)
  last_length xs x = length-append xs (x ∷ []) ∙ (omega arith)

  stack_among : (below : List P) (top r : P) → is_among space below r ≡ true → is_among space (below ++ top ∷ []) r ≡ true
  stack_among below top r a = list_any-append (λ y. space.are_same y r) below (top ∷ []) ∙ or_left (is_among space below r) (is_among space (top ∷ []) r) a

  top_among : (below : List P) (top : P) → is_among space (below ++ top ∷ []) top ≡ true
  top_among below top =
      list_any-append (λ y. space.are_same y top) below (top ∷ [])
      ∙ or_right (is_among space below top) (is_among space (top ∷ []) top) (or_left (space.are_same top top) false (space.itself top))

  module _ (places : List P) (first : ℕ) (start : S) where
    -- the evaluation at the top has come to its end: it and the place below pay
    ends_pay : (below : List P) (top : P) (s t : S) (loops : List (P × List P)) (m n : ℕ) (v : V) → Stands space tree (below ++ top ∷ []) s loops → IsWithin space places s
        → Later space s t → is_ended (space.at t top) ≡ true → clean (space.at s top) ≡ None → clean (space.at t top) ≡ Some v → n ≤ suc m
        → IsPaid space tree places first start m (below ++ top ∷ []) s → IsPaid space tree places first start n below t
    ends_pay below top s t loops m n v st within step ended unclean there spent paid u onward =
        let before = paid u (later_again space step onward) in
        let size = last_length below top in
        let open_top = st.opens top ∙ top_among below top in
        let own = owed_ends s t u top (open_waits space (space.at s top) open_top) ended in
        elim (below_reads u below top (st.linked u (later_again space step onward))) [
          | inl none ↦ (
              let falls = total_lt space (owed space tree t u) (owed space tree s u) (owed_later step u) places top (within top (or_right (is_fresh (space.at s top)) (is_open (space.at s top)) open_top)) own in
              let alone = ap length none in
              omega arith)
          | inr found ↦ (
              let open_below = st.opens found.0 ∙ stack_among below top found.0 found.1 in
              let reader = owed_reads step u found.0 top v (open_waits space (space.at s found.0) open_below) found.2 unclean there in
              let apart : space.are_same top found.0 ≡ true → ⊥ = λ same.
              let among = subst (λ (x : P). is_among space below x ≡ true) (sym (space.one_place top found.0 same)) found.1 in
              let none = (apart_pop space below top st.apart).1 in
              cc in
              let falls = total_two space (owed space tree t u) (owed space tree s u) (owed_later step u) places top found.0
              (within top (or_right (is_fresh (space.at s top)) (is_open (space.at s top)) open_top))
              (within found.0 (or_right (is_fresh (space.at s found.0)) (is_open (space.at s found.0)) open_below)) apart own reader in
              omega arith)
        ]

    -- the evaluation at the top is given up: it pays
    gives_up_pays : (below : List P) (top : P) (s t : S) (loops : List (P × List P)) (m n : ℕ) → Stands space tree (below ++ top ∷ []) s loops → IsWithin space places s
        → Later space s t → is_ended (space.at t top) ≡ true → n ≤ m
        → IsPaid space tree places first start m (below ++ top ∷ []) s → IsPaid space tree places first start n below t
    gives_up_pays below top s t loops m n st within step ended spent paid u onward =
        let before = paid u (later_again space step onward) in
        let size = last_length below top in
        let open_top = st.opens top ∙ top_among below top in
        let own = owed_ends s t u top (open_waits space (space.at s top) open_top) ended in
        let falls = total_lt space (owed space tree t u) (owed space tree s u) (owed_later step u) places top (within top (or_right (is_fresh (space.at s top)) (is_open (space.at s top)) open_top)) own in
        omega arith

    -- a loop is found: the read of the asker pays
    stop_pays : (below : List P) (top q : P) (s t : S) (loops : List (P × List P)) (m n : ℕ) (v : V) → Stands space tree (below ++ top ∷ []) s loops → IsWithin space places s
        → Later space s t → ((u : S) → Later space s u → Reads space tree u top q) → clean (space.at s q) ≡ None → clean (space.at t q) ≡ Some v → n ≤ suc m
        → IsPaid space tree places first start m (below ++ top ∷ []) s → IsPaid space tree places first start n (below ++ top ∷ []) t
    stop_pays below top q s t loops m n v st within step asked unclean there spent paid u onward =
        let before = paid u (later_again space step onward) in
        let open_top = st.opens top ∙ top_among below top in
        let own = owed_reads step u top q v (open_waits space (space.at s top) open_top) (asked u (later_again space step onward)) unclean there in
        let falls = total_lt space (owed space tree t u) (owed space tree s u) (owed_later step u) places top (within top (or_right (is_fresh (space.at s top)) (is_open (space.at s top)) open_top)) own in
        omega arith

    -- another evaluation begins: the one below it is to be evaluated once more
    enter_pays : (stack : List P) (q : P) (s t : S) (m n : ℕ) → 0 < length stack → Later space s t → n ≤ suc m
        → IsPaid space tree places first start m stack s → IsPaid space tree places first start n (stack ++ q ∷ []) t
    enter_pays stack q s t m n some step spent paid u onward =
        let before = paid u (later_again space step onward) in
        let size = last_length stack q in
        let falls = owing_later places step u in
        omega arith

    cell_spends : {c d : Cell V F} (m n : ℕ) → c ≡ d → MaySpend c m n → MaySpend d m n
    cell_spends m n e h = subst (λ (x : Cell V F). MaySpend x m n) e h

    meets_pay : (below : List P) (top q : P) (s : S) (loops : List (P × List P)) (stack : List P) (t : S) (loops' : List (P × List P)) (m n : ℕ)
        → Stands space tree (below ++ top ∷ []) s loops → IsWithin space places s → ((u : S) → Later space s u → Reads space tree u top q) → n ≤ suc m
        → Meets space q (below ++ top ∷ []) s loops stack t loops'
        → IsPaid space tree places first start m (below ++ top ∷ []) s → IsPaid space tree places first start n stack t
    meets_pay below top q s loops stack t loops' m n st within asked spent (enters k e i pushed l) paid =
        let size = last_length below top in
        let step : Later space s t = subst (λ (x : S). Later space s x) (sym i) (later_put space (cells.begins k e refl)) in
        subst (λ (xs : List P). IsPaid space tree places first start n xs t) (sym pushed) (enter_pays (below ++ top ∷ []) q s t m n (omega arith) step spent paid)
    meets_pay below top q s loops stack t loops' m n st within asked spent (turn.stops k e i same l) paid =
        let step : Later space s t = subst (λ (x : S). Later space s x) (sym i) (later_put space (cells.stops k e refl)) in
        let there : clean (space.at t q) ≡ Some k.value = ap (λ (x : S). clean (space.at x q)) i ∙ ap clean (put_there space (cells.stops k e refl)) in
        subst (λ (xs : List P). IsPaid space tree places first start n xs t) (sym same)
        (stop_pays below top q s t loops m n k.value st within step asked (ap clean e) there spent paid)

    -- each turn is paid for
    pub turns_pay : (top : P) (below : List P) (s : S) (loops : List (P × List P)) (stack : List P) (t : S) (loops' : List (P × List P)) (m n : ℕ)
        → Stands space tree (below ++ top ∷ []) s loops → IsWithin space places s → Turns space tree top below s loops stack t loops' → MaySpend (space.at s top) m n
        → IsPaid space tree places first start m (below ++ top ∷ []) s → IsPaid space tree places first start n stack t
    turns_pay top below s loops stack t loops' m n st within (gives_up k e i same l) spends paid =
        let there : space.at t top ≡ suspended k = ap (λ (x : S). space.at x top) i ∙ put_there space (cells.suspends k e refl) in
        let step : Later space s t = subst (λ (x : S). Later space s x) (sym i) (later_put space (cells.suspends k e refl)) in
        subst (λ (xs : List P). IsPaid space tree places first start n xs t) (sym same)
        (gives_up_pays below top s t loops m n st within step (ap is_ended there) (cell_spends m n e spends) paid)
    turns_pay top below s loops stack t loops' m n st within (comes_to_end k e h same l) spends paid =
        let puts = evaluated_puts space tree top (tree top) s k e h in
        let step : Later space s t = subst (λ (x : S). Later space s x) (sym puts.put) (later_put space puts.step) in
        let ended = evaluated_ends space tree top (tree top) s k e h in
        let there = runs_clean space tree ended in
        subst (λ (xs : List P). IsPaid space tree places first start n xs t) (sym same)
        (ends_pay below top s t loops m n there.0 st within step (runs_ended space tree ended) (ap clean e) there.1 (cell_spends m n e spends) paid)
    turns_pay top below s loops stack t loops' m n st within (needs k q x e h meets) spends paid =
        let needed = evaluated_needs space top (tree top) s h in
        meets_pay below top q s loops stack t loops' m n st within (λ u onward. needs_read space needed.0 onward) (cell_spends m n e spends)
        (subst (λ (y : S). Meets space q (below ++ top ∷ []) y loops stack t loops') needed.1 meets) paid

  -- what is owed when a settle begins is its work
  owed_fresh : (s u : S) (p : P) (b : Bool) → is_fresh (space.at s p) ≡ b → (b ≡ false → is_ended (space.at s p) ≡ true)
      → owed space tree s u p ≤ (if b then 1 + length (reads_of space tree u p) else 0)
  owed_fresh s u p true f waits = let most = pending_most s u p in let bound = cond_least (is_ended (space.at s p)) (pending space tree s u p) in omega arith
  owed_fresh s u p false f waits = let none = ap (λ (b : Bool). cond b 0 (1 + pending space tree s u p)) (waits refl) in omega arith

  pub owing_work : (places : List P) (s u : S) → IsReady space s → owing space tree places s u ≤ work space tree places s u
  owing_work places s u ready =
      total_le (owed space tree s u) (λ p. if is_fresh (space.at s p) then 1 + length (reads_of space tree u p) else 0)
      (λ p. owed_fresh s u p (is_fresh (space.at s p)) refl (λ f. ready_ended (space.at s p) (ready p) f)) places
