-- What stands of the stack and the loops, from turn to turn.
use Rattle.std.proofs.Common.{◌≡◌, Bool, true, false, ◌||◌, List, [], ◌∷◌, ◌++◌, Option, None, refl, sym, ap, subst, ◌∙◌}
use Rattle.std.proofs.lemmas.List.Folds.{list_any-append}
use Rattle.settling.specs.Runs.{Run}
use Rattle.settling.specs.Cells.{Kept, Cell, fresh, under_way, stopped, active, marked, suspended, value_of, clean, is_open, is_halted, Step, Becomes}
use Rattle.settling.specs.Cells as cells
use Rattle.settling.specs.Spaces.{Space, is_among}
use Rattle.settling.specs.Holding.{Reads, IsPath, IsChain, Later}
use Rattle.settling.specs.Evaluations.{Outcome, has_value, has_fault, has_need, walk, written, evaluated}
use Rattle.settling.specs.Turns.{above, Meets, enters, stops, Turns, gives_up, comes_to_end, needs}
use Rattle.settling.specs.Loops.{has_loop, AreOnce, AreChains}
use Rattle.settling.specs.Stacks.{AreApart, AreLinked, Stands}
use Rattle.settling.proofs.Changes.{put_there, later_put, later_again}
use Rattle.settling.proofs.Resumed.{needs_read, evaluated_needs}

or_false : (b : Bool) → (b || false) ≡ b
or_false true = refl
or_false false = refl

or_left : (a b : Bool) → a ≡ false → (a || b) ≡ b
or_left true b h = cc
or_left false b h = refl

both_false : (a b : Bool) → (a || b) ≡ false → (a ≡ false) × (b ≡ false)
both_false true b h = cc
both_false false b h = (refl, h)

module _ {S P V F : Type 0} (space : Space S P V F) where
  -- Lists of places

  among_push : (xs : List P) (q x : P) → is_among space (xs ++ q ∷ []) x ≡ (is_among space xs x || space.are_same q x)
  among_push xs q x = list_any-append (λ y. space.are_same y x) xs (q ∷ []) ∙ ap (λ (b : Bool). is_among space xs x || b) (or_false (space.are_same q x))

  other_way : (p q : P) (b : Bool) → space.are_same q p ≡ b → space.are_same p q ≡ false → b ≡ false
  other_way p q true e h = let same = subst (λ (x : P). space.are_same p x ≡ true) (sym (space.one_place q p e)) (space.itself p) in cc
  other_way p q false e h = refl

  apart_push : (xs : List P) (q : P) → AreApart space xs → is_among space xs q ≡ false → AreApart space (xs ++ q ∷ [])
  apart_push [] q h new = (refl, tt)
  apart_push (p ∷ ps) q h new =
      let parts = both_false (space.are_same p q) (is_among space ps q) new in
      let other = other_way p q (space.are_same q p) refl parts.0 in
      (among_push ps q p ∙ or_left (is_among space ps p) (space.are_same q p) h.0 ∙ other, apart_push ps q h.1 parts.1)

  pub apart_pop : (xs : List P) (q : P) → AreApart space (xs ++ q ∷ []) → AreApart space xs × (is_among space xs q ≡ false)
  apart_pop [] q h = (tt, refl)
  apart_pop (p ∷ ps) q h =
      let rest = apart_pop ps q h.1 in
      let parts = both_false (is_among space ps p) (space.are_same q p) (sym (among_push ps q p) ∙ h.0) in
      ((parts.0, rest.0), or_left (space.are_same p q) (is_among space ps q) (other_way q p (space.are_same p q) refl parts.1) ∙ rest.1)

  loop_push : (loops : List (P × List P)) (q : P) (chain : List P) (x : P) → has_loop space (loops ++ (q, chain) ∷ []) x ≡ (has_loop space loops x || space.are_same q x)
  loop_push loops q chain x =
      list_any-append (λ (found : P × List P). space.are_same found.0 x) loops ((q, chain) ∷ []) ∙ ap (λ (b : Bool). has_loop space loops x || b) (or_false (space.are_same q x))

  once_push : (loops : List (P × List P)) (q : P) (chain : List P) → AreOnce space loops → has_loop space loops q ≡ false → AreOnce space (loops ++ (q, chain) ∷ [])
  once_push [] q chain h new = (refl, tt)
  once_push (found ∷ loops) q chain h new =
      let parts = both_false (space.are_same found.0 q) (has_loop space loops q) new in
      let other = other_way found.0 q (space.are_same q found.0) refl parts.0 in
      (loop_push loops q chain found.0 ∙ or_left (has_loop space loops found.0) (space.are_same q found.0) h.0 ∙ other, once_push loops q chain h.1 parts.1)

module _ {S P V F : Type 0} (space : Space S P V F) (tree : P → Run P V F) where
  -- Chains

  linked_pop : (u : S) (xs : List P) (q : P) → AreLinked space tree u (xs ++ q ∷ []) → AreLinked space tree u xs
  linked_pop u [] q h = tt
  linked_pop u (p ∷ []) q h = tt
  linked_pop u (p ∷ r ∷ rs) q h = (h.0, linked_pop u (r ∷ rs) q h.1)

  linked_push : (u : S) (xs : List P) (top q : P) → AreLinked space tree u (xs ++ top ∷ []) → Reads space tree u top q → AreLinked space tree u ((xs ++ top ∷ []) ++ q ∷ [])
  linked_push u [] top q h r = (r, tt)
  linked_push u (p ∷ []) top q h r = (h.0, (r, tt))
  linked_push u (p ∷ s ∷ ss) top q h r = (h.0, linked_push u (s ∷ ss) top q h.1 r)

  -- from the first of these on, each reads the next, and the last reads the end
  abbrev AreFrom : S → List P → P → Type 0
  AreFrom u [] end = Unit {0}
  AreFrom u (p ∷ ps) end = IsPath space tree u p ps end

  from_linked : (u : S) (xs : List P) (top q : P) → AreLinked space tree u (xs ++ top ∷ []) → Reads space tree u top q → AreFrom u (xs ++ top ∷ []) q
  from_linked u [] top q h r = r
  from_linked u (p ∷ []) top q h r = (h.0, r)
  from_linked u (p ∷ s ∷ ss) top q h r = (h.0, from_linked u (s ∷ ss) top q h.1 r)

  chain_from : (u : S) (xs : List P) (q : P) → AreFrom u xs q → is_among space xs q ≡ true → IsPath space tree u q (above space q xs) q
  chain_from u [] q h a = cc
  chain_from u (p ∷ []) q h a = by (space.are_same p q) refl
    where
      by : (b : Bool) → space.are_same p q ≡ b → IsPath space tree u q (above space q (p ∷ [])) q
      by true e = rw e (subst (λ (x : P). Reads space tree u x q) (space.one_place p q e) h)
      by false e = let none = or_left (space.are_same p q) false e in cc
  chain_from u (p ∷ r ∷ rs) q h a = by (space.are_same p q) refl (chain_from u (r ∷ rs) q h.1)
    where
      by : (b : Bool) → space.are_same p q ≡ b → (is_among space (r ∷ rs) q ≡ true → IsPath space tree u q (above space q (r ∷ rs)) q)
          → IsPath space tree u q (above space q (p ∷ r ∷ rs)) q
      by true e rest = rw e (subst (λ (x : P). IsPath space tree u x (r ∷ rs) q) (space.one_place p q e) h)
      by false e rest = rw e (rest (sym (or_left (space.are_same p q) (is_among space (r ∷ rs) q) e) ∙ a))

  chains_push : (u : S) (loops : List (P × List P)) (q : P) (chain : List P) → AreChains space tree u loops → IsChain space tree u q chain
      → AreChains space tree u (loops ++ (q, chain) ∷ [])
  chains_push u [] q chain h c = (c, tt)
  chains_push u (found ∷ loops) q chain h c = (h.0, chains_push u loops q chain h.1 c)

  -- One place changes

  -- what is put at the end of an evaluation
  pub record Puts (s : S) (p : P) (t : S) : Type 0 where
    pub cell : Cell V F
    pub step : Step (space.at s p) cell
    pub closed : is_open cell ≡ false
    pub halted : is_halted cell ≡ is_halted (space.at s p)
    pub put : t ≡ space.put s p cell

  pub evaluated_puts : {t : S} (p : P) (r : Run P V F) (s : S) (k : Kept V F) → space.at s p ≡ under_way k → evaluated space p r s ≡ (None, t) → Puts s p t
  evaluated_puts {t = t} p r s k e h = by (walk space r s) h
    where
      by : (o : Outcome P V F) → written space p s o ≡ (None, t) → Puts s p t
      by (has_value v) w =
          record { cell = active v; step = cells.ends k v e refl; closed = refl; halted = sym (ap is_halted e); put = sym (ap (λ (x : Option P × S). x.1) w) }
      by (has_fault f) w = record {
        cell = marked k.value f;
        step = cells.fails k f e refl;
        closed = refl;
        halted = sym (ap is_halted e);
        put = sym (ap (λ (x : Option P × S). x.1) w) ∙ ap (λ (c : Cell V F). space.put s p (marked (value_of c) f)) e;
      }
      by (has_need x) w = let place = ap (λ (y : Option P × S). y.0) w in cc

  pub gives_up_puts : {t : S} (p : P) (s : S) (k : Kept V F) → space.at s p ≡ stopped k → t ≡ space.put s p (suspended k) → Puts s p t
  gives_up_puts p s k e i = record { cell = suspended k; step = cells.suspends k e refl; closed = refl; halted = sym (ap is_halted e); put = i }

  -- the evaluation at the top of the stack has come to its end
  pop_stands : (below : List P) (top : P) (s t : S) (loops : List (P × List P)) → Stands space tree (below ++ top ∷ []) s loops → Puts s top t
      → Stands space tree below t loops
  pop_stands below top s t loops st puts =
      let apart = apart_pop space below top st.apart in
      let later : Later space s t = subst (λ (x : S). Later space s x) (sym puts.put) (later_put space puts.step) in
      record {
        opens = λ x. opens_at x (space.are_same top x) refl apart.1;
        apart = apart.0;
        linked = λ u l. linked_pop u below top (st.linked u (later_again space later l));
        chains = λ u l. st.chains u (later_again space later l);
        halted = λ x. halted_at x (space.are_same top x) refl ∙ st.halted x;
        once = st.once;
      }
    where
      at_top : space.at t top ≡ puts.cell
      at_top = ap (λ (x : S). space.at x top) puts.put ∙ put_there space puts.step

      at_other : (x : P) → space.are_same top x ≡ false → space.at t x ≡ space.at s x
      at_other x e = ap (λ (y : S). space.at y x) puts.put ∙ space.elsewhere s top puts.cell x e

      opens_at : (x : P) (b : Bool) → space.are_same top x ≡ b → is_among space below top ≡ false → is_open (space.at t x) ≡ is_among space below x
      opens_at x true e new =
          subst (λ (y : P). is_open (space.at t y) ≡ is_among space below y) (space.one_place top x e) (ap is_open at_top ∙ puts.closed ∙ sym new)
      opens_at x false e new =
          ap is_open (at_other x e) ∙ st.opens x ∙ among_push space below top x ∙ ap (λ (b : Bool). is_among space below x || b) e ∙ or_false (is_among space below x)

      halted_at : (x : P) (b : Bool) → space.are_same top x ≡ b → is_halted (space.at t x) ≡ is_halted (space.at s x)
      halted_at x true e = subst (λ (y : P). is_halted (space.at t y) ≡ is_halted (space.at s y)) (space.one_place top x e) (ap is_halted at_top ∙ puts.halted)
      halted_at x false e = ap is_halted (at_other x e)

  -- another evaluation is under way at the top of the stack
  pub push_stands : (stack : List P) (q : P) (s t : S) (loops : List (P × List P)) (k : Kept V F) → Stands space tree stack s loops → space.at s q ≡ fresh k
      → t ≡ space.put s q (under_way k) → ((u : S) → Later space s u → AreLinked space tree u (stack ++ q ∷ [])) → Stands space tree (stack ++ q ∷ []) t loops
  push_stands stack q s t loops k st e i linked =
      let later : Later space s t = subst (λ (x : S). Later space s x) (sym i) (later_put space (cells.begins k e refl)) in
      record {
        opens = λ x. opens_at x (space.are_same q x) refl;
        apart = apart_push space stack q st.apart (sym (st.opens q) ∙ ap is_open e);
        linked = λ u l. linked u (later_again space later l);
        chains = λ u l. st.chains u (later_again space later l);
        halted = λ x. halted_at x (space.are_same q x) refl ∙ st.halted x;
        once = st.once;
      }
    where
      at_new : space.at t q ≡ under_way k
      at_new = ap (λ (x : S). space.at x q) i ∙ put_there space (cells.begins k e refl)

      at_other : (x : P) → space.are_same q x ≡ false → space.at t x ≡ space.at s x
      at_other x n = ap (λ (y : S). space.at y x) i ∙ space.elsewhere s q (under_way k) x n

      or_true : (b : Bool) → (b || true) ≡ true
      or_true true = refl
      or_true false = refl

      opens_at : (x : P) (b : Bool) → space.are_same q x ≡ b → is_open (space.at t x) ≡ is_among space (stack ++ q ∷ []) x
      opens_at x true n =
          ap (λ (y : P). is_open (space.at t y)) (sym (space.one_place q x n)) ∙ ap is_open at_new
          ∙ sym (among_push space stack q x ∙ ap (λ (b : Bool). is_among space stack x || b) n ∙ or_true (is_among space stack x))
      opens_at x false n =
          ap is_open (at_other x n) ∙ st.opens x
          ∙ sym (among_push space stack q x ∙ ap (λ (b : Bool). is_among space stack x || b) n ∙ or_false (is_among space stack x))

      halted_at : (x : P) (b : Bool) → space.are_same q x ≡ b → is_halted (space.at t x) ≡ is_halted (space.at s x)
      halted_at x true n = subst (λ (y : P). is_halted (space.at t y) ≡ is_halted (space.at s y)) (space.one_place q x n) (ap is_halted at_new ∙ sym (ap is_halted e))
      halted_at x false n = ap is_halted (at_other x n)

  -- a place was read whose evaluation is under way: a loop is found
  stop_stands : (stack : List P) (q : P) (s t : S) (loops : List (P × List P)) (chain : List P) (k : Kept V F) → Stands space tree stack s loops
      → space.at s q ≡ under_way k → t ≡ space.put s q (stopped k) → ((u : S) → Later space s u → IsChain space tree u q chain)
      → Stands space tree stack t (loops ++ (q, chain) ∷ [])
  stop_stands stack q s t loops chain k st e i found =
      let later : Later space s t = subst (λ (x : S). Later space s x) (sym i) (later_put space (cells.stops k e refl)) in
      record {
        opens = λ x. opens_at x (space.are_same q x) refl ∙ st.opens x;
        apart = st.apart;
        linked = λ u l. st.linked u (later_again space later l);
        chains = λ u l. chains_push u loops q chain (st.chains u (later_again space later l)) (found u (later_again space later l));
        halted = λ x. halted_at x (space.are_same q x) refl;
        once = once_push space loops q chain st.once (sym (st.halted q) ∙ ap is_halted e);
      }
    where
      at_new : space.at t q ≡ stopped k
      at_new = ap (λ (x : S). space.at x q) i ∙ put_there space (cells.stops k e refl)

      at_other : (x : P) → space.are_same q x ≡ false → space.at t x ≡ space.at s x
      at_other x n = ap (λ (y : S). space.at y x) i ∙ space.elsewhere s q (stopped k) x n

      or_true : (b : Bool) → (b || true) ≡ true
      or_true true = refl
      or_true false = refl

      opens_at : (x : P) (b : Bool) → space.are_same q x ≡ b → is_open (space.at t x) ≡ is_open (space.at s x)
      opens_at x true n = subst (λ (y : P). is_open (space.at t y) ≡ is_open (space.at s y)) (space.one_place q x n) (ap is_open at_new ∙ sym (ap is_open e))
      opens_at x false n = ap is_open (at_other x n)

      halted_at : (x : P) (b : Bool) → space.are_same q x ≡ b → is_halted (space.at t x) ≡ has_loop space (loops ++ (q, chain) ∷ []) x
      halted_at x true n =
          ap (λ (y : P). is_halted (space.at t y)) (sym (space.one_place q x n)) ∙ ap is_halted at_new
          ∙ sym (loop_push space loops q chain x ∙ ap (λ (b : Bool). has_loop space loops x || b) n ∙ or_true (has_loop space loops x))
      halted_at x false n =
          ap is_halted (at_other x n) ∙ st.halted x
          ∙ sym (loop_push space loops q chain x ∙ ap (λ (b : Bool). has_loop space loops x || b) n ∙ or_false (has_loop space loops x))

  -- Turns

  stands_as : {stack stack' : List P} {loops loops' : List (P × List P)} (s : S) → stack' ≡ stack → loops' ≡ loops → Stands space tree stack s loops
      → Stands space tree stack' s loops'
  stands_as {stack} {stack'} {loops} {loops'} s e l h =
      subst (λ (x : List P). Stands space tree x s loops') (sym e) (subst (λ (x : List (P × List P)). Stands space tree stack s x) (sym l) h)

  meets_stand : (below : List P) (top q : P) (s : S) (loops : List (P × List P)) (stack : List P) (t : S) (loops' : List (P × List P))
      → Stands space tree (below ++ top ∷ []) s loops → ((u : S) → Later space s u → Reads space tree u top q)
      → Meets space q (below ++ top ∷ []) s loops stack t loops' → Stands space tree stack t loops'
  meets_stand below top q s loops stack t loops' st reads (enters k e i pushed l) =
      stands_as t pushed l
      (push_stands (below ++ top ∷ []) q s t loops k st e i (λ u later. linked_push u below top q (st.linked u later) (reads u later)))
  meets_stand below top q s loops stack t loops' st reads (stops k e i same l) =
      stands_as t same l
      (stop_stands (below ++ top ∷ []) q s t loops (above space q (below ++ top ∷ [])) k st e i
      (λ u later. chain_from u (below ++ top ∷ []) q (from_linked u below top q (st.linked u later) (reads u later)) (sym (st.opens q) ∙ ap is_open e)))

  pub turns_stand : (top : P) (below : List P) (s : S) (loops : List (P × List P)) (stack : List P) (t : S) (loops' : List (P × List P))
      → Stands space tree (below ++ top ∷ []) s loops → Turns space tree top below s loops stack t loops' → Stands space tree stack t loops'
  turns_stand top below s loops stack t loops' st (gives_up k e i same l) = stands_as t same l (pop_stands below top s t loops st (gives_up_puts top s k e i))
  turns_stand top below s loops stack t loops' st (comes_to_end k e h same l) =
      stands_as t same l (pop_stands below top s t loops st (evaluated_puts top (tree top) s k e h))
  turns_stand top below s loops stack t loops' st (needs k q m e h meets) =
      let needed = evaluated_needs space top (tree top) s h in
      meets_stand below top q s loops stack t loops' st (λ u later. needs_read space needed.0 later)
      (subst (λ (x : S). Meets space q (below ++ top ∷ []) x loops stack t loops') needed.1 meets)
