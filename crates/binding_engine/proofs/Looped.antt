-- The loops that are found are those of the store, in the order of its places.
use Rattle.std.proofs.Common.{◌≡◌, ℕ, ◌<◌, ◌⊎◌, inl, inr, length, add-one, Bool, true, false, List, [], ◌∷◌, map, refl, sym, ap, subst, ◌∙◌, arith, suc}
use Rattle.std.specs.Prelude.{Option, None, Some, nat_lt, ◌==◌, ◌||◌, ◌&&◌, not, filter, slice_index_or, IsSortedByKey}
use Rattle.std.specs.Ordering.{is_lt, nat_cmp}
use Rattle.std.specs.declared.cmp.Ordering.{Ordering}
use Rattle.std.specs.declared.cmp.Ordering.TheVariants.{Less, Equal, Greater}
use Rattle.std.proofs.lemmas.Bool.Decides.{nat_tests}
use Rattle.qml_ast.specs.contracts.place.PlaceOrd.TheImpl as place_order
use Rattle.qml_ast.specs.contracts.place.SideOrd.TheImpl as side_order
use Rattle.qml_ast.specs.declared.place.Place.{Place}
use Rattle.qml_ast.specs.declared.place.Side.{Side}
use Rattle.qml_ast.specs.declared.place.Side.TheVariants.{Set, Shown}
use Rattle.expr_eval.specs.Traces.{are_same}
use Rattle.settling.specs.Loops.{shown, has_loop, AreOnce}
use Rattle.settling.specs.declared.found.LoopFound.{LoopFound}
use Rattle.object_tree.specs.declared.property.Held.{Held}
use Rattle.object_tree.specs.Order.{is_side_before, is_before, AllAfter, AreRising}
use Rattle.object_tree.specs.Places.{places_of}
use Rattle.object_tree.specs.Reading.{held_at}
use Rattle.object_tree.specs.Store.{Store}
use Rattle.object_tree.proofs.Rising.{rising_filter}
use Rattle.binding_engine.specs.Holding.{is_newly_suspended, looped_in, AreLoopsIn}
use Rattle.binding_engine.specs.Standing.{space, one_place, itself, is_suspended_in}
use Rattle.binding_engine.proofs.Covered.{among, among_here, among_filter, place_listed}

-- ---- the order of places
abbrev SlotComes : Place → Place → Type 0
SlotComes p q = (p.slot < q.slot) ⊎ ((p.slot ≡ q.slot) × (is_side_before p.side q.side ≡ true))

abbrev Comes : Place → Place → Type 0
Comes p q = (p.serial < q.serial) ⊎ ((p.serial ≡ q.serial) × SlotComes p q)

is_less : (i j : ℕ) → nat_lt i j ≡ true → i < j
is_less i j h = grind (arith, nat_tests)

is_same : (i j : ℕ) → (i == j) ≡ true → i ≡ j
is_same i j h = grind (arith, nat_tests)

less : (i j : ℕ) → i < j → nat_lt i j ≡ true
less i j h = grind (arith, nat_tests)

same : (i j : ℕ) → i ≡ j → (i == j) ≡ true
same i j h = grind (arith, nat_tests)

or_true : (b : Bool) → (b || true) ≡ true
or_true true = refl
or_true false = refl

comes : (p q : Place) → is_before p q ≡ true → Comes p q
comes p q h = by (nat_lt p.serial q.serial) refl (p.serial == q.serial) refl (nat_lt p.slot q.slot) refl (p.slot == q.slot) refl h
  where
    by : (a : Bool) → nat_lt p.serial q.serial ≡ a → (b : Bool) → (p.serial == q.serial) ≡ b → (c : Bool) → nat_lt p.slot q.slot ≡ c → (d : Bool) → (p.slot == q.slot) ≡ d →
        (a || (b && (c || (d && is_side_before p.side q.side)))) ≡ true → Comes p q
    by true e b f c g d k h = inl (is_less p.serial q.serial e)
    by false e false f c g d k h = absurd cc
    by false e true f true g d k h = inr (is_same p.serial q.serial f, inl (is_less p.slot q.slot g))
    by false e true f false g false k h = absurd cc
    by false e true f false g true k h = inr (is_same p.serial q.serial f, inr (is_same p.slot q.slot k, h))

comes_first : (p q : Place) → Comes p q → is_before p q ≡ true
comes_first p q (inl h) = rw (less p.serial q.serial h) refl
comes_first p q (inr (e, inl h)) = rw (same p.serial q.serial e, less p.slot q.slot h) (or_true (nat_lt p.serial q.serial))
comes_first p q (inr (e, inr (f, h))) =
    rw (same p.serial q.serial e, same p.slot q.slot f, h) (ap (λ b. nat_lt p.serial q.serial || b) (or_true (nat_lt p.slot q.slot)) ∙ or_true (nat_lt p.serial q.serial))

sides_in_row : (a b c : Side) → is_side_before a b ≡ true → is_side_before b c ≡ true → is_side_before a c ≡ true
sides_in_row Set Shown Set h g = absurd cc
sides_in_row Set Shown Shown h g = absurd cc
sides_in_row Set Set c h g = absurd cc
sides_in_row Shown b c h g = absurd cc

no_side_first : (a : Side) → is_side_before a a ≡ true → ⊥
no_side_first Set h = absurd cc
no_side_first Shown h = absurd cc

in_row : (p q r : Place) → Comes p q → Comes q r → Comes p r
in_row p q r (inl a) (inl b) = inl (omega arith)
in_row p q r (inl a) (inr (e, b)) = inl (omega arith)
in_row p q r (inr (e, a)) (inl b) = inl (omega arith)
in_row p q r (inr (e, a)) (inr (f, b)) = inr (e ∙ f, slots a b)
  where
    slots : SlotComes p q → SlotComes q r → SlotComes p r
    slots (inl a) (inl b) = inl (omega arith)
    slots (inl a) (inr (e, b)) = inl (omega arith)
    slots (inr (e, a)) (inl b) = inl (omega arith)
    slots (inr (e, a)) (inr (f, b)) = inr (e ∙ f, sides_in_row p.side q.side r.side a b)

-- no place comes before itself
not_itself : (p : Place) → Comes p p → ⊥
not_itself p (inl a) = omega arith
not_itself p (inr (e, inl a)) = omega arith
not_itself p (inr (e, inr (f, a))) = no_side_first p.side a

never_both : (p q : Place) → is_before p q ≡ true → is_before q p ≡ true → ⊥
never_both p q h g = not_itself p (in_row p q p (comes p q h) (comes q p g))

abbrev Three : {X : Type 0} → (X → X → Type 0) → X → X → Type 0
Three R a b = R a b ⊎ ((a ≡ b) ⊎ R b a)

numbers : (i j : ℕ) → Three (λ a b. a < b) i j
numbers i j = by (nat_lt i j) refl (nat_lt j i) refl
  where
    by : (a : Bool) → nat_lt i j ≡ a → (b : Bool) → nat_lt j i ≡ b → Three (λ a b. a < b) i j
    by true e b f = inl (is_less i j e)
    by false e true f = inr (inr (is_less j i f))
    by false e false f = inr (inl (grind (arith, nat_tests)))

sides : (a b : Side) → Three (λ s t. is_side_before s t ≡ true) a b
sides Set Set = inr (inl refl)
sides Set Shown = inl refl
sides Shown Set = inr (inr refl)
sides Shown Shown = inr (inl refl)

-- of two places one comes first, or they are one
either : (p q : Place) → Three Comes p q
either p q = by (numbers p.serial q.serial) (numbers p.slot q.slot) (sides p.side q.side)
  where
    by : Three (λ a b. a < b) p.serial q.serial → Three (λ a b. a < b) p.slot q.slot → Three (λ s t. is_side_before s t ≡ true) p.side q.side → Three Comes p q
    by (inl a) b c = inl (inl a)
    by (inr (inr a)) b c = inr (inr (inl a))
    by (inr (inl a)) (inl b) c = inl (inr (a, inl b))
    by (inr (inl a)) (inr (inr b)) c = inr (inr (inr (sym a, inl b)))
    by (inr (inl a)) (inr (inl b)) (inl c) = inl (inr (a, inr (b, c)))
    by (inr (inl a)) (inr (inl b)) (inr (inr c)) = inr (inr (inr (sym a, inr (sym b, c))))
    by (inr (inl a)) (inr (inl b)) (inr (inl c)) = inr (inl (λ i. record { serial = a i; slot = b i; side = c i }))

not_after : (p q : Place) → is_before q p ≡ false → are_same q p ≡ false → is_before p q ≡ true
not_after p q h g = by (either p q)
  where
    by : Three Comes p q → is_before p q ≡ true
    by (inl a) = comes_first p q a
    by (inr (inl a)) = absurd (let one : are_same q p ≡ true = subst (λ (x : Place). are_same x p ≡ true) a (itself p) in cc)
    by (inr (inr a)) = absurd (let before : is_before q p ≡ true = comes_first q p a in cc)

-- ---- rising lists
after_in_row : (p q : Place) (rs : List Place) → is_before p q ≡ true → AllAfter q rs → AllAfter p rs
after_in_row p q [] h a = tt
after_in_row p q (r ∷ rs) h a = (comes_first p r (in_row p q r (comes p q h) (comes q r a.0)), after_in_row p q rs h a.1)

comes_after : (p : Place) (ps : List Place) (q : Place) → AllAfter p ps → among ps q ≡ true → is_before p q ≡ true
comes_after p [] q a h = absurd cc
comes_after p (r ∷ rs) q a h = by (are_same r q) refl (λ g. comes_after p rs q a.1 g)
  where
    by : (b : Bool) → are_same r q ≡ b → (among rs q ≡ true → is_before p q ≡ true) → is_before p q ≡ true
    by true e rest = subst (λ (x : Place). is_before p x ≡ true) (one_place r q e) a.0
    by false e rest = rest (rw e at h)

-- the first one comes first
least : (p : Place) (ps : List Place) (q : Place) → AllAfter p ps → among (p ∷ ps) q ≡ true → Comes q p → ⊥
least p ps q a h c = by (are_same p q) refl
  where
    by : (b : Bool) → are_same p q ≡ b → ⊥
    by true e = not_itself q (subst (λ (x : Place). Comes q x) (one_place p q e) c)
    by false e = never_both p q (comes_after p ps q a (rw e at h)) (comes_first q p c)

not_there : (p : Place) (ps : List Place) → AllAfter p ps → among ps p ≡ false
not_there p ps a = by (among ps p) refl
  where
    by : (b : Bool) → among ps p ≡ b → among ps p ≡ false
    by true e = absurd (not_itself p (comes p p (comes_after p ps p a e)))
    by false e = e

same_behind : (p : Place) (ps qs : List Place) → AllAfter p ps → AllAfter p qs → ((r : Place) → among (p ∷ ps) r ≡ among (p ∷ qs) r) → (r : Place) → among ps r ≡ among qs r
same_behind p ps qs a b h r = by (are_same p r) refl (h r)
  where
    by : (c : Bool) → are_same p r ≡ c → (c || among ps r) ≡ (c || among qs r) → among ps r ≡ among qs r
    by true e g = subst (λ (x : Place). among ps x ≡ among qs x) (one_place p r e) (not_there p ps a ∙ sym (not_there p qs b))
    by false e g = g

-- two rising lists of the same places are one
one_list : (ps qs : List Place) → AreRising ps → AreRising qs → ((r : Place) → among ps r ≡ among qs r) → ps ≡ qs
one_list [] [] a b h = refl
one_list [] (q ∷ qs) a b h = absurd (let no : false ≡ true = h q ∙ among_here q qs in cc)
one_list (p ∷ ps) [] a b h = absurd (let no : true ≡ false = sym (among_here p ps) ∙ h p in cc)
one_list (p ∷ ps) (q ∷ qs) a b h = by (either p q) (one_list ps qs a.1 b.1)
  where
    by : Three Comes p q → (((r : Place) → among ps r ≡ among qs r) → ps ≡ qs) → p ∷ ps ≡ q ∷ qs
    by (inl c) rest = absurd (least q qs p b.0 (sym (h p) ∙ among_here p ps) c)
    by (inr (inr c)) rest = absurd (least p ps q a.0 (h q ∙ among_here q qs) c)
    by (inr (inl e)) rest =
        let after : AllAfter p qs = subst (λ (x : Place). AllAfter x qs) (sym e) b.0 in
        let alike : (r : Place) → among (p ∷ ps) r ≡ among (p ∷ qs) r = λ r. h r ∙ ap (λ (x : Place). among (x ∷ qs) r) (sym e) in
        λ i. e i ∷ rest (same_behind p ps qs a.0 after alike) i

-- ---- what passes a test
lacks : (test : Place → Bool) (ps : List Place) (q : Place) → test q ≡ false → among (filter test ps) q ≡ false
lacks test [] q h = refl
lacks test (p ∷ ps) q h = by (test p) refl (are_same p q) refl (lacks test ps q h)
  where
    by : (b : Bool) → test p ≡ b → (c : Bool) → are_same p q ≡ c → among (filter test ps) q ≡ false → among (filter test (p ∷ ps)) q ≡ false
    by true e true f rest = absurd (let passes : test q ≡ true = subst (λ (x : Place). test x ≡ true) (one_place p q f) e in cc)
    by true e false f rest = rw (e, f) rest
    by false e c f rest = rw e rest

passing : (test : Place → Bool) (ps : List Place) (q : Place) → (test q ≡ true → among ps q ≡ true) → among (filter test ps) q ≡ test q
passing test ps q h = by (test q) refl
  where
    by : (b : Bool) → test q ≡ b → among (filter test ps) q ≡ test q
    by true e = among_filter test ps q (h e) e ∙ sym e
    by false e = lacks test ps q e ∙ sym e

-- ---- the order by which places are sorted
abbrev lexical : Ordering → Ordering → Ordering
lexical Less rest = Less
lexical Equal rest = rest
lexical Greater rest = Greater

by_parts : (p q : Place) → place_order.ghosts.cmp p q ≡ lexical (nat_cmp p.serial q.serial) (lexical (nat_cmp p.slot q.slot) (side_order.ghosts.cmp p.side q.side))
by_parts p q = refl

sides_as_before : (a b : Side) → is_lt (side_order.ghosts.cmp a b) ≡ is_side_before a b
sides_as_before Set Set = refl
sides_as_before Set Shown = refl
sides_as_before Shown Set = refl
sides_as_before Shown Shown = refl

number_first : (i j : ℕ) (rest : Ordering) → is_lt (lexical (nat_cmp i j) rest) ≡ (nat_lt i j || ((i == j) && is_lt rest))
number_first i j rest = by (nat_cmp i j) refl
  where
    by : (c : Ordering) → nat_cmp i j ≡ c → is_lt (lexical c rest) ≡ (nat_lt i j || ((i == j) && is_lt rest))
    by Less e = let h : nat_lt i j ≡ true = grind (arith, nat_tests) in rw h refl
    by Equal e = let h : nat_lt i j ≡ false = grind (arith, nat_tests) in let g : (i == j) ≡ true = grind (arith, nat_tests) in rw (h, g) refl
    by Greater e = let h : nat_lt i j ≡ false = grind (arith, nat_tests) in let g : (i == j) ≡ false = grind (arith, nat_tests) in rw (h, g) refl

as_before : (p q : Place) → is_lt (place_order.ghosts.cmp p q) ≡ is_before p q
as_before p q =
    ap is_lt (by_parts p q) ∙ number_first p.serial q.serial (lexical (nat_cmp p.slot q.slot) (side_order.ghosts.cmp p.side q.side))
    ∙ ap (λ b. nat_lt p.serial q.serial || ((p.serial == q.serial) && b))
    (number_first p.slot q.slot (side_order.ghosts.cmp p.side q.side) ∙ ap (λ b. nat_lt p.slot q.slot || ((p.slot == q.slot) && b)) (sides_as_before p.side q.side))

-- ---- the loops
abbrev place_of : LoopFound Place → Place
place_of found = found.place

found_at : (found : List (LoopFound Place)) (q : Place) → has_loop space (map shown found) q ≡ among (map place_of found) q
found_at [] q = refl
found_at (x ∷ xs) q = ap (λ b. are_same x.place q || b) (found_at xs q)

abbrev Adjacent : List Place → Type 0
Adjacent [] = Unit {0}
Adjacent (p ∷ ps) = First p ps × Adjacent ps
  where
    First : Place → List Place → Type 0
    First p [] = Unit {0}
    First p (q ∷ qs) = is_before q p ≡ false

abbrev Once : List Place → Type 0
Once [] = Unit {0}
Once (p ∷ ps) = (among ps p ≡ false) × Once ps

once : (found : List (LoopFound Place)) → AreOnce space (map shown found) → Once (map place_of found)
once [] h = tt
once (x ∷ xs) h = (sym (found_at xs x.place) ∙ h.0, once xs h.1)

rises : (ps : List Place) → Adjacent ps → Once ps → AreRising ps
rises [] a o = tt
rises (p ∷ []) a o = (tt, tt)
rises (p ∷ q ∷ qs) a o =
    let rest : AreRising (q ∷ qs) = rises (q ∷ qs) a.1 o.1 in
    let first : is_before p q ≡ true = not_after p q a.0 (other (are_same q p) (among qs p) o.0) in
    ((first, after_in_row p q qs first rest.0), rest)
  where
    other : (b c : Bool) → (b || c) ≡ false → b ≡ false
    other true c h = absurd cc
    other false c h = refl

adjacent : (found : List (LoopFound Place)) → ((k : ℕ) (d : LoopFound Place) → suc k < length found → is_lt (place_order.ghosts.cmp (place_of (slice_index_or found (suc k) d)) (place_of (slice_index_or found k d))) ≡ false) →
    Adjacent (map place_of found)
adjacent [] h = tt
adjacent (x ∷ []) h = (tt, tt)
adjacent (x ∷ y ∷ ys) h = (sym (as_before y.place x.place) ∙ h 0 x (omega arith), adjacent (y ∷ ys) (λ k d within. h (suc k) d (omega arith)))

in_order : (found : List (LoopFound Place)) → IsSortedByKey place_of place_order.ghosts.cmp found → Adjacent (map place_of found)
in_order found h =
    adjacent found (λ k d within. subst (λ n. is_lt (place_order.ghosts.cmp (place_of (slice_index_or found n d)) (place_of (slice_index_or found k d))) ≡ false) (add-one k) (h k d (omega arith) (omega arith)))

-- the places of the loops are those that are newly suspended, in their order
pub loops_listed : (before store : Store) (found : List (LoopFound Place)) → AreRising (places_of store) → AreLoopsIn before store (map shown found) → IsSortedByKey place_of place_order.ghosts.cmp found →
    map place_of found ≡ looped_in before store
loops_listed before store found rising loops ordered =
    one_list (map place_of found) (looped_in before store) (rises (map place_of found) (in_order found ordered) (once found loops.once))
    (rising_filter (is_newly_suspended before store) (places_of store) rising)
    (λ q. sym (found_at found q) ∙ loops.suspended q ∙ sym (passing (is_newly_suspended before store) (places_of store) q (listed q)))
  where
    listed : (q : Place) → is_newly_suspended before store q ≡ true → among (places_of store) q ≡ true
    listed q h = by (held_at q store) refl
      where
        by : (o : Option Held) → held_at q store ≡ o → among (places_of store) q ≡ true
        by None e = absurd (let no : (false && not (is_suspended_in (held_at q before))) ≡ true = rw e at h in cc)
        by (Some held) e = place_listed store q (rw e refl)
