-- The first firing, sought timer by timer.
use Rattle.std.proofs.Common.{◌≡◌, ℕ, ◌<◌, ◌≤◌, Bool, true, false, cond, ◌||◌, ◌&&◌, nat_cmp, nat_eq, nat_lt, nat_le, List, [], ◌∷◌, Option, None, Some, IfSome, is_some, refl, ap, sym, subst, ◌∙◌, arith, ◌⊎◌, inl, inr, ⊎_elim}
use Rattle.std.specs.Option.{option_map}
use Rattle.std.specs.List.{list_any}
use Rattle.std.specs.Ordering.{eq_by_cmp}
use Rattle.std.specs.FinMap as map
use Rattle.std.proofs.lemmas.Bool.{false≢true, eqb-true, ltb-true, leb-true, lt-leb, le-leb}
use Rattle.std.proofs.lemmas.Bool.Decides.{nat_tests}
use Rattle.timers.specs.declared.timer.RunningTimer.{RunningTimer}
use Rattle.timers.specs.Timer.{first_time}
use Rattle.timers.specs.Schedule.{Running, next_time, IsNotAfter, IsFirstDue, IsNoneDue, is_not_after, first_of_two, due_by, first_among, first_due}

-- ---- two firings
holds : (a b : ℕ × ℕ) → IsNotAfter a b → is_not_after a b ≡ true
holds a b h = ⊎_elim (λ (earlier : a.0 < b.0). grind (arith, nat_tests)) (λ (same : (a.0 ≡ b.0) × (a.1 ≤ b.1)). let e = same.0 in let l = same.1 in grind (arith, nat_tests)) h

split : (x y z : Bool) → (x || (y && z)) ≡ true → (x ≡ true) ⊎ ((y ≡ true) × (z ≡ true))
split true y z h = inl refl
split false true true h = inr (refl, refl)
split false true false h = absurd (false≢true h)
split false false z h = absurd (false≢true h)

-- each before the other one, or the same: they are the same
same_place : (a b : ℕ × ℕ) → IsNotAfter a b → is_not_after b a ≡ true → (a.0 ≡ b.0) × (a.1 ≡ b.1)
same_place a b h test =
    ⊎_elim
    (λ later. let l : b.0 < a.0 = ltb-true b.0 a.0 later in ⊎_elim (λ (earlier : a.0 < b.0). absurd (omega arith)) (λ (same : (a.0 ≡ b.0) × (a.1 ≤ b.1)). let e = same.0 in absurd (omega arith)) h)
    (λ both.
    let e : b.0 ≡ a.0 = eqb-true b.0 a.0 both.0 in
    let l : b.1 ≤ a.1 = leb-true b.1 a.1 both.1 in
    ⊎_elim (λ (earlier : a.0 < b.0). absurd (omega arith)) (λ (same : (a.0 ≡ b.0) × (a.1 ≤ b.1)). (same.0, let m = same.1 in omega arith)) h)
    (split (nat_lt b.0 a.0) (nat_eq b.0 a.0) (nat_le b.1 a.1) test)

keeps : (f : ℕ × ℕ) (b : Option (ℕ × ℕ)) → IfSome b (IsNotAfter f) → first_of_two (Some f) b ≡ Some f
keeps f None h = refl
keeps f (Some g) h = ap (λ t. cond t (Some f) (Some g)) (holds f g h)

either_way : (t : Bool) (f g : ℕ × ℕ) → (t ≡ true → g ≡ f) → cond t (Some g) (Some f) ≡ Some f
either_way true f g same = ap Some (same refl)
either_way false f g same = refl

takes : (f : ℕ × ℕ) (a : Option (ℕ × ℕ)) → IfSome a (IsNotAfter f) → first_of_two a (Some f) ≡ Some f
takes f None h = refl
takes f (Some g) h =
    either_way (is_not_after g f) f g (λ test. let e = same_place f g h test in λ i. (sym e.0 i, sym e.1 i))

both_pass : (f : ℕ × ℕ) (a b : Option (ℕ × ℕ)) → IfSome a (IsNotAfter f) → IfSome b (IsNotAfter f) → IfSome (first_of_two a b) (IsNotAfter f)
both_pass f None b h k = k
both_pass f (Some g) None h k = h
both_pass f (Some g) (Some g2) h k =
    elim (is_not_after g g2) as (λ t. IfSome (cond t (Some g) (Some g2)) (IsNotAfter f)) [ true ↦ h | false ↦ k ]

-- ---- one timer
not_before : (f : ℕ × ℕ) (until serial : ℕ) (o : Option ℕ) → IfSome o (λ time. IsNotAfter f (time, serial)) → IfSome (due_by until serial o) (IsNotAfter f)
not_before f until serial None h = tt
not_before f until serial (Some time) h =
    elim (nat_le time until) as (λ t. IfSome (cond t (Some (time, serial)) None) (IsNotAfter f)) [ true ↦ h | false ↦ tt ]

is_due : (f : ℕ × ℕ) (until : ℕ) (o : Option ℕ) → o ≡ Some f.0 → f.0 ≤ until → due_by until f.1 o ≡ Some f
is_due f until o e by_until =
    ap (due_by until f.1) e ∙ ap (λ t. cond t (Some f) None) (le-leb f.0 until by_until)

not_due : (until serial : ℕ) (o : Option ℕ) → IfSome o (λ time. until < time) → due_by until serial o ≡ None
not_due until serial None h = refl
not_due until serial (Some time) h = ap (λ t. cond t (Some (time, serial)) None) (lt-leb time until h)

-- ---- timers one after another
none_among : (running : Running) (until : ℕ) (serials : List ℕ) → IsNoneDue running until → first_among running until serials ≡ None
none_among running until [] h = refl
none_among running until (k ∷ ks) h =
    ap (λ a. first_of_two a (first_among running until ks)) (not_due until k (next_time running k) (h k)) ∙ none_among running until ks h

all_not_before : (running : Running) (until : ℕ) (f : ℕ × ℕ) (serials : List ℕ) → IsFirstDue running until f → IfSome (first_among running until serials) (IsNotAfter f)
all_not_before running until f [] h = tt
all_not_before running until f (k ∷ ks) h =
    both_pass f (due_by until k (next_time running k)) (first_among running until ks) (not_before f until k (next_time running k) (h.least k)) (all_not_before running until f ks h)

tied : (a b : ℕ) → eq_by_cmp nat_cmp a b ≡ true → a ≡ b
tied a b h = grind (arith, nat_tests)

either : (a b : Bool) → (a || b) ≡ true → (a ≡ true) ⊎ (b ≡ true)
either true b h = inl refl
either false b h = inr h

is_among : (running : Running) (until : ℕ) (f : ℕ × ℕ) (serials : List ℕ) → IsFirstDue running until f → list_any (eq_by_cmp nat_cmp f.1) serials ≡ true → first_among running until serials ≡ Some f
is_among running until f [] h among = absurd (false≢true among)
is_among running until f (k ∷ ks) h among =
    ⊎_elim
    (λ here.
    ap (λ a. first_of_two a (first_among running until ks))
    (subst (λ j. due_by until j (next_time running j) ≡ Some f) (tied f.1 k here) (is_due f until (next_time running f.1) h.runs h.by_until))
    ∙ keeps f (first_among running until ks) (all_not_before running until f ks h))
    (λ later.
    ap (first_of_two (due_by until k (next_time running k))) (is_among running until f ks h later)
    ∙ takes f (due_by until k (next_time running k)) (not_before f until k (next_time running k) (h.least k)))
    (either (eq_by_cmp nat_cmp f.1 k) (list_any (eq_by_cmp nat_cmp f.1) ks) among)

there : (o : Option RunningTimer) (time : ℕ) → option_map first_time o ≡ Some time → is_some o ≡ true
there None time e = cc
there (Some t) time e = refl

-- ---- the whole
pub first_is : (running : Running) (until : ℕ) (f : ℕ × ℕ) → IsFirstDue running until f → Some f ≡ first_due running until
unfolding first_due
first_is running until f h =
    sym (is_among running until f (map.keys running) h
    (sym (map.contains_key-keys running f.1) ∙ there (map.get running f.1) f.0 h.runs))

pub none_is : (running : Running) (until : ℕ) → IsNoneDue running until → None ≡ first_due running until
unfolding first_due
none_is running until h = sym (none_among running until (map.keys running) h)
