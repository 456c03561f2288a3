-- The queue as it gains and loses firings, and as the timers change.
use Rattle.std.proofs.Common.{◌≡◌, ◌≢◌, ℕ, ◌<◌, List, [], ◌∷◌, ◌++◌, length, Option, None, Some, IfSome, nat_cmp, ap, sym, subst, ◌∙◌, arith, rules, length-append, ⊎_elim}
use Rattle.std.specs.Option.{option_map}
use Rattle.std.specs.Prelude.{map as list_map}
use Rattle.std.specs.List.{All, Contains}
use Rattle.std.specs.List.Sorted.{IsPermutation}
use Rattle.std.specs.Borrow.{Bor}
use Rattle.std.specs.Cmp.{nat_cmp_total}
use Rattle.std.specs.BTreeMap as tree
use Rattle.std.specs.BTreeMap.{BTreeMap}
use Rattle.std.specs.Map.Iter.{deref_pair}
use Rattle.std.specs.FinMap as map
use Rattle.std.specs.FinMap.{gets}
use Rattle.std.proofs.lemmas.Bool.{cases_eq}
use Rattle.std.proofs.lemmas.List.Elements.{All-push, All-weaker, All-map, All-contains, Contains-get_or, Contains-append_right, Contains-append_cases, Contains-push_cases}
use Rattle.std.proofs.lemmas.List.Sorted.{Contains-permutation, length_permutation}
use Rattle.std.proofs.lemmas.Map.Lookups.{exact_unsigned}
use Rattle.std.proofs.lemmas.Map.Views.{IfSome-get}
use Rattle.timers.specs.declared.timer.RunningTimer.{RunningTimer}
use Rattle.timers.specs.Timer.{first_time}
use Rattle.timers.specs.Schedule.{Running, next_time}
use Rattle.timers.specs.Queue.{Firing, firing, IsQueued, BeginsStale, LosesFirst}
use Rattle.timers.proofs.Maps.{get-tree}

-- ---- membership
pub Contains-cons : {X : Type 0} → (x y : X) (xs : List X) → Contains xs y → Contains (x ∷ xs) y
Contains-cons x y xs h = Contains-append_right (x ∷ []) xs y h

pub Contains-first : {X : Type 0} → (x : X) (xs : List X) → Contains (x ∷ xs) x
Contains-first x xs = Contains-get_or (x ∷ xs) 0 x (omega arith)

pub not_in_nothing : {X : Type 0} → (x : X) → Contains [] x → ⊥
not_in_nothing x h = let below : h.0 < 0 = h.1 in omega arith

Contains-one : {X : Type 0} → (x y : X) → Contains (x ∷ []) y → x ≡ y
Contains-one x y h = ⊎_elim (λ none. absurd (not_in_nothing y none)) (λ same. same) (Contains-push_cases [] x y h)

-- ---- maps
pub get-insert_same : (m : Running) (k : ℕ) (t : RunningTimer) → map.get (map.insert m k t) k ≡ Some t
get-insert_same m k t = grind (gets, rules)

pub get-insert_other : (m : Running) (k : ℕ) (t : RunningTimer) (q : ℕ) → k ≢ q → map.get (map.insert m k t) q ≡ map.get m q
get-insert_other m k t q apart = grind (gets, rules)

pub get-remove_same : (m : Running) (k : ℕ) → map.get (map.remove m k) k ≡ None
get-remove_same m k = grind (gets, rules)

pub get-remove_other : (m : Running) (k q : ℕ) → k ≢ q → map.get (map.remove m k) q ≡ map.get m q
get-remove_other m k q apart = grind (gets, rules)

-- ---- the queue
-- each of a list has its firing in the queue, once the last one is pushed
pub added-push : {A : Type 0} → (f : A → Firing) (xs : List A) (x : A) (old new : List Firing) → All (λ y. Contains old (f y)) xs → IsPermutation (f x ∷ old) new → All (λ y. Contains new (f y)) (xs ++ x ∷ [])
added-push f xs x old new all p =
    All-push (λ y. Contains new (f y)) xs x
    (All-weaker (λ y. Contains old (f y)) (λ y. Contains new (f y)) (λ y h. Contains-permutation _ new (f y) p (Contains-cons (f x) (f y) old h)) xs all)
    (Contains-permutation _ new (f x) p (Contains-first (f x) old))

-- as many are in the queue as are in the list
pub counted-push : {A : Type 0} → (xs : List A) (x : A) (f : Firing) (old new : List Firing) → length old ≡ length xs → IsPermutation (f ∷ old) new → length new ≡ length (xs ++ x ∷ [])
counted-push xs x f old new e p = let l = length_permutation (f ∷ old) new p in simp length-append (omega arith)

-- one that holds the firings of all timers has their first firings
one_queued : (firings : List Firing) (serial time : ℕ) (o : Option RunningTimer) → IfSome o (λ t. Contains firings (firing (first_time t) serial)) → option_map first_time o ≡ Some time → Contains firings (firing time serial)
one_queued firings serial time None h e = cc
one_queued firings serial time (Some t) h e =
    let same : first_time t ≡ time = cc in subst (λ x. Contains firings (firing x serial)) same h

IfSome-all : (P : RunningTimer → Type 0) (Q : RunningTimer → Type 0) (o : Option RunningTimer) → ((t : RunningTimer) → P t → Q t) → IfSome o P → IfSome o Q
IfSome-all P Q None f h = tt
IfSome-all P Q (Some t) f h = f t h

pub queued-all : (m : BTreeMap ℕ RunningTimer) (xs : List (Bor ℕ × Bor RunningTimer)) (firings : List Firing) → list_map deref_pair xs ≡ m.entries → All (λ p. Contains firings (firing (first_time p.1.now) p.0.now)) xs → IsQueued (map.from_entries m.entries) firings
queued-all m xs firings e all serial time next =
    let P : ℕ × RunningTimer → Type 0 = λ p. Contains firings (firing (first_time p.1) p.0) in
    let every : All P m.entries = subst (All P) e (All-map P deref_pair xs all) in
    one_queued firings serial time (map.get (map.from_entries m.entries) serial)
    (subst (λ o. IfSome o (λ t. Contains firings (firing (first_time t) serial))) (sym (get-tree m serial))
    (IfSome-all (λ t. Contains m.entries (serial, t)) (λ t. P (serial, t)) (tree.get nat_cmp m serial)
    (λ t among. All-contains P m.entries (serial, t) every among)
    (IfSome-get nat_cmp_total exact_unsigned m serial)))
    next

pub queued-push : (timers : Running) (old new : List Firing) → IsQueued timers old → IsPermutation old new → IsQueued timers new
queued-push timers old new q p = λ serial time e. Contains-permutation old new (firing time serial) p (q serial time e)

pub queued-loses : (timers : Running) (old new : List Firing) → IsQueued timers old → BeginsStale timers old → LosesFirst old new → IsQueued timers new
queued-loses timers [] new q stale loses = absurd stale
queued-loses timers (f ∷ fs) new q stale loses = λ serial time e.
    ⊎_elim
    (λ one. absurd (stale (subst (λ (g : Firing). next_time timers g.0.1 ≡ Some g.0.0) (sym (Contains-one f (firing time serial) one)) e)))
    (λ rest. rest)
    (Contains-append_cases (f ∷ []) new (firing time serial) (Contains-permutation (f ∷ fs) (f ∷ new) (firing time serial) loses (q serial time e)))

pub loses-shorter : (timers : Running) (old new : List Firing) → BeginsStale timers old → LosesFirst old new → length new < length old
loses-shorter timers [] new stale loses = absurd stale
loses-shorter timers (f ∷ fs) new stale loses = let e = length_permutation (f ∷ fs) (f ∷ new) loses in omega arith

-- ---- the timers as they change
pub queued-insert : (timers : Running) (k : ℕ) (t : RunningTimer) (firings : List Firing) → IsQueued timers firings → IsQueued (map.insert timers k t) (firing (first_time t) k ∷ firings)
queued-insert timers k t firings q serial time e =
    ⊎_elim
    (λ same.
    let here : Some (first_time t) ≡ Some time = ap (option_map first_time) (sym (subst (λ j. map.get (map.insert timers k t) j ≡ Some t) same (get-insert_same timers k t))) ∙ e in
    let at : first_time t ≡ time = cc in
    let is : firing (first_time t) k ≡ firing time serial = ap (λ j. firing (first_time t) j) same ∙ ap (λ x. firing x serial) at in
    subst (Contains (firing (first_time t) k ∷ firings)) is (Contains-first (firing (first_time t) k) firings))
    (λ apart. Contains-cons _ _ firings (q serial time (ap (option_map first_time) (sym (get-insert_other timers k t serial apart)) ∙ e)))
    (cases_eq k serial)

pub queued-remove : (timers : Running) (k : ℕ) (firings : List Firing) → IsQueued timers firings → IsQueued (map.remove timers k) firings
queued-remove timers k firings q serial time e =
    ⊎_elim
    (λ same.
    let gone : ◌≡◌ {A = Option ℕ} None (Some time) = ap (option_map first_time) (sym (subst (λ j. map.get (map.remove timers k) j ≡ None) same (get-remove_same timers k))) ∙ e in
    cc)
    (λ apart. q serial time (ap (option_map first_time) (sym (get-remove_other timers k serial apart)) ∙ e))
    (cases_eq k serial)
