-- What holds of the parts of `Timers` as the timers change.
use Rattle.std.proofs.Common.{◌≡◌, ℕ, ◌^◌, ◌<◌, Bool, true, false, List, [], ◌∷◌, ◌++◌, length, Option, None, Some, IfSome, refl, ap, sym, subst, ◌∙◌, arith, ⊎_elim}
use Rattle.std.specs.Option.{option_map}
use Rattle.std.specs.List.{Contains}
use Rattle.std.specs.Ordering.{nat_cmp}
use Rattle.std.specs.FinMap as map
use Rattle.std.proofs.lemmas.Bool.{cases_eq, false≢true}
use Rattle.std.proofs.lemmas.List.Elements.{Contains-append_left, Contains-push_cases}
use Rattle.timers.specs.declared.timer.StartFiring.{StartFiring}
use Rattle.timers.specs.declared.timer.RunningTimer.{RunningTimer}
use Rattle.timers.specs.Timer.{first_time, released, start_released, start_waits, IsWithinBounds}
use Rattle.timers.specs.Schedule.{Running}
use Rattle.timers.specs.Queue.{BeginsLive, Stored, Queued, Serves, is_waiting, ListsWaiting, AreWithinBounds, IsReleasedAt, IsReleased}
use Rattle.timers.specs.Sound.{IsSound}
use Rattle.timers.proofs.Queueing.{get-insert_same, get-insert_other, get-remove_same, get-remove_other, not_in_nothing}

-- ---- a fact on the timer of each serial
each-insert : (P : ℕ → Option RunningTimer → Type 0) (m : Running) (k : ℕ) (t : RunningTimer) → ((q : ℕ) → P q (map.get m q)) → P k (Some t) → (q : ℕ) → P q (map.get (map.insert m k t) q)
each-insert P m k t all one q =
    ⊎_elim
    (λ same. subst (λ j. P j (map.get (map.insert m k t) j)) same (subst (P k) (sym (get-insert_same m k t)) one))
    (λ apart. subst (P q) (sym (get-insert_other m k t q apart)) (all q))
    (cases_eq k q)

each-remove : (P : ℕ → Option RunningTimer → Type 0) (m : Running) (k : ℕ) → ((q : ℕ) → P q (map.get m q)) → P k None → (q : ℕ) → P q (map.get (map.remove m k) q)
each-remove P m k all one q =
    ⊎_elim
    (λ same. subst (λ j. P j (map.get (map.remove m k) j)) same (subst (P k) (sym (get-remove_same m k)) one))
    (λ apart. subst (P q) (sym (get-remove_other m k q apart)) (all q))
    (cases_eq k q)

-- ---- sound parts
pub sound-insert : (now : ℕ) (old new : Stored) (queue : Queued) (serials : List ℕ) (k : ℕ) (t : RunningTimer) → now < 2 ^ 63 → AreWithinBounds old.timers → ListsWaiting old.timers serials → new.timers ≡ map.insert old.timers k t → Serves new queue → IsWithinBounds t → (start_waits t.at_start ≡ true → Contains serials k) → IsSound now new queue serials
sound-insert now old new queue serials k t soon bounds waiting e serves one listed = record {
  time = soon;
  bounds = subst AreWithinBounds (sym e) (each-insert (λ q o. IfSome o IsWithinBounds) old.timers k t bounds one);
  serves = serves;
  waiting = subst (λ m. ListsWaiting m serials) (sym e) (each-insert (λ q o. is_waiting o ≡ true → Contains serials q) old.timers k t waiting listed);
}

pub sound-remove : (now : ℕ) (old new : Stored) (queue : Queued) (serials : List ℕ) (k : ℕ) → now < 2 ^ 63 → AreWithinBounds old.timers → ListsWaiting old.timers serials → new.timers ≡ map.remove old.timers k → Serves new queue → IsSound now new queue serials
sound-remove now old new queue serials k soon bounds waiting e serves = record {
  time = soon;
  bounds = subst AreWithinBounds (sym e) (each-remove (λ q o. IfSome o IsWithinBounds) old.timers k bounds tt);
  serves = serves;
  waiting = subst (λ m. ListsWaiting m serials) (sym e) (each-remove (λ q o. is_waiting o ≡ true → Contains serials q) old.timers k waiting (λ h. cc));
}

-- one more serial is listed
pub waiting-push : (m : Running) (serials : List ℕ) (k : ℕ) → ListsWaiting m serials → ListsWaiting m (serials ++ k ∷ [])
waiting-push m serials k waiting = λ q h. Contains-append_left serials (k ∷ []) q (waiting q h)

-- the timer of a serial is within the bounds
pub bounds-at : (m : Running) (k : ℕ) (t : RunningTimer) → AreWithinBounds m → map.get m k ≡ Some t → IsWithinBounds t
bounds-at m k t bounds e = subst (λ o. IfSome o IsWithinBounds) e (bounds k)

-- ---- firings at the start that wait no longer
start-bound : (a : Option StartFiring) → IfSome a (λ s. s.time < 2 ^ 63) → IfSome (start_released a) (λ s. s.time < 2 ^ 63)
start-bound None h = tt
start-bound (Some s) h = h

pub bounds-released : (t : RunningTimer) → IsWithinBounds t → IsWithinBounds (released t)
unfolding released
bounds-released t h = record { repeats = h.repeats; interval = h.interval; due = h.due; start = start-bound t.at_start h.start }

start-waits_not : (a : Option StartFiring) → start_waits (start_released a) ≡ false
start-waits_not None = refl
start-waits_not (Some s) = refl

waits-released : (o : Option RunningTimer) → is_waiting (option_map released o) ≡ false
unfolding released
waits-released None = refl
waits-released (Some t) = start-waits_not t.at_start

start-again : (a : Option StartFiring) → start_released (start_released a) ≡ start_released a
start-again None = refl
start-again (Some s) = refl

released-again : (o : Option RunningTimer) → option_map released (option_map released o) ≡ option_map released o
unfolding released
released-again None = refl
released-again (Some t) = ap (λ a. Some (record t { at_start = a })) (start-again t.at_start)

start-same : (a : Option StartFiring) → start_waits a ≡ false → start_released a ≡ a
start-same None h = refl
start-same (Some s) h = ap (λ b. Some (record s { waits = b })) (sym h)

released-same : (o : Option RunningTimer) → is_waiting o ≡ false → option_map released o ≡ o
unfolding released
released-same None h = refl
released-same (Some t) h = ap (λ a. Some (record t { at_start = a })) (start-same t.at_start h)

pub released-at : (m new : Running) (k : ℕ) (t r : RunningTimer) → map.get m k ≡ Some t → r ≡ released t → new ≡ map.insert m k r → IsReleasedAt m k new
released-at m new k t r e is change = record {
  here = ap (λ n. map.get n k) change ∙ get-insert_same m k r ∙ ap Some is ∙ ap (option_map released) (sym e);
  others = λ q apart. ap (λ n. map.get n q) change ∙ get-insert_other m k r q apart;
}

-- a step of the loop over those that wait
pub releasing-more : (first old new : Running) (k : ℕ) → IsReleasedAt old k new → ((q : ℕ) → option_map released (map.get old q) ≡ option_map released (map.get first q)) → (q : ℕ) → option_map released (map.get new q) ≡ option_map released (map.get first q)
releasing-more first old new k step before q =
    ⊎_elim
    (λ same. subst (λ j. option_map released (map.get new j) ≡ option_map released (map.get first j)) same
    (ap (option_map released) step.here ∙ released-again (map.get old k) ∙ before k))
    (λ apart. ap (option_map released) (step.others q apart) ∙ before q)
    (cases_eq k q)

pub waiting-more : (old new : Running) (serials : List ℕ) (k : ℕ) → IsReleasedAt old k new → ListsWaiting old (serials ++ k ∷ []) → ListsWaiting new serials
waiting-more old new serials k step listed q waits =
    ⊎_elim
    (λ same. absurd (false≢true (sym (waits-released (map.get old k)) ∙ ap is_waiting (sym step.here) ∙ ap (λ j. is_waiting (map.get new j)) same ∙ waits)))
    (λ apart.
    ⊎_elim (λ rest. rest) (λ here. absurd (apart here))
    (Contains-push_cases serials k q (listed q (ap is_waiting (sym (step.others q apart)) ∙ waits))))
    (cases_eq k q)

-- nobody waits, so nothing is left to release
not_waiting : (b : Bool) → (b ≡ true → ⊥) → b ≡ false
not_waiting true h = absurd (h refl)
not_waiting false h = refl

pub released-all : (first last : Running) → ListsWaiting last [] → ((q : ℕ) → option_map released (map.get last q) ≡ option_map released (map.get first q)) → IsReleased first last
released-all first last waiting before q =
    sym (released-same (map.get last q) (not_waiting (is_waiting (map.get last q)) (λ w. not_in_nothing q (waiting q w)))) ∙ before q

IfSome-released : (o : Option RunningTimer) → IfSome o IsWithinBounds → IfSome (option_map released o) IsWithinBounds
IfSome-released None h = tt
IfSome-released (Some t) h = bounds-released t h

pub sound-released : (now : ℕ) (old new : Stored) (queue : Queued) (serials : List ℕ) → now < 2 ^ 63 → AreWithinBounds old.timers → IsReleased old.timers new.timers → Serves new queue → IsSound now new queue serials
sound-released now old new queue serials soon bounds is serves = record {
  time = soon;
  bounds = λ q. subst (λ o. IfSome o IsWithinBounds) (sym (is q)) (IfSome-released (map.get old.timers q) (bounds q));
  serves = serves;
  waiting = λ q w. absurd (false≢true (sym (waits-released (map.get old.timers q)) ∙ ap is_waiting (sym (is q)) ∙ w));
}

-- at the beginning
pub sound-new : (timers : Stored) (queue : Queued) (serials : List ℕ) → timers ≡ record { timers = map.empty; count = 0 } → queue.firings ≡ [] → IsSound 0 timers queue serials
sound-new timers queue serials e empty =
    let none : (q : ℕ) → map.get timers.timers q ≡ None = λ q. ap (λ (s : Stored). map.get s.timers q) e ∙ map.get-empty nat_cmp q in
    record {
      time = omega arith;
      bounds = λ q. subst (λ o. IfSome o IsWithinBounds) (sym (none q)) tt;
      serves = record {
        queued = λ q time next. absurd (let gone : ◌≡◌ {A = Option ℕ} None (Some time) = ap (option_map first_time) (sym (none q)) ∙ next in cc);
        begins = subst (BeginsLive timers.timers) (sym empty) tt;
        room = let few : timers.count ≡ 0 = ap (λ (s : Stored). s.count) e in omega arith;
        few = let none-queued : length queue.firings ≡ 0 = ap length empty in omega arith;
      };
      waiting = λ q w. absurd (false≢true (ap is_waiting (sym (none q)) ∙ w));
    }
