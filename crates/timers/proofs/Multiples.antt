-- The first multiple of an interval after a time.
use Rattle.std.proofs.Common.{◌≡◌, ℕ, ◌+◌, ◌-◌, ◌*◌, ◌/◌, ◌%◌, ◌<◌, ◌≤◌, cond, refl, sym, subst, arith, ⊎_elim}
use Rattle.std.proofs.Math.Nat.{mul-le-mul_right}
use Rattle.std.proofs.lemmas.Bool.{cases_lt, lt-ltb, le-ltb}
use Rattle.timers.specs.Timer.{first_after, IsFirstMultipleAfter}

-- the next multiple by what is left over in the interval that is under way
pub after_left_over : (due interval until : ℕ) → 0 < interval → due ≤ until → until - (until - due) % interval + interval ≡ due + ((until - due) / interval + 1) * interval
after_left_over due interval until some passed = omega arith

-- the due time itself, where it is after until
not_yet : (due interval until : ℕ) → until < due → IsFirstMultipleAfter due interval until due
not_yet due interval until later = record { turns = 0; is = omega arith; after = later; earlier = λ fewer below. absurd (omega arith) }

-- one more interval than were passed
passed_by : (due interval until : ℕ) → 0 < interval → due ≤ until → IsFirstMultipleAfter due interval until (due + ((until - due) / interval + 1) * interval)
passed_by due interval until some passed = record {
  turns = (until - due) / interval + 1;
  is = refl;
  after = omega arith;
  earlier = λ fewer below. let most = mul-le-mul_right {m = fewer} {n = (until - due) / interval} interval (omega arith) in omega arith;
}

-- `first_after` is what its name says
pub first_after-IsFirstMultipleAfter : (due interval until : ℕ) → 0 < interval → IsFirstMultipleAfter due interval until (first_after due interval until)
unfolding first_after
first_after-IsFirstMultipleAfter due interval until some =
    ⊎_elim
    (λ later.
    subst (λ b. IsFirstMultipleAfter due interval until (cond b due (due + ((until - due) / interval + 1) * interval))) (sym (lt-ltb until due later)) (not_yet due interval until later))
    (λ passed.
    subst (λ b. IsFirstMultipleAfter due interval until (cond b due (due + ((until - due) / interval + 1) * interval))) (sym (le-ltb until due passed)) (passed_by due interval until some passed))
    (cases_lt until due)
