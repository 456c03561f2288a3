-- Numbered places with small expressions, as a field.
use Rattle.std.specs.Prelude.{◌≡◌, ℕ, zero, suc, ◌+◌, ◌<◌, nat_lt, nat_eq, ◌==◌, true, false, if◌then◌else◌, List, [], ◌∷◌, ◌++◌, length, Option, Some, None, unwrap_or, slice_get, slice_set, refl}
use Rattle.std.proofs.Common.{arith, sym, ap, ◌∙◌, get_or-set_same, get_or-set_other}
use Rattle.std.proofs.lemmas.Option.{unwrap_or-slice_get}
use Rattle.std.proofs.lemmas.Bool.Decides.{nat_tests}
use Rattle.settling.specs.Runs.{Run, gives, faults, asks}
use Rattle.settling.specs.Cells.{Cell, plain, resting, fresh, under_way, stopped, active, marked, suspended, is_plain}
use Rattle.settling.specs.Spaces.{Space}
use Rattle.settling.specs.Evaluations.{Outcome, has_value, has_fault, has_need}
use Rattle.settling_tests.specs.declared.net.Fault.{Fault}
use Rattle.settling_tests.specs.declared.net.Fault.TheVariants.{Overflow, WrongKind}
use Rattle.settling_tests.specs.declared.net.Rule.{Rule}
use Rattle.settling_tests.specs.declared.net.Rule.TheVariants as rule
use Rattle.settling_tests.specs.declared.net.Stage.{Stage}
use Rattle.settling_tests.specs.declared.net.Stage.TheVariants as stage
use Rattle.settling_tests.specs.declared.net.Slot.{Slot}
use Rattle.settling_tests.specs.declared.net.Outcome.{Outcome as Answer}
use Rattle.settling_tests.specs.declared.net.Outcome.TheVariants.{Is, Faulted, Needs}

abbrev pub no_slot : Slot
no_slot = record { stage = stage.Plain; value = 0; mark = None }

abbrev pub cell_at : Stage → ℕ → Option Fault → Cell ℕ Fault
cell_at stage.Plain n m = plain (record { value = n; mark = m })
cell_at stage.Resting n m = resting (record { value = n; mark = m })
cell_at stage.Fresh n m = fresh (record { value = n; mark = m })
cell_at stage.UnderWay n m = under_way (record { value = n; mark = m })
cell_at stage.Stopped n m = stopped (record { value = n; mark = m })
cell_at stage.Active n m = active n
cell_at stage.Marked n m = marked n (unwrap_or m Overflow)
cell_at stage.Suspended n m = suspended (record { value = n; mark = m })

abbrev pub cell_of : Slot → Cell ℕ Fault
cell_of s = cell_at s.stage s.value s.mark

abbrev pub slot_of : Cell ℕ Fault → Slot
slot_of (plain k) = record { stage = stage.Plain; value = k.value; mark = k.mark }
slot_of (resting k) = record { stage = stage.Resting; value = k.value; mark = k.mark }
slot_of (fresh k) = record { stage = stage.Fresh; value = k.value; mark = k.mark }
slot_of (under_way k) = record { stage = stage.UnderWay; value = k.value; mark = k.mark }
slot_of (stopped k) = record { stage = stage.Stopped; value = k.value; mark = k.mark }
slot_of (active v) = record { stage = stage.Active; value = v; mark = None }
slot_of (marked v f) = record { stage = stage.Marked; value = v; mark = Some f }
slot_of (suspended k) = record { stage = stage.Suspended; value = k.value; mark = k.mark }

cell_again : (c : Cell ℕ Fault) → cell_of (slot_of c) ≡ c
cell_again (plain k) = refl
cell_again (resting k) = refl
cell_again (fresh k) = refl
cell_again (under_way k) = refl
cell_again (stopped k) = refl
cell_again (active v) = refl
cell_again (marked v f) = refl
cell_again (suspended k) = refl

abbrev pub slot_at : List Slot → ℕ → Slot
slot_at slots p = unwrap_or (slice_get slots p) no_slot

abbrev pub at : List Slot → ℕ → Cell ℕ Fault
at slots p = cell_of (slot_at slots p)

abbrev pub put : List Slot → ℕ → Cell ℕ Fault → List Slot
put slots p c = slice_set slots p (slot_of c)

-- a place that isn't plain is among the slots
pub within : (slots : List Slot) (p : ℕ) → is_plain (at slots p) ≡ false → p < length slots
within [] p h = cc
within (x ∷ slots) zero h = omega arith
within (x ∷ slots) (suc p) h = let rest = within slots p h in omega arith

pub there : (slots : List Slot) (p : ℕ) (c : Cell ℕ Fault) → is_plain (at slots p) ≡ false → at (put slots p c) p ≡ c
there slots p c h = let inside = within slots p h in ap cell_of (unwrap_or-slice_get (slice_set slots p (slot_of c)) p no_slot ∙ get_or-set_same slots p (slot_of c) no_slot inside) ∙ cell_again c

pub elsewhere : (slots : List Slot) (p : ℕ) (c : Cell ℕ Fault) (q : ℕ) → nat_eq p q ≡ false → at (put slots p c) q ≡ at slots q
elsewhere slots p c q h = let other : q ≡ p → ⊥ = grind (arith, nat_tests) in ap cell_of (unwrap_or-slice_get (slice_set slots p (slot_of c)) q no_slot ∙ get_or-set_other slots p q (slot_of c) no_slot other ∙ sym (unwrap_or-slice_get slots q no_slot))

pub one_place : (p q : ℕ) → nat_eq p q ≡ true → p ≡ q
one_place p q h = grind (arith, nat_tests)

pub itself : (p : ℕ) → nat_eq p p ≡ true
itself p = grind (arith, nat_tests)

abbrev pub space : Space (List Slot) ℕ ℕ Fault
space = record {
  at = at;
  put = put;
  are_same = nat_eq;
  one_place = one_place;
  itself = itself;
  there = λ slots p c h i. there slots p c h;
  elsewhere = elsewhere;
}

abbrev pub summed : ℕ → ℕ → Run ℕ ℕ Fault
summed a b = if nat_lt (a + b) 4294967296 then gives (a + b) else faults Overflow

abbrev pub tree_of : Rule → Run ℕ ℕ Fault
tree_of (rule.Plain n) = gives n
tree_of (rule.Resting n) = gives n
tree_of (rule.Done n) = gives n
tree_of (rule.Number n) = gives n
tree_of (rule.Same p) = asks p gives
tree_of (rule.Next p) = asks p (λ v. summed v 1)
tree_of (rule.Sum p q) = asks p (λ v. asks q (λ w. summed v w))
tree_of (rule.Choice p q r) = asks p (λ v. if v == 0 then asks r gives else asks q gives)
tree_of rule.Fails = faults WrongKind

abbrev pub rule_at : List Rule → ℕ → Rule
rule_at rules p = unwrap_or (slice_get rules p) rule.Fails

-- what a place has as a settle begins
abbrev pub first_of : Rule → Slot
first_of (rule.Plain n) = record { stage = stage.Plain; value = n; mark = None }
first_of (rule.Resting n) = record { stage = stage.Resting; value = n; mark = None }
first_of (rule.Done n) = record { stage = stage.Active; value = n; mark = None }
first_of _ = record { stage = stage.Fresh; value = 0; mark = None }

abbrev pub outcome_of : Answer → Outcome ℕ ℕ Fault
outcome_of (Is v) = has_value v
outcome_of (Faulted f) = has_fault f
outcome_of (Needs p) = has_need p

-- the numbers below this one, in order
abbrev pub upto : ℕ → List ℕ
upto zero = []
upto (suc n) = upto n ++ n ∷ []
