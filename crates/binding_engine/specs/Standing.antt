-- How each place of a store stands within a settle.
use Rattle.std.specs.Prelude.{◌≡◌, ℕ, Bool, true, false, ◌&&◌, ◌==◌, if◌then◌else◌, Option, None, Some, refl}
use Rattle.std.proofs.Common.{arith}
use Rattle.std.proofs.lemmas.Bool.Decides.{nat_tests}
use Rattle.qml_ast.specs.declared.eval_fault.EvalFault.{EvalFault}
use Rattle.qml_ast.specs.declared.place.Place.{Place}
use Rattle.qml_ast.specs.declared.place.Side.{Side}
use Rattle.qml_ast.specs.declared.place.Side.TheVariants.{Set, Shown}
use Rattle.qml_ast.specs.declared.value.Value.{Value}
use Rattle.qml_ast.specs.declared.value.Value.TheVariants.{Obj}
use Rattle.expr_eval.specs.Traces.{are_same, are_same_sides}
use Rattle.expr_eval.specs.Trees.{Tree}
use Rattle.settling.specs.Cells.{Kept, Cell, plain, resting, fresh}
use Rattle.settling.specs.Spaces.{Space}
use Rattle.object_tree.specs.declared.property.Held.{Held}
use Rattle.object_tree.specs.Reading.{held_at}
use Rattle.object_tree.specs.Store.{Store}
use Rattle.binding_engine.specs.Equations.{equation}

-- what each place has
abbrev pub Standing : Type 0
Standing = Place → Cell Value EvalFault

abbrev pub put : Standing → Place → Cell Value EvalFault → Standing
put s p c = λ q. if are_same p q then c else s q

same_number : (a b : ℕ) → (a == b) ≡ true → a ≡ b
same_number a b h = grind (arith, nat_tests)

same_side : (a b : Side) → are_same_sides a b ≡ true → a ≡ b
same_side Set Set h = refl
same_side Shown Shown h = refl
same_side Set Shown h = absurd cc
same_side Shown Set h = absurd cc

both : (a b : Bool) → (a && b) ≡ true → (a ≡ true) × (b ≡ true)
both true true h = (refl, refl)
both true false h = absurd cc
both false b h = absurd cc

-- places with the same serial, slot and side are one
pub one_place : (p q : Place) → are_same p q ≡ true → p ≡ q
one_place p q h =
    let first = both (p.serial == q.serial) ((p.slot == q.slot) && are_same_sides p.side q.side) h in
    let second = both (p.slot == q.slot) (are_same_sides p.side q.side) first.1 in
    same_fields p q (same_number p.serial q.serial first.0) (same_number p.slot q.slot second.0) (same_side p.side q.side second.1)
  where
    same_fields : (p q : Place) → p.serial ≡ q.serial → p.slot ≡ q.slot → p.side ≡ q.side → p ≡ q
    same_fields p q a b c = λ i. record { serial = a i; slot = b i; side = c i }

own_number : (n : ℕ) → (n == n) ≡ true
own_number n = grind (arith, nat_tests)

own_side : (s : Side) → are_same_sides s s ≡ true
own_side Set = refl
own_side Shown = refl

pub itself : (p : Place) → are_same p p ≡ true
itself p = rw (own_number p.serial, own_number p.slot, own_side p.side) refl

pub there : (s : Standing) (p : Place) (c : Cell Value EvalFault) → put s p c p ≡ c
there s p c = rw (itself p) refl

pub elsewhere : (s : Standing) (p : Place) (c : Cell Value EvalFault) (q : Place) → are_same p q ≡ false → put s p c q ≡ s q
elsewhere s p c q h = rw h refl

abbrev pub space : Space Standing Place Value EvalFault
space = record {
  at = λ s p. s p;
  put = put;
  are_same = are_same;
  one_place = one_place;
  itself = itself;
  there = λ s p c h i. there s p c;
  elsewhere = elsewhere;
}

-- what a place holds as a settle begins: its last value and the mark of its last fault
abbrev pub kept_in : Option Held → Kept Value EvalFault
kept_in None = record { value = Obj 0; mark = None }
kept_in (Some held) = record { value = held.value; mark = held.marks.fault }

abbrev pub is_suspended_in : Option Held → Bool
is_suspended_in None = false
is_suspended_in (Some held) = held.marks.suspended

-- A place that has no expression stays as it is, and so does one that stands suspended; the others wait for a visit.
abbrev pub first_of : Option Tree → Option Held → Cell Value EvalFault
first_of None held = plain (kept_in held)
first_of (Some tree) held = if is_suspended_in held then resting (kept_in held) else fresh (kept_in held)

abbrev pub first : Store → Standing
first store place = first_of (equation store place) (held_at place store)
