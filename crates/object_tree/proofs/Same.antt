-- A value is equal to itself.
use Rattle.std.proofs.Common.{◌≡◌, ℕ, Bool, true, false, refl, arith, List, [], ◌∷◌}
use Rattle.std.specs.Prelude.{if◌then◌else◌, Option, None, Some, not, ℤ, bytes_eq, ◌==◌}
use Rattle.std.specs.Ordering.{int_eq}
use Rattle.std.specs.Cmp.{int_eq_equiv}
use Rattle.std.proofs.lemmas.Bool.Decides.{nat_tests}
use Rattle.qml_ast.specs.Equality.{are_equal, are_same_lines, edge_number}
use Rattle.qml_ast.specs.declared.value.LineRef.{LineRef}
use Rattle.qml_ast.specs.declared.value.Value.{Value}
use Rattle.qml_ast.specs.declared.value.Value.TheVariants as value
use Rattle.object_tree.specs.Changes.{differs}

number : (n : ℕ) → (n == n) ≡ true
number n = grind (arith, nat_tests)

integer : (x : ℤ) → int_eq x x ≡ true
integer x = int_eq_equiv.refl x

bytes : (xs : List ℕ) → bytes_eq xs xs ≡ true
bytes [] = refl
bytes (x ∷ xs) = rw (number x) (bytes xs)

flag : (b : Bool) → (if b then b else not b) ≡ true
flag true = refl
flag false = refl

lines : (line : Option LineRef) → are_same_lines line line ≡ true
lines None = refl
lines (Some line) = rw (number line.serial, number (edge_number line.edge)) refl

-- a value is equal to itself
pub itself : (v : Value) → are_equal v v ≡ true
itself (value.Int x) = integer x
itself (value.Bool b) = flag b
itself (value.Str text) = bytes text
itself (value.Color argb) = number argb
itself (value.Obj serial) = number serial
itself (value.Line line) = lines line

pub differs_not : (v : Value) → differs (Some v) v ≡ false
differs_not v = rw (itself v) refl
