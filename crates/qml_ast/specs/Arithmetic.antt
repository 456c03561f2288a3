-- What the operators of expressions give for their operands' values. Numbers are computed without a
-- bound, and then fit 32 bits or not.
use Rattle.std.specs.Prelude.{ℕ, nat_le, ℤ, pos, negsuc, ◌+ℤ◌, ◌-ℤ◌, ◌*ℤ◌, int_le, int_div, int_rem, Bool, true, not, ◌&&◌, ◌==◌, is_some, if◌then◌else◌, List, ◌++◌, length, Result, Ok, Err}
use Rattle.std.specs.Ordering.{int_eq}
use Rattle.qml_ast.specs.TextForm.{text_of}
use Rattle.qml_ast.specs.declared.eval_fault.EvalFault.{EvalFault}
use Rattle.qml_ast.specs.declared.eval_fault.EvalFault.TheVariants.{Overflow, ZeroDivisor, WrongKind, TextTooLong}
use Rattle.qml_ast.specs.declared.value.Value.{Value}
use Rattle.qml_ast.specs.declared.value.Value.TheVariants.{Int, Bool as Flag, Str, Color, Obj, Line}

-- the number fits 32 bits
abbrev pub fits : ℤ → Bool
fits n = int_le (negsuc 2147483647) n && int_le n (pos 2147483647)

-- a number as a value
abbrev pub number : ℤ → Result Value EvalFault
number n = if fits n then Ok (Int n) else Err Overflow

-- a text as a value
abbrev pub text_value : List ℕ → Result Value EvalFault
text_value text = if nat_le (length text) 65536 then Ok (Str text) else Err TextTooLong

-- the left operand and the right one
abbrev pub sum_of : Value → Value → Result Value EvalFault
sum_of (Int x) (Int y) = number (x +ℤ y)
sum_of (Str s) right = text_value (s ++ text_of right)
sum_of left (Str t) = text_value (text_of left ++ t)
sum_of _ _ = Err WrongKind

abbrev pub difference_of : Value → Value → Result Value EvalFault
difference_of (Int x) (Int y) = number (x -ℤ y)
difference_of _ _ = Err WrongKind

abbrev pub product_of : Value → Value → Result Value EvalFault
product_of (Int x) (Int y) = number (x *ℤ y)
product_of _ _ = Err WrongKind

-- with its fraction cut off
abbrev pub quotient_of : Value → Value → Result Value EvalFault
quotient_of (Int x) (Int y) = if int_eq y (pos 0) then Err ZeroDivisor else number (int_div x y)
quotient_of _ _ = Err WrongKind

-- with the sign of the left operand
abbrev pub remainder_of : Value → Value → Result Value EvalFault
remainder_of (Int x) (Int y) = if int_eq y (pos 0) then Err ZeroDivisor else Ok (Int (int_rem x y))
remainder_of _ _ = Err WrongKind

-- a value as a condition
abbrev pub truth_of : Value → Bool
truth_of (Int n) = not (int_eq n (pos 0))
truth_of (Flag b) = b
truth_of (Str text) = not (length text == 0)
truth_of (Color argb) = true
truth_of (Obj serial) = not (serial == 0)
truth_of (Line line) = is_some line

-- one of the values is a text, so that they are joined by '+'
abbrev pub AreJoined : Value → Value → Type 0
AreJoined (Str s) right = Unit {0}
AreJoined left (Str t) = Unit {0}
AreJoined _ _ = ⊥
