-- What operators and global functions give for values. Sums, products and the like are the arithmetic of
-- values; here are the rest.
use Rattle.std.specs.Prelude.{ℕ, ℤ, pos, int_lt, int_le, Bool, false, not, ◌==◌, if◌then◌else◌, List, [], ◌∷◌, Option, None, Some, Result, Ok, Err}
use Rattle.std.specs.Int.{int_min, int_max}
use Rattle.qml_ast.specs.Arithmetic.{sum_of, difference_of, product_of, quotient_of, remainder_of, truth_of}
use Rattle.qml_ast.specs.Equality.{are_equal}
use Rattle.qml_ast.specs.declared.eval_fault.EvalFault.{EvalFault}
use Rattle.qml_ast.specs.declared.eval_fault.EvalFault.TheVariants.{WrongKind}
use Rattle.qml_ast.specs.declared.expr.BinOp.{BinOp}
use Rattle.qml_ast.specs.declared.expr.BinOp.TheVariants.{Add, Sub, Mul, Div, Rem, Lt, Le, Gt, Ge, Eq, Ne, Eq3, Ne3}
use Rattle.qml_ast.specs.declared.expr.UnOp.{UnOp}
use Rattle.qml_ast.specs.declared.expr.UnOp.TheVariants.{Neg, Plus, Not}
use Rattle.qml_ast.specs.declared.value.Value.{Value}
use Rattle.qml_ast.specs.declared.value.Value.TheVariants.{Int, Bool as Flag}
use Rattle.expr_eval.specs.declared.functions.Function.{Function}
use Rattle.expr_eval.specs.declared.functions.Function.TheVariants.{Min, Max, Abs, Floor, Ceil, Round, Log}

-- two numbers are compared, and nothing else is
abbrev pub ordered : (ℤ → ℤ → Bool) → Value → Value → Result Value EvalFault
ordered test (Int x) (Int y) = Ok (Flag (test x y))
ordered test _ _ = Err WrongKind

-- the left operand and the right one. Equality converts nothing
unfoldable pub binary_of : BinOp → Value → Value → Result Value EvalFault
binary_of Add x y = sum_of x y
binary_of Sub x y = difference_of x y
binary_of Mul x y = product_of x y
binary_of Div x y = quotient_of x y
binary_of Rem x y = remainder_of x y
binary_of Lt x y = ordered int_lt x y
binary_of Le x y = ordered int_le x y
binary_of Gt x y = ordered int_lt y x
binary_of Ge x y = ordered int_le y x
binary_of Eq x y = Ok (Flag (are_equal x y))
binary_of Ne x y = Ok (Flag (not (are_equal x y)))
binary_of Eq3 x y = Ok (Flag (are_equal x y))
binary_of Ne3 x y = Ok (Flag (not (are_equal x y)))

-- a number with the other sign: what is left of 0 without it
abbrev pub negated : Value → Result Value EvalFault
negated x = difference_of (Int (pos 0)) x

-- a number as it is
abbrev pub plain_number : Value → Result Value EvalFault
plain_number (Int n) = Ok (Int n)
plain_number _ = Err WrongKind

unfoldable pub unary_of : UnOp → Value → Result Value EvalFault
unary_of Neg x = negated x
unary_of Plus x = plain_number x
unary_of Not x = Ok (Flag (not (truth_of x)))

-- how many arguments a function takes within an expression; what is called as a statement alone takes none there
abbrev pub arity : Function → Option ℕ
arity Min = Some 2
arity Max = Some 2
arity Abs = Some 1
arity Floor = Some 1
arity Ceil = Some 1
arity Round = Some 1
arity Log = None

abbrev pub are_taken : Option ℕ → ℕ → Bool
are_taken None n = false
are_taken (Some taken) n = n == taken

-- what a function gives. Numbers are whole, so three of them give their argument back
abbrev pub applied : Function → List Value → Result Value EvalFault
applied Min (Int x ∷ Int y ∷ []) = Ok (Int (int_min x y))
applied Max (Int x ∷ Int y ∷ []) = Ok (Int (int_max x y))
applied Abs (Int n ∷ []) = if int_lt n (pos 0) then negated (Int n) else Ok (Int n)
applied Floor (Int n ∷ []) = Ok (Int n)
applied Ceil (Int n ∷ []) = Ok (Int n)
applied Round (Int n ∷ []) = Ok (Int n)
applied _ _ = Err WrongKind
