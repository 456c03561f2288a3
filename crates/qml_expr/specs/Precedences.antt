-- The six levels of operators between operands, as the grammar reads them.
use Rattle.std.specs.Prelude.{ℕ, Bool, Option, None}
use Rattle.qml_ast.specs.declared.expr.BinOp.{BinOp}
use Rattle.qml_ast.specs.declared.expr.Expr.{Expr}
use Rattle.qml_ast.specs.declared.expr.Expr.TheVariants.{Binary, And as Conjunction, Or as Disjunction}
use Rattle.qml_grammar.specs.Expressions.{Inner, unary_in, products, sums, orders, equalities, conjunctions, disjunctions, begins_operator, operator, joined}
use Rattle.qml_grammar.specs.Inputs.{Parser}
use Rattle.qml_grammar.specs.Lexemes.{Token, is_mark, product_operator, sum_operator, order_operator, equality_operator}
use Rattle.qml_grammar.specs.declared.mark.Mark.{Mark}
use Rattle.qml_grammar.specs.declared.mark.Mark.TheVariants.{DoubleAmpersand, DoubleBar}
use Rattle.qml_expr.specs.declared.precedence.Precedence.{Precedence}
use Rattle.qml_expr.specs.declared.precedence.Precedence.TheVariants.{Product, Sum, Order, Equality, And, Or}
use Rattle.qml_expr.specs.declared.precedence.Joint.{Joint}
use Rattle.qml_expr.specs.declared.precedence.Joint.TheVariants.{Operator, Both, Either}

-- what an operator makes of its operands
abbrev pub made : Joint → Expr → Expr → Expr
made (Operator op) = Binary op
made Both = Conjunction
made Either = Disjunction

-- an operand of the level's operators
abbrev pub operand_at : Precedence → Inner → Parser Expr
operand_at Product v = unary_in v
operand_at Sum v = products v
operand_at Order v = sums v
operand_at Equality v = orders v
operand_at And v = equalities v
operand_at Or v = conjunctions v

-- operands with the level's operators between them
abbrev pub operands_at : Precedence → Inner → Parser Expr
operands_at Product v = products v
operands_at Sum v = sums v
operands_at Order v = orders v
operands_at Equality v = equalities v
operands_at And v = conjunctions v
operands_at Or v = disjunctions v

-- a token is an operator of the level
abbrev pub begins_at : Precedence → Option Token → Bool
begins_at Product = begins_operator product_operator
begins_at Sum = begins_operator sum_operator
begins_at Order = begins_operator order_operator
begins_at Equality = begins_operator equality_operator
begins_at And = is_mark DoubleAmpersand
begins_at Or = is_mark DoubleBar

-- an operator of the level and its right operand, behind the left one
abbrev pub operation_at : Precedence → Inner → Expr → Parser Expr
operation_at Product v = operator product_operator (unary_in v)
operation_at Sum v = operator sum_operator (products v)
operation_at Order v = operator order_operator (sums v)
operation_at Equality v = operator equality_operator (orders v)
operation_at And v = joined Conjunction (equalities v)
operation_at Or v = joined Disjunction (conjunctions v)

-- the operators of the level that are evaluated on both operands
abbrev pub table_at : Precedence → Mark → Option BinOp
table_at Product = product_operator
table_at Sum = sum_operator
table_at Order = order_operator
table_at Equality = equality_operator
table_at And = λ _. None
table_at Or = λ _. None

-- how many levels bind tighter
abbrev pub tighter : Precedence → ℕ
tighter Product = 0
tighter Sum = 1
tighter Order = 2
tighter Equality = 3
tighter And = 4
tighter Or = 5
