use Rattle.std.proofs.Common.{◌≡◌, ℕ, ◌+◌, ◌*◌, ◌-◌}
use Rattle.qml_grammar.specs.Expressions.{inner, begins_postfix, postfix, postfixes, argument}
use Rattle.qml_grammar.specs.Inputs.{repeated}
use Rattle.qml_grammar.specs.Lexemes.{is_mark}
use Rattle.qml_grammar.specs.declared.mark.Mark.TheVariants.{Comma}
use Rattle.qml_expr.specs.Lists.{listed}
use Rattle.qml_expr.specs.Precedences.{operands_at, begins_at, operation_at, tighter}
use Rattle.qml_expr.specs.Seen.{input_of}
use Rattle.qml_expr.proofs.parser.+expression.Given as goal

-- below the calls that stay on the same level
abbrev rank : ℕ → ℕ → ℕ
rank levels steps = 60 * levels + steps

abbrev pub decreases-inner_expression : goal.decreases-inner_expression
decreases-inner_expression l = rank l.levels 0

abbrev pub decreases-inner_unary : goal.decreases-inner_unary
decreases-inner_unary l = rank l.levels 0

abbrev pub decreases-parens : goal.decreases-parens
decreases-parens l = rank l.levels 1

abbrev pub decreases-primary : goal.decreases-primary
decreases-primary l = rank l.levels 2

abbrev pub decreases-argument : goal.decreases-argument
decreases-argument l = rank l.levels 1

abbrev pub decreases-listed : goal.decreases-listed
decreases-listed l = rank l.levels 2

abbrev pub decreases-arguments : goal.decreases-arguments
decreases-arguments l = rank l.levels 3

abbrev pub decreases-call : goal.decreases-call
decreases-call l = rank l.levels 4

abbrev pub decreases-postfix : goal.decreases-postfix
decreases-postfix l = rank l.levels 5

abbrev pub decreases-postfixes : goal.decreases-postfixes
decreases-postfixes l = rank l.levels 6

abbrev pub decreases-operated : goal.decreases-operated
decreases-operated l = rank l.levels 1

abbrev pub decreases-unary : goal.decreases-unary
decreases-unary l = rank l.levels 7

abbrev pub decreases-operand : goal.decreases-operand
decreases-operand l = rank l.levels (8 + 4 * tighter l.precedence)

abbrev pub decreases-joined : goal.decreases-joined
decreases-joined l = rank l.levels (9 + 4 * tighter l.precedence)

abbrev pub decreases-operation : goal.decreases-operation
decreases-operation l = rank l.levels (10 + 4 * tighter l.precedence)

abbrev pub decreases-operands : goal.decreases-operands
decreases-operands l = rank l.levels (11 + 4 * tighter l.precedence)

abbrev pub decreases-branches : goal.decreases-branches
decreases-branches l = rank l.levels 1

abbrev pub decreases-expression : goal.decreases-expression
decreases-expression l = rank l.levels 40

abbrev pub invariant-operands-loop-turn : goal.invariant-operands-loop-turn
invariant-operands-loop-turn l = operands_at l.precedence (inner l.levels) (input_of l.fn.cursor) ≡ repeated (begins_at l.precedence) (operation_at l.precedence (inner l.levels)) (l._turn-end - l._turn) l.read (input_of l.cursor)

abbrev pub invariant-postfixes-loop-turn : goal.invariant-postfixes-loop-turn
invariant-postfixes-loop-turn l = postfixes (inner l.levels) (input_of l.fn.cursor) ≡ repeated begins_postfix (postfix (inner l.levels)) (l._turn-end - l._turn) l.read (input_of l.cursor)

abbrev pub invariant-listed-loop-turn : goal.invariant-listed-loop-turn
invariant-listed-loop-turn l = listed (inner l.levels) (input_of l.fn.cursor) ≡ repeated (is_mark Comma) (argument (inner l.levels)) (l._turn-end - l._turn) l.arguments (input_of l.cursor)
