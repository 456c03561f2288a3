-- The canonical texts of the worked cases, computed.
use Rattle.std.proofs.Common.{◌≡◌, codes, refl}
use Rattle.qml_grammar.specs.PrintCases.{canonical_expr, ArePrinted, EscapeCase, expr_prints, IfCase, WhileCase, EmptyForCase, ForCase, BlockForCase, ElseIfCase, BlockCase, EmptyObjectCase, InitialiserCase, PropertyCase, SignalCase, MethodCase, ObjectCase, HandlerCase}
use Rattle.qml_grammar.proofs.LinedForms.{lined-Local, lined-Assign, lined-Step, lined-Do, lined-Block, lined-Empty, lined-If, lined-While, lined-For, lined-Return, bare-Local, bare-Assign, bare-Step}
use Rattle.qml_grammar.proofs.MemberForms.{init-Expr-lined, init-Object-lined, decl-roll-lined, member-Id-lined, member-Property-lined, member-Signal-lined, member-Init-lined, member-Handler-lined, member-Method-lined, member-Child-lined}
use Rattle.qml_grammar.proofs.Opened.{opened_prints}
use Rattle.qml_grammar.proofs.PrintedForms.{printed-Lit, printed-Name, printed-Member, printed-Call, printed-Unary, printed-Binary, printed-And, printed-Or, printed-Cond}

pub ruleset expr_forms = (printed-Lit, printed-Name, printed-Member, printed-Call, printed-Unary, printed-Binary, printed-And, printed-Or, printed-Cond)

pub ruleset forms = (printed-Lit, printed-Name, printed-Member, printed-Call, printed-Unary, printed-Binary, printed-And, printed-Or, printed-Cond, lined-Local, lined-Assign, lined-Step, lined-Do, lined-Block, lined-Empty, lined-If, lined-While, lined-For, lined-Return, bare-Local, bare-Assign, bare-Step, init-Expr-lined, init-Object-lined, decl-roll-lined, member-Id-lined, member-Property-lined, member-Signal-lined, member-Init-lined, member-Handler-lined, member-Method-lined, member-Child-lined)

pub EscapeCase-printed : EscapeCase
EscapeCase-printed = refl

expr_print_1 : canonical_expr (codes "(a + b) * c") ≡ codes "(a + b) * c"
unfolding opened_prints
expr_print_1 = simp expr_forms refl

expr_print_2 : canonical_expr (codes "((a))") ≡ codes "a"
unfolding opened_prints
expr_print_2 = simp expr_forms refl

expr_print_3 : canonical_expr (codes "a - (b - c)") ≡ codes "a - (b - c)"
unfolding opened_prints
expr_print_3 = simp expr_forms refl

expr_print_4 : canonical_expr (codes "(a - b) - c") ≡ codes "a - b - c"
unfolding opened_prints
expr_print_4 = simp expr_forms refl

expr_print_5 : canonical_expr (codes "-(-a)") ≡ codes "- -a"
unfolding opened_prints
expr_print_5 = simp expr_forms refl

expr_print_6 : canonical_expr (codes "+(+a)") ≡ codes "+ +a"
unfolding opened_prints
expr_print_6 = simp expr_forms refl

expr_print_7 : canonical_expr (codes "-(+a)") ≡ codes "-+a"
unfolding opened_prints
expr_print_7 = simp expr_forms refl

expr_print_8 : canonical_expr (codes "!(!a)") ≡ codes "!!a"
unfolding opened_prints
expr_print_8 = simp expr_forms refl

expr_print_9 : canonical_expr (codes "-a - -b") ≡ codes "-a - -b"
unfolding opened_prints
expr_print_9 = simp expr_forms refl

expr_print_10 : canonical_expr (codes "(a ? b : c) ? d : e") ≡ codes "(a ? b : c) ? d : e"
unfolding opened_prints
expr_print_10 = simp expr_forms refl

expr_print_11 : canonical_expr (codes "a ? b : (c ? d : e)") ≡ codes "a ? b : c ? d : e"
unfolding opened_prints
expr_print_11 = simp expr_forms refl

expr_print_12 : canonical_expr (codes "(-a).b") ≡ codes "(-a).b"
unfolding opened_prints
expr_print_12 = simp expr_forms refl

expr_print_13 : canonical_expr (codes "-(a.b)") ≡ codes "-a.b"
unfolding opened_prints
expr_print_13 = simp expr_forms refl

expr_print_14 : canonical_expr (codes "(a || b) && c") ≡ codes "(a || b) && c"
unfolding opened_prints
expr_print_14 = simp expr_forms refl

expr_print_15 : canonical_expr (codes "a || (b && c)") ≡ codes "a || b && c"
unfolding opened_prints
expr_print_15 = simp expr_forms refl

expr_print_16 : canonical_expr (codes "a == (b === c)") ≡ codes "a == (b === c)"
unfolding opened_prints
expr_print_16 = simp expr_forms refl

expr_print_17 : canonical_expr (codes "(a < b) != (c >= d)") ≡ codes "a < b != c >= d"
unfolding opened_prints
expr_print_17 = simp expr_forms refl

expr_print_18 : canonical_expr (codes "f((a), (b))") ≡ codes "f(a, b)"
unfolding opened_prints
expr_print_18 = simp expr_forms refl

expr_print_19 : canonical_expr (codes "f(b ? c : d)") ≡ codes "f(b ? c : d)"
unfolding opened_prints
expr_print_19 = simp expr_forms refl

expr_print_20 : canonical_expr (codes "f()(a)") ≡ codes "f()(a)"
unfolding opened_prints
expr_print_20 = simp expr_forms refl

expr_print_21 : canonical_expr (codes "'a\"b'") ≡ codes "\"a\\\"b\""
unfolding opened_prints
expr_print_21 = simp expr_forms refl

expr_print_22 : canonical_expr (codes "(a % b) / c") ≡ codes "a % b / c"
unfolding opened_prints
expr_print_22 = simp expr_forms refl

expr_print_23 : canonical_expr (codes "a * (b / c)") ≡ codes "a * (b / c)"
unfolding opened_prints
expr_print_23 = simp expr_forms refl

expr_print_24 : canonical_expr (codes "null == undefined") ≡ codes "null == undefined"
unfolding opened_prints
expr_print_24 = simp expr_forms refl

expr_print_25 : canonical_expr (codes "-(a + b)") ≡ codes "-(a + b)"
unfolding opened_prints
expr_print_25 = simp expr_forms refl

expr_print_26 : canonical_expr (codes "-(a ? b : c)") ≡ codes "-(a ? b : c)"
unfolding opened_prints
expr_print_26 = simp expr_forms refl

expr_print_27 : canonical_expr (codes "(true)") ≡ codes "true"
unfolding opened_prints
expr_print_27 = simp expr_forms refl

pub expr_prints-printed : ArePrinted expr_prints
unfolding expr_prints
expr_prints-printed = (expr_print_1, (expr_print_2, (expr_print_3, (expr_print_4, (expr_print_5, (expr_print_6, (expr_print_7, (expr_print_8, (expr_print_9, (expr_print_10, (expr_print_11, (expr_print_12, (expr_print_13, (expr_print_14, (expr_print_15, (expr_print_16, (expr_print_17, (expr_print_18, (expr_print_19, (expr_print_20, (expr_print_21, (expr_print_22, (expr_print_23, (expr_print_24, (expr_print_25, (expr_print_26, (expr_print_27, tt)))))))))))))))))))))))))))

pub IfCase-printed : IfCase
IfCase-printed = simp forms refl

pub WhileCase-printed : WhileCase
WhileCase-printed = simp forms refl

pub EmptyForCase-printed : EmptyForCase
EmptyForCase-printed = simp forms refl

pub ForCase-printed : ForCase
ForCase-printed = simp forms refl

pub BlockForCase-printed : BlockForCase
BlockForCase-printed = simp forms refl

pub ElseIfCase-printed : ElseIfCase
ElseIfCase-printed = simp forms refl

pub BlockCase-printed : BlockCase
BlockCase-printed = simp forms refl

pub EmptyObjectCase-printed : EmptyObjectCase
EmptyObjectCase-printed = simp forms refl

pub InitialiserCase-printed : InitialiserCase
InitialiserCase-printed = simp forms refl

pub PropertyCase-printed : PropertyCase
PropertyCase-printed = simp forms refl

pub SignalCase-printed : SignalCase
SignalCase-printed = simp forms refl

pub MethodCase-printed : MethodCase
MethodCase-printed = simp forms refl

pub ObjectCase-printed : ObjectCase
ObjectCase-printed = simp forms refl

pub HandlerCase-printed : HandlerCase
HandlerCase-printed = simp forms refl
