-- Short parts of documents with their canonical texts.
use Rattle.std.specs.Prelude.{◌≡◌, ℕ, true, false, List, [], ◌∷◌, ◌++◌, Some, None, Ok, Err, codes}
use Rattle.qml_ast.specs.declared.decl.Decl.{roll-Decl}
use Rattle.qml_ast.specs.declared.decl.Init.TheVariants as ii
use Rattle.qml_ast.specs.declared.decl.Member.TheVariants as mm
use Rattle.qml_ast.specs.declared.expr.Expr.TheVariants.{Lit, Name}
use Rattle.qml_ast.specs.declared.span.Span.{Span}
use Rattle.qml_ast.specs.declared.stmt.AssignOp.TheVariants.{Set, Add as AddTo}
use Rattle.qml_ast.specs.declared.stmt.LocalWord.TheVariants.{Var, Const}
use Rattle.qml_ast.specs.declared.stmt.Stmt.TheVariants.{Local, Assign, Step, Do, Block, Empty, If, While, For, Return}
use Rattle.qml_ast.specs.declared.value.Value.TheVariants.{Bool as Flag}
use Rattle.qml_grammar.specs.Canonical.{stmt_text, decl_text}
use Rattle.qml_grammar.specs.CanonicalExpressions.{join, expr_text, quoted}
use Rattle.qml_grammar.specs.Expressions.{whole}
use Rattle.qml_grammar.specs.Samples.{lines, outcome}

pub record ExprCase : Type 0 where
  pub expr : List ℕ
  pub text : List ℕ

-- the canonical text of an expression, or nothing where it is none
unfoldable pub canonical_expr : List ℕ → List ℕ
canonical_expr text = elim (outcome (whole 64 (lines (text ∷ [])))) [ Ok x ↦ expr_text x | Err e ↦ [] ]

-- each expression has the canonical text that stands beside it
abbrev pub ArePrinted : List ExprCase → Type 0
ArePrinted [] = Unit {0}
ArePrinted (c ∷ cs) = (canonical_expr c.expr ≡ c.text) × ArePrinted cs

-- escapes between quotes, and the bytes that stand as they are
abbrev pub EscapeCase : Type 0
EscapeCase = quoted (34 ∷ 92 ∷ 10 ∷ 9 ∷ 13 ∷ 0 ∷ 31 ∷ 32 ∷ 39 ∷ 127 ∷ []) ≡ codes "\"\\\"\\\\\\n\\t\\r\\u0000\\u001f '" ++ (127 ∷ codes "\"")

-- lines, the last one without its end
abbrev pub joined : List (List ℕ) → List ℕ
joined texts = join (10 ∷ []) texts

abbrev pub nowhere : Span
nowhere = record { line = 0; col = 0 }

-- expressions
unfoldable pub expr_prints : List ExprCase
expr_prints =
    record { expr = codes "(a + b) * c"; text = codes "(a + b) * c" } ∷
    record { expr = codes "((a))"; text = codes "a" } ∷
    record { expr = codes "a - (b - c)"; text = codes "a - (b - c)" } ∷
    record { expr = codes "(a - b) - c"; text = codes "a - b - c" } ∷
    record { expr = codes "-(-a)"; text = codes "- -a" } ∷
    record { expr = codes "+(+a)"; text = codes "+ +a" } ∷
    record { expr = codes "-(+a)"; text = codes "-+a" } ∷
    record { expr = codes "!(!a)"; text = codes "!!a" } ∷
    record { expr = codes "-a - -b"; text = codes "-a - -b" } ∷
    record { expr = codes "(a ? b : c) ? d : e"; text = codes "(a ? b : c) ? d : e" } ∷
    record { expr = codes "a ? b : (c ? d : e)"; text = codes "a ? b : c ? d : e" } ∷
    record { expr = codes "(-a).b"; text = codes "(-a).b" } ∷
    record { expr = codes "-(a.b)"; text = codes "-a.b" } ∷
    record { expr = codes "(a || b) && c"; text = codes "(a || b) && c" } ∷
    record { expr = codes "a || (b && c)"; text = codes "a || b && c" } ∷
    record { expr = codes "a == (b === c)"; text = codes "a == (b === c)" } ∷
    record { expr = codes "(a < b) != (c >= d)"; text = codes "a < b != c >= d" } ∷
    record { expr = codes "f((a), (b))"; text = codes "f(a, b)" } ∷
    record { expr = codes "f(b ? c : d)"; text = codes "f(b ? c : d)" } ∷
    record { expr = codes "f()(a)"; text = codes "f()(a)" } ∷
    record { expr = codes "'a\"b'"; text = codes "\"a\\\"b\"" } ∷
    record { expr = codes "(a % b) / c"; text = codes "a % b / c" } ∷
    record { expr = codes "a * (b / c)"; text = codes "a * (b / c)" } ∷
    record { expr = codes "null == undefined"; text = codes "null == undefined" } ∷
    record { expr = codes "-(a + b)"; text = codes "-(a + b)" } ∷
    record { expr = codes "-(a ? b : c)"; text = codes "-(a ? b : c)" } ∷
    record { expr = codes "(true)"; text = codes "true" } ∷
    []

abbrev pub IfCase : Type 0
IfCase = stmt_text (If (Name (codes "a")) (Do (Name (codes "b"))) (Some (Do (Name (codes "c"))))) 1 ≡ codes "if (a) b; else c;"

abbrev pub WhileCase : Type 0
WhileCase = stmt_text (While (Lit (Flag true)) Empty) 1 ≡ codes "while (true) ;"

abbrev pub EmptyForCase : Type 0
EmptyForCase = stmt_text (For None None None Empty) 1 ≡ codes "for (;;) ;"

abbrev pub ForCase : Type 0
ForCase = stmt_text (For (Some (Local Var (codes "i") (Some (Lit (Flag true))))) (Some (Name (codes "a"))) (Some (Step (Name (codes "i")) true)) Empty) 1 ≡ codes "for (var i = true; a; i++) ;"

abbrev pub BlockForCase : Type 0
BlockForCase = stmt_text (For (Some (Assign (Name (codes "a")) AddTo (Name (codes "b")))) None None (Block [])) 1 ≡ joined (codes "for (a += b;;) {" ∷ codes "    }" ∷ [])

abbrev pub ElseIfCase : Type 0
ElseIfCase = stmt_text (If (Name (codes "a")) (Block (Do (Name (codes "b")) ∷ [])) (Some (If (Name (codes "c")) (Block []) (Some (Do (Name (codes "d"))))))) 1 ≡ joined (codes "if (a) {" ∷ codes "        b;" ∷ codes "    } else if (c) {" ∷ codes "    } else d;" ∷ [])

abbrev pub BlockCase : Type 0
BlockCase = stmt_text (Block (Local Const (codes "a") None ∷ Step (Name (codes "a")) false ∷ Assign (Name (codes "a")) Set (Name (codes "b")) ∷ Return None ∷ Return (Some (Name (codes "a"))) ∷ [])) 0 ≡ joined (codes "{" ∷ codes "    const a;" ∷ codes "    a--;" ∷ codes "    a = b;" ∷ codes "    return;" ∷ codes "    return a;" ∷ codes "}" ∷ [])

abbrev pub EmptyObjectCase : Type 0
EmptyObjectCase = decl_text (roll-Decl (record { name = codes "Item"; members = []; span = nowhere })) 0 ≡ joined (codes "Item {" ∷ codes "}" ∷ [])

abbrev pub InitialiserCase : Type 0
InitialiserCase = decl_text (roll-Decl (record { name = codes "Item"; members = mm.Init (record { first = codes "anchors"; second = Some (codes "fill") }) (ii.Expr (Name (codes "parent"))) nowhere nowhere ∷ mm.Id (codes "a") nowhere ∷ []; span = nowhere })) 0 ≡ joined (codes "Item {" ∷ codes "    anchors.fill: parent" ∷ codes "    id: a" ∷ codes "}" ∷ [])

abbrev pub PropertyCase : Type 0
PropertyCase = decl_text (roll-Decl (record { name = codes "Item"; members = mm.Property true (codes "int") (codes "a") (Some (ii.Expr (Name (codes "b")))) nowhere nowhere nowhere ∷ mm.Property false (codes "var") (codes "c") None nowhere nowhere nowhere ∷ []; span = nowhere })) 0 ≡ joined (codes "Item {" ∷ codes "    readonly property int a: b" ∷ codes "    property var c" ∷ codes "}" ∷ [])

abbrev pub SignalCase : Type 0
SignalCase = decl_text (roll-Decl (record { name = codes "Item"; members = mm.Signal (codes "s") [] nowhere ∷ mm.Signal (codes "t") (record { kind = codes "int"; name = codes "a"; kind_span = nowhere; name_span = nowhere } ∷ record { kind = codes "A"; name = codes "b"; kind_span = nowhere; name_span = nowhere } ∷ []) nowhere ∷ []; span = nowhere })) 0 ≡ joined (codes "Item {" ∷ codes "    signal s" ∷ codes "    signal t(int a, A b)" ∷ codes "}" ∷ [])

abbrev pub MethodCase : Type 0
MethodCase = decl_text (roll-Decl (record { name = codes "Item"; members = mm.Method (codes "f") (record { name = codes "a"; span = nowhere } ∷ record { name = codes "b"; span = nowhere } ∷ []) (Return (Some (Name (codes "a"))) ∷ []) nowhere ∷ mm.Method (codes "g") [] [] nowhere ∷ []; span = nowhere })) 0 ≡ joined (codes "Item {" ∷ codes "    function f(a, b) {" ∷ codes "        return a;" ∷ codes "    }" ∷ codes "    function g() {" ∷ codes "    }" ∷ codes "}" ∷ [])

abbrev pub ObjectCase : Type 0
ObjectCase = decl_text (roll-Decl (record { name = codes "Item"; members = mm.Init (record { first = codes "p"; second = None }) (ii.Object (roll-Decl (record { name = codes "A"; members = mm.Id (codes "a") nowhere ∷ []; span = nowhere }))) nowhere nowhere ∷ mm.Child (roll-Decl (record { name = codes "B"; members = []; span = nowhere })) ∷ []; span = nowhere })) 0 ≡ joined (codes "Item {" ∷ codes "    p: A {" ∷ codes "        id: a" ∷ codes "    }" ∷ codes "    B {" ∷ codes "    }" ∷ codes "}" ∷ [])

abbrev pub HandlerCase : Type 0
HandlerCase = decl_text (roll-Decl (record { name = codes "Item"; members = mm.Handler (record { first = codes "onFoo"; second = None }) (Do (Name (codes "a"))) nowhere ∷ mm.Handler (record { first = codes "Component"; second = Some (codes "onCompleted") }) (Block (Empty ∷ [])) nowhere ∷ mm.Handler (record { first = codes "onBar"; second = None }) Empty nowhere ∷ []; span = nowhere })) 0 ≡ joined (codes "Item {" ∷ codes "    onFoo: a;" ∷ codes "    Component.onCompleted: {" ∷ codes "        ;" ∷ codes "    }" ∷ codes "    onBar: ;" ∷ codes "}" ∷ [])
