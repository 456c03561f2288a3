-- Short documents with what they declare, and where.
use Rattle.std.specs.Prelude.{◌≡◌, ℕ, true, List, [], ◌∷◌, pos, Some, None, Result, Ok, codes}
use Rattle.qml_ast.specs.declared.decl.Decl.{roll-Decl}
use Rattle.qml_ast.specs.declared.decl.Init.TheVariants as ii
use Rattle.qml_ast.specs.declared.decl.Member.{Member}
use Rattle.qml_ast.specs.declared.decl.Member.TheVariants as mm
use Rattle.qml_ast.specs.declared.document.Document.{Document}
use Rattle.qml_ast.specs.declared.expr.BinOp.TheVariants.{Lt}
use Rattle.qml_ast.specs.declared.expr.Expr.TheVariants.{Lit, Name, Unary, Binary}
use Rattle.qml_ast.specs.declared.expr.UnOp.TheVariants.{Neg}
use Rattle.qml_ast.specs.declared.fault.DocFault.{DocFault}
use Rattle.qml_ast.specs.declared.path.Path.{Path}
use Rattle.qml_ast.specs.declared.stmt.AssignOp.TheVariants.{Set}
use Rattle.qml_ast.specs.declared.stmt.LocalWord.TheVariants.{Var}
use Rattle.qml_ast.specs.declared.stmt.Stmt.TheVariants.{Local, Assign, Step, Do, If, For, Return}
use Rattle.qml_ast.specs.declared.value.Value.TheVariants.{Int, Str}
use Rattle.qml_grammar.specs.Documents.{reading}
use Rattle.qml_grammar.specs.FaultCases.{at}
use Rattle.qml_grammar.specs.Samples.{lines}

-- what the lines say
unfoldable pub said : List (List ℕ) → Result Document DocFault
said texts = reading (lines texts).rest (lines texts).end

abbrev pub path : List ℕ → Path
path name = record { first = name; second = None }

-- a document without imports, an Item at the first line's beginning
abbrev pub item : List Member → Document
item members = record { imports = []; root = roll-Decl (record { name = codes "Item"; members = members; span = at 1 1 }) }

-- a literal's place is inside its parentheses, and another value's place that of its first token
abbrev pub ValuesCase : Type 0
ValuesCase =
    said (codes "Item { x: ('a'); readonly property int b: -1 }" ∷ []) ≡
    Ok (item (
    mm.Init (path (codes "x")) (ii.Expr (Lit (Str (codes "a")))) (at 1 12) (at 1 8) ∷
    mm.Property true (codes "int") (codes "b") (Some (ii.Expr (Unary Neg (Lit (Int (pos 1)))))) (at 1 36) (at 1 43) (at 1 40) ∷ []))

-- a group is its initialisers, each at its inner name
abbrev pub ObjectsCase : Type 0
ObjectsCase =
    said (codes "Item { anchors { fill: parent } Item { } p: A { } }" ∷ []) ≡
    Ok (item (
    mm.Init (record { first = codes "anchors"; second = Some (codes "fill") }) (ii.Expr (Name (codes "parent"))) (at 1 24) (at 1 18) ∷
    mm.Child (roll-Decl (record { name = codes "Item"; members = []; span = at 1 33 })) ∷
    mm.Init (path (codes "p")) (ii.Object (roll-Decl (record { name = codes "A"; members = []; span = at 1 45 }))) (at 1 45) (at 1 42) ∷ []))

abbrev pub MembersCase : Type 0
MembersCase =
    said (codes "Item { id: a; signal s(int b); function f(c) { } onFoo: d = 1 }" ∷ []) ≡
    Ok (item (
    mm.Id (codes "a") (at 1 12) ∷
    mm.Signal (codes "s") (record { kind = codes "int"; name = codes "b"; kind_span = at 1 24; name_span = at 1 28 } ∷ []) (at 1 22) ∷
    mm.Method (codes "f") (record { name = codes "c"; span = at 1 43 } ∷ []) [] (at 1 41) ∷
    mm.Handler (path (codes "onFoo")) (Assign (Name (codes "d")) Set (Lit (Int (pos 1)))) (at 1 50) ∷ []))

abbrev pub StatementsCase : Type 0
StatementsCase =
    said (codes "Item { onFoo: for (var i = 0; i < 3; i++) if (a) b; else return c }" ∷ []) ≡
    Ok (item (
    mm.Handler (path (codes "onFoo")) (For (Some (Local Var (codes "i") (Some (Lit (Int (pos 0)))))) (Some (Binary Lt (Name (codes "i")) (Lit (Int (pos 3))))) (Some (Step (Name (codes "i")) true)) (If (Name (codes "a")) (Do (Name (codes "b"))) (Some (Return (Some (Name (codes "c"))))))) (at 1 8) ∷ []))

-- a version is read by value
abbrev pub ImportsCase : Type 0
ImportsCase =
    said (codes "import QtQuick 2.05" ∷ codes "Item { }" ∷ []) ≡
    Ok (record {
      imports = record { «module» = codes "QtQuick"; major = 2; minor = 5; span = at 1 8 } ∷ [];
      root = roll-Decl (record { name = codes "Item"; members = []; span = at 2 1 });
    })
