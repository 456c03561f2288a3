-- Short documents with their first faults, or none.
use Rattle.std.specs.Prelude.{◌≡◌, ℕ, List, [], ◌∷◌, ◌++◌, map, flat_map, replicate, Option, Some, None, Ok, Err, codes}
use Rattle.qml_ast.specs.declared.fault.DocFault.{DocFault}
use Rattle.qml_ast.specs.declared.fault.DocFault.TheVariants.{Syntax, TooDeep, Unsupported}
use Rattle.qml_ast.specs.declared.span.Span.{Span}
use Rattle.qml_grammar.specs.Documents.{reading}
use Rattle.qml_grammar.specs.Samples.{lines}

pub record FaultCase : Type 0 where
  pub lines : List (List ℕ)
  pub fault : Option DocFault

abbrev pub at : ℕ → ℕ → Span
at line column = record { line = line; col = column }

-- a document of one line
abbrev pub one : List ℕ → Option DocFault → FaultCase
one text fault = record { lines = text ∷ []; fault = fault }

-- a document of several lines
abbrev pub many : List (List ℕ) → Option DocFault → FaultCase
many texts fault = record { lines = texts; fault = fault }

-- the first fault of lines
unfoldable pub first_fault : List (List ℕ) → Option DocFault
first_fault texts = elim (reading (lines texts).rest (lines texts).end) [ Ok x ↦ None | Err e ↦ Some e ]

-- each document has the fault that stands beside it
abbrev pub AreAnswered : List FaultCase → Type 0
AreAnswered cases = map (λ c. first_fault c.lines) cases ≡ map (λ c. c.fault) cases

-- which semicolons end something
unfoldable pub semicolon_cases : List FaultCase
semicolon_cases =
    one (codes "Item { onXChanged: a;; }") None ∷
    one (codes "Item { onXChanged: a;;; }") (Some (Syntax (at 1 23))) ∷
    one (codes "Item { onXChanged: ;; }") None ∷
    one (codes "Item { onXChanged: { }; }") None ∷
    one (codes "Item { Item { }; }") (Some (Syntax (at 1 16))) ∷
    one (codes "Item { Item { } Item { } }") None ∷
    one (codes "Item { foo { } bar { a: 1; b: 2 } }") None ∷
    one (codes "Item { function f(a, b) { } function g() { } }") None ∷
    one (codes "Item { x: 1; y: 2 }") None ∷
    one (codes "Item { x: 1 y: 2 }") (Some (Syntax (at 1 13))) ∷
    one (codes "Item { x: 1;; }") (Some (Syntax (at 1 13))) ∷
    one (codes "Item { };") (Some (Syntax (at 1 9))) ∷
    []

-- what goes on over the end of a line, and what does not
unfoldable pub line_cases : List FaultCase
line_cases =
    many ((codes "Item { x: a") ∷ (codes "-b: 1 }") ∷ []) (Some (Syntax (at 2 3))) ∷
    many ((codes "Item { p: A") ∷ (codes "{ } }") ∷ []) None ∷
    many ((codes "Item { signal s") ∷ (codes "(int a) }") ∷ []) None ∷
    many ((codes "Item { onXChanged: a") ∷ (codes "= 1 }") ∷ []) None ∷
    many ((codes "Item { onXChanged: a") ∷ (codes "(b) }") ∷ []) None ∷
    many ((codes "Item { onXChanged: a") ∷ (codes "++b }") ∷ []) (Some (Syntax (at 2 1))) ∷
    many ((codes "Item { onXChanged: { a") ∷ (codes "++ } }") ∷ []) (Some (Syntax (at 2 1))) ∷
    many ((codes "Item { onXChanged: { a++") ∷ (codes "b-- } }") ∷ []) None ∷
    many ((codes "Item { onXChanged: { return") ∷ (codes "1 } }") ∷ []) None ∷
    many ((codes "Item { onXChanged: { return") ∷ (codes "{ } } }") ∷ []) None ∷
    one (codes "Item { onXChanged: return { } }") (Some (Unsupported (at 1 27))) ∷
    one (codes "Item { onXChanged: { return } }") None ∷
    many ((codes "Item { x: 1") ∷ (codes "y: 2") ∷ (codes "}") ∷ []) None ∷
    many ((codes "Item { Foo") ∷ (codes "on x { } }") ∷ []) (Some (Unsupported (at 2 1))) ∷
    many ((codes "Item { property int a") ∷ (codes ": 1 }") ∷ []) None ∷
    many ((codes "import QtQuick") ∷ (codes "2.0") ∷ (codes "Item { }") ∷ []) None ∷
    []

-- the word `else`, and other words as names
unfoldable pub word_cases : List FaultCase
word_cases =
    one (codes "Item { else: 3 }") (Some (Syntax (at 1 8))) ∷
    one (codes "Item { onXChanged: if (a) b;; else: 3 }") (Some (Syntax (at 1 31))) ∷
    one (codes "Item { onXChanged: if (a) b; else: 3 }") (Some (Syntax (at 1 34))) ∷
    one (codes "Item { onXChanged: if (a) b; else c }") None ∷
    one (codes "Item { onXChanged: if (a) b else c }") (Some (Syntax (at 1 29))) ∷
    one (codes "Item { onXChanged: if (a) { } else if (b) ; else { } }") None ∷
    one (codes "Item { foo { else: 3; default: 1; id: 2 } }") None ∷
    one (codes "Item { id: true }") None ∷
    one (codes "Item { if: 1 }") None ∷
    one (codes "Item { x: a.if }") None ∷
    one (codes "Item { x: if }") (Some (Syntax (at 1 11))) ∷
    one (codes "Item { onXChanged: var switch = 1 }") None ∷
    one (codes "Item { x: property + id + on }") None ∷
    one (codes "Item { id.x: 1 }") (Some (Syntax (at 1 10))) ∷
    one (codes "Item { readonly a: 1 }") (Some (Syntax (at 1 17))) ∷
    one (codes "Item { function f(if, function) { } }") None ∷
    []

-- what QML has and the engine has not
unfoldable pub unsupported_cases : List FaultCase
unsupported_cases =
    one (codes "Item { onClicked: function(mouse) { } }") (Some (Unsupported (at 1 19))) ∷
    one (codes "Item { onClicked: { function f() { } } }") (Some (Unsupported (at 1 21))) ∷
    one (codes "Item { x: a.function }") None ∷
    one (codes "Item { x: a in b }") (Some (Syntax (at 1 13))) ∷
    one (codes "Item { x: 1 + this }") (Some (Unsupported (at 1 15))) ∷
    one (codes "Item { onClicked: switch (a) { } }") (Some (Unsupported (at 1 19))) ∷
    one (codes "Item { onClicked: if (a) throw b }") (Some (Unsupported (at 1 26))) ∷
    one (codes "Item { x: new A }") (Some (Unsupported (at 1 11))) ∷
    one (codes "Item { x: { } }") (Some (Unsupported (at 1 11))) ∷
    one (codes "Item { x: 1 + { } }") (Some (Unsupported (at 1 15))) ∷
    one (codes "Item { x: [1] }") (Some (Unsupported (at 1 11))) ∷
    one (codes "Item { x: a[1] }") (Some (Unsupported (at 1 12))) ∷
    one (codes "Item { } [") (Some (Unsupported (at 1 10))) ∷
    one (codes "Item { x: 0.5 }") (Some (Unsupported (at 1 11))) ∷
    one (codes "Item { default: 1 }") (Some (Unsupported (at 1 8))) ∷
    one (codes "Item { enum E { } }") (Some (Unsupported (at 1 8))) ∷
    one (codes "Item { required property int a }") (Some (Unsupported (at 1 8))) ∷
    one (codes "Item { property alias a: b }") (Some (Unsupported (at 1 17))) ∷
    one (codes "Item { readonly property alias a: b }") (Some (Unsupported (at 1 26))) ∷
    one (codes "Item { signal s(alias a) }") None ∷
    []

-- names of types, dotted ones and others
unfoldable pub type_name_cases : List FaultCase
type_name_cases =
    one (codes "Item { x: A.B { } }") (Some (Unsupported (at 1 11))) ∷
    one (codes "Item { A.b { } }") (Some (Syntax (at 1 12))) ∷
    one (codes "Item { Component.onCompleted { } }") (Some (Syntax (at 1 30))) ∷
    one (codes "Item { A.B { } }") (Some (Unsupported (at 1 8))) ∷
    one (codes "Item { A.B on x { } }") (Some (Unsupported (at 1 8))) ∷
    one (codes "Item { x: a.B { } }") (Some (Syntax (at 1 15))) ∷
    one (codes "Item { a.b.c: 1 }") (Some (Syntax (at 1 11))) ∷
    one (codes "Item { A.b.C { } }") (Some (Unsupported (at 1 8))) ∷
    one (codes "Item { property A.b c }") (Some (Unsupported (at 1 17))) ∷
    one (codes "Item { property a.b c }") (Some (Syntax (at 1 18))) ∷
    one (codes "Item { signal s(int i, A.B c) }") (Some (Unsupported (at 1 24))) ∷
    one (codes "A.B { }") (Some (Unsupported (at 1 1))) ∷
    one (codes "A.b { }") (Some (Syntax (at 1 2))) ∷
    one (codes "foo { }") (Some (Syntax (at 1 1))) ∷
    one (codes "Item { _a { } }") (Some (Syntax (at 1 11))) ∷
    one (codes "Item { x: foo { } }") (Some (Syntax (at 1 15))) ∷
    one (codes "Item { Foo on x { } }") (Some (Unsupported (at 1 12))) ∷
    one (codes "Item { foo on x { } }") (Some (Syntax (at 1 12))) ∷
    one (codes "Foo on x { }") (Some (Syntax (at 1 5))) ∷
    one (codes "Item { p: Foo on x { } }") (Some (Syntax (at 1 15))) ∷
    []

-- paths of handlers, and groups
unfoldable pub handler_cases : List FaultCase
handler_cases =
    one (codes "Item { anchors.onFoo: 1 }") (Some (Syntax (at 1 16))) ∷
    one (codes "Item { anchors { onFoo: 1 } }") (Some (Syntax (at 1 18))) ∷
    one (codes "Item { Component.onCompleted: a }") None ∷
    one (codes "Item { onFoo: { } }") None ∷
    one (codes "Item { foo { } }") None ∷
    one (codes "Item { anchors { fill: parent; foo: 1 } }") None ∷
    one (codes "Item { on: { } }") (Some (Unsupported (at 1 12))) ∷
    one (codes "Item { onfoo: { } }") (Some (Unsupported (at 1 15))) ∷
    one (codes "Item { onFoo { x: 1 } }") None ∷
    one (codes "Item { foo { a.b: 1 } }") (Some (Syntax (at 1 15))) ∷
    one (codes "Item { foo { Item { } } }") (Some (Syntax (at 1 19))) ∷
    one (codes "Item { foo { p: Item { } } }") None ∷
    []

-- imports
unfoldable pub import_cases : List FaultCase
import_cases =
    one (codes "import Foo") (Some (Unsupported (at 1 8))) ∷
    one (codes "import Foo 2") (Some (Unsupported (at 1 8))) ∷
    one (codes "import QtQuick") (Some (Syntax (at 1 15))) ∷
    one (codes "import QtQuick 2") (Some (Syntax (at 1 16))) ∷
    one (codes "import QtQuick 2.16") (Some (Unsupported (at 1 8))) ∷
    one (codes "import QtQuick 3.0") (Some (Unsupported (at 1 8))) ∷
    one (codes "import QtQuick . 5") (Some (Syntax (at 1 18))) ∷
    one (codes "import QtQuick .") (Some (Syntax (at 1 17))) ∷
    one (codes "import QtQuick. 2.1") (Some (Unsupported (at 1 17))) ∷
    one (codes "import QtQuick2.15") (Some (Unsupported (at 1 8))) ∷
    one (codes "import Foo . 5") (Some (Unsupported (at 1 8))) ∷
    one (codes "import QtQuick.Foo . 5") (Some (Unsupported (at 1 8))) ∷
    one (codes "import QtQuick.QtQuick") (Some (Unsupported (at 1 8))) ∷
    one (codes "import QtQuick.Controls 2.0") (Some (Unsupported (at 1 8))) ∷
    one (codes "import \"a.js\"") (Some (Unsupported (at 1 8))) ∷
    one (codes "import QtQuick 2.0 as Q") (Some (Unsupported (at 1 20))) ∷
    many ((codes "import QtQuick 2.0") ∷ (codes "as Q") ∷ []) (Some (Unsupported (at 2 1))) ∷
    one (codes "import QtQuick 2.0; as Q") (Some (Syntax (at 1 21))) ∷
    one (codes "import QtQuick as Q") (Some (Syntax (at 1 16))) ∷
    one (codes "import QtQuick 2.05; Item { }") None ∷
    one (codes "import QtQuick 2.0 Item { }") (Some (Syntax (at 1 20))) ∷
    many ((codes "import QtQuick 2.15") ∷ (codes "import QtQuick 2.0;") ∷ (codes "Item { }") ∷ []) None ∷
    []

-- statements
unfoldable pub statement_cases : List FaultCase
statement_cases =
    one (codes "Item { onFoo: for (;;) ; }") None ∷
    one (codes "Item { onFoo: for (var i = 0; i < 3; i++) a; }") None ∷
    one (codes "Item { onFoo: for (a.b += 1; ; --) c; }") (Some (Syntax (at 1 32))) ∷
    one (codes "Item { onFoo: for (var i in a) b }") (Some (Syntax (at 1 26))) ∷
    one (codes "Item { onFoo: for (let i = 0;;) a }") (Some (Syntax (at 1 20))) ∷
    one (codes "Item { onFoo: for (f();;) a }") (Some (Syntax (at 1 21))) ∷
    one (codes "Item { onFoo: for (var i;;) a }") (Some (Syntax (at 1 25))) ∷
    one (codes "Item { onFoo: for ({;;) a }") (Some (Syntax (at 1 20))) ∷
    one (codes "Item { onFoo: for (;;{) a }") (Some (Syntax (at 1 22))) ∷
    one (codes "Item { onFoo: for (;{;) a }") (Some (Unsupported (at 1 21))) ∷
    one (codes "Item { onFoo: for (this;;) a }") (Some (Unsupported (at 1 20))) ∷
    one (codes "Item { onFoo: for (;;function) a }") (Some (Unsupported (at 1 22))) ∷
    one (codes "Item { onFoo: for (true = 1;;) a }") (Some (Syntax (at 1 20))) ∷
    many ((codes "Item { onFoo: for (;; i") ∷ (codes "++) a }") ∷ []) (Some (Syntax (at 2 1))) ∷
    one (codes "Item { onFoo: (a).b = 1 }") (Some (Syntax (at 1 21))) ∷
    one (codes "Item { onFoo: true.b = 1 }") (Some (Syntax (at 1 22))) ∷
    one (codes "Item { onFoo: a.true = 1 }") None ∷
    one (codes "Item { onFoo: a() = 1 }") (Some (Syntax (at 1 19))) ∷
    one (codes "Item { onFoo: a b }") (Some (Syntax (at 1 17))) ∷
    one (codes "Item { onFoo: while a }") (Some (Syntax (at 1 21))) ∷
    one (codes "Item { onFoo: let a = 1, b }") (Some (Syntax (at 1 24))) ∷
    one (codes "Item { function f() a }") (Some (Syntax (at 1 21))) ∷
    []

-- the end of the text, and operators without operands
unfoldable pub end_cases : List FaultCase
end_cases =
    one (codes "") (Some (Syntax (at 1 1))) ∷
    one (codes "Item") (Some (Syntax (at 1 5))) ∷
    one (codes "Item { x: 1") (Some (Syntax (at 1 12))) ∷
    one (codes "Item { x: }") (Some (Syntax (at 1 11))) ∷
    one (codes "Item { x: (1 }") (Some (Syntax (at 1 14))) ∷
    one (codes "Item { x: f(1, ) }") (Some (Syntax (at 1 16))) ∷
    one (codes "Item { x: a ? b }") (Some (Syntax (at 1 17))) ∷
    one (codes "Item { x: a && }") (Some (Syntax (at 1 16))) ∷
    one (codes "Item { x: a.1 }") (Some (Syntax (at 1 13))) ∷
    one (codes "Item { x: - }") (Some (Syntax (at 1 13))) ∷
    one (codes "Item { x: 1.x }") None ∷
    one (codes "Item { x: -1 - -2 }") None ∷
    []

-- a text, a piece so many times, and a second piece so many times
abbrev pub nested : List ℕ → ℕ → List ℕ → ℕ → List ℕ → List ℕ
nested before n piece m other = before ++ flat_map (λ k. k) (replicate n piece) ++ flat_map (λ k. k) (replicate m other)

-- levels: of objects, calls, operators, statements and conditionals
unfoldable pub level_cases : List FaultCase
level_cases =
    one (nested ([]) 64 (codes "Item { ") 64 (codes "} ")) None ∷
    one (nested ([]) 65 (codes "Item { ") 0 ([])) (Some (TooDeep (at 1 454))) ∷
    one (nested (codes "Item { x: ") 63 (codes "f(") 63 (codes ")") ++ codes "}") None ∷
    one (nested (codes "Item { x: ") 64 (codes "f(") 0 ([])) (Some (TooDeep (at 1 138))) ∷
    one (nested (codes "Item { x: ") 63 (codes "-(") 0 ([])) (Some (TooDeep (at 1 74))) ∷
    one (nested (codes "Item { onFoo: ") 63 (codes "if (a) ") 1 (codes "b ") ++ codes "}") None ∷
    one (nested (codes "Item { onFoo: ") 64 (codes "if (a) ") 1 (codes "b ")) (Some (TooDeep (at 1 463))) ∷
    one (nested (codes "Item { onFoo: ") 62 (codes "if (a) ") 1 (codes "{ } ") ++ codes "}") None ∷
    one (nested (codes "Item { onFoo: ") 63 (codes "if (a) ") 1 (codes "{ } ")) (Some (TooDeep (at 1 456))) ∷
    one (nested (codes "Item { onFoo: ") 64 (codes "if (a) ") 1 (codes ") ")) (Some (Syntax (at 1 463))) ∷
    one (nested (codes "Item { x: ") 63 (codes "a ? a : ") 1 (codes "a ") ++ codes "}") None ∷
    one (nested (codes "Item { x: ") 64 (codes "a ? a : ") 1 (codes "a ")) (Some (TooDeep (at 1 517))) ∷
    []

-- nodes of one expression
unfoldable pub node_cases : List FaultCase
node_cases =
    one (nested (codes "Item { x: ") 99 (codes "1 + ") 1 (codes "1 ") ++ codes "}") None ∷
    one (nested (codes "Item { x: -") 99 (codes "1 + ") 1 (codes "1 ") ++ codes "}") None ∷
    one (nested (codes "Item { x: ") 100 (codes "1 + ") 1 (codes "1 ")) (Some (TooDeep (at 1 411))) ∷
    one (nested (codes "Item { x: a") 199 (codes ".b") 1 (codes " ") ++ codes "}") None ∷
    one (nested (codes "Item { x: a") 200 (codes ".b") 1 (codes " ")) (Some (TooDeep (at 1 410))) ∷
    one (nested (codes "Item { onFoo: a") 200 (codes ".b") 1 (codes " = 1 ")) (Some (TooDeep (at 1 414))) ∷
    one (nested (codes "Item { onFoo: for (a") 200 (codes ".b") 1 (codes " = 1;;) ; ")) (Some (TooDeep (at 1 419))) ∷
    []
