-- What the productions of documents say of what is read, with what follows it.
use Rattle.std.specs.Prelude.{ℕ, List, Option}
use Rattle.qml_ast.specs.declared.decl.Decl.{Decl}
use Rattle.qml_grammar.specs.DocumentGrammar.{IsObject, IsValue}
use Rattle.qml_grammar.specs.Documents.{Valued}
use Rattle.qml_grammar.specs.Lexemes.{Token}

-- a value with its place
abbrev pub IsValued : ℕ → List Token → Option Token → Valued → Type 0
IsValued d ts next x = IsValue 200 d ts next x.init x.span

-- an object, whatever follows it
abbrev pub IsObjectBefore : ℕ → List Token → Option Token → Decl → Type 0
IsObjectBefore d ts next x = IsObject 200 d ts x
