-- What a parser answers to a text.
use Rattle.std.specs.Prelude.{◌≡◌, ◌⊎◌, ℕ, List, Result, Ok, Err}
use Rattle.qml_ast.specs.declared.document.Document.{Document}
use Rattle.qml_ast.specs.declared.fault.DocFault.{DocFault}
use Rattle.qml_ast.specs.declared.fault.DocFault.TheVariants.{NoMemory}
use Rattle.qml_tokens.specs.Spelled.{Spells}

-- the text's document is answered, where it spells one, or memory runs out
abbrev pub IsComplete : List ℕ → Result Document DocFault → Type 0
IsComplete bytes answer = (x : Document) → Spells bytes x → (answer ≡ Ok x) ⊎ (answer ≡ Err NoMemory)
