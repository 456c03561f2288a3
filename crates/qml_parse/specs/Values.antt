-- What contracts see of an initialiser's value that was read.
use Rattle.std.specs.Prelude.{◌≡◌, ◌≢◌, Result, Ok, Err}
use Rattle.qml_ast.specs.declared.fault.DocFault.{DocFault}
use Rattle.qml_ast.specs.declared.fault.DocFault.TheVariants.{NoMemory}
use Rattle.qml_grammar.specs.Documents.{Valued}
use Rattle.qml_grammar.specs.Inputs.{Input}
use Rattle.qml_parse.specs.declared.value.Valued.{Valued as HeldValued}

-- a value and its place, as the grammar has them
abbrev pub valued_of : HeldValued → Valued
valued_of x = record { init = x.init; span = x.span }

-- The function answers the value that a reading gives, and its cursor is where the reading ends. Memory may run
-- out instead.
abbrev pub IsReadingValue : Result (Valued × Input) DocFault → Result HeldValued DocFault → Input → Type 0
IsReadingValue reading (Ok x) after = reading ≡ Ok (valued_of x, after)
IsReadingValue reading (Err fault) after = fault ≢ NoMemory → reading ≡ Err fault
