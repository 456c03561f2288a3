-- What a function that reads ensures.
use Rattle.std.specs.Prelude.{◌≡◌, ◌≢◌, Result, Ok, Err}
use Rattle.qml_ast.specs.declared.fault.DocFault.{DocFault}
use Rattle.qml_ast.specs.declared.fault.DocFault.TheVariants.{NoMemory}
use Rattle.qml_grammar.specs.Inputs.{Input}

-- The function answers what a reading gives, and its cursor is where the reading ends. Memory may run out
-- instead.
abbrev pub IsReading : {A : Type 0} → Result (A × Input) DocFault → Result A DocFault → Input → Type 0
IsReading reading (Ok x) after = reading ≡ Ok (x, after)
IsReading reading (Err fault) after = fault ≢ NoMemory → reading ≡ Err fault
