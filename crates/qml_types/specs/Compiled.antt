-- The component type that a document declares.
use Rattle.std.specs.Prelude.{◌≡◌, ℕ, Option, None, Some, Result, Ok, Err, List, []}
use Rattle.qml_ast.specs.declared.document.Document.{Document}
use Rattle.qml_ast.specs.declared.fault.DocFault.{DocFault}
use Rattle.qml_ast.specs.declared.fault.DocFault.TheVariants.{NoMemory}
use Rattle.qml_types.specs.declared.component.ComponentType.{ComponentType}
use Rattle.qml_types.specs.Faults.{told}
use Rattle.qml_types.specs.Known.{KnownTypes}
use Rattle.qml_types.specs.Placed.{component_of}
use Rattle.qml_types.specs.Readings.{reading_of}
use Rattle.qml_types.specs.Rules.{component_faults}

-- a document's unlawful declarations
abbrev pub faults_of : Document → KnownTypes → List DocFault
faults_of document known = component_faults known (reading_of document.root)

-- what there is where that is the first unlawful declaration, if there is one
abbrev pub answer : Option DocFault → ComponentType → Result ComponentType DocFault
answer None type = Ok type
answer (Some fault) type = Err fault

-- the component type that a document declares, or its first unlawful declaration
unfoldable pub compiled : List ℕ → Document → KnownTypes → Result ComponentType DocFault
compiled file document known = answer (told None (faults_of document known)) (component_of known file (reading_of document.root))

-- what is answered, unless memory ran out
abbrev pub Gives : Result ComponentType DocFault → Result ComponentType DocFault → Type 0
Gives is (Ok type) = is ≡ Ok type
Gives is (Err NoMemory) = Unit {0}
Gives is (Err fault) = is ≡ Err fault
