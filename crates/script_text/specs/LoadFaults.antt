-- How the faults of a document and of a load are told, as bytes.
use Rattle.std.specs.Prelude.{ℕ, List, ◌++◌, codes, decimal}
use Rattle.qml_ast.specs.declared.fault.DocFault.{DocFault}
use Rattle.qml_ast.specs.declared.fault.DocFault.TheVariants as doc
use Rattle.qml_ast.specs.declared.fault.LoadFault.{LoadFault}
use Rattle.qml_ast.specs.declared.fault.LoadFault.TheVariants as load
use Rattle.qml_ast.specs.declared.span.Span.{Span}

-- what is wrong at a place
abbrev pub at_place : Span → List ℕ → List ℕ
at_place at what = codes ":" ++ (decimal at.line ++ (codes ":" ++ (decimal at.col ++ (codes ": " ++ (what ++ codes "\n")))))

-- what stands behind a document's name where it has a fault
abbrev pub doc_fault_text : DocFault → List ℕ
doc_fault_text (doc.NotUtf8 at) = codes ": not UTF-8 at byte " ++ (decimal at ++ codes "\n")
doc_fault_text (doc.BadToken at) = at_place at (codes "bad token")
doc_fault_text (doc.Syntax at) = at_place at (codes "syntax")
doc_fault_text (doc.TooDeep at) = at_place at (codes "too deep")
doc_fault_text (doc.Unsupported at) = at_place at (codes "unsupported")
doc_fault_text (doc.UnknownType at) = at_place at (codes "unknown type")
doc_fault_text (doc.UnknownProperty at) = at_place at (codes "unknown property")
doc_fault_text (doc.BadId at) = at_place at (codes "bad id")
doc_fault_text (doc.DuplicateId at) = at_place at (codes "duplicate id")
doc_fault_text (doc.DuplicateName at) = at_place at (codes "duplicate name")
doc_fault_text (doc.WrongLiteral at) = at_place at (codes "wrong literal")
doc_fault_text (doc.ReadOnly at) = at_place at (codes "read only")
doc_fault_text doc.NoMemory = codes ": no memory\n"

-- why a document was not loaded, with its LF
abbrev pub load_fault_text : LoadFault → List ℕ
load_fault_text (load.Missing name) = name ++ codes ": missing\n"
load_fault_text (load.TooLong name) = name ++ codes ": too long\n"
load_fault_text load.TooMany = codes "too many documents\n"
load_fault_text (load.Cycle name) = name ++ codes ": cycle\n"
load_fault_text (load.Doc name fault) = name ++ doc_fault_text fault
load_fault_text load.Read = codes "read fault\n"
load_fault_text load.NoMemory = codes "no memory\n"
