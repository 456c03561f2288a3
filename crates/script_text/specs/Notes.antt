-- The notes of a run, as bytes. Each ends in LF.
use Rattle.std.specs.Prelude.{ℕ, List, ◌++◌, codes, decimal}
use Rattle.qml_ast.specs.declared.eval_fault.EvalFault.{EvalFault}
use Rattle.qml_ast.specs.declared.eval_fault.EvalFault.TheVariants.{Overflow, ZeroDivisor, WrongKind, UnknownName, NullMember, TooMuch, TextTooLong, ReadOnly, NoMemory}
use Rattle.qml_ast.specs.declared.fault.LoadFault.{LoadFault}
use Rattle.qml_ast.specs.declared.span.Span.{Span}
use Rattle.script_text.specs.LoadFaults.{load_fault_text}
use Rattle.script_text.specs.declared.note.LimitKind.{LimitKind}
use Rattle.script_text.specs.declared.note.LimitKind.TheVariants.{Statements, Handlers, Objects, Depth}
use Rattle.script_text.specs.declared.note.Note.{Note}
use Rattle.script_text.specs.declared.note.Note.TheVariants as note
use Rattle.script_text.specs.declared.note.RunNote.{RunNote}
use Rattle.script_text.specs.declared.note.RunNote.TheVariants.{Polish, Loader, Wait}

-- what is told of a place in a document
abbrev pub at_text : List ℕ → Span → List ℕ → List ℕ
at_text file span told = file ++ (codes ":" ++ (decimal span.line ++ (codes ":" ++ (decimal span.col ++ (codes ": " ++ told)))))

-- a binding that led to its own evaluation
abbrev pub loop_text : List ℕ → Span → List ℕ → List ℕ
loop_text file span path = at_text file span (codes "Binding loop detected for property \"" ++ (path ++ codes "\"\n"))

abbrev pub fault_word : EvalFault → List ℕ
fault_word Overflow = codes "overflow"
fault_word ZeroDivisor = codes "zero divisor"
fault_word WrongKind = codes "wrong kind"
fault_word UnknownName = codes "unknown name"
fault_word NullMember = codes "member of null"
fault_word TooMuch = codes "too much"
fault_word TextTooLong = codes "text too long"
fault_word ReadOnly = codes "read only"
fault_word NoMemory = codes "no memory"

-- an expression or a statement without a value
abbrev pub fault_text : List ℕ → Span → EvalFault → List ℕ
fault_text file span fault = at_text file span (codes "evaluation fault: " ++ (fault_word fault ++ codes "\n"))

-- an anchor whose target is none of its item's
abbrev pub target_text : List ℕ → Span → List ℕ → List ℕ
target_text file span path = at_text file span (codes "anchor target ignored: " ++ (path ++ codes "\n"))

-- a third anchor in one direction
abbrev pub center_text : List ℕ → Span → List ℕ → List ℕ
center_text file span path = at_text file span (codes "center anchor ignored: " ++ (path ++ codes "\n"))

abbrev pub limit_words : LimitKind → List ℕ
limit_words Statements = codes "statement limit\n"
limit_words Handlers = codes "handler limit\n"
limit_words Objects = codes "object limit\n"
limit_words Depth = codes "depth limit\n"

-- a limit that was reached
abbrev pub limit_text : List ℕ → Span → LimitKind → List ℕ
limit_text file span kind = at_text file span (limit_words kind)

-- a Loader whose document was not loaded
abbrev pub load_text : List ℕ → Span → LoadFault → List ℕ
load_text file span fault = at_text file span (codes "load fault: " ++ load_fault_text fault)

-- a limit of the whole run
abbrev pub run_text : RunNote → List ℕ
run_text Polish = codes "polish loop\n"
run_text Loader = codes "loader limit\n"
run_text Wait = codes "wait limit\n"

-- what a handler logs
abbrev pub log_text : List ℕ → List ℕ
log_text text = codes "qml: " ++ (text ++ codes "\n")

abbrev pub note_text : Note → List ℕ
note_text (note.Loop at path) = loop_text at.file.now at.span path.now
note_text (note.Fault at fault) = fault_text at.file.now at.span fault
note_text (note.Target at path) = target_text at.file.now at.span path.now
note_text (note.Center at path) = center_text at.file.now at.span path.now
note_text (note.Limit at kind) = limit_text at.file.now at.span kind
note_text (note.Load at fault) = load_text at.file.now at.span fault.now
note_text (note.Run kind) = run_text kind
note_text (note.Log text) = log_text text.now
