-- No document begins with the tokens up to the first fault.
use Rattle.std.proofs.Common.{◌≡◌, List, ◌++◌, Option, Some, None, Result, Ok, Err, sym, ap, ◌∙◌}
use Rattle.document_laws.proofs.Reading.{reads_document}
use Rattle.fault_laws.specs.Faults.{FirstFault}
use Rattle.qml_ast.specs.declared.document.Document.{Document}
use Rattle.qml_ast.specs.declared.fault.DocFault.{DocFault}
use Rattle.qml_ast.specs.declared.span.Span.{Span}
use Rattle.qml_grammar.specs.DocumentGrammar.{IsDocument}
use Rattle.qml_grammar.specs.Lexemes.{Token, head}

apart : (e : DocFault) (x : Document) → ◌≡◌ {A = Result Document DocFault} (Err e) (Ok x) → ⊥
apart e x h = cc

pub no_document_begins_so : (ts : List Token) (end : Span) (e : DocFault) (first : FirstFault ts end e) (others : List Token) (x : Document) → head others ≡ head first.rest → IsDocument (first.text ++ others) x → ⊥
no_document_begins_so ts end e first others x same is =
    let failed = first.alike others end same (ap (λ (o : Option Token). elim o [ Some t ↦ t.span | None ↦ end ]) same) in
    apart e x (sym failed ∙ reads_document (first.text ++ others) end x is)
