-- What is read is spelled, and what is spelled is read: the laws as they are told.
use Rattle.std.proofs.Common.{◌≡◌, ℕ, List, Result, Ok, refl, sym, ap, ◌∙◌}
use Rattle.qml_ast.specs.declared.decl.Decl.{Decl}
use Rattle.qml_ast.specs.declared.decl.Member.{Member}
use Rattle.qml_ast.specs.declared.document.Document.{Document}
use Rattle.qml_ast.specs.declared.fault.DocFault.{DocFault}
use Rattle.qml_ast.specs.declared.span.Span.{Span}
use Rattle.qml_grammar.specs.DocumentGrammar.{IsMember, IsDocument}
use Rattle.qml_grammar.specs.Documents.{Valued, under, value_in, object_in, member_in, reading}
use Rattle.qml_grammar.specs.Inputs.{Input}
use Rattle.qml_grammar.specs.Lexemes.{Token}
use Rattle.statement_laws.specs.Laws.{Covers}
use Rattle.statement_laws.proofs.Ways.{arrived}
use Rattle.document_laws.specs.Laws.{IsValued, IsObjectBefore}
use Rattle.document_laws.proofs.Complete.{under_complete, value_goes, object_goes, member_goes, document_goes}
use Rattle.document_laws.proofs.Sound.{under_sound, value_covers, object_covers, member_covers, reading_is}

-- What is read is spelled

pub value_reads : (d : ℕ) (i j : Input) (x : Valued) → value_in d (under d) i ≡ Ok (x, j) → Covers (IsValued d) i j x
value_reads d i j x h = value_covers d (under d) (under_sound d) i x j h

pub object_reads : (d : ℕ) (i j : Input) (x : Decl) → object_in (under d) i ≡ Ok (x, j) → Covers (IsObjectBefore d) i j x
object_reads d i j x h = object_covers d (under d) (under_sound d) i x j h

pub member_reads : (d : ℕ) (i j : Input) (xs : List Member) → member_in d (under d) i ≡ Ok (xs, j) → Covers (IsMember 200 d) i j xs
member_reads d i j xs h = member_covers d (under d) (under_sound d) i xs j h

pub document_reads : (ts : List Token) (end : Span) (x : Document) → reading ts end ≡ Ok x → IsDocument ts x
document_reads = reading_is (λ i x j h. object_reads 64 i j x h)

-- What is spelled is read

pub reads_value : (d : ℕ) (i j : Input) (x : Valued) → Covers (IsValued d) i j x → value_in d (under d) i ≡ Ok (x, j)
reads_value d i j x c = ap (value_in d (under d)) (arrived c.way) ∙ value_goes d (under d) (under_complete d) j refl c.spelled

pub reads_object : (d : ℕ) (i j : Input) (x : Decl) → Covers (IsObjectBefore d) i j x → object_in (under d) i ≡ Ok (x, j)
reads_object d i j x c = ap (object_in (under d)) (arrived c.way) ∙ object_goes d (under d) (under_complete d) j c.spelled

pub reads_member : (d : ℕ) (i j : Input) (xs : List Member) → Covers (IsMember 200 d) i j xs → member_in d (under d) i ≡ Ok (xs, j)
reads_member d i j xs c = ap (member_in d (under d)) (arrived c.way) ∙ member_goes d (under d) (under_complete d) j refl c.spelled

pub reads_document : (ts : List Token) (end : Span) (x : Document) → IsDocument ts x → reading ts end ≡ Ok x
reads_document = document_goes (λ ts x j p. object_goes 64 (under 64) (under_complete 64) j p)

same_document : (x y : Document) → ◌≡◌ {A = Result Document DocFault} (Ok x) (Ok y) → x ≡ y
same_document x y h = cc

pub document_once : (ts : List Token) (x y : Document) → IsDocument ts x → IsDocument ts y → x ≡ y
document_once ts x y p q =
    let end : Span = record { line = 1; col = 1 } in
    same_document x y (sym (reads_document ts end x p) ∙ reads_document ts end y q)
