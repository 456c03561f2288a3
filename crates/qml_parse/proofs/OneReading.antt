-- A text spells one document at most, has one fault at most beside want of memory, and never both.
use Rattle.std.proofs.Common.{◌≡◌, ◌≢◌, ◌⊎◌, inl, inr, ℕ, List, Result, Ok, Err, refl, sym, ap, subst, ◌∙◌}
use Rattle.document_laws.proofs.Reading.{document_reads, reads_document, document_once}
use Rattle.qml_ast.specs.declared.document.Document.{Document}
use Rattle.qml_ast.specs.declared.fault.DocFault.{DocFault}
use Rattle.qml_ast.specs.declared.fault.DocFault.TheVariants.{NotUtf8, BadToken, Syntax, TooDeep, Unsupported, NoMemory}
use Rattle.qml_grammar.specs.DocumentGrammar.{IsDocument}
use Rattle.qml_grammar.specs.Documents.{reading}
use Rattle.qml_grammar.specs.Lexemes.{Token}
use Rattle.qml_lex.proofs.OneReading.{a_text_has_one_reading as lexed_once}
use Rattle.qml_lex.specs.Reading.{IsRefused}
use Rattle.qml_tokens.proofs.OneReading.{one_list, a_text_has_one_reading}
use Rattle.qml_tokens.specs.Spelled.{HasTokens, Spells, HasFault, IsReadFaulty, end_of}
use Rattle.qml_parse.specs.Parsed.{IsReadAs}

pub spelled_as : (bytes : List ℕ) (d : Document) → IsReadAs bytes d → Spells bytes d
spelled_as bytes d r = record { tokens = r.tokens; has = r.has; document = document_reads r.tokens (end_of bytes) d r.is }

pub one_document : (bytes : List ℕ) (a b : Document) → Spells bytes a → Spells bytes b → a ≡ b
one_document bytes a b r s =
    document_once s.tokens a b (subst (λ ts. IsDocument ts a) (one_list bytes r.tokens s.tokens r.has s.has) r.document) s.document

-- A text that is read with a fault

other : {A : Type 0} (x : Document) (e : DocFault) → ◌≡◌ {A = Result Document DocFault} (Ok x) (Err e) → A
other x e h = absurd cc

not_faulty : {A : Type 0} (bytes : List ℕ) (d : Document) (e : DocFault) → Spells bytes d → IsReadFaulty bytes e → A
not_faulty bytes d e s f =
    let read = reads_document s.tokens (end_of bytes) d s.document in
    let same = one_list bytes s.tokens f.tokens s.has f.has in
    other d e (sym read ∙ (ap (λ ts. reading ts (end_of bytes)) same ∙ f.is))

abbrev fault_in : DocFault → Result Document DocFault → DocFault
fault_in e (Ok x) = e
fault_in e (Err f) = f

same_fault : (bytes : List ℕ) (e f : DocFault) → IsReadFaulty bytes e → IsReadFaulty bytes f → e ≡ f
same_fault bytes e f r s =
    ap (fault_in e) (sym r.is ∙ (ap (λ ts. reading ts (end_of bytes)) (one_list bytes r.tokens s.tokens r.has s.has) ∙ s.is))

-- A text with a fault

refused_or_read : (bytes : List ℕ) (e : DocFault) → HasFault bytes e → e ≢ NoMemory → IsRefused bytes e ⊎ IsReadFaulty bytes e
refused_or_read bytes (NotUtf8 at) h some = inl h
refused_or_read bytes (BadToken at) h some = inl h
refused_or_read bytes (Syntax at) h some = inr h
refused_or_read bytes (TooDeep at) h some = inr h
refused_or_read bytes (Unsupported at) h some = inr h
refused_or_read bytes NoMemory h some = absurd (some refl)
refused_or_read bytes _ h some = absurd h

-- tokens there are, and none
apart : {A : Type 0} (bytes : List ℕ) (ts : List Token) (e : DocFault) → HasTokens bytes ts → IsRefused bytes e → e ≢ NoMemory → A
apart bytes ts e has refused some = absurd (some ((a_text_has_one_reading bytes).never_both ts e has refused))

one_of : (bytes : List ℕ) (e f : DocFault) → e ≢ NoMemory → f ≢ NoMemory → IsRefused bytes e ⊎ IsReadFaulty bytes e → IsRefused bytes f ⊎ IsReadFaulty bytes f → e ≡ f
one_of bytes e f some some_too (inl r) (inl s) = (lexed_once bytes).one_fault e f r s some some_too
one_of bytes e f some some_too (inl r) (inr s) = apart bytes s.tokens e s.has r some
one_of bytes e f some some_too (inr r) (inl s) = apart bytes r.tokens f r.has s some_too
one_of bytes e f some some_too (inr r) (inr s) = same_fault bytes e f r s

pub one_text_fault : (bytes : List ℕ) (e f : DocFault) → HasFault bytes e → HasFault bytes f → e ≢ NoMemory → f ≢ NoMemory → e ≡ f
one_text_fault bytes e f h g some some_too = one_of bytes e f some some_too (refused_or_read bytes e h some) (refused_or_read bytes f g some_too)

pub fault_apart : (bytes : List ℕ) (d : Document) (e : DocFault) → Spells bytes d → HasFault bytes e → e ≡ NoMemory
fault_apart bytes d (NotUtf8 at) s h = apart bytes s.tokens (NotUtf8 at) s.has h (λ same. cc)
fault_apart bytes d (BadToken at) s h = apart bytes s.tokens (BadToken at) s.has h (λ same. cc)
fault_apart bytes d (Syntax at) s h = not_faulty bytes d (Syntax at) s h
fault_apart bytes d (TooDeep at) s h = not_faulty bytes d (TooDeep at) s h
fault_apart bytes d (Unsupported at) s h = not_faulty bytes d (Unsupported at) s h
fault_apart bytes d NoMemory s h = refl
fault_apart bytes d _ s h = absurd h
