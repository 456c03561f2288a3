-- What is parsed is spelled, and what is spelled is parsed.
use Rattle.std.proofs.Common.{◌≡◌, ℕ, ◌⊎◌, List, Result, Ok, Err, IfOk, IfErr, inl, inr, ap}
use Rattle.qml_ast.specs.declared.document.Document.{Document}
use Rattle.qml_ast.specs.declared.fault.DocFault.{DocFault}
use Rattle.qml_ast.specs.declared.fault.DocFault.TheVariants.{NoMemory}
use Rattle.qml_grammar.specs.Documents.{reading}
use Rattle.qml_grammar.specs.Lexemes.{Token}
use Rattle.qml_lex.specs.Reading.{IsRefused}
use Rattle.qml_tokens.specs.Spelled.{HasTokens, HasFault, Spells, end_of}
use Rattle.qml_tokens.proofs.OneReading.{a_text_has_one_reading}
use Rattle.qml_parse.specs.Parsed.{IsReadAs}
use Rattle.qml_parse.proofs.OneReading.{spelled_as, one_document, fault_apart}

pub all_read : (bytes : List ℕ) (ts : List Token) (r : Result Document DocFault) → HasTokens bytes ts → IfOk r (λ d. reading ts (end_of bytes) ≡ Ok d) → IfOk r (IsReadAs bytes)
all_read bytes ts (Ok d) has h = record { tokens = ts; has = has; is = h }
all_read bytes ts (Err f) has h = tt

pub all_spelled : (bytes : List ℕ) (r : Result Document DocFault) → IfOk r (IsReadAs bytes) → IfOk r (Spells bytes)
all_spelled bytes (Ok d) h = spelled_as bytes d h
all_spelled bytes (Err f) h = tt

pub not_refused : (bytes : List ℕ) (d : Document) (f : DocFault) → Spells bytes d → IsRefused bytes f → f ≡ NoMemory
not_refused bytes d f s h = (a_text_has_one_reading bytes).never_both s.tokens f s.has h

pub complete : (bytes : List ℕ) (r : Result Document DocFault) → IfOk r (IsReadAs bytes) → IfErr r (HasFault bytes) → (d : Document) → Spells bytes d → (r ≡ Ok d) ⊎ (r ≡ Err NoMemory)
complete bytes (Ok x) read refused d s = inl (ap (λ (y : Document). Ok y) (one_document bytes x d (spelled_as bytes x read) s))
complete bytes (Err f) read refused d s = inr (ap (λ (g : DocFault). Err g) (fault_apart bytes d f s refused))
