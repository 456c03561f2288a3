-- The fault of a text is the one that its tokens are read with, or that it is no tokens.
use Rattle.std.proofs.Common.{◌≡◌, ◌≢◌, ℕ, List, Result, Ok, Err, IfErr, sym, subst}
use Rattle.fault_laws.proofs.Faults.{document_fault}
use Rattle.fault_laws.specs.Faults.{StandsIn, behind, refused, named, place_before}
use Rattle.grammar_laws.specs.Faults.{IsFaultAt, syntax, unsupported, deep}
use Rattle.qml_ast.specs.declared.document.Document.{Document}
use Rattle.qml_ast.specs.declared.fault.DocFault.{DocFault}
use Rattle.qml_ast.specs.declared.fault.DocFault.TheVariants.{Syntax, TooDeep, Unsupported, NoMemory}
use Rattle.qml_ast.specs.declared.span.Span.{Span}
use Rattle.qml_grammar.specs.Documents.{reading}
use Rattle.qml_grammar.specs.Lexemes.{Token}
use Rattle.qml_tokens.specs.Spelled.{HasTokens, HasFault, end_of}

-- one of the faults that a token has
abbrev IsOfToken : DocFault → Type 0
IsOfToken (Syntax at) = Unit {0}
IsOfToken (TooDeep at) = Unit {0}
IsOfToken (Unsupported at) = Unit {0}
IsOfToken _ = ⊥

blamed : (f : DocFault) (at : Span) → IsFaultAt f at → IsOfToken f
blamed f at (syntax e) = subst IsOfToken (sym e) tt
blamed f at (unsupported e) = subst IsOfToken (sym e) tt
blamed f at (deep e) = subst IsOfToken (sym e) tt

stands : (f : DocFault) (text : List Token) (next : Span) → StandsIn f text next → IsOfToken f
stands f text next (behind h) = blamed f next h
stands f text next (refused us t vs e dotted is) = subst IsOfToken (sym is) tt
stands f text next (named us vs t ws e dotted upper h) = blamed f t.span h

reading_blames : (ts : List Token) (end : Span) (f : DocFault) → reading ts end ≡ Err f → IsOfToken f
reading_blames ts end f e = let first = document_fault ts end f e in stands f first.text (place_before first.rest end) first.place

told_fault : (bytes : List ℕ) (ts : List Token) (f : DocFault) → HasTokens bytes ts → (f ≢ NoMemory → reading ts (end_of bytes) ≡ Err f) → HasFault bytes f
told_fault bytes ts (Syntax at) has is = record { tokens = ts; has = has; is = is (λ e. cc) }
told_fault bytes ts (TooDeep at) has is = record { tokens = ts; has = has; is = is (λ e. cc) }
told_fault bytes ts (Unsupported at) has is = record { tokens = ts; has = has; is = is (λ e. cc) }
told_fault bytes ts NoMemory has is = tt
told_fault bytes ts f has is = absurd (reading_blames ts (end_of bytes) f (is (λ e. cc)))

pub told : (bytes : List ℕ) (ts : List Token) (r : Result Document DocFault) → HasTokens bytes ts → IfErr r (λ f. f ≢ NoMemory → reading ts (end_of bytes) ≡ Err f) → IfErr r (HasFault bytes)
told bytes ts (Ok d) has h = tt
told bytes ts (Err f) has h = told_fault bytes ts f has h
