-- The canonical text of a document that some text spells is answered by a document that differs in places at most.
use Rattle.std.proofs.Common.{◌≡◌, ◌⊎◌, inl, inr, ℕ, List, Result, Ok, Err, IfOk, IfErr, refl, sym, subst}
use Rattle.print_laws.proofs.Law.{spells_alike}
use Rattle.print_laws.specs.Laws.{SpellsAlike}
use Rattle.qml_ast.specs.Alike.{IsAlike}
use Rattle.qml_ast.specs.declared.document.Document.{Document}
use Rattle.qml_ast.specs.declared.fault.DocFault.{DocFault}
use Rattle.qml_ast.specs.declared.fault.DocFault.TheVariants.{NoMemory}
use Rattle.qml_grammar.specs.Canonical.{document_text}
use Rattle.qml_tokens.specs.Spelled.{Spells}
use Rattle.round_trip.specs.Answers.{IsComplete}

abbrev pub IsBack : Document → Result Document DocFault → Type 0
IsBack d answer = IfOk answer (IsAlike d) × IfErr answer (λ f. f ≡ NoMemory)

answered : (d x : Document) (answer : Result Document DocFault) → IsAlike d x → (answer ≡ Ok x) ⊎ (answer ≡ Err NoMemory) → IsBack d answer
answered d x answer alike (inl e) = subst (IsBack d) (sym e) (alike, tt)
answered d x answer alike (inr e) = subst (IsBack d) (sym e) (tt, refl)

pub comes_back : (text bytes : List ℕ) (d : Document) (answer : Result Document DocFault) → Spells text d → bytes ≡ document_text d → IsComplete bytes answer → IsBack d answer
comes_back text bytes d answer s e complete =
    let again = spells_alike text d s in
    answered d again.other answer again.alike (complete again.other (subst (λ b. Spells b again.other) (sym e) again.spelled))
