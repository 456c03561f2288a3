-- The laws of the canonical print, from that of documents' pieces and the laws of pieces, tokens and documents.
use Rattle.std.proofs.Common.{◌≡◌, ℕ, List, sym, subst}
use Rattle.document_laws.proofs.Reading.{document_once}
use Rattle.piece_laws.proofs.Lawful.{tokens_are_lawful}
use Rattle.piece_laws.proofs.Whole.{pieces_are_lexed}
use Rattle.piece_laws.specs.Pieces.{placed, start}
use Rattle.print_laws.specs.Laws.{SpellsAlike}
use Rattle.print_laws.proofs.Documents.{document_prints}
use Rattle.print_laws.proofs.OneText.{one_text}
use Rattle.qml_ast.specs.Alike.{IsAlike}
use Rattle.qml_ast.specs.declared.document.Document.{Document}
use Rattle.qml_grammar.specs.Canonical.{document_text}
use Rattle.qml_grammar.specs.DocumentGrammar.{IsDocument}
use Rattle.qml_tokens.specs.Spelled.{HasTokens, Spells}
use Rattle.qml_tokens.proofs.OneReading.{one_list}

-- the canonical text of a document that a text spells spells one like it
pub spells_alike : (bytes : List ℕ) (d : Document) → Spells bytes d → SpellsAlike (document_text d) d
spells_alike bytes d s =
    let p = document_prints s.document (tokens_are_lawful bytes s.tokens s.has) in
    record {
      other = p.other;
      spelled = record {
        tokens = placed start p.pieces;
        has = subst (λ t. HasTokens t (placed start p.pieces)) p.text_is (pieces_are_lexed p.pieces p.spaced p.lawful);
        document = p.spelled;
      };
      alike = p.alike;
    }

-- a text spells one document
one_document : (bytes : List ℕ) (x y : Document) → Spells bytes x → Spells bytes y → x ≡ y
one_document bytes x y s t =
    document_once t.tokens x y (subst (λ ts. IsDocument ts x) (one_list bytes s.tokens t.tokens s.has t.has) s.document) t.document

-- and so only such
pub only_alike : (bytes : List ℕ) (d other : Document) → Spells bytes d → Spells (document_text d) other → IsAlike d other
only_alike bytes d other s t =
    let a = spells_alike bytes d s in
    subst (λ x. IsAlike d x) (one_document (document_text d) a.other other a.spelled t) a.alike

-- and what it is parsed as has the same canonical text
pub same_again : (bytes : List ℕ) (d other : Document) → Spells bytes d → Spells (document_text d) other → document_text other ≡ document_text d
same_again bytes d other s t = sym (one_text d other (only_alike bytes d other s t))
