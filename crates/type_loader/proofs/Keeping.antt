-- Documents that are kept.
use Rattle.std.proofs.Common.{◌≡◌, ℕ, List, None, nat_eq}
use Rattle.std.specs.Cmp.Lexicographic.{pointwise}
use Rattle.indexmap.specs.IndexMap.{insert_entry}
use Rattle.indexmap.proofs.MapLemmas.{absent_from_lookup, insert_entry-absent}
use Rattle.qml_ast.specs.declared.document.Document.{Document}
use Rattle.type_loader.specs.Entries.{Entries, document_in, with_document}

-- a map to which a new key is added
pub inserted : (entries : Entries) (file : List ℕ) (document : Document) → document_in entries file ≡ None
    → insert_entry (pointwise nat_eq) entries file document ≡ with_document entries file document
inserted entries file document none =
    rw none (insert_entry-absent (pointwise nat_eq) file document entries (absent_from_lookup (pointwise nat_eq file) entries none))
