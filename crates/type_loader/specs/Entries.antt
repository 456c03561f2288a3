-- The documents that are kept by their files.
use Rattle.std.specs.Prelude.{◌≡◌, ℕ, nat_eq, true, List, [], ◌∷◌, ◌++◌, Option, Some, is_some, fold, if◌then◌else◌}
use Rattle.std.specs.Cmp.Lexicographic.{pointwise}
use Rattle.std.specs.Map.{lookup}
use Rattle.std.specs.FinMap.{get}
use Rattle.outside.specs.Store.{Store}
use Rattle.qml_ast.specs.declared.document.Document.{Document}
use Rattle.type_loader.specs.Sources.{HasDocument}
use Rattle.type_loader.specs.declared.source.Source.{Source}

-- documents by their files, in the order in which they came
abbrev pub Entries : Type 0
Entries = List (List ℕ × Document)

-- the document that is kept of a file
abbrev pub document_in : Entries → List ℕ → Option Document
document_in entries file = lookup (pointwise nat_eq file) entries

-- the documents with this one, which is kept where none was of its file
abbrev pub with_document : Entries → List ℕ → Document → Entries
with_document entries file document =
    if is_some (document_in entries file) then entries else entries ++ (file, document) ∷ []

-- the documents with these
abbrev pub with_sources : Entries → List Source → Entries
with_sources entries sources = fold (λ kept source. with_document kept source.file source.document) entries sources

-- each document is what the files hold of its file
pub record IsSound (files : Store) (entries : Entries) : Type 0 where
  pub each : (file : List ℕ) (document : Document) → document_in entries file ≡ Some document → HasDocument (get files file) document

-- where the files are told and the documents that are kept are what they hold
abbrev pub Truly : Option Store → Entries → (Store → Type 0) → Type 0
Truly held entries P = (files : Store) → held ≡ Some files → IsSound files entries → P files

-- the document of each of these is kept
abbrev pub AreKept : Entries → List Source → Type 0
AreKept entries [] = Unit {0}
AreKept entries (source ∷ sources) = (is_some (document_in entries source.file) ≡ true) × AreKept entries sources
