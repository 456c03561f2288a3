-- The list of documents that begins with one and grows by what each of them mentions.
use Rattle.std.specs.Prelude.{◌≡◌, ℕ, ◌+◌, ◌≤◌, nat_eq, List, [], ◌∷◌, length, map, fold, find, slice_get, Option, None, Some}
use Rattle.std.specs.Cmp.Lexicographic.{pointwise}
use Rattle.std.specs.FinMap.{get}
use Rattle.outside.specs.Store.{Store}
use Rattle.qml_ast.specs.declared.document.Document.{Document}
use Rattle.qml_tokens.specs.Spelled.{Spells}
use Rattle.qml_types.specs.Mentions.{mentions_of}
use Rattle.type_loader.specs.Naming.{file_of, IsLawful, with_name}
use Rattle.type_loader.specs.declared.source.Source.{Source}

-- the most bytes of a document, 1 MiB
abbrev pub document_limit : ℕ
document_limit = 1048576

-- the most documents of a list
abbrev pub list_limit : ℕ
list_limit = 256

-- the names of the types that a document mentions, by first mention
abbrev pub names_in : Source → List (List ℕ)
names_in source = map (λ m. m.name) source.mentions

-- the names with those that a document mentions
abbrev pub with_mentions : List (List ℕ) → Source → List (List ℕ)
with_mentions names source = fold with_name names (names_in source)

-- the names of a list that begins with this one and grows by what these documents mention
abbrev pub names_of : List ℕ → List Source → List (List ℕ)
names_of root sources = fold with_mentions (root ∷ []) sources

-- the name behind those of these documents
abbrev pub next_name : List ℕ → List Source → Option (List ℕ)
next_name root sources = slice_get (names_of root sources) (length sources)

-- the document stands at this place of the names, in its lawful file, with what it mentions
pub record IsNext (names : List (List ℕ)) (place : ℕ) (source : Source) : Type 0 where
  pub named : slice_get names place ≡ Some source.name
  pub file : source.file ≡ file_of source.name
  pub lawful : IsLawful source.file
  pub mentions : source.mentions ≡ mentions_of source.document

-- each of the documents is next in its turn, where so many are before them, which named these
abbrev pub AreNext : List (List ℕ) → ℕ → List Source → Type 0
AreNext names place [] = Unit {0}
AreNext names place (source ∷ sources) = IsNext names place source × AreNext (with_mentions names source) (place + 1) sources

-- the first documents of the list that begins with this type
pub record AreFirst (root : List ℕ) (sources : List Source) : Type 0 where
  pub each : AreNext (root ∷ []) 0 sources
  pub few : length sources ≤ list_limit

-- all documents of the list that begins with this type
pub record AreAll (root : List ℕ) (sources : List Source) : Type 0 where
  pub first : AreFirst root sources
  pub no_more : next_name root sources ≡ None

-- the file is this document
abbrev pub HasDocument : Option (List ℕ) → Document → Type 0
HasDocument None document = ⊥
HasDocument (Some bytes) document = (length bytes ≤ document_limit) × Spells bytes document

-- the documents are what the files hold
abbrev pub AreRead : Store → List Source → Type 0
AreRead files [] = Unit {0}
AreRead files (source ∷ sources) = HasDocument (get files source.file) source.document × AreRead files sources

-- the document of the type of that name
abbrev pub source_named : List Source → List ℕ → Option Source
source_named sources name = find (λ s. pointwise nat_eq name s.name) sources
