-- Why a document of a list is not there, and what is told of it.
use Rattle.std.specs.Prelude.{◌≡◌, ◌≢◌, ◌⊎◌, ℕ, ◌<◌, ◌≤◌, nat_eq, List, [], ◌∷◌, length, find, Option, None, Some}
use Rattle.std.specs.Cmp.Lexicographic.{pointwise}
use Rattle.std.specs.FinMap.{get}
use Rattle.outside.specs.Count.{Rose}
use Rattle.outside.specs.Store.{Store}
use Rattle.qml_ast.specs.declared.fault.DocFault.{DocFault}
use Rattle.qml_ast.specs.declared.fault.DocFault.TheVariants as doc
use Rattle.qml_ast.specs.declared.fault.LoadFault.{LoadFault}
use Rattle.qml_ast.specs.declared.fault.LoadFault.TheVariants as load
use Rattle.qml_ast.specs.declared.span.Span.{Span}
use Rattle.qml_tokens.specs.Spelled.{HasFault}
use Rattle.qml_types.specs.declared.mention.Mention.{Mention}
use Rattle.type_loader.specs.Naming.{file_of}
use Rattle.type_loader.specs.Sources.{document_limit}
use Rattle.type_loader.specs.declared.flaw.Flaw.{Flaw}
use Rattle.type_loader.specs.declared.flaw.Flaw.TheVariants as flaw
use Rattle.type_loader.specs.declared.source.Source.{Source}

-- the file has this flaw
abbrev pub HasFlaw : Option (List ℕ) → Flaw → Type 0
HasFlaw None flaw.Missing = Unit {0}
HasFlaw None _ = ⊥
HasFlaw (Some bytes) flaw.TooLong = document_limit < length bytes
HasFlaw (Some bytes) (flaw.Doc fault) = (length bytes ≤ document_limit) × (fault ≢ doc.NoMemory) × HasFault bytes fault
HasFlaw (Some bytes) _ = ⊥

-- what a fetch of the file and its parse say: a flaw that the file has where the files are told, or a failed read, or want of memory
abbrev pub IsFlawOf : Option Store → List ℕ → ℕ → ℕ → Flaw → Type 0
IsFlawOf held file before after flaw.Missing = (files : Store) → held ≡ Some files → HasFlaw (get files file) flaw.Missing
IsFlawOf held file before after flaw.TooLong = (files : Store) → held ≡ Some files → HasFlaw (get files file) flaw.TooLong
IsFlawOf held file before after (flaw.Doc fault) = (files : Store) → held ≡ Some files → HasFlaw (get files file) (flaw.Doc fault)
IsFlawOf held file before after flaw.Read = Rose before after
IsFlawOf held file before after flaw.NoMemory = Unit {0}

-- where a document mentions this name
abbrev pub mention_in : Source → List ℕ → Option Mention
mention_in source name = find (λ m. pointwise nat_eq name m.name) source.mentions

-- the first of the documents that mentions this name, and where it does
abbrev pub first_mention : List Source → List ℕ → Option (List ℕ × Span)
first_mention [] name = None
first_mention (source ∷ sources) name = elim (mention_in source name) [ None ↦ first_mention sources name | Some m ↦ Some (source.file, m.span) ]

-- the file of the list's first name is missing, and another's type is unknown where it is mentioned first
abbrev pub missing_at : Option (List ℕ × Span) → List ℕ → LoadFault
missing_at None name = load.Missing (file_of name)
missing_at (Some place) name = load.Doc place.0 (doc.UnknownType place.1)

-- what is told of a flaw of the document of that name, which these documents mention
abbrev pub fault_of : List Source → List ℕ → Flaw → LoadFault
fault_of sources name flaw.Missing = missing_at (first_mention sources name) name
fault_of sources name flaw.TooLong = load.TooLong (file_of name)
fault_of sources name (flaw.Doc fault) = load.Doc (file_of name) fault
fault_of sources name flaw.Read = load.Read
fault_of sources name flaw.NoMemory = load.NoMemory

-- the fault tells the flaw, or memory ran out
pub record IsTold (sources : List Source) (name : List ℕ) (why : Flaw) (fault : LoadFault) : Type 0 where
  pub is : (fault ≡ fault_of sources name why) ⊎ (fault ≡ load.NoMemory)
