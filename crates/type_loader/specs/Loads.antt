-- What a load says of the files, of what was kept before and of what is kept after.
use Rattle.std.specs.Prelude.{◌≡◌, ◌≢◌, ℕ, ◌⊎◌, true, List, [], ◌∷◌, ◌++◌, length, Option, None, Some, is_some}
use Rattle.std.specs.FinMap.{get}
use Rattle.outside.specs.Store.{Store}
use Rattle.qml_ast.specs.declared.document.Document.{Document}
use Rattle.qml_ast.specs.declared.fault.LoadFault.{LoadFault}
use Rattle.qml_ast.specs.declared.fault.LoadFault.TheVariants as load
use Rattle.qml_types.specs.Mentions.{mentions_of}
use Rattle.type_loader.specs.Entries.{Entries, AreKept, Truly, document_in, with_document, with_sources}
use Rattle.type_loader.specs.Faults.{IsFlawOf, fault_of}
use Rattle.type_loader.specs.Naming.{file_of, IsLawful}
use Rattle.type_loader.specs.Sources.{AreFirst, AreRead, HasDocument, names_of, next_name, with_mentions}
use Rattle.type_loader.specs.Units.{AreMadeTo, HasUnitFault, IsAwaited, IsNoFile, ShowsFault}
use Rattle.type_loader.specs.declared.flaw.Flaw.{Flaw}
use Rattle.type_loader.specs.declared.flaw.Flaw.TheVariants as flaw
use Rattle.type_loader.specs.declared.source.Source.{Source}
use Rattle.type_loader.specs.declared.unit.Unit.{Unit as UnitOf}

-- the document of a file is had from what was kept, and then nothing was fetched, or from the files, and then it is kept
pub record IsHad {F : Type 0} (held : Option Store) (old new : Entries) (before after : F) (file : List ℕ) (document : Document) : Type 0 where
  pub read : Truly held old (λ files. HasDocument (get files file) document)
  pub kept : new ≡ with_document old file document
  pub left : is_some (document_in old file) ≡ true → after ≡ before

-- the document of a file that was not kept is not had, and nothing more is kept
pub record IsNotHad (held : Option Store) (old new : Entries) (reads_before reads_after : ℕ) (file : List ℕ) (why : Flaw) : Type 0 where
  pub absent : document_in old file ≡ None
  pub same : new ≡ old
  pub flaw : IsFlawOf held file reads_before reads_after why

-- the document of a file is not had: memory ran out before anything was fetched, or the file has a flaw or could not be read
pub record IsWithout {F : Type 0} (held : Option Store) (old new : Entries) (before after : F) (reads_before reads_after : ℕ) (file : List ℕ) (why : Flaw) : Type 0 where
  pub is : ((why ≡ flaw.NoMemory) × (new ≡ old) × (after ≡ before)) ⊎ IsNotHad held old new reads_before reads_after file why

-- the document of a type that is next, in its file and with what it mentions
pub record IsTaken {F : Type 0} (held : Option Store) (old new : Entries) (before after : F) (name : List ℕ) (source : Source) : Type 0 where
  pub named : source.name ≡ name
  pub file : source.file ≡ file_of source.name
  pub lawful : IsLawful source.file
  pub mentions : source.mentions ≡ mentions_of source.document
  pub had : IsHad held old new before after source.file source.document

-- a document in its file, with what it mentions
abbrev pub source_with : List ℕ → List ℕ → Document → Source
source_with name file document = record { name = name; file = file; document = document; mentions = mentions_of document }

-- memory ran out, with nothing fetched or with a document that was had
abbrev pub RanOut : {F : Type 0} → Option Store → Entries → Entries → F → F → List ℕ → Type 0
RanOut held old new before after name = ((new ≡ old) × (after ≡ before)) ⊎ ((source : Source) × IsTaken held old new before after name source)

-- no file may have the name
pub record IsBarred {F : Type 0} (old new : Entries) (before after : F) (sources : List Source) (name : List ℕ) (fault : LoadFault) : Type 0 where
  pub unlawful : IsLawful (file_of name) → ⊥
  pub told : fault ≡ fault_of sources name flaw.Missing
  pub same : new ≡ old
  pub left : after ≡ before

-- the name's file was not kept, and has a flaw, or could not be read
pub record IsFaulty (held : Option Store) (old new : Entries) (reads_before reads_after : ℕ) (sources : List Source) (name : List ℕ) (fault : LoadFault) : Type 0 where
  pub lawful : IsLawful (file_of name)
  pub why : Flaw
  pub not_had : IsNotHad held old new reads_before reads_after (file_of name) why
  pub told : fault ≡ fault_of sources name why

-- the document of that type is not taken, behind these documents
pub record IsHalted {F : Type 0} (held : Option Store) (old new : Entries) (before after : F) (reads_before reads_after : ℕ) (sources : List Source) (name : List ℕ) (fault : LoadFault) : Type 0 where
  pub is : IsBarred old new before after sources name fault
      ⊎ (IsFaulty held old new reads_before reads_after sources name fault ⊎ ((fault ≡ load.NoMemory) × RanOut held old new before after name))

-- the first documents of a list are read, and are kept
pub record IsListed (held : Option Store) (old new : Entries) (root : List ℕ) (sources : List Source) : Type 0 where
  pub first : AreFirst root sources
  pub read : Truly held old (λ files. AreRead files sources)
  pub kept : new ≡ with_sources old sources

-- the list goes on with a name whose file was not kept, and has a flaw, or could not be read
pub record IsRefused (held : Option Store) (old : Entries) (reads_before reads_after : ℕ) (root : List ℕ) (sources : List Source) (fault : LoadFault) : Type 0 where
  pub name : List ℕ
  pub awaited : IsAwaited root sources name
  pub lawful : IsLawful (file_of name)
  pub absent : document_in old (file_of name) ≡ None
  pub why : Flaw
  pub flaw : IsFlawOf held (file_of name) reads_before reads_after why
  pub told : fault ≡ fault_of sources name why

-- the documents show the fault or memory ran out, and where all of them had been kept nothing was fetched
abbrev pub IsShown : {F : Type 0} → Entries → F → F → List ℕ → List Source → LoadFault → Type 0
IsShown old before after root sources fault =
    (ShowsFault root sources fault ⊎ (fault ≡ load.NoMemory)) × (AreKept old sources → after ≡ before)

-- one document more is taken, and what it mentions is named
pub record IsGrownBy {F : Type 0} (held : Option Store) (old new : Entries) (before after : F) (name : List ℕ) (names more : List (List ℕ)) (sources longer : List Source) : Type 0 where
  pub source : Source
  pub taken : IsTaken held old new before after name source
  pub named : more ≡ with_mentions names source
  pub is : longer ≡ sources ++ source ∷ []

-- so many documents of a list are read, which named these
pub record AreGrown {F : Type 0} (held : Option Store) (old new : Entries) (before after : F) (root : List ℕ) (names : List (List ℕ)) (sources : List Source) (count : ℕ) : Type 0 where
  pub named : names ≡ names_of root sources
  pub counted : length sources ≡ count
  pub listed : IsListed held old new root sources
  pub left : AreKept old sources → after ≡ before

-- the list of documents that begins with that type ends in a fault
pub record IsStopped {F : Type 0} (held : Option Store) (old new : Entries) (before after : F) (reads_before reads_after : ℕ) (root : List ℕ) (fault : LoadFault) : Type 0 where
  pub sources : List Source
  pub listed : IsListed held old new root sources
  pub why : IsShown old before after root sources fault ⊎ IsRefused held old reads_before reads_after root sources fault

-- the documents are all of their list, and where all of them had been kept nothing was fetched
pub record AreGathered {F : Type 0} (held : Option Store) (old new : Entries) (before after : F) (root : List ℕ) (sources : List Source) : Type 0 where
  pub listed : IsListed held old new root sources
  pub no_more : next_name root sources ≡ None
  pub left : AreKept old sources → after ≡ before

-- the unit of that file is made of all documents of its list
pub record IsLoaded {F : Type 0} (held : Option Store) (old new : Entries) (before after : F) (file : List ℕ) (unit : UnitOf) : Type 0 where
  pub root : List ℕ
  pub named : file ≡ file_of root
  pub lawful : IsLawful file
  pub sources : List Source
  pub gathered : AreGathered held old new before after root sources
  pub made : AreMadeTo root sources unit

-- no file may have that name, or memory ran out, and nothing has changed
pub record IsUnlisted {F : Type 0} (old new : Entries) (before after : F) (file : List ℕ) (fault : LoadFault) : Type 0 where
  pub told : IsNoFile file fault ⊎ (fault ≡ load.NoMemory)
  pub same : new ≡ old
  pub left : after ≡ before

-- the list of documents that begins with that file ends in a fault
pub record IsStoppedAt {F : Type 0} (held : Option Store) (old new : Entries) (before after : F) (reads_before reads_after : ℕ) (file : List ℕ) (fault : LoadFault) : Type 0 where
  pub root : List ℕ
  pub named : file ≡ file_of root
  pub lawful : IsLawful file
  pub stopped : IsStopped held old new before after reads_before reads_after root fault

-- there is no unit of that file
pub record IsUnloaded {F : Type 0} (held : Option Store) (old new : Entries) (before after : F) (reads_before reads_after : ℕ) (file : List ℕ) (fault : LoadFault) : Type 0 where
  pub is : IsUnlisted old new before after file fault ⊎ IsStoppedAt held old new before after reads_before reads_after file fault

-- a fault that is no want of memory and no failed read is the told files' fault of that file
abbrev pub IsToldFault : Store → List ℕ → LoadFault → Type 0
IsToldFault files file fault = fault ≢ load.NoMemory → fault ≢ load.Read → HasUnitFault files file fault
