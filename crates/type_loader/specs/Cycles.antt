-- Documents that reach themselves by mentions.
use Rattle.std.specs.Prelude.{◌≡◌, ℕ, ◌<◌, true, List, [], Option, None, Some, slice_get, map, fold}
use Rattle.qml_ast.specs.declared.fault.LoadFault.{LoadFault}
use Rattle.qml_ast.specs.declared.fault.LoadFault.TheVariants as load
use Rattle.type_loader.specs.Naming.{among, with_name}
use Rattle.type_loader.specs.Sources.{names_in, source_named}
use Rattle.type_loader.specs.declared.source.Source.{Source}

-- the names that a document mentions, if there is one
abbrev pub names_in_some : Option Source → List (List ℕ)
names_in_some None = []
names_in_some (Some source) = names_in source

-- the names that the document of that name mentions
abbrev pub mentioned_by : List Source → List ℕ → List (List ℕ)
mentioned_by sources name = names_in_some (source_named sources name)

-- one type leads to another by one mention or more
pub data Reaches (sources : List Source) (from : List ℕ) : List ℕ → Type 0 where
  one : (to : List ℕ) → among (mentioned_by sources from) to ≡ true → Reaches sources from to
  more : (by to : List ℕ) → Reaches sources from by → among (mentioned_by sources by) to ≡ true → Reaches sources from to

-- no document leads to itself
abbrev pub HasNoCycle : List Source → Type 0
HasNoCycle sources = (place : ℕ) (source : Source) → slice_get sources place ≡ Some source → Reaches sources source.name source.name → ⊥

-- the first document that leads to itself is this file
pub record IsFirstOnCycle (sources : List Source) (file : List ℕ) : Type 0 where
  pub place : ℕ
  pub source : Source
  pub stands : slice_get sources place ≡ Some source
  pub is : file ≡ source.file
  pub reaches : Reaches sources source.name source.name
  pub none_before : (earlier : ℕ) (other : Source) → earlier < place → slice_get sources earlier ≡ Some other → Reaches sources other.name other.name → ⊥

-- the fault tells it
pub record IsCycle (sources : List Source) (fault : LoadFault) : Type 0 where
  pub file : List ℕ
  pub is : IsFirstOnCycle sources file
  pub told : fault ≡ load.Cycle file

-- what a document mentions is a document too
pub record AreClosed (sources : List Source) : Type 0 where
  pub each : (from to : List ℕ) → among (mentioned_by sources from) to ≡ true → among (map (λ s. s.name) sources) to ≡ true

-- the names with what the document of one of them mentions, if there is one
abbrev pub followed_from : List Source → List (List ℕ) → Option (List ℕ) → List (List ℕ)
followed_from sources found None = found
followed_from sources found (Some name) = fold with_name found (mentioned_by sources name)

-- the names with what the document of the name of this place mentions
abbrev pub followed : List Source → ℕ → List (List ℕ) → List (List ℕ)
followed sources place found = followed_from sources found (slice_get found place)
