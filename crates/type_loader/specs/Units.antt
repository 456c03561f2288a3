-- What told files say of a document with all that it mentions: its unit, or the first fault.
use Rattle.std.specs.Prelude.{◌≡◌, ℕ, ◌<◌, ◌⊎◌, List, [], length, Option, Some, Ok, Err}
use Rattle.std.specs.FinMap.{get}
use Rattle.outside.specs.Store.{Store}
use Rattle.qml_ast.specs.declared.fault.LoadFault.{LoadFault}
use Rattle.qml_ast.specs.declared.fault.LoadFault.TheVariants as load
use Rattle.type_loader.specs.Cycles.{HasNoCycle, IsCycle}
use Rattle.type_loader.specs.Faults.{HasFlaw, fault_of}
use Rattle.type_loader.specs.Naming.{file_of, IsLawful}
use Rattle.type_loader.specs.Order.{in_order, made_by, components_of}
use Rattle.type_loader.specs.Sources.{AreAll, AreFirst, AreRead, list_limit, names_of, next_name}
use Rattle.type_loader.specs.declared.flaw.Flaw.{Flaw}
use Rattle.type_loader.specs.declared.flaw.Flaw.TheVariants as flaw
use Rattle.type_loader.specs.declared.made.Made.{Made}
use Rattle.type_loader.specs.declared.source.Source.{Source}
use Rattle.type_loader.specs.declared.unit.Unit.{Unit as UnitOf}

-- the documents, which are all of their list, are compiled to this unit
pub record AreMadeTo (root : List ℕ) (sources : List Source) (unit : UnitOf) : Type 0 where
  pub all : AreAll root sources
  pub no_cycle : HasNoCycle sources
  pub made : List Made
  pub are : made_by sources [] (in_order root sources) ≡ Ok made
  pub name : unit.name ≡ file_of root
  pub components : unit.components ≡ components_of made sources

-- more documents are named than a list may have
pub record AreTooMany (root : List ℕ) (sources : List Source) (fault : LoadFault) : Type 0 where
  pub first : AreFirst root sources
  pub full : length sources ≡ list_limit
  pub more : list_limit < length (names_of root sources)
  pub told : fault ≡ load.TooMany

-- the list goes on with this name, and may
pub record IsAwaited (root : List ℕ) (sources : List Source) (name : List ℕ) : Type 0 where
  pub first : AreFirst root sources
  pub few : length sources < list_limit
  pub next : next_name root sources ≡ Some name

-- the list goes on with a name that no file may have
pub record IsUnlawful (root : List ℕ) (sources : List Source) (fault : LoadFault) : Type 0 where
  pub name : List ℕ
  pub awaited : IsAwaited root sources name
  pub unlawful : IsLawful (file_of name) → ⊥
  pub told : fault ≡ fault_of sources name flaw.Missing

-- the list goes on with a name whose file has a flaw
pub record IsFlawed (files : Store) (root : List ℕ) (sources : List Source) (fault : LoadFault) : Type 0 where
  pub name : List ℕ
  pub awaited : IsAwaited root sources name
  pub lawful : IsLawful (file_of name)
  pub flaw : Flaw
  pub has : HasFlaw (get files (file_of name)) flaw
  pub told : fault ≡ fault_of sources name flaw

-- a document of the list leads to itself, and this is the first
pub record IsCyclic (root : List ℕ) (sources : List Source) (fault : LoadFault) : Type 0 where
  pub all : AreAll root sources
  pub cycle : IsCycle sources fault

-- a document of the list has no component type, and this is the first in the order of compiling
pub record IsUncompiled (root : List ℕ) (sources : List Source) (fault : LoadFault) : Type 0 where
  pub all : AreAll root sources
  pub no_cycle : HasNoCycle sources
  pub told : made_by sources [] (in_order root sources) ≡ Err fault

-- the documents, which are all of their list, are not compiled to a unit
pub record IsNotMade (root : List ℕ) (sources : List Source) (fault : LoadFault) : Type 0 where
  pub is : IsCyclic root sources fault ⊎ (IsUncompiled root sources fault ⊎ (fault ≡ load.NoMemory))

-- the list has a fault that these documents show by themselves
abbrev pub ShowsFault : List ℕ → List Source → LoadFault → Type 0
ShowsFault root sources fault =
    AreTooMany root sources fault ⊎ (IsUnlawful root sources fault ⊎ (IsCyclic root sources fault ⊎ IsUncompiled root sources fault))

-- the files' unit of that file
pub record HasUnit (files : Store) (file : List ℕ) (unit : UnitOf) : Type 0 where
  pub root : List ℕ
  pub named : file ≡ file_of root
  pub lawful : IsLawful file
  pub sources : List Source
  pub read : AreRead files sources
  pub made : AreMadeTo root sources unit

-- the files' list of documents that begins with that file has this fault
pub record HasListFault (files : Store) (file : List ℕ) (fault : LoadFault) : Type 0 where
  pub root : List ℕ
  pub named : file ≡ file_of root
  pub lawful : IsLawful file
  pub sources : List Source
  pub read : AreRead files sources
  pub why : ShowsFault root sources fault ⊎ IsFlawed files root sources fault

-- no file may have that name
pub record IsNoFile (file : List ℕ) (fault : LoadFault) : Type 0 where
  pub unlawful : IsLawful file → ⊥
  pub told : fault ≡ load.Missing file

-- the fault in the place of the files' unit of that file
abbrev pub HasUnitFault : Store → List ℕ → LoadFault → Type 0
HasUnitFault files file fault = IsNoFile file fault ⊎ HasListFault files file fault
