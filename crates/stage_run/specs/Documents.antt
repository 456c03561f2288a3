-- What told files say of the main document: a unit of which all is run, or the fault in its place.
use Rattle.std.specs.Prelude.{◌≡◌, ℕ, ◌⊎◌, List, slice_get, None, Some}
use Rattle.outside.specs.Store.{Store}
use Rattle.qml_ast.specs.declared.fault.DocFault.{DocFault}
use Rattle.qml_ast.specs.declared.fault.DocFault.TheVariants as doc
use Rattle.qml_ast.specs.declared.fault.LoadFault.{LoadFault}
use Rattle.qml_ast.specs.declared.fault.LoadFault.TheVariants as load
use Rattle.qml_types.specs.declared.component.ComponentType.{ComponentType, out-ComponentType}
use Rattle.type_loader.specs.Units.{HasUnit, HasUnitFault}
use Rattle.type_loader.specs.declared.unit.Unit.{Unit as UnitOf}
use Rattle.unit_check.specs.Unrun.{first_unrun}
use Rattle.unit_check.specs.declared.unrun.Unrun.{Unrun}

-- the first place that isn't run of these documents is told, in its document's file
pub record IsUnrun (components : List ComponentType) (fault : LoadFault) : Type 0 where
  pub place : Unrun
  pub first : first_unrun components ≡ Some place
  pub component : ComponentType
  pub stands : slice_get components place.document ≡ Some component
  pub told : fault ≡ load.Doc (out-ComponentType component).file (doc.Unsupported place.at)

-- the files have this unit of the main document, and all of it is run
pub record HasRunUnit (files : Store) (main : List ℕ) (unit : UnitOf) : Type 0 where
  pub has : HasUnit files main unit
  pub all_run : first_unrun unit.components ≡ None

-- the files have a unit of the main document of which something isn't run, and the first such place is told
pub record HasUnrunUnit (files : Store) (main : List ℕ) (fault : LoadFault) : Type 0 where
  pub unit : UnitOf
  pub has : HasUnit files main unit
  pub unrun : IsUnrun unit.components fault

-- the fault in the place of a unit of which all is run
abbrev pub HasFault : Store → List ℕ → LoadFault → Type 0
HasFault files main fault = HasUnitFault files main fault ⊎ HasUnrunUnit files main fault

-- a fault of a document: want of memory is none
abbrev pub IsOfDocument : DocFault → Type 0
IsOfDocument doc.NoMemory = ⊥
IsOfDocument _ = Unit {0}

-- a fault of documents, as it can be without a look into the files: a failed read and want of memory are none
abbrev pub IsOfDocuments : LoadFault → Type 0
IsOfDocuments (load.Doc name fault) = IsOfDocument fault
IsOfDocuments load.Read = ⊥
IsOfDocuments load.NoMemory = ⊥
IsOfDocuments _ = Unit {0}
