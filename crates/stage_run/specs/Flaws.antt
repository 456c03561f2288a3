-- What the steps of a run say where they refuse.
use Rattle.std.specs.Prelude.{◌≡◌, ℕ, ◌≤◌, List, Option}
use Rattle.outside.specs.Bytes.{AppendsPart}
use Rattle.outside.specs.Count.{Rose}
use Rattle.qml_ast.specs.declared.fault.DocFault.{DocFault}
use Rattle.qml_ast.specs.declared.fault.DocFault.TheVariants as doc
use Rattle.qml_ast.specs.declared.fault.LoadFault.{LoadFault}
use Rattle.qml_ast.specs.declared.fault.LoadFault.TheVariants as load
use Rattle.qml_types.specs.declared.component.ComponentType.{ComponentType}
use Rattle.stage_run.specs.declared.journal.Move.{Move}
use Rattle.stage_run.specs.declared.status.Status.{Status}
use Rattle.stage_run.specs.declared.status.Status.TheVariants as status
use Rattle.stage_run.specs.Documents.{IsUnrun}
use Rattle.stage_run.specs.Moves.{commands}
use Rattle.stage_run.specs.Written.{copies}
use Rattle.stage_run.specs.Script.{IsFirstBadLine}

-- the status gives the first bad line of these bytes
abbrev pub IsBadScriptAt : List ℕ → Status → Type 0
IsBadScriptAt bytes status.Done = ⊥
IsBadScriptAt bytes status.Usage = ⊥
IsBadScriptAt bytes (status.BadScript line) = IsFirstBadLine bytes line
IsBadScriptAt bytes (status.BadDocument fault) = ⊥
IsBadScriptAt bytes status.ReadFault = ⊥
IsBadScriptAt bytes status.WriteFault = ⊥
IsBadScriptAt bytes status.NoMemory = ⊥

-- the first place that isn't run of these documents is told, unless memory ran out
abbrev pub TellsUnrun : List ComponentType → Status → Type 0
TellsUnrun components status.Done = ⊥
TellsUnrun components status.Usage = ⊥
TellsUnrun components (status.BadScript line) = ⊥
TellsUnrun components (status.BadDocument fault) = IsUnrun components fault
TellsUnrun components status.ReadFault = ⊥
TellsUnrun components status.WriteFault = ⊥
TellsUnrun components status.NoMemory = Unit {0}

-- a document's fault as a status: want of memory has one of its own
abbrev pub document_status : List ℕ → DocFault → Status
document_status name doc.NoMemory = status.NoMemory
document_status name fault = status.BadDocument (load.Doc name fault)

-- a load's fault as a status: a failed read and want of memory have statuses of their own
abbrev pub load_status : LoadFault → Status
load_status (load.Doc name fault) = document_status name fault
load_status load.Read = status.ReadFault
load_status load.NoMemory = status.NoMemory
load_status fault = status.BadDocument fault

-- the first commands moved, and a prefix of their copies of the image was written
pub record IsPrefix (image : List ℕ) (count : ℕ) (journal : List Move) (before after : Option (List ℕ)) : Type 0 where
  pub done : ℕ
  pub within : done ≤ count
  pub moves : journal ≡ commands done
  pub bytes : AppendsPart before after (copies image done)

-- why the frames stopped: a failed write, or want of memory
abbrev pub StopsWriting : List ℕ → ℕ → List Move → Option (List ℕ) → Option (List ℕ) → ℕ → ℕ → Status → Type 0
StopsWriting image count journal before after faults_before faults_after status.Done = ⊥
StopsWriting image count journal before after faults_before faults_after status.Usage = ⊥
StopsWriting image count journal before after faults_before faults_after (status.BadScript line) = ⊥
StopsWriting image count journal before after faults_before faults_after (status.BadDocument fault) = ⊥
StopsWriting image count journal before after faults_before faults_after status.ReadFault = ⊥
StopsWriting image count journal before after faults_before faults_after status.WriteFault =
    Rose faults_before faults_after × IsPrefix image count journal before after
StopsWriting image count journal before after faults_before faults_after status.NoMemory = IsPrefix image count journal before after
