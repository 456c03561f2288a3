-- Why a run ended as it did.
use Rattle.std.specs.Prelude.{◌≡◌, ℕ, ◌<◌, ◌≤◌, ◌⊎◌, List, [], length, Option, None, Some, IfSome}
use Rattle.std.specs.FinMap.{get}
use Rattle.std.specs.Io.KnownBytes.{Keeps, Appends}
use Rattle.outside.specs.Bytes.{AppendsPart}
use Rattle.outside.specs.Count.{Rose}
use Rattle.outside.specs.Store.{Store}
use Rattle.stage_run.specs.declared.journal.Move.{Move}
use Rattle.stage_run.specs.declared.status.Status.{Status}
use Rattle.stage_run.specs.declared.status.Status.TheVariants as status
use Rattle.stage_run.specs.Documents.{HasRunUnit, HasFault, IsOfDocuments}
use Rattle.stage_run.specs.Moves.{commands}
use Rattle.stage_run.specs.Script.{IsScript, IsFirstBadLine}
use Rattle.stage_run.specs.Shown.{StartHolds, notes_of}
use Rattle.stage_run.specs.Words.{main_of, script_of, AreLawful}
use Rattle.stage_run.specs.Written.{written}
use Rattle.type_loader.specs.declared.unit.Unit.{Unit as UnitOf}

-- the most bytes of a script, 4 MiB
abbrev pub script_limit : ℕ
script_limit = 4194304

-- the file is a script of so many commands
abbrev pub HasScript : Option (List ℕ) → ℕ → Type 0
HasScript None count = ⊥
HasScript (Some bytes) count = (length bytes ≤ script_limit) × IsScript bytes count

-- the file is missing or too long, said as line 0, or this is its first bad line
abbrev pub HasBadScript : Option (List ℕ) → ℕ → Type 0
HasBadScript None line = line ≡ 0
HasBadScript (Some bytes) line =
    ((script_limit < length bytes) × (line ≡ 0)) ⊎ ((length bytes ≤ script_limit) × IsFirstBadLine bytes line)

-- where the files are told, the script has `count` commands and the main document is this unit, of which all is run
abbrev pub Accepts : Option Store → List (List ℕ) → ℕ → UnitOf → Type 0
Accepts held words count unit =
    IfSome held (λ files. HasScript (get files (script_of words)) count × HasRunUnit files (main_of words) unit)

-- why there are no commands: what the script's file has, or a failed read
abbrev pub RefusesScript : Option Store → List ℕ → ℕ → ℕ → Status → Type 0
RefusesScript held name before after status.Done = ⊥
RefusesScript held name before after status.Usage = ⊥
RefusesScript held name before after (status.BadScript line) = (line ≤ 100001) × IfSome held (λ files. HasBadScript (get files name) line)
RefusesScript held name before after (status.BadDocument fault) = ⊥
RefusesScript held name before after status.ReadFault = Rose before after
RefusesScript held name before after status.WriteFault = ⊥
RefusesScript held name before after status.NoMemory = Unit {0}

-- why there is no unit of which all is run: a fault of the documents, or a failed read
abbrev pub RefusesDocument : Option Store → List ℕ → ℕ → ℕ → Status → Type 0
RefusesDocument held name before after status.Done = ⊥
RefusesDocument held name before after status.Usage = ⊥
RefusesDocument held name before after (status.BadScript line) = ⊥
RefusesDocument held name before after (status.BadDocument fault) = IsOfDocuments fault × IfSome held (λ files. HasFault files name fault)
RefusesDocument held name before after status.ReadFault = Rose before after
RefusesDocument held name before after status.WriteFault = ⊥
RefusesDocument held name before after status.NoMemory = Unit {0}

-- what a run took and left: the words, the files, the counts of faults before and after, the bytes of
-- the frames and of the notes before and after, and the moves
pub record Run : Type 0 where
  pub words : List (List ℕ)
  pub held : Option Store
  pub reads_before : ℕ
  pub reads_after : ℕ
  pub writes_before : ℕ
  pub writes_after : ℕ
  pub notings_before : ℕ
  pub notings_after : ℕ
  pub frames_before : Option (List ℕ)
  pub frames_after : Option (List ℕ)
  pub notes_before : Option (List ℕ)
  pub notes_after : Option (List ℕ)
  pub journal : List Move

-- nothing moved and nothing was written
pub record IsIdle (r : Run) : Type 0 where
  pub no_moves : r.journal ≡ []
  pub no_bytes : Keeps r.frames_before r.frames_after
  pub no_notes : Keeps r.notes_before r.notes_after

-- every command of an accepted script was applied, the frames are those of an accepted unit, whose objects are
-- settled, and all is noted that its start tells
pub record IsWhole (r : Run) (count : ℕ) (unit : UnitOf) : Type 0 where
  pub few : count ≤ 100000
  pub accepted : Accepts r.held r.words count unit
  pub settled : StartHolds unit.components
  pub moves : r.journal ≡ commands count
  pub bytes : Appends r.frames_before r.frames_after (written unit r.journal)
  pub notes : Appends r.notes_before r.notes_after (notes_of unit)

-- the first commands of an accepted script were applied, a prefix of their frames was written, and a prefix of what the
-- start tells was noted: all of it where a command was applied
pub record IsPart (r : Run) (count done : ℕ) (unit : UnitOf) : Type 0 where
  pub few : count ≤ 100000
  pub within : done ≤ count
  pub accepted : Accepts r.held r.words count unit
  pub settled : StartHolds unit.components
  pub moves : r.journal ≡ commands done
  pub bytes : AppendsPart r.frames_before r.frames_after (written unit r.journal)
  pub notes : AppendsPart r.notes_before r.notes_after (notes_of unit)
  pub noted_first : (done ≡ 0 → ⊥) → Appends r.notes_before r.notes_after (notes_of unit)

-- the cause of each status, after lawful words
abbrev pub Ends : Run → Status → Type 0
Ends r status.Done = (count : ℕ) × (unit : UnitOf) × IsWhole r count unit
Ends r status.Usage = ⊥
Ends r (status.BadScript line) =
    IsIdle r × (line ≤ 100001) × IfSome r.held (λ files. HasBadScript (get files (script_of r.words)) line)
Ends r (status.BadDocument fault) =
    IsIdle r × IsOfDocuments fault
    × IfSome r.held (λ files. ((count : ℕ) × HasScript (get files (script_of r.words)) count) × HasFault files (main_of r.words) fault)
Ends r status.ReadFault = IsIdle r × Rose r.reads_before r.reads_after
Ends r status.WriteFault = (Rose r.writes_before r.writes_after ⊎ Rose r.notings_before r.notings_after) × ((count : ℕ) × (done : ℕ) × (unit : UnitOf) × IsPart r count done unit)
Ends r status.NoMemory = IsIdle r ⊎ ((count : ℕ) × (done : ℕ) × (unit : UnitOf) × IsPart r count done unit)

-- the words aren't lawful and nothing moved, or they are and the status has its cause
abbrev pub HasCause : Run → Status → Type 0
HasCause r status.Done = AreLawful r.words × Ends r status.Done
HasCause r status.Usage = IsIdle r × (AreLawful r.words → ⊥)
HasCause r (status.BadScript line) = AreLawful r.words × Ends r (status.BadScript line)
HasCause r (status.BadDocument fault) = AreLawful r.words × Ends r (status.BadDocument fault)
HasCause r status.ReadFault = AreLawful r.words × Ends r status.ReadFault
HasCause r status.WriteFault = AreLawful r.words × Ends r status.WriteFault
HasCause r status.NoMemory = AreLawful r.words × Ends r status.NoMemory

-- the run was done, or memory ran out
abbrev pub IsDoneOrNoMemory : Status → Type 0
IsDoneOrNoMemory status.Done = Unit {0}
IsDoneOrNoMemory status.Usage = ⊥
IsDoneOrNoMemory (status.BadScript line) = ⊥
IsDoneOrNoMemory (status.BadDocument fault) = ⊥
IsDoneOrNoMemory status.ReadFault = ⊥
IsDoneOrNoMemory status.WriteFault = ⊥
IsDoneOrNoMemory status.NoMemory = Unit {0}

-- told files with a lawful script and a main document of which all is run, and no read or write that failed
pub record IsSound (r : Run) (files : Store) : Type 0 where
  pub told : r.held ≡ Some files
  pub words : AreLawful r.words
  pub count : ℕ
  pub script : HasScript (get files (script_of r.words)) count
  pub unit : UnitOf
  pub document : HasRunUnit files (main_of r.words) unit
  pub reads : Rose r.reads_before r.reads_after → ⊥
  pub writes : Rose r.writes_before r.writes_after → ⊥
  pub notings : Rose r.notings_before r.notings_after → ⊥

-- what a run took and left, from its parts: of what has changed, what was before and after
abbrev pub run_of : List (List ℕ) → Option Store → ℕ × ℕ → ℕ × ℕ → ℕ × ℕ → Option (List ℕ) × Option (List ℕ) → Option (List ℕ) × Option (List ℕ) → List Move → Run
run_of words held reads writes notings frames notes journal = record {
  words = words;
  held = held;
  reads_before = reads.0;
  reads_after = reads.1;
  writes_before = writes.0;
  writes_after = writes.1;
  notings_before = notings.0;
  notings_after = notings.1;
  frames_before = frames.0;
  frames_after = frames.1;
  notes_before = notes.0;
  notes_after = notes.1;
  journal = journal;
}
