-- How the parts of a run make its end.
use Rattle.std.proofs.Common.{◌≡◌, ℕ, ◌≤◌, List, [], Option, None, Some, refl, sym, ap, ◌∙◌, subst, inl, inr, arith}
use Rattle.std.specs.Prelude.{◌⊎◌, IfSome, IfErr, OnOk, Result, Ok, Err}
use Rattle.std.specs.FinMap.{get}
use Rattle.std.specs.Io.KnownBytes.{Keeps, Appends}
use Rattle.outside.proofs.Appending.{AppendsPart-kept, AppendsPart-whole}
use Rattle.outside.specs.Bytes.{AppendsPart}
use Rattle.outside.specs.Count.{Rose}
use Rattle.outside.specs.Store.{Store}
use Rattle.qml_ast.specs.declared.fault.LoadFault.{LoadFault}
use Rattle.rect_raster.specs.Picture.{Picture, ppm}
use Rattle.stage_run.specs.declared.status.Status.{Status}
use Rattle.stage_run.specs.declared.status.Status.TheVariants as status
use Rattle.stage_run.specs.Causes.{HasScript, HasBadScript, RefusesDocument, Accepts, Run, IsIdle, IsPart, Ends, HasCause, IsSound, IsDoneOrNoMemory}
use Rattle.stage_run.specs.Documents.{HasFault, HasRunUnit}
use Rattle.stage_run.specs.Flaws.{IsPrefix, StopsWriting}
use Rattle.stage_run.specs.Moves.{commands}
use Rattle.stage_run.specs.Shown.{picture_of, notes_of}
use Rattle.stage_run.specs.Words.{main_of, script_of}
use Rattle.stage_run.proofs.Starting.{start_holds}
use Rattle.stage_run.specs.Written.{image_of, copies, written}
use Rattle.stage_run.proofs.OneAnswer.{no_fault_of}
use Rattle.stage_run.proofs.ScriptLemmas.{script_is_good}
use Rattle.stage_run.proofs.WrittenFrames.{written-commands}
use Rattle.type_loader.specs.declared.unit.Unit.{Unit as UnitOf}

-- the two files that the words name
pub accepted : (held after : Option Store) (words : List (List ℕ)) (script main : List ℕ) (count : ℕ) (unit : UnitOf)
    → script ≡ script_of words → main ≡ main_of words → after ≡ held
    → IfSome held (λ files. HasScript (get files script) count) → IfSome after (λ files. HasRunUnit files main unit) → Accepts held words count unit
accepted held after words script main count unit e f same has_script has_unit =
    let P : Option Store → Type 0 = λ h. IfSome h (λ files. HasRunUnit files main unit) in
    both held words script main count unit e f has_script (subst P same has_unit)
  where
    both : (held : Option Store) (words : List (List ℕ)) (script main : List ℕ) (count : ℕ) (unit : UnitOf)
        → script ≡ script_of words → main ≡ main_of words
        → IfSome held (λ files. HasScript (get files script) count) → IfSome held (λ files. HasRunUnit files main unit) → Accepts held words count unit
    both None words script main count unit e f has_script has_unit = tt
    both (Some files) words script main count unit e f has_script has_unit =
        (subst (λ name. HasScript (get files name) count) e has_script, subst (λ name. HasRunUnit files name unit) f has_unit)

-- a canvas with a unit's picture has its image
pub image-drawn : (canvas : Picture) (unit : UnitOf) → canvas ≡ picture_of unit → ppm canvas ≡ image_of unit
unfolding image_of
image-drawn canvas unit e = ap ppm e

copies-written : (image : List ℕ) (unit : UnitOf) (n : ℕ) → image ≡ image_of unit → copies image n ≡ written unit (commands n)
copies-written image unit n e = ap (λ i. copies i n) e ∙ written-commands unit n

-- all frames were written
pub ended-whole : {A : Type 0} (r : Result A Status) (run : Run) (image told : List ℕ) (count : ℕ) (unit : UnitOf) → count ≤ 100000 → Accepts run.held run.words count unit → image ≡ image_of unit
    → told ≡ notes_of unit → Appends run.notes_before run.notes_after told → OnOk r (run.journal ≡ commands count) → OnOk r (Appends run.frames_before run.frames_after (copies image count)) → OnOk r (Ends run status.Done)
ended-whole (Ok a) run image told count unit few took e says noted moved wrote = (
  count,
  unit,
  record {
    few = few;
    accepted = took;
    settled = start_holds unit.components;
    moves = moved;
    bytes = subst (Appends run.frames_before run.frames_after) (copies-written image unit count e ∙ ap (written unit) (sym moved)) wrote;
    notes = subst (Appends run.notes_before run.notes_after) says noted;
  },
)
ended-whole (Err s) run image told count unit few took e says noted moved wrote = tt

-- the first frames, as a part of the run
part_of : (run : Run) (image told : List ℕ) (count : ℕ) (unit : UnitOf) → count ≤ 100000 → Accepts run.held run.words count unit → image ≡ image_of unit
    → told ≡ notes_of unit → Appends run.notes_before run.notes_after told → IsPrefix image count run.journal run.frames_before run.frames_after → (n : ℕ) × (done : ℕ) × (u : UnitOf) × IsPart run n done u
part_of run image told count unit few took e says noted part = (
  count,
  part.done,
  unit,
  record {
    few = few;
    within = part.within;
    accepted = took;
    settled = start_holds unit.components;
    moves = part.moves;
    bytes = subst (AppendsPart run.frames_before run.frames_after) (copies-written image unit part.done e ∙ ap (written unit) (sym part.moves)) part.bytes;
    notes = AppendsPart-whole run.notes_before run.notes_after (notes_of unit) (subst (Appends run.notes_before run.notes_after) says noted);
    noted_first = λ some. subst (Appends run.notes_before run.notes_after) says noted;
  },
)

-- the frames stopped
stopped_with : (run : Run) (s : Status) (image told : List ℕ) (count : ℕ) (unit : UnitOf) → count ≤ 100000 → Accepts run.held run.words count unit → image ≡ image_of unit
    → told ≡ notes_of unit → Appends run.notes_before run.notes_after told → StopsWriting image count run.journal run.frames_before run.frames_after run.writes_before run.writes_after s → Ends run s
stopped_with run status.Done image told count unit few took e says noted stopped = absurd stopped
stopped_with run status.Usage image told count unit few took e says noted stopped = stopped
stopped_with run (status.BadScript line) image told count unit few took e says noted stopped = absurd stopped
stopped_with run (status.BadDocument fault) image told count unit few took e says noted stopped = absurd stopped
stopped_with run status.ReadFault image told count unit few took e says noted stopped = absurd stopped
stopped_with run status.WriteFault image told count unit few took e says noted stopped = (inl stopped.0, part_of run image told count unit few took e says noted stopped.1)
stopped_with run status.NoMemory image told count unit few took e says noted stopped = inr (part_of run image told count unit few took e says noted stopped)

pub ended-stopped : {A : Type 0} (r : Result A Status) (run : Run) (image told : List ℕ) (count : ℕ) (unit : UnitOf) → count ≤ 100000 → Accepts run.held run.words count unit → image ≡ image_of unit
    → told ≡ notes_of unit → Appends run.notes_before run.notes_after told → IfErr r (StopsWriting image count run.journal run.frames_before run.frames_after run.writes_before run.writes_after) → IfErr r (Ends run)
ended-stopped (Ok a) run image told count unit few took e says noted stopped = tt
ended-stopped (Err s) run image told count unit few took e says noted stopped = stopped_with run s image told count unit few took e says noted stopped

-- what is noted was not written whole
pub ended-untold : (run : Run) (s : Status) (told : List ℕ) (count : ℕ) (unit : UnitOf) → count ≤ 100000 → Accepts run.held run.words count unit → told ≡ notes_of unit → run.journal ≡ [] →
    Keeps run.frames_before run.frames_after → AppendsPart run.notes_before run.notes_after told → Rose run.notings_before run.notings_after → s ≡ status.WriteFault → Ends run s
ended-untold run s told count unit few took says none kept noted rose is =
    subst (Ends run) (sym is) (
      inr rose,
      (
        count,
        0,
        unit,
        record {
          few = few;
          within = omega arith;
          accepted = took;
          settled = start_holds unit.components;
          moves = none;
          bytes = AppendsPart-kept run.frames_before run.frames_after (written unit run.journal) kept;
          notes = subst (AppendsPart run.notes_before run.notes_after) says noted;
          noted_first = λ some. absurd (some refl);
        },
      ),
    )

-- a lawful script, and beside it what the document's file has
beside : (held : Option Store) (words : List (List ℕ)) (count : ℕ) (fault : LoadFault) → IfSome held (λ files. HasScript (get files (script_of words)) count) → IfSome held (λ files. HasFault files (main_of words) fault)
    → IfSome held (λ files. ((n : ℕ) × HasScript (get files (script_of words)) n) × HasFault files (main_of words) fault)
beside None words count fault script document = tt
beside (Some files) words count fault script document = ((count, script), document)

-- the document was refused, behind a lawful script
pub ended-refused : (run : Run) (s : Status) (held : Option Store) (script main : List ℕ) (before count : ℕ) → IsIdle run → held ≡ run.held → script ≡ script_of run.words → main ≡ main_of run.words → run.reads_before ≤ before
    → IfSome run.held (λ files. HasScript (get files script) count) → RefusesDocument held main before run.reads_after s → Ends run s
ended-refused run status.Done held script main before count idle e f g later has refused = absurd refused
ended-refused run status.Usage held script main before count idle e f g later has refused = refused
ended-refused run (status.BadScript line) held script main before count idle e f g later has refused = absurd refused
ended-refused run (status.BadDocument fault) held script main before count idle e f g later has refused =
    let scripted = subst (λ name. IfSome run.held (λ files. HasScript (get files name) count)) f has in
    let flawed = subst (λ h. IfSome h (λ files. HasFault files (main_of run.words) fault)) e (subst (λ name. IfSome held (λ files. HasFault files name fault)) g refused.1) in
    (idle, refused.0, beside run.held run.words count fault scripted flawed)
ended-refused run status.ReadFault held script main before count idle e f g later has refused = (idle, omega (arith, refused, later))
ended-refused run status.WriteFault held script main before count idle e f g later has refused = absurd refused
ended-refused run status.NoMemory held script main before count idle e f g later has refused = inl idle

-- a script is no bad one
not_bad : (file : Option (List ℕ)) (count line : ℕ) → HasScript file count → HasBadScript file line → ⊥
not_bad None count line has bad = has
not_bad (Some bytes) count line has (inl long) = omega arith
not_bad (Some bytes) count line has (inr bad) = script_is_good bytes count line has.1 bad.1

-- with sound files nothing is refused
pub complete-cause : (run : Run) (s : Status) → HasCause run s → (files : Store) → IsSound run files → IsDoneOrNoMemory s
complete-cause run status.Done cause files sound = tt
complete-cause run status.Usage cause files sound = cause.1 sound.words
complete-cause run (status.BadScript line) cause files sound =
    let told = rw sound.told at cause.1.2 in not_bad (get files (script_of run.words)) sound.count line sound.script told
complete-cause run (status.BadDocument fault) cause files sound =
    let told = rw sound.told at cause.1.2 in no_fault_of files (main_of run.words) sound.unit fault sound.document told.1
complete-cause run status.ReadFault cause files sound = sound.reads cause.1.1
complete-cause run status.WriteFault cause files sound = either (cause.1).0
  where
    either : Rose run.writes_before run.writes_after ⊎ Rose run.notings_before run.notings_after → IsDoneOrNoMemory status.WriteFault
    either (inl rose) = sound.writes rose
    either (inr rose) = sound.notings rose
complete-cause run status.NoMemory cause files sound = tt
