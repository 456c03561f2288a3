-- What an answer of a load says where the files are told, and what it leaves.
use Rattle.std.proofs.Common.{◌≡◌, ◌≢◌, ◌⊎◌, inl, inr, ℕ, List, [], ◌∷◌, Option, None, Some, Result, Ok, Err, IfOk, IfErr, refl, sym, ap, subst, ◌∙◌}
use Rattle.std.specs.FinMap.{get}
use Rattle.outside.specs.Count.{Rose}
use Rattle.outside.specs.Store.{Store}
use Rattle.qml_ast.specs.declared.fault.DocFault.{DocFault}
use Rattle.qml_ast.specs.declared.fault.LoadFault.{LoadFault}
use Rattle.qml_ast.specs.declared.fault.LoadFault.TheVariants as load
use Rattle.qml_ast.specs.declared.span.Span.{Span}
use Rattle.qml_types.specs.Compiled.{compiled}
use Rattle.qml_types.specs.declared.component.ComponentType.{ComponentType}
use Rattle.type_loader.specs.Entries.{Entries, AreKept, IsSound, with_sources}
use Rattle.type_loader.specs.Faults.{HasFlaw, IsFlawOf, fault_of, first_mention, missing_at}
use Rattle.type_loader.specs.Loads.{IsListed, IsLoaded, IsRefused, IsShown, IsStopped, IsStoppedAt, IsToldFault, IsUnlisted, IsUnloaded}
use Rattle.type_loader.specs.Naming.{file_of}
use Rattle.type_loader.specs.Order.{component_named, in_order, known_of, made_by, made_with, with_component}
use Rattle.type_loader.specs.Sources.{source_named}
use Rattle.type_loader.specs.Units.{AreTooMany, HasListFault, HasUnit, HasUnitFault, IsCyclic, IsFlawed, IsNoFile, IsUncompiled, IsUnlawful, ShowsFault}
use Rattle.type_loader.specs.declared.flaw.Flaw.{Flaw}
use Rattle.type_loader.specs.declared.flaw.Flaw.TheVariants as flaw
use Rattle.type_loader.specs.declared.made.Made.{Made}
use Rattle.type_loader.specs.declared.source.Source.{Source}
use Rattle.type_loader.specs.declared.unit.Unit.{Unit as UnitOf}
use Rattle.type_loader.proofs.Entering.{all_still_sound}

-- Compiling has faults of documents alone

with_no_read : (made : List Made) (s : Source) (r : Result ComponentType DocFault) → with_component made s r ≡ Err load.Read → ⊥
with_no_read made s (Ok c) h = absurd cc
with_no_read made s (Err why) h = absurd cc

step_no_read : (made : List Made) (o : Option Source) → made_with made o ≡ Err load.Read → ⊥
step_no_read made None h = absurd cc
step_no_read made (Some s) h = by (component_named made s.name) h
  where
    by : (o : Option ComponentType) → ◌≡◌ {A = Result (List Made) LoadFault} (elim o [ None ↦ with_component made s (compiled s.file s.document (known_of made)) | Some component ↦ Ok made ]) (Err load.Read) → ⊥
    by None h = with_no_read made s (compiled s.file s.document (known_of made)) h
    by (Some c) h = absurd cc

made_no_read : (sources : List Source) (made : List Made) (names : List (List ℕ)) → made_by sources made names ≡ Err load.Read → ⊥
made_no_read sources made [] h = absurd cc
made_no_read sources made (n ∷ names) h = by (made_with made (source_named sources n)) refl h (λ now e. made_no_read sources now names e)
  where
    by : (r : Result (List Made) LoadFault) → made_with made (source_named sources n) ≡ r → ◌≡◌ {A = Result (List Made) LoadFault} (elim r [ Ok now ↦ made_by sources now names | Err fault ↦ Err fault ]) (Err load.Read)
        → ((now : List Made) → made_by sources now names ≡ Err load.Read → ⊥) → ⊥
    by (Ok now) e h rest = rest now h
    by (Err fault) e h rest =
        let same : fault ≡ load.Read = cc in
        step_no_read made (source_named sources n) (e ∙ ap (λ f. Err f) same)

missing_no_read : (o : Option (List ℕ × Span)) (name : List ℕ) → missing_at o name ≡ load.Read → ⊥
missing_no_read None name h = absurd cc
missing_no_read (Some place) name h = absurd cc

shown_no_read : (root : List ℕ) (sources : List Source) (fault : LoadFault) → fault ≡ load.Read → ShowsFault root sources fault → ⊥
shown_no_read root sources fault read (inl x) =
    let told : fault ≡ load.TooMany = x.told in
    absurd cc
shown_no_read root sources fault read (inr (inl x)) = missing_no_read (first_mention sources x.name) x.name (sym x.told ∙ read)
shown_no_read root sources fault read (inr (inr (inl x))) =
    let told : fault ≡ load.Cycle x.cycle.file = x.cycle.told in
    absurd cc
shown_no_read root sources fault read (inr (inr (inr x))) = made_no_read sources [] (in_order root sources) (x.told ∙ ap (λ f. Err f) read)

-- a flaw that is told as a failed read is one
flaw_read : (held : Option Store) (file : List ℕ) (reads_before reads_after : ℕ) (sources : List Source) (name : List ℕ) (why : Flaw) → fault_of sources name why ≡ load.Read → IsFlawOf held file reads_before reads_after why → Rose reads_before reads_after
flaw_read held file reads_before reads_after sources name flaw.Missing h is = absurd (missing_no_read (first_mention sources name) name h)
flaw_read held file reads_before reads_after sources name flaw.TooLong h is = absurd cc
flaw_read held file reads_before reads_after sources name (flaw.Doc f) h is = absurd cc
flaw_read held file reads_before reads_after sources name flaw.Read h is = is
flaw_read held file reads_before reads_after sources name flaw.NoMemory h is = absurd cc

-- where the files are told, a flaw that is no failed read and no want of memory is the file's
flaw_told : (held : Option Store) (files : Store) (file : List ℕ) (reads_before reads_after : ℕ) (sources : List Source) (name : List ℕ) (why : Flaw) (fault : LoadFault) → held ≡ Some files → fault ≡ fault_of sources name why
    → fault ≢ load.NoMemory → fault ≢ load.Read → IsFlawOf held file reads_before reads_after why → HasFlaw (get files file) why
flaw_told held files file reads_before reads_after sources name flaw.Missing fault told is some read h = h files told
flaw_told held files file reads_before reads_after sources name flaw.TooLong fault told is some read h = h files told
flaw_told held files file reads_before reads_after sources name (flaw.Doc f) fault told is some read h = h files told
flaw_told held files file reads_before reads_after sources name flaw.Read fault told is some read h = absurd (read is)
flaw_told held files file reads_before reads_after sources name flaw.NoMemory fault told is some read h = absurd (some is)

module _ {F : Type 0} (held : Option Store) (old new : Entries) (before after : F) (reads_before reads_after : ℕ) (file : List ℕ) where
  -- a failed read
  read_rose : (fault : LoadFault) → IsUnloaded held old new before after reads_before reads_after file fault → fault ≡ load.Read → Rose reads_before reads_after
  read_rose fault unloaded read = by unloaded.is
    where
      unlisted : IsNoFile file fault ⊎ (fault ≡ load.NoMemory) → Rose reads_before reads_after
      unlisted (inl x) =
          let told : fault ≡ load.Missing file = x.told in
          absurd cc
      unlisted (inr none) = absurd cc

      stopped : (root : List ℕ) (sources : List Source) → IsShown old before after root sources fault ⊎ IsRefused held old reads_before reads_after root sources fault → Rose reads_before reads_after
      stopped root sources (inl (inl x, left)) = absurd (shown_no_read root sources fault read x)
      stopped root sources (inl (inr none, left)) = absurd cc
      stopped root sources (inr x) = flaw_read held (file_of x.name) reads_before reads_after sources x.name x.why (sym x.told ∙ read) x.flaw

      by : IsUnlisted old new before after file fault ⊎ IsStoppedAt held old new before after reads_before reads_after file fault → Rose reads_before reads_after
      by (inl x) = unlisted x.told
      by (inr x) = stopped x.root x.stopped.sources x.stopped.why

  pub if_read : (result : Result UnitOf LoadFault) → IfErr result (IsUnloaded held old new before after reads_before reads_after file) → IfErr result (λ fault. fault ≡ load.Read → Rose reads_before reads_after)
  if_read (Ok unit) unloaded = tt
  if_read (Err fault) unloaded = read_rose fault unloaded

  -- the unit of told files
  pub if_unit : (result : Result UnitOf LoadFault) → IfOk result (IsLoaded held old new before after file) → (files : Store) → held ≡ Some files → IsSound files old → IfOk result (HasUnit files file)
  if_unit (Ok unit) x files told sound = record { root = x.root; named = x.named; lawful = x.lawful; sources = x.sources; read = x.gathered.listed.read files told sound; made = x.made }
  if_unit (Err fault) x files told sound = tt

  -- or their fault
  told_fault : (fault : LoadFault) → IsUnloaded held old new before after reads_before reads_after file fault → (files : Store) → held ≡ Some files → IsSound files old → IsToldFault files file fault
  told_fault fault unloaded files told sound = λ some read. by some read unloaded.is
    where
      unlisted : fault ≢ load.NoMemory → IsNoFile file fault ⊎ (fault ≡ load.NoMemory) → HasUnitFault files file fault
      unlisted some (inl x) = inl x
      unlisted some (inr none) = absurd (some none)

      why : fault ≢ load.NoMemory → fault ≢ load.Read → (root : List ℕ) (sources : List Source) → IsShown old before after root sources fault ⊎ IsRefused held old reads_before reads_after root sources fault
          → ShowsFault root sources fault ⊎ IsFlawed files root sources fault
      why some read root sources (inl (inl x, left)) = inl x
      why some read root sources (inl (inr none, left)) = absurd (some none)
      why some read root sources (inr x) = inr (record {
        name = x.name;
        awaited = x.awaited;
        lawful = x.lawful;
        flaw = x.why;
        has = flaw_told held files (file_of x.name) reads_before reads_after sources x.name x.why fault told x.told some read x.flaw;
        told = x.told;
      })

      by : fault ≢ load.NoMemory → fault ≢ load.Read → IsUnlisted old new before after file fault ⊎ IsStoppedAt held old new before after reads_before reads_after file fault → HasUnitFault files file fault
      by some read (inl x) = unlisted some x.told
      by some read (inr x) = inr (record {
        root = x.root;
        named = x.named;
        lawful = x.lawful;
        sources = x.stopped.sources;
        read = x.stopped.listed.read files told sound;
        why = why some read x.root x.stopped.sources x.stopped.why;
      })

  pub if_fault : (result : Result UnitOf LoadFault) → IfErr result (IsUnloaded held old new before after reads_before reads_after file) → (files : Store) → held ≡ Some files → IsSound files old → IfErr result (IsToldFault files file)
  if_fault (Ok unit) unloaded files told sound = tt
  if_fault (Err fault) unloaded files told sound = told_fault fault unloaded files told sound

  listed_sound : (root : List ℕ) (sources : List Source) → IsListed held old new root sources → (files : Store) → held ≡ Some files → IsSound files old → IsSound files new
  listed_sound root sources listed files told sound = subst (λ es. IsSound files es) (sym listed.kept) (all_still_sound files old sources sound (listed.read files told sound))

  -- what is kept is what the files hold
  pub still_sound_after : (result : Result UnitOf LoadFault) → IfOk result (IsLoaded held old new before after file) → IfErr result (IsUnloaded held old new before after reads_before reads_after file)
      → (files : Store) → held ≡ Some files → IsSound files old → IsSound files new
  still_sound_after (Ok unit) x unloaded files told sound = listed_sound x.root x.sources x.gathered.listed files told sound
  still_sound_after (Err fault) x unloaded files told sound = by unloaded.is
    where
      by : IsUnlisted old new before after file fault ⊎ IsStoppedAt held old new before after reads_before reads_after file fault → IsSound files new
      by (inl u) = subst (λ es. IsSound files es) (sym u.same) sound
      by (inr s) = listed_sound s.root s.stopped.sources s.stopped.listed files told sound
