-- How a list of documents grows, and where it stops.
use Rattle.std.proofs.Common.{◌≡◌, ◌⊎◌, inl, inr, ℕ, ◌+◌, ◌<◌, ◌≤◌, true, false, Bool, List, [], ◌∷◌, ◌++◌, length, fold, slice_get, Option, None, Some, Result, Ok, Err, IfErr, is_some, true≢false, refl, sym, ap, subst, ◌∙◌, arith, length-append}
use Rattle.std.proofs.lemmas.Option.{slice_get_past}
use Rattle.outside.specs.Count.{Rose}
use Rattle.outside.specs.Store.{Store}
use Rattle.qml_ast.specs.declared.document.Document.{Document}
use Rattle.qml_ast.specs.declared.fault.LoadFault.{LoadFault}
use Rattle.qml_ast.specs.declared.fault.LoadFault.TheVariants as load
use Rattle.type_loader.specs.Entries.{Entries, AreKept, IsSound, document_in, with_document, with_sources}
use Rattle.type_loader.specs.Faults.{IsFlawOf}
use Rattle.type_loader.specs.Loads.{AreGathered, AreGrown, IsGrownBy, IsBarred, IsFaulty, IsHalted, IsListed, IsRefused, IsShown, IsStopped, IsTaken, RanOut}
use Rattle.type_loader.specs.Naming.{file_of}
use Rattle.type_loader.specs.Sources.{AreFirst, IsNext, names_of, next_name, with_mentions}
use Rattle.type_loader.specs.Units.{IsAwaited}
use Rattle.type_loader.specs.declared.flaw.Flaw.{Flaw}
use Rattle.type_loader.specs.declared.flaw.Flaw.TheVariants as flaw
use Rattle.type_loader.specs.declared.source.Source.{Source}
use Rattle.type_loader.proofs.Entering.{all_still_kept, all_still_sound, kept_but_one, read_one_more}
use Rattle.type_loader.proofs.Listing.{next_one_more}
use Rattle.type_loader.proofs.NameLists.{fold_append}

rose_before : (a b c : ℕ) → a ≤ b → Rose b c → Rose a c
rose_before a b c h rose = omega arith

-- what a later count shows of a flaw, an earlier one shows too
pub flaw_before : (held held' : Option Store) (file : List ℕ) (a b c : ℕ) (why : Flaw) → held' ≡ held → a ≤ b → IsFlawOf held' file b c why → IsFlawOf held file a c why
flaw_before held held' file a b c flaw.Missing same h is = λ files told. is files (same ∙ told)
flaw_before held held' file a b c flaw.TooLong same h is = λ files told. is files (same ∙ told)
flaw_before held held' file a b c (flaw.Doc fault) same h is = λ files told. is files (same ∙ told)
flaw_before held held' file a b c flaw.Read same h is = rose_before a b c h is
flaw_before held held' file a b c flaw.NoMemory same h is = tt

module _ {F : Type 0} (held : Option Store) (old : Entries) (before : F) (root : List ℕ) where
  -- nothing is read yet
  pub not_grown : AreGrown held old old before before root (root ∷ []) [] 0
  not_grown = record {
    named = refl;
    counted = refl;
    listed = record { first = record { each = tt; few = omega arith }; read = λ files told sound. tt; kept = refl };
    left = λ kept. refl;
  }

  pub not_grown_yet : (names : List (List ℕ)) (sources : List Source) → names ≡ root ∷ [] → sources ≡ [] → AreGrown held old old before before root names sources 0
  not_grown_yet names sources named none =
      subst (λ ns. AreGrown held old old before before root ns sources 0) (sym named) (subst (λ ss. AreGrown held old old before before root (root ∷ []) ss 0) (sym none) not_grown)

  module _ (now : Entries) (after : F) (names : List (List ℕ)) (sources : List Source) (count : ℕ) (grown : AreGrown held old now before after root names sources count) where
    awaited : (name : List ℕ) → count < 256 → slice_get names (length sources) ≡ Some name → IsAwaited root sources name
    awaited name few at = record {
      first = grown.listed.first;
      few = subst (λ n. n < 256) (sym grown.counted) few;
      next = subst (λ ns. slice_get ns (length sources) ≡ Some name) grown.named at;
    }

    -- one document more is read
    pub one_more : (new : Entries) (last : F) (held' : Option Store) (name : List ℕ) (source : Source) → held' ≡ held → count < 256
        → slice_get names (length sources) ≡ Some name → IsTaken held' now new after last name source
        → AreGrown held old new before last root (with_mentions names source) (sources ++ source ∷ []) (count + 1)
    one_more new last held' name source same few at taken =
        let longer : length (sources ++ source ∷ []) ≡ count + 1 = omega (arith, length-append sources (source ∷ []), grown.counted) in
        let place : 0 + length sources ≡ length sources = omega arith in
        let next : IsNext (names_of root sources) (length sources) source = record {
          named = subst (λ ns. slice_get ns (length sources) ≡ Some source.name) grown.named (at ∙ ap (λ n. Some n) (sym taken.named));
          file = taken.file;
          lawful = taken.lawful;
          mentions = taken.mentions;
        } in
        record {
          named = ap (λ ns. with_mentions ns source) grown.named ∙ sym (fold_append with_mentions (root ∷ []) sources (source ∷ []));
          counted = longer;
          listed = record {
            first = record {
              each = next_one_more (root ∷ []) 0 sources source grown.listed.first.each (subst (λ p. IsNext (names_of root sources) p source) (sym place) next);
              few = omega (arith, longer);
            };
            read = λ files told sound. read_one_more files sources source (grown.listed.read files told sound)
                (taken.had.read files (same ∙ told) (subst (λ es. IsSound files es) (sym grown.listed.kept) (all_still_sound files old sources sound (grown.listed.read files told sound))));
            kept = taken.had.kept ∙ (ap (λ es. with_document es source.file source.document) grown.listed.kept
                ∙ sym (fold_append (λ es s. with_document es s.file s.document) old sources (source ∷ [])));
          };
          left = λ kept. let split = kept_but_one old sources source kept in
              taken.had.left (subst (λ es. is_some (document_in es source.file) ≡ true) (sym grown.listed.kept) (all_still_kept old sources source.file split.1)) ∙ grown.left split.0;
        }

    -- the list stops where its documents show why, or memory ran out
    pub stopped_here : (reads_before reads_after : ℕ) (fault : LoadFault) → IsShown old before after root sources fault → IsStopped held old now before after reads_before reads_after root fault
    stopped_here reads_before reads_after fault shown = record { sources = sources; listed = grown.listed; why = inl shown }

    pub out_of_memory : (reads_before reads_after : ℕ) (fault : LoadFault) → fault ≡ load.NoMemory → IsStopped held old now before after reads_before reads_after root fault
    out_of_memory reads_before reads_after fault none = stopped_here reads_before reads_after fault (inr none, grown.left)

    -- the list stops at its next name
    pub stopped_at : (new : Entries) (last : F) (held' : Option Store) (first_reads reads_before reads_after : ℕ) (name : List ℕ) (fault : LoadFault) → held' ≡ held → first_reads ≤ reads_before
        → count < 256 → slice_get names (length sources) ≡ Some name → IsHalted held' now new after last reads_before reads_after sources name fault
        → IsStopped held old new before last first_reads reads_after root fault
    stopped_at new last held' first_reads reads_before reads_after name fault same earlier few at halted = by halted.is
      where
        barred : IsBarred now new after last sources name fault → IsStopped held old new before last first_reads reads_after root fault
        barred b = record {
          sources = sources;
          listed = record { first = grown.listed.first; read = grown.listed.read; kept = b.same ∙ grown.listed.kept };
          why = inl (inl (inr (inl (record { name = name; awaited = awaited name few at; unlawful = b.unlawful; told = b.told }))), λ kept. b.left ∙ grown.left kept);
        }

        absent : document_in now (file_of name) ≡ None → (o : Option Document) → document_in old (file_of name) ≡ o → o ≡ None
        absent none None e = refl
        absent none (Some document) e =
            let kept : is_some (document_in now (file_of name)) ≡ true = subst (λ es. is_some (document_in es (file_of name)) ≡ true) (sym grown.listed.kept) (all_still_kept old sources (file_of name) (ap is_some e)) in
            absurd (true≢false (sym kept ∙ ap is_some none))

        faulty : IsFaulty held' now new reads_before reads_after sources name fault → IsStopped held old new before last first_reads reads_after root fault
        faulty f = record {
          sources = sources;
          listed = record { first = grown.listed.first; read = grown.listed.read; kept = f.not_had.same ∙ grown.listed.kept };
          why = inr (record {
            name = name;
            awaited = awaited name few at;
            lawful = f.lawful;
            absent = absent f.not_had.absent (document_in old (file_of name)) refl;
            why = f.why;
            flaw = flaw_before held held' (file_of name) first_reads reads_before reads_after f.why same earlier f.not_had.flaw;
            told = f.told;
          });
        }

        ran_out : fault ≡ load.NoMemory → RanOut held' now new after last name → IsStopped held old new before last first_reads reads_after root fault
        ran_out none (inl nothing) = record {
          sources = sources;
          listed = record { first = grown.listed.first; read = grown.listed.read; kept = nothing.0 ∙ grown.listed.kept };
          why = inl (inr none, λ kept. nothing.1 ∙ grown.left kept);
        }
        ran_out none (inr had) =
            let more = one_more new last held' name had.0 same few at had.1 in
            record { sources = sources ++ had.0 ∷ []; listed = more.listed; why = inl (inr none, more.left) }

        by : IsBarred now new after last sources name fault ⊎ (IsFaulty held' now new reads_before reads_after sources name fault ⊎ ((fault ≡ load.NoMemory) × RanOut held' now new after last name)) → IsStopped held old new before last first_reads reads_after root fault
        by (inl b) = barred b
        by (inr (inl f)) = faulty f
        by (inr (inr m)) = ran_out m.0 m.1

    -- the list has an end
    pub at_its_end : slice_get names (length sources) ≡ None → AreGathered held old now before after root sources
    at_its_end none = record { listed = grown.listed; no_more = subst (λ ns. slice_get ns (length sources) ≡ None) grown.named none; left = grown.left }

    pub at_its_last : length names ≤ length sources → AreGathered held old now before after root sources
    at_its_last few = at_its_end (slice_get_past names (length sources) few)

    -- or is too long
    pub too_many : (reads_before reads_after : ℕ) → count ≡ 256 → length sources < length names → IsStopped held old now before after reads_before reads_after root load.TooMany
    too_many reads_before reads_after full more = stopped_here reads_before reads_after load.TooMany (
      inl (inl (record {
        first = grown.listed.first;
        full = grown.counted ∙ full;
        more = subst (λ ns. 256 < length ns) grown.named (subst (λ n. n < length names) (grown.counted ∙ full) more);
        told = refl;
      })),
      grown.left,
    )

    -- the same, where what was taken is said of the longer list
    pub grown_by : (new : Entries) (last : F) (held' : Option Store) (name : List ℕ) (more : List (List ℕ)) (longer : List Source) → held' ≡ held → count < 256
        → slice_get names (length sources) ≡ Some name → IsGrownBy held' now new after last name names more sources longer
        → AreGrown held old new before last root more longer (count + 1)
    grown_by new last held' name more longer same few at by =
        subst (λ ns. AreGrown held old new before last root ns longer (count + 1)) (sym by.named)
        (subst (λ ss. AreGrown held old new before last root (with_mentions names by.source) ss (count + 1)) (sym by.is)
        (one_more new last held' name by.source same few at by.taken))

    pub at_count : (name : Option (List ℕ)) → slice_get names count ≡ name → slice_get names (length sources) ≡ name
    at_count name at = subst (λ n. slice_get names n ≡ name) (sym grown.counted) at

    -- memory ran out, if the answer is a fault
    pub if_out : (reads_before reads_after : ℕ) (result : Result (List Source) LoadFault) → IfErr result (λ fault. fault ≡ load.NoMemory)
        → IfErr result (IsStopped held old now before after reads_before reads_after root)
    if_out reads_before reads_after (Ok all) none = tt
    if_out reads_before reads_after (Err fault) none = out_of_memory reads_before reads_after fault none

    -- the answer is that fault, if it is one
    pub if_stopped : (new : Entries) (last : F) (reads_before reads_after : ℕ) (fault : LoadFault) (result : Result (List Source) LoadFault) → IfErr result (λ f. f ≡ fault)
        → IsStopped held old new before last reads_before reads_after root fault → IfErr result (IsStopped held old new before last reads_before reads_after root)
    if_stopped new last reads_before reads_after fault (Ok all) same stopped = tt
    if_stopped new last reads_before reads_after fault (Err f) same stopped = subst (λ f. IsStopped held old new before last reads_before reads_after root f) (sym same) stopped
