-- Documents that are kept beside others.
use Rattle.std.proofs.Common.{◌≡◌, ℕ, Bool, true, false, nat_eq, cond, List, [], ◌∷◌, ◌++◌, Option, None, Some, is_some, refl, sym, ap, subst, ◌∙◌, true≢false, if◌then◌else◌}
use Rattle.std.specs.Cmp.Lexicographic.{pointwise}
use Rattle.std.specs.FinMap.{get}
use Rattle.outside.specs.Store.{Store}
use Rattle.qml_ast.specs.declared.document.Document.{Document}
use Rattle.type_loader.specs.Entries.{Entries, AreKept, IsSound, document_in, with_document, with_sources}
use Rattle.type_loader.specs.Sources.{AreRead, HasDocument}
use Rattle.type_loader.specs.declared.source.Source.{Source}
use Rattle.type_loader.proofs.NameLists.{same_name}

in_front : (es fs : Entries) (file : List ℕ) → is_some (document_in es file) ≡ true → document_in (es ++ fs) file ≡ document_in es file
in_front [] fs file h = absurd (true≢false (sym h))
in_front (e ∷ es) fs file h =
    elim (pointwise nat_eq file e.0) as (λ b. is_some (cond b (Some e.1) (document_in es file)) ≡ true → cond b (Some e.1) (document_in (es ++ fs) file) ≡ cond b (Some e.1) (document_in es file)) [ true ↦ λ _. refl | false ↦ λ k. in_front es fs file k ] h

behind : (es fs : Entries) (file : List ℕ) → is_some (document_in es file) ≡ false → document_in (es ++ fs) file ≡ document_in fs file
behind [] fs file h = refl
behind (e ∷ es) fs file h =
    elim (pointwise nat_eq file e.0) as (λ b. is_some (cond b (Some e.1) (document_in es file)) ≡ false → cond b (Some e.1) (document_in (es ++ fs) file) ≡ document_in fs file) [ true ↦ λ k. absurd (true≢false k) | false ↦ λ k. behind es fs file k ] h

-- what was kept is kept still
pub still_kept : (es : Entries) (other file : List ℕ) (document : Document) → is_some (document_in es file) ≡ true → is_some (document_in (with_document es other document) file) ≡ true
still_kept es other file document h = by (is_some (document_in es other))
  where
    by : (b : Bool) → is_some (document_in (if b then es else es ++ (other, document) ∷ []) file) ≡ true
    by true = h
    by false = ap is_some (in_front es ((other, document) ∷ []) file h) ∙ h

pub all_still_kept : (es : Entries) (sources : List Source) (file : List ℕ) → is_some (document_in es file) ≡ true → is_some (document_in (with_sources es sources) file) ≡ true
all_still_kept es [] file h = h
all_still_kept es (s ∷ sources) file h = all_still_kept (with_document es s.file s.document) sources file (still_kept es s.file file s.document h)

-- a document that is found in one entry is that entry's
found_alone : (other file : List ℕ) (document found : Document) → document_in ((other, document) ∷ []) file ≡ Some found → (file ≡ other) × (document ≡ found)
found_alone other file document found h = by (pointwise nat_eq file other) refl h
  where
    by : (b : Bool) → pointwise nat_eq file other ≡ b → cond b (Some document) None ≡ Some found → (file ≡ other) × (document ≡ found)
    by true e h = (same_name file other e, cc)
    by false e h = absurd cc

-- with what a file holds, what is kept is sound still
pub still_sound : (files : Store) (es : Entries) (other : List ℕ) (document : Document) → IsSound files es → HasDocument (get files other) document → IsSound files (with_document es other document)
still_sound files es other document sound has = by (is_some (document_in es other))
  where
    one : (file : List ℕ) (found : Document) → (file ≡ other) × (document ≡ found) → HasDocument (get files file) found
    one file found same = subst (λ d. HasDocument (get files file) d) same.1 (subst (λ f. HasDocument (get files f) document) (sym same.0) has)

    in_all : (file : List ℕ) (found : Document) (b : Bool) → is_some (document_in es file) ≡ b → document_in (es ++ (other, document) ∷ []) file ≡ Some found → HasDocument (get files file) found
    in_all file found true e h = sound.each file found (sym (in_front es ((other, document) ∷ []) file e) ∙ h)
    in_all file found false e h = one file found (found_alone other file document found (sym (behind es ((other, document) ∷ []) file e) ∙ h))

    by : (b : Bool) → IsSound files (if b then es else es ++ (other, document) ∷ [])
    by true = sound
    by false = record { each = λ file found h. in_all file found (is_some (document_in es file)) refl h }

pub all_still_sound : (files : Store) (es : Entries) (sources : List Source) → IsSound files es → AreRead files sources → IsSound files (with_sources es sources)
all_still_sound files es [] sound read = sound
all_still_sound files es (s ∷ sources) sound read = all_still_sound files (with_document es s.file s.document) sources (still_sound files es s.file s.document sound read.0) read.1

-- One document more

pub read_one_more : (files : Store) (sources : List Source) (source : Source) → AreRead files sources → HasDocument (get files source.file) source.document → AreRead files (sources ++ source ∷ [])
read_one_more files [] source read has = (has, tt)
read_one_more files (s ∷ sources) source read has = (read.0, read_one_more files sources source read.1 has)

pub kept_but_one : (es : Entries) (sources : List Source) (source : Source) → AreKept es (sources ++ source ∷ []) → AreKept es sources × (is_some (document_in es source.file) ≡ true)
kept_but_one es [] source kept = (tt, kept.0)
kept_but_one es (s ∷ sources) source kept = let rest = kept_but_one es sources source kept.1 in ((kept.0, rest.0), rest.1)
