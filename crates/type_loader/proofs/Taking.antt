-- A document that is taken, or why it is not.
use Rattle.std.proofs.Common.{◌≡◌, ◌⊎◌, inl, inr, ℕ, List, Option, Result, Ok, Err, IfErr, refl, ap, subst, ◌∙◌}
use Rattle.outside.specs.Store.{Store}
use Rattle.qml_ast.specs.declared.document.Document.{Document}
use Rattle.qml_ast.specs.declared.fault.LoadFault.{LoadFault}
use Rattle.qml_ast.specs.declared.fault.LoadFault.TheVariants as load
use Rattle.type_loader.specs.Entries.{Entries}
use Rattle.type_loader.specs.Faults.{IsTold, fault_of}
use Rattle.type_loader.specs.Loads.{IsHad, IsHalted, IsTaken, IsWithout, IsNotHad, source_with}
use Rattle.type_loader.specs.Naming.{file_of, IsLawful}
use Rattle.type_loader.specs.declared.flaw.Flaw.{Flaw}
use Rattle.type_loader.specs.declared.flaw.Flaw.TheVariants as flaw
use Rattle.type_loader.specs.declared.source.Source.{Source}

module _ {F : Type 0} (held : Option Store) (old new : Entries) (before after : F) (reads_before reads_after : ℕ) (sources : List Source) (name : List ℕ) (fault : LoadFault) where
  abbrev Halted : Type 0
  Halted = IsHalted held old new before after reads_before reads_after sources name fault

  -- no file may have the name
  pub halted_by_name : (IsLawful (file_of name) → ⊥) → IsTold sources name flaw.Missing fault → new ≡ old → after ≡ before → Halted
  halted_by_name unlawful told same left = by told.is
    where
      by : ((fault ≡ fault_of sources name flaw.Missing) ⊎ (fault ≡ load.NoMemory)) → Halted
      by (inl t) = record { is = inl (record { unlawful = unlawful; told = t; same = same; left = left }) }
      by (inr t) = record { is = inr (inr (t, inl (same, left))) }

  -- memory ran out before anything was done
  pub halted_at_once : fault ≡ load.NoMemory → new ≡ old → after ≡ before → Halted
  halted_at_once t same left = record { is = inr (inr (t, inl (same, left))) }

  -- the file is not had
  pub halted_by_flaw : (file : List ℕ) (why : Flaw) → file ≡ file_of name → IsLawful (file_of name) → IsWithout held old new before after reads_before reads_after file why → IsTold sources name why fault → Halted
  halted_by_flaw file why is lawful without told = by (subst (λ f. IsWithout held old new before after reads_before reads_after f why) is without).is told.is
    where
      by : ((why ≡ flaw.NoMemory) × (new ≡ old) × (after ≡ before)) ⊎ IsNotHad held old new reads_before reads_after (file_of name) why
          → ((fault ≡ fault_of sources name why) ⊎ (fault ≡ load.NoMemory)) → Halted
      by (inl none) (inl t) = halted_at_once (t ∙ ap (fault_of sources name) none.0) none.1 none.2
      by (inl none) (inr t) = halted_at_once t none.1 none.2
      by (inr not_had) (inl t) = record { is = inr (inl (record { lawful = lawful; why = why; not_had = not_had; told = t })) }
      by (inr not_had) (inr t) = record {
        is = inr (inl (record {
          lawful = lawful;
          why = flaw.NoMemory;
          not_had = record { absent = not_had.absent; same = not_had.same; flaw = tt };
          told = t;
        }));
      }

  -- memory ran out once the document was had
  pub halted_behind : (file : List ℕ) (document : Document) → file ≡ file_of name → IsLawful (file_of name) → IsHad held old new before after file document → fault ≡ load.NoMemory → Halted
  halted_behind file document is lawful had t = record {
    is = inr (inr (
      t,
      inr (
        source_with name (file_of name) document,
        record {
          named = refl;
          file = refl;
          lawful = lawful;
          mentions = refl;
          had = subst (λ f. IsHad held old new before after f document) is had;
        },
      ),
    ));
  }

-- memory ran out, if it did, once the document was had
pub if_halted : {F : Type 0} (held : Option Store) (old new : Entries) (before after : F) (reads_before reads_after : ℕ) (sources : List Source) (name file : List ℕ) (document : Document)
    (result : Result Source LoadFault) → file ≡ file_of name → IsLawful (file_of name) → IsHad held old new before after file document → IfErr result (λ fault. fault ≡ load.NoMemory)
    → IfErr result (IsHalted held old new before after reads_before reads_after sources name)
if_halted held old new before after reads_before reads_after sources name file document (Ok source) is lawful had none = tt
if_halted held old new before after reads_before reads_after sources name file document (Err fault) is lawful had none =
    halted_behind held old new before after reads_before reads_after sources name fault file document is lawful had none
