-- Why there is no unit of which all is run.
use Rattle.std.proofs.Common.{◌≡◌, ◌∙◌, ℕ, ◌<◌, List, [], length, get_or, Option, None, Some, Result, Ok, Err, refl, sym, ap, subst, inl, inr}
use Rattle.std.proofs.lemmas.Option.{slice_get-get_or}
use Rattle.std.specs.Prelude.{IfSome, IfOk, IfErr}
use Rattle.outside.specs.Count.{Rose}
use Rattle.outside.specs.Store.{Store}
use Rattle.qml_ast.specs.declared.fault.DocFault.{DocFault}
use Rattle.qml_ast.specs.declared.fault.DocFault.TheVariants as doc
use Rattle.qml_ast.specs.declared.fault.LoadFault.{LoadFault}
use Rattle.qml_ast.specs.declared.fault.LoadFault.TheVariants as load
use Rattle.qml_types.specs.declared.component.ComponentType.{ComponentType, out-ComponentType}
use Rattle.stage_run.specs.declared.status.Status.{Status}
use Rattle.stage_run.specs.declared.status.Status.TheVariants as status
use Rattle.stage_run.specs.Causes.{RefusesDocument}
use Rattle.stage_run.specs.Documents.{HasFault, HasRunUnit, IsOfDocuments, IsUnrun}
use Rattle.stage_run.specs.Flaws.{TellsUnrun, document_status, load_status}
use Rattle.type_loader.specs.Entries.{Entries, IsSound}
use Rattle.type_loader.specs.Loads.{IsToldFault}
use Rattle.type_loader.specs.Units.{HasUnit}
use Rattle.type_loader.specs.declared.unit.Unit.{Unit as UnitOf}
use Rattle.unit_check.specs.Unrun.{first_unrun}
use Rattle.unit_check.specs.declared.unrun.Unrun.{Unrun}

-- what holds of all told files
if_told : (held : Option Store) (P : Store → Type 0) → ((files : Store) → held ≡ Some files → P files) → IfSome held P
if_told None P all = tt
if_told (Some files) P all = all files refl

-- nothing that is kept differs from the files
nothing_kept : (files : Store) (entries : Entries) → entries ≡ [] → IsSound files entries
nothing_kept files entries none = subst (IsSound files) (sym none) (record { each = λ file document stands. absurd cc })

-- a fault of one document
refused_by_document : (held : Option Store) (name : List ℕ) (before after : ℕ) (file : List ℕ) (fault : DocFault)
    → ((files : Store) → held ≡ Some files → IsToldFault files name (load.Doc file fault)) → RefusesDocument held name before after (document_status file fault)
refused_by_document held name before after file doc.NoMemory told = tt
refused_by_document held name before after file f told =
    (tt, if_told held (λ files. HasFault files name (load.Doc file f)) (λ files e. inl (told files e (λ same. cc) (λ same. cc))))

-- a fault of a load
refused_by_load : (held : Option Store) (name : List ℕ) (before after : ℕ) (fault : LoadFault)
    → ((files : Store) → held ≡ Some files → IsToldFault files name fault) → (fault ≡ load.Read → Rose before after) → RefusesDocument held name before after (load_status fault)
refused_by_load held name before after (load.Doc file fault) told rose = refused_by_document held name before after file fault told
refused_by_load held name before after load.Read told rose = rose refl
refused_by_load held name before after load.NoMemory told rose = tt
refused_by_load held name before after f told rose =
    (tt, if_told held (λ files. HasFault files name f) (λ files e. inl (told files e (λ same. cc) (λ same. cc))))

pub refused_loading : (held : Option Store) (name : List ℕ) (before after : ℕ) (fault : LoadFault) (kept : Entries) (s : Status) → kept ≡ [] → s ≡ load_status fault
    → ((files : Store) → held ≡ Some files → IsSound files kept → IsToldFault files name fault) → (fault ≡ load.Read → Rose before after) → RefusesDocument held name before after s
refused_loading held name before after fault kept s none is told rose =
    subst (RefusesDocument held name before after) (sym is)
    (refused_by_load held name before after fault (λ files e. told files e (nothing_kept files kept none)) rose)

-- a place that isn't run
refused_unrun : (held : Option Store) (name : List ℕ) (before after : ℕ) (unit : UnitOf) (s : Status)
    → ((files : Store) → held ≡ Some files → HasUnit files name unit) → TellsUnrun unit.components s → RefusesDocument held name before after s
refused_unrun held name before after unit status.Done has tells = absurd tells
refused_unrun held name before after unit status.Usage has tells = absurd tells
refused_unrun held name before after unit (status.BadScript line) has tells = absurd tells
refused_unrun held name before after unit (status.BadDocument fault) has tells = (
  subst IsOfDocuments (sym tells.told) tt,
  if_told held (λ files. HasFault files name fault) (λ files e. inr (record { unit = unit; has = has files e; unrun = tells })),
)
refused_unrun held name before after unit status.ReadFault has tells = absurd tells
refused_unrun held name before after unit status.WriteFault has tells = absurd tells
refused_unrun held name before after unit status.NoMemory has tells = tt

pub if_unrun : (held : Option Store) (name : List ℕ) (before after : ℕ) (unit : UnitOf) (kept : Entries) (r : Result UnitOf Status) → kept ≡ []
    → ((files : Store) → held ≡ Some files → IsSound files kept → HasUnit files name unit) → IfErr r (TellsUnrun unit.components) → IfErr r (RefusesDocument held name before after)
if_unrun held name before after unit kept (Ok same) none has tells = tt
if_unrun held name before after unit kept (Err s) none has tells =
    refused_unrun held name before after unit s (λ files e. has files e (nothing_kept files kept none)) tells

-- a unit of which all is run
pub if_run : (held : Option Store) (name : List ℕ) (unit : UnitOf) (kept : Entries) (r : Result UnitOf Status) → kept ≡ []
    → ((files : Store) → held ≡ Some files → IsSound files kept → HasUnit files name unit) → IfOk r (λ same. (same ≡ unit) × (first_unrun unit.components ≡ None))
    → IfOk r (λ same. IfSome held (λ files. HasRunUnit files name same))
if_run held name unit kept (Ok same) none has run =
    subst (λ u. IfSome held (λ files. HasRunUnit files name u)) (sym run.0)
    (if_told held (λ files. HasRunUnit files name unit) (λ files e. record { has = has files e (nothing_kept files kept none); all_run = run.1 }))
if_run held name unit kept (Err s) none has run = tt

-- the place of a document that stands there is told
pub unrun_told : (components : List ComponentType) (place : Unrun) (item : ComponentType) (name : List ℕ) → first_unrun components ≡ Some place
    → place.document < length components → item ≡ get_or components place.document item → name ≡ (out-ComponentType item).file
    → IsUnrun components (load.Doc name (doc.Unsupported place.at))
unrun_told components place item name first within stands is = record {
  place = place;
  first = first;
  component = item;
  stands = slice_get-get_or components place.document item within ∙ ap (λ c. Some c) (sym stands);
  told = ap (λ n. load.Doc n (doc.Unsupported place.at)) is;
}
