-- Told files have one picture of a main document, or one fault in its place, and never both.
use Rattle.std.proofs.Common.{◌≡◌, ◌∙◌, ℕ, List, Option, Some, None, slice_get, sym, ap, inl, inr}
use Rattle.outside.specs.Store.{Store}
use Rattle.qml_ast.specs.declared.fault.DocFault.TheVariants as doc
use Rattle.qml_ast.specs.declared.fault.LoadFault.{LoadFault}
use Rattle.qml_ast.specs.declared.fault.LoadFault.TheVariants as load
use Rattle.qml_parse.proofs.OneReading.{one_document, one_text_fault, fault_apart}
use Rattle.qml_types.specs.declared.component.ComponentType.{ComponentType, out-ComponentType}
use Rattle.stage_run.specs.Documents.{HasFault, HasRunUnit, IsUnrun}
use Rattle.stage_run.specs.Shown.{picture_with, picture_of, notes_with, notes_of, started_first}
use Rattle.type_loader.specs.declared.unit.Unit.{Unit as UnitOf}
use Rattle.type_loader.specs.Units.{HasUnit}
use Rattle.type_loader.proofs.Once.{faults_once, never_both, units_once}
use Rattle.unit_check.specs.declared.unrun.Unrun.{Unrun}
use Rattle.unit_check.specs.Unrun.{first_unrun}

same_components : (files : Store) (main : List ℕ) (first second : UnitOf) → HasUnit files main first → HasUnit files main second → first.components ≡ second.components
same_components files main first second a b = (units_once one_document one_text_fault fault_apart files main first second a b).1

pub same_picture : (files : Store) (main : List ℕ) (first second : UnitOf) → HasRunUnit files main first → HasRunUnit files main second → picture_of first ≡ picture_of second
unfolding picture_of
same_picture files main first second a b = ap (λ cs. picture_with (started_first cs)) (same_components files main first second a.has b.has)

pub same_notes : (files : Store) (main : List ℕ) (first second : UnitOf) → HasRunUnit files main first → HasRunUnit files main second → notes_of first ≡ notes_of second
unfolding notes_of
same_notes files main first second a b = ap (λ cs. notes_with (started_first cs)) (same_components files main first second a.has b.has)

same_some : {A : Type 0} (o : Option A) (x y : A) → o ≡ Some x → o ≡ Some y → x ≡ y
same_some o x y e f = let both : ◌≡◌ {A = Option _} (Some x) (Some y) = sym e ∙ f in cc

-- documents have one first place that isn't run
same_unrun : (first second : List ComponentType) (e f : LoadFault) → first ≡ second → IsUnrun first e → IsUnrun second f → e ≡ f
same_unrun first second e f same a b =
    let place : a.place ≡ b.place = same_some (first_unrun second) a.place b.place (ap first_unrun (sym same) ∙ a.first) b.first in
    let component : a.component ≡ b.component = same_some (slice_get second b.place.document) a.component b.component
    (ap (λ (p : Unrun). slice_get second p.document) (sym place) ∙ (ap (λ cs. slice_get cs a.place.document) (sym same) ∙ a.stands)) b.stands in
    a.told
    ∙ (ap (λ (p : Unrun). load.Doc (out-ComponentType a.component).file (doc.Unsupported p.at)) place
    ∙ (ap (λ c. load.Doc (out-ComponentType c).file (doc.Unsupported b.place.at)) component ∙ sym b.told))

all_or_one : (first second : List ComponentType) (fault : LoadFault) → first ≡ second → first_unrun first ≡ None → IsUnrun second fault → ⊥
all_or_one first second fault same all a =
    let both : ◌≡◌ {A = Option Unrun} None (Some a.place) = sym all ∙ (ap first_unrun same ∙ a.first) in cc

pub no_fault_of : (files : Store) (main : List ℕ) (unit : UnitOf) (fault : LoadFault) → HasRunUnit files main unit → HasFault files main fault → ⊥
no_fault_of files main unit fault a (inl f) = never_both one_document one_text_fault fault_apart files main unit fault a.has f
no_fault_of files main unit fault a (inr b) = all_or_one unit.components (b.unit).components fault (same_components files main unit b.unit a.has b.has) a.all_run b.unrun

pub same_fault : (files : Store) (main : List ℕ) (first second : LoadFault) → HasFault files main first → HasFault files main second → first ≡ second
same_fault files main first second (inl f) (inl g) = faults_once one_document one_text_fault fault_apart files main first second f g
same_fault files main first second (inl f) (inr b) = absurd (never_both one_document one_text_fault fault_apart files main b.unit first b.has f)
same_fault files main first second (inr a) (inl g) = absurd (never_both one_document one_text_fault fault_apart files main a.unit second a.has g)
same_fault files main first second (inr a) (inr b) =
    same_unrun (a.unit).components (b.unit).components first second (same_components files main a.unit b.unit a.has b.has) a.unrun b.unrun
