-- One level of a document, as the code goes through it.
use Rattle.std.proofs.Common.{◌≡◌, ◌∙◌, ℕ, map, fold, Option, None, Some, List, [], ◌∷◌, ◌++◌, refl, sym, ap}
use Rattle.std.proofs.lemmas.List.Sums.{fold-append}
use Rattle.std.specs.List.{flat_map}
use Rattle.qml_ast.specs.declared.decl.Decl.{Decl, out-Decl}
use Rattle.qml_ast.specs.declared.decl.Member.{Member}
use Rattle.qml_ast.specs.declared.fault.DocFault.{DocFault}
use Rattle.qml_types.specs.declared.mention.Mention.{Mention}
use Rattle.qml_types.specs.Faults.{told, earlier}
use Rattle.qml_types.specs.Known.{KnownTypes}
use Rattle.qml_types.specs.Mentions.{with_mention}
use Rattle.qml_types.specs.Parts.{Claim, Part, Reading}
use Rattle.qml_types.specs.Readings.{part_of, reading_of, scope_of, types_in}
use Rattle.qml_types.specs.Rules.{repeated, note, component_faults, object_faults, object_ids, faults_together, member_faults, own_faults, faults_within, member_ids}
use Rattle.qml_types.specs.Scope.{Scope}
use Rattle.qml_types.proofs.Turns.{told_repeated, reading_unrolled}

-- the state after the ids of a component
pub component_told : (known : KnownTypes) (reading : Reading) (first f2 f3 : Option DocFault) (start seen : List (List ℕ)) → start ≡ [] →
    f2 ≡ told first (reading.faults known) → (seen, f3) ≡ fold note (start, f2) (reading.ids known) → f3 ≡ told first (component_faults known reading)
unfolding component_faults
component_told known reading first f2 f3 start seen fresh own ids =
    ap (λ s. s.1) ids ∙ ap (λ s. (fold note (s, f2) (reading.ids known)).1) fresh ∙ sym (told_repeated (reading.ids known) f2 [])
    ∙ ap (λ f. told f (repeated [] (reading.ids known))) own ∙ sym (fold-append earlier first (reading.faults known) (repeated [] (reading.ids known)))

-- the rules on a member itself, and those on what stands in it
pub member_told : (scope : Scope) (part : Part) (first f2 f3 : Option DocFault) → f2 ≡ told first (own_faults scope part) →
    f3 ≡ told f2 (faults_within scope part) → f3 ≡ told first (member_faults scope part)
unfolding member_faults
member_told scope part first f2 f3 own within =
    within ∙ ap (λ f. told f (faults_within scope part)) own ∙ sym (fold-append earlier first (own_faults scope part) (faults_within scope part))

object_joined : (scope : Scope) (decl : Decl) (parts : List Part) →
    faults_together scope (out-Decl decl).span parts ++ flat_map (member_faults scope) parts ≡ object_faults scope (out-Decl decl).span parts
unfolding object_faults
object_joined scope decl parts = refl

-- the rules on an object's members together, and those on each of them
pub object_told : (decl : Decl) (known : KnownTypes) (scope : Scope) (members : List Member) (first f2 f3 : Option DocFault) →
    members ≡ (out-Decl decl).members → scope ≡ scope_of known (out-Decl decl).name (map part_of members) →
    f2 ≡ told first (faults_together scope (out-Decl decl).span (map part_of members)) →
    f3 ≡ told f2 (flat_map (member_faults scope) (map part_of members)) → f3 ≡ told first ((reading_of decl).faults known)
object_told decl known scope members first f2 f3 same seen together each =
    let parts = map part_of members in
    let X = flat_map (member_faults scope) parts in
    let T = faults_together scope (out-Decl decl).span parts in
    each ∙ ap (λ f. told f X) together ∙ sym (fold-append earlier first T X)
    ∙ ap (told first)
    (object_joined scope decl parts ∙ ap (λ s. object_faults s (out-Decl decl).span parts) seen
    ∙ ap (λ ms. object_faults (scope_of known (out-Decl decl).name (map part_of ms)) (out-Decl decl).span (map part_of ms)) same
    ∙ sym (ap (λ r. r.faults known) (reading_unrolled decl)))

ids_joined : (scope : Scope) (parts : List Part) → flat_map (member_ids scope) parts ≡ object_ids scope parts
unfolding object_ids
ids_joined scope parts = refl

-- the ids of an object's members
pub ids_told : (decl : Decl) (known : KnownTypes) (scope : Scope) (members : List Member) (before after : List (List ℕ) × Option DocFault) →
    members ≡ (out-Decl decl).members → scope ≡ scope_of known (out-Decl decl).name (map part_of members) →
    after ≡ fold note before (flat_map (member_ids scope) (map part_of members)) → after ≡ fold note before ((reading_of decl).ids known)
ids_told decl known scope members before after same seen each =
    each ∙ ap (fold note before)
    (ids_joined scope (map part_of members) ∙ ap (λ s. object_ids s (map part_of members)) seen
    ∙ ap (λ ms. object_ids (scope_of known (out-Decl decl).name (map part_of ms)) (map part_of ms)) same
    ∙ sym (ap (λ r. r.ids known) (reading_unrolled decl)))

-- the types that an object's declaration names
pub types_told : (decl : Decl) (members : List Member) (before m2 after : List Mention) → members ≡ (out-Decl decl).members →
    m2 ≡ with_mention before (record { name = (out-Decl decl).name; span = (out-Decl decl).span }) →
    after ≡ fold with_mention m2 (flat_map types_in (map part_of members)) → after ≡ fold with_mention before (reading_of decl).types
types_told decl members before m2 after same one rest =
    rest ∙ ap (λ m. fold with_mention m (flat_map types_in (map part_of members))) one
    ∙ ap (λ ms. fold with_mention (with_mention before (record { name = (out-Decl decl).name; span = (out-Decl decl).span })) (flat_map types_in (map part_of ms))) same
    ∙ sym (ap (λ r. fold with_mention before r.types) (reading_unrolled decl))
