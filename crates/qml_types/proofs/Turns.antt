-- Loops over the members of an object, which go on with what the members that are left give.
use Rattle.std.proofs.Common.{◌≡◌, ◌∙◌, ℕ, ◌+◌, ◌<◌, ◌≤◌, Bool, true, false, not, if◌then◌else◌, length, get_or, drop, map, fold, Option, None, Some, List, [], ◌∷◌, ◌++◌, append_assoc, refl, sym, ap, subst, add-one, rules, arith}
use Rattle.std.proofs.Math.Seq.{drop-cons}
use Rattle.std.proofs.lemmas.List.Sums.{fold-append}
use Rattle.std.specs.List.{flat_map}
use Rattle.qml_ast.specs.declared.decl.Decl.{Decl, out-Decl}
use Rattle.qml_ast.specs.declared.decl.Init.{the_lemmas}
use Rattle.qml_ast.specs.declared.decl.Member.{Member}
use Rattle.qml_ast.specs.declared.fault.DocFault.{DocFault}
use Rattle.qml_types.specs.Faults.{told, earlier}
use Rattle.qml_types.specs.Parts.{Claim, Part, Reading}
use Rattle.qml_types.specs.Readings.{part_of, reading_of, decl_step}
use Rattle.qml_types.specs.Rules.{among, with_name, repeated, note}

-- the parts that are left begin with that of the member at hand
pub left_parts : (members : List Member) (i : ℕ) (member : Member) → member ≡ get_or members i member → i < length members →
    map part_of (drop i members) ≡ part_of member ∷ map part_of (drop (i + 1) members)
left_parts members i member is inside =
    let P : Member → Type 0 = λ m. map part_of (drop i members) ≡ part_of m ∷ map part_of (drop (i + 1) members) in
    let front : drop i members ≡ get_or members i member ∷ drop (i + 1) members = rw add-one (drop-cons members i member inside) in
    subst P (sym is) (ap (map part_of) front)

-- a turn of a loop that goes through what each member gives
pub turn : {A B : Type 0} (g : B → A → B) (f : Part → List A) (members : List Member) (i : ℕ) (member : Member) (before after goal : B) →
    member ≡ get_or members i member → i < length members → after ≡ fold g before (f (part_of member)) →
    fold g before (flat_map f (map part_of (drop i members))) ≡ goal → fold g after (flat_map f (map part_of (drop (i + 1) members))) ≡ goal
turn g f members i member before after goal is inside step so_far =
    let rest = map part_of (drop (i + 1) members) in
    ap (λ s. fold g s (flat_map f rest)) step ∙ sym (fold-append g before (f (part_of member)) (flat_map f rest))
    ∙ ap (λ ps. fold g before (flat_map f ps)) (sym (left_parts members i member is inside)) ∙ so_far

-- a turn of a loop that takes each member as a whole
pub whole_turn : {B : Type 0} (g : B → Part → B) (members : List Member) (i : ℕ) (member : Member) (before after goal : B) →
    member ≡ get_or members i member → i < length members → after ≡ g before (part_of member) →
    fold g before (map part_of (drop i members)) ≡ goal → fold g after (map part_of (drop (i + 1) members)) ≡ goal
whole_turn g members i member before after goal is inside step so_far =
    ap (λ s. fold g s (map part_of (drop (i + 1) members))) step
    ∙ ap (fold g before) (sym (left_parts members i member is inside)) ∙ so_far

-- ---- names that are given twice
one_more : (found : Option DocFault) (seen : List (List ℕ)) (claim : Claim) (claims : List Claim) →
    told found (repeated seen (claim ∷ claims)) ≡ told (note (seen, found) claim).1 (repeated (with_name seen claim.name) claims)
unfolding note
one_more found seen claim claims =
    fold-append earlier found (if among seen claim.name then claim.again ∷ [] else []) (repeated (with_name seen claim.name) claims)

seen_then : (found : Option DocFault) (seen : List (List ℕ)) (claim : Claim) → (note (seen, found) claim).0 ≡ with_name seen claim.name
unfolding note
seen_then found seen claim = refl

-- telling of names that are given twice, one name after another
pub told_repeated : (claims : List Claim) (found : Option DocFault) (seen : List (List ℕ)) → told found (repeated seen claims) ≡ (fold note (seen, found) claims).1
told_repeated [] found seen = refl
told_repeated (claim ∷ claims) found seen =
    let next = note (seen, found) claim in
    one_more found seen claim claims ∙ ap (λ s. told next.1 (repeated s claims)) (sym (seen_then found seen claim))
    ∙ told_repeated claims next.1 next.0

-- ---- one level of a document
pub reading_unrolled : (decl : Decl) → reading_of decl ≡ decl_step (record { name = (out-Decl decl).name; members = map part_of (out-Decl decl).members; span = (out-Decl decl).span })
reading_unrolled decl = search (rules, the_lemmas)

-- a turn of a loop that gathers what each member gives
pub gather_turn : {A : Type 0} (f : Part → List A) (members : List Member) (i : ℕ) (member : Member) (before after goal : List A) →
    member ≡ get_or members i member → i < length members → after ≡ before ++ f (part_of member) →
    before ++ flat_map f (map part_of (drop i members)) ≡ goal → after ++ flat_map f (map part_of (drop (i + 1) members)) ≡ goal
gather_turn f members i member before after goal is inside step so_far =
    let rest = flat_map f (map part_of (drop (i + 1) members)) in
    ap (λ s. s ++ rest) step ∙ append_assoc before (f (part_of member)) rest
    ∙ ap (λ ps. before ++ flat_map f ps) (sym (left_parts members i member is inside)) ∙ so_far
