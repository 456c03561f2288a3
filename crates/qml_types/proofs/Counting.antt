-- The sizes of bases, and the end of a loop that counts.
use Rattle.std.proofs.Common.{◌≡◌, ◌∙◌, ℕ, zero, suc, ◌+◌, ◌≤◌, min, length, drop, Option, None, Some, List, [], ◌∷◌, refl, sym, ap, rules, arith}
use Rattle.std.specs.List.{sum_by}
use Rattle.type_table.specs.declared.built_in.BuiltIn.{BuiltIn}
use Rattle.qml_types.specs.declared.component.Base.{the_lemmas}
use Rattle.qml_types.specs.declared.component.Base.TheVariants as base
use Rattle.qml_types.specs.declared.component.ComponentType.{ComponentType, out-ComponentType}
use Rattle.qml_types.specs.declared.component.ObjectDecl.{ObjectDecl}
use Rattle.qml_types.specs.Sizes.{level_of, sizes_on}

-- ---- bases
pub document_sizes : (component : ComponentType) → sizes_on (base.Document component) ≡ (out-ComponentType component).sizes
unfolding sizes_on
document_sizes component = search (rules, the_lemmas)

pub built_in_sizes : (t : BuiltIn) → sizes_on (base.BuiltIn t) ≡ record { objects = 1; contexts = 0; levels = 1 }
unfolding sizes_on
built_in_sizes t = search (rules, the_lemmas)

pub ruleset on_bases = (document_sizes, built_in_sizes)

-- ---- a capped sum
past : {A : Type 0} (xs : List A) (i : ℕ) → length xs ≤ i → drop i xs ≡ []
past [] zero all = refl
past [] (suc i) all = refl
past (x ∷ xs) zero all = absurd (omega arith)
past (x ∷ xs) (suc i) all = past xs i (omega arith)

capped_end : (n most : ℕ) → n ≤ most → min (n + 0) most ≡ n
capped_end n most within = omega arith

-- a loop that adds up to a greatest number ends with the sum, capped
pub count_end : (f : ObjectDecl → ℕ) (most : ℕ) (objects : List ObjectDecl) (i count goal : ℕ) → length objects ≤ i → count ≤ most →
    min (count + sum_by f (drop i objects)) most ≡ goal → count ≡ goal
count_end f most objects i count goal all within so_far =
    sym (ap (λ os. min (count + sum_by f os) most) (past objects i all) ∙ capped_end count most within) ∙ so_far

-- ---- levels
-- the first level is 1
pub level_low : (before : List ℕ) (owner : Option ℕ) → 1 ≤ level_of before owner
level_low before None = omega arith
level_low before (Some owner) = omega arith
