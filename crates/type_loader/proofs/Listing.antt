-- The list of documents with one more.
use Rattle.std.proofs.Common.{◌≡◌, ℕ, ◌+◌, List, [], ◌∷◌, ◌++◌, length, fold, Option, Some, refl, sym, ap, subst, ◌∙◌, arith}
use Rattle.type_loader.specs.Sources.{AreNext, IsNext, with_mentions}
use Rattle.type_loader.specs.declared.source.Source.{Source}

-- behind those that are next in their turns stands one more
pub next_one_more : (names : List (List ℕ)) (place : ℕ) (sources : List Source) (source : Source) → AreNext names place sources
    → IsNext (fold with_mentions names sources) (place + length sources) source → AreNext names place (sources ++ source ∷ [])
next_one_more names place [] source each next =
    let e : place + length {A = Source} [] ≡ place = omega arith in
    (subst (λ p. IsNext names p source) e next, tt)
next_one_more names place (s ∷ sources) source each next =
    let e : place + length (s ∷ sources) ≡ place + 1 + length sources = omega arith in
    (each.0, next_one_more (with_mentions names s) (place + 1) sources source each.1 (subst (λ p. IsNext (fold with_mentions (with_mentions names s) sources) p source) e next))
