-- Names of a list that are not its first are mentioned.
use Rattle.std.proofs.Common.{◌≡◌, ◌⊎◌, inl, inr, ℕ, Bool, true, false, nat_eq, ◌||◌, cond, List, [], ◌∷◌, map, fold, find, slice_get, length, Option, None, Some, is_some, IsSome, refl, sym, ap, subst, ◌∙◌, true≢false}
use Rattle.std.specs.Cmp.Lexicographic.{pointwise}
use Rattle.qml_ast.specs.declared.span.Span.{Span}
use Rattle.qml_types.specs.declared.mention.Mention.{Mention}
use Rattle.type_loader.specs.Faults.{first_mention, mention_in}
use Rattle.type_loader.specs.Naming.{among, file_of, IsLawful}
use Rattle.type_loader.specs.Sources.{names_in, names_of, with_mentions}
use Rattle.type_loader.specs.declared.source.Source.{Source}
use Rattle.type_loader.proofs.NameLists.{among_standing, among_with_names, only_name}

found_among : (ms : List Mention) (n : List ℕ) → among (map (λ m. m.name) ms) n ≡ true → is_some (find (λ m. pointwise nat_eq n m.name) ms) ≡ true
found_among [] n h = absurd (true≢false (sym h))
found_among (m ∷ ms) n h =
    elim (pointwise nat_eq n m.name) as (λ b. (b || among (map (λ m. m.name) ms) n) ≡ true → is_some (cond b (Some m) (find (λ m. pointwise nat_eq n m.name) ms)) ≡ true) [ true ↦ λ _. refl | false ↦ λ k. found_among ms n k ] h

here : (source : Source) (later : Option (List ℕ × Span)) (o : Option Mention) → is_some o ≡ true → is_some (elim o [ None ↦ later | Some m ↦ Some (source.file, m.span) ]) ≡ true
here source later None h = absurd (true≢false (sym h))
here source later (Some m) h = refl

there : (source : Source) (later : Option (List ℕ × Span)) (o : Option Mention) → is_some later ≡ true → is_some (elim o [ None ↦ later | Some m ↦ Some (source.file, m.span) ]) ≡ true
there source later None h = h
there source later (Some m) h = refl

-- a name that was not there before is mentioned
mentioned : (names : List (List ℕ)) (sources : List Source) (n : List ℕ) → among (fold with_mentions names sources) n ≡ true → (among names n ≡ true) ⊎ (is_some (first_mention sources n) ≡ true)
mentioned names [] n h = inl h
mentioned names (s ∷ sources) n h = by (mentioned (with_mentions names s) sources n h)
  where
    first : (among names n ≡ true) ⊎ (among (names_in s) n ≡ true) → (among names n ≡ true) ⊎ (is_some (first_mention (s ∷ sources) n) ≡ true)
    first (inl old) = inl old
    first (inr new) = inr (here s (first_mention sources n) (mention_in s n) (found_among s.mentions n new))

    by : (among (with_mentions names s) n ≡ true) ⊎ (is_some (first_mention sources n) ≡ true) → (among names n ≡ true) ⊎ (is_some (first_mention (s ∷ sources) n) ≡ true)
    by (inl h) = first (among_with_names names (names_in s) n h)
    by (inr h) = inr (there s (first_mention sources n) (mention_in s n) h)

-- an unlawful name of a list whose first name is lawful is mentioned
pub unlawful_mentioned : (root : List ℕ) (names : List (List ℕ)) (sources : List Source) (place : ℕ) (n : List ℕ) → IsLawful (file_of root) → names ≡ names_of root sources
    → slice_get names place ≡ Some n → (IsLawful (file_of n) → ⊥) → IsSome (first_mention sources n)
unlawful_mentioned root names sources place n lawful named at unlawful =
    by (mentioned (root ∷ []) sources n (subst (λ ns. among ns n ≡ true) named (among_standing names place n at)))
  where
    by : (among (root ∷ []) n ≡ true) ⊎ (is_some (first_mention sources n) ≡ true) → IsSome (first_mention sources n)
    by (inl h) = absurd (unlawful (subst (λ k. IsLawful (file_of k)) (sym (only_name n root h)) lawful))
    by (inr h) = h
