-- What a document leads to.
use Rattle.std.proofs.Common.{◌≡◌, ◌⊎◌, inl, inr, ℕ, zero, suc, ◌+◌, ◌<◌, ◌≤◌, Bool, true, false, nat_eq, ◌||◌, cond, List, [], ◌∷◌, ◌++◌, length, map, fold, find, slice_get, Option, None, Some, refl, sym, ap, subst, ◌∙◌, true≢false, arith, below_more, if◌then◌else◌}
use Rattle.std.proofs.lemmas.List.{length-map}
use Rattle.std.specs.Cmp.Lexicographic.{pointwise, nat_list_eq_equiv}
use Rattle.std.specs.List.{IsDistinct, list_any}
use Rattle.std.proofs.lemmas.Map.Keys.{IsDistinct-push}
use Rattle.std.proofs.lemmas.Map.Made.{length-le_from_is_member}
use Rattle.std.proofs.lemmas.Option.{slice_get_within, slice_get_past}
use Rattle.type_loader.specs.Cycles.{AreClosed, Reaches, one, more, followed, followed_from, mentioned_by}
use Rattle.type_loader.specs.Naming.{among, with_name}
use Rattle.type_loader.specs.declared.source.Source.{Source}
use Rattle.type_loader.proofs.NameLists.{IsFrontOf, among_all_added, among_front, among_standing, among_with_names, front_itself, front_with_names, stands_among, stands_in_front, same_name}

none_distinct : IsDistinct (pointwise nat_eq) []
unfolding IsDistinct
none_distinct = tt

-- names stay distinct
distinct_with_name : (ns : List (List ℕ)) (n : List ℕ) → IsDistinct (pointwise nat_eq) ns → IsDistinct (pointwise nat_eq) (with_name ns n)
distinct_with_name ns n distinct = by (among ns n) refl
  where
    by : (b : Bool) → among ns n ≡ b → IsDistinct (pointwise nat_eq) (if b then ns else ns ++ n ∷ [])
    by true e = distinct
    by false e = IsDistinct-push nat_list_eq_equiv ns n distinct e

distinct_with_names : (ns added : List (List ℕ)) → IsDistinct (pointwise nat_eq) ns → IsDistinct (pointwise nat_eq) (fold with_name ns added)
distinct_with_names ns [] distinct = distinct
distinct_with_names ns (n ∷ added) distinct = distinct_with_names (with_name ns n) added (distinct_with_name ns n distinct)

-- the names that a type leads to, as far as they are found, where what so many of them mention is found
pub record AreFound (sources : List Source) (from : List ℕ) (found : List (List ℕ)) (count : ℕ) : Type 0 where
  pub distinct : IsDistinct (pointwise nat_eq) found
  pub first : (n : List ℕ) → among (mentioned_by sources from) n ≡ true → among found n ≡ true
  pub reached : (n : List ℕ) → among found n ≡ true → Reaches sources from n
  pub next : (i : ℕ) (n m : List ℕ) → i < count → slice_get found i ≡ Some n → among (mentioned_by sources n) m ≡ true → among found m ≡ true

pub found_first : (sources : List Source) (from : List ℕ) → AreFound sources from (fold with_name [] (mentioned_by sources from)) 0
found_first sources from = record {
  distinct = distinct_with_names [] (mentioned_by sources from) none_distinct;
  first = λ n h. among_all_added [] (mentioned_by sources from) n h;
  reached = λ n h. either n (among_with_names [] (mentioned_by sources from) n h);
  next = λ i n m below at mentions. absurd (omega arith);
}
  where
    either : (n : List ℕ) → (among [] n ≡ true) ⊎ (among (mentioned_by sources from) n ≡ true) → Reaches sources from n
    either n (inl h) = absurd (true≢false (sym h))
    either n (inr h) = one n h

stands_back : {A : Type 0} (xs rest : List A) (i : ℕ) (x : A) → i < length xs → slice_get (xs ++ rest) i ≡ Some x → slice_get xs i ≡ Some x
stands_back [] rest i x within at = absurd (omega arith)
stands_back (y ∷ xs) rest zero x within at = at
stands_back (y ∷ xs) rest (suc i) x within at = stands_back xs rest i x (omega arith) at

module _ (sources : List Source) (from : List ℕ) (found : List (List ℕ)) (count : ℕ) (are : AreFound sources from found count) where
  follow_none : slice_get found count ≡ None → AreFound sources from found (count + 1)
  follow_none none = record {
    distinct = are.distinct;
    first = are.first;
    reached = are.reached;
    next = λ i n m less at mentions. below_more (λ k. (n m : List ℕ) → slice_get found k ≡ Some n → among (mentioned_by sources n) m ≡ true → among found m ≡ true) count (λ k below n m at mentions. are.next k n m below at mentions) here i less n m at mentions;
  }
    where
      here : (n m : List ℕ) → slice_get found count ≡ Some n → among (mentioned_by sources n) m ≡ true → among found m ≡ true
      here n m at mentions = absurd cc

  follow_some : (name : List ℕ) → slice_get found count ≡ Some name → AreFound sources from (fold with_name found (mentioned_by sources name)) (count + 1)
  follow_some name at = record {
    distinct = distinct_with_names found (mentioned_by sources name) are.distinct;
    first = λ n h. longer n (are.first n h);
    reached = λ n h. either n (among_with_names found (mentioned_by sources name) n h);
    next = λ i n m less at mentions. below_more (λ k. (n m : List ℕ) → slice_get (followed_from sources found (Some name)) k ≡ Some n → among (mentioned_by sources n) m ≡ true → among (followed_from sources found (Some name)) m ≡ true) count below here i less n m at mentions;
  }
    where
      front : IsFrontOf found (followed_from sources found (Some name))
      front = front_with_names found (mentioned_by sources name)

      longer : (n : List ℕ) → among found n ≡ true → among (followed_from sources found (Some name)) n ≡ true
      longer n h = among_front found (followed_from sources found (Some name)) n front h

      either : (n : List ℕ) → (among found n ≡ true) ⊎ (among (mentioned_by sources name) n ≡ true) → Reaches sources from n
      either n (inl h) = are.reached n h
      either n (inr h) = more name n (are.reached name (among_standing found count name at)) h

      back : (k : ℕ) (n : List ℕ) → k ≤ count → slice_get (followed_from sources found (Some name)) k ≡ Some n → slice_get found k ≡ Some n
      back k n below at_k =
          let within : count < length found = slice_get_within found count name at in
          stands_back found front.rest k n (omega arith) (subst (λ l. slice_get l k ≡ Some n) front.is at_k)

      below : (k : ℕ) → k < count → (n m : List ℕ) → slice_get (followed_from sources found (Some name)) k ≡ Some n → among (mentioned_by sources n) m ≡ true → among (followed_from sources found (Some name)) m ≡ true
      below k less n m at_k mentions = longer m (are.next k n m less (back k n (omega arith) at_k) mentions)

      here : (n m : List ℕ) → slice_get (followed_from sources found (Some name)) count ≡ Some n → among (mentioned_by sources n) m ≡ true → among (followed_from sources found (Some name)) m ≡ true
      here n m at_count mentions =
          let again : slice_get found count ≡ Some n = back count n (omega arith) at_count in
          let same : n ≡ name = cc in
          among_all_added found (mentioned_by sources name) m (subst (λ k. among (mentioned_by sources k) m ≡ true) same mentions)

  follow_on : (o : Option (List ℕ)) → slice_get found count ≡ o → AreFound sources from (followed_from sources found o) (count + 1)
  follow_on None at = follow_none at
  follow_on (Some name) at = follow_some name at

  -- what one more name mentions is found too
  pub found_next : (now : List (List ℕ)) → now ≡ followed sources count found → AreFound sources from now (count + 1)
  found_next now is = subst (λ ns. AreFound sources from ns (count + 1)) (sym is) (follow_on (slice_get found count) refl)

-- what a type leads to is a document
a_document : (sources : List Source) (from n : List ℕ) → AreClosed sources → Reaches sources from n → among (map (λ s. s.name) sources) n ≡ true
a_document sources from n closed (one to h) = closed.each from to h
a_document sources from n closed (more by to r h) = closed.each by to h

module _ (sources : List Source) (from : List ℕ) (found : List (List ℕ)) (closed : AreClosed sources) (are : AreFound sources from found (length sources)) where
  few : length found ≤ length sources
  few =
      let least : length found ≤ length (map (λ s. s.name) sources) = length-le_from_is_member nat_list_eq_equiv found (map (λ s. s.name) sources) are.distinct (λ n h. a_document sources from n closed (are.reached n h)) in
      omega (arith, least, length-map sources (λ s. s.name))

  -- all that a type leads to is found
  pub all_found : (n : List ℕ) → Reaches sources from n → among found n ≡ true
  all_found n (one to h) = are.first to h
  all_found n (more by to r h) =
      let at = stands_among found by (all_found by r) in
      let within : at.0 < length found = slice_get_within found at.0 by at.1 in
      let enough : length found ≤ length sources = few in
      are.next at.0 by to (omega (arith, within, enough)) at.1 h

  pub none_found : (is : Bool) (n : List ℕ) → is ≡ among found n → is ≡ false → Reaches sources from n → ⊥
  none_found is n same none reaches = true≢false (sym (all_found n reaches) ∙ (sym same ∙ none))
