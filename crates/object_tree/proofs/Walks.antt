-- What documents declare of an object, layer by layer.
use Rattle.std.proofs.Common.{zero, suc, ◌≡◌, ◌∙◌, ℕ, ◌+◌, ◌-◌, ◌<◌, ◌≤◌, List, [], ◌∷◌, ◌++◌, Some, length, map, get_or, drop, refl, sym, ap, add-one, arith}
use Rattle.std.proofs.Math.Seq.{drop-cons}
use Rattle.std.proofs.lemmas.List.{length-map}
use Rattle.std.proofs.lemmas.Option.{slice_get-get_or, slice_get-map}
use Rattle.std.specs.List.{flat_map}
use Rattle.std.specs.Prelude.{slice_get, option_map}
use Rattle.object_tree.specs.declared.instance.Layer.{Layer}

got_front : {X : Type 0} (xs ys : List X) (n : ℕ) → n < length xs → slice_get (xs ++ ys) n ≡ slice_get xs n
got_front [] ys n less = absurd (omega arith)
got_front (x ∷ xs) ys zero less = refl
got_front (x ∷ xs) ys (suc n) less = got_front xs ys n (omega arith)

got_back : {X : Type 0} (xs ys : List X) (n : ℕ) → length xs ≤ n → slice_get (xs ++ ys) n ≡ slice_get ys (n - length xs)
got_back {X} [] ys n more = let same : n ≡ n - 0 = omega arith in ap (slice_get ys) same
got_back (x ∷ xs) ys zero more = absurd (omega arith)
got_back (x ∷ xs) ys (suc n) more = let same : n - length xs ≡ suc n - length (x ∷ xs) = omega arith in got_back xs ys n (omega arith) ∙ ap (slice_get ys) same

module _ {X : Type 0} (f : Layer → List X) where
  front : (layers : List Layer) (i : ℕ) (layer : Layer) (own : List X) → layer ≡ get_or layers i layer → i < length layers → own ≡ f layer →
      flat_map f (drop i layers) ≡ own ++ flat_map f (drop (i + 1) layers)
  front layers i layer own is within has =
      let rest = flat_map f (drop (i + 1) layers) in
      let first : drop i layers ≡ get_or layers i layer ∷ drop (i + 1) layers = rw add-one (drop-cons layers i layer within) in
      ap (flat_map f) first ∙ ap (λ l. f l ++ rest) (sym is) ∙ ap (λ ss. ss ++ rest) (sym has)

  -- what is sought is one of the layer at hand
  pub layer_has : (layers : List Layer) (i : ℕ) (layer : Layer) (own : List X) (left : ℕ) (item : X) → layer ≡ get_or layers i layer → i < length layers →
      own ≡ f layer → left < length own → item ≡ get_or own left item → slice_get (flat_map f (drop i layers)) left ≡ Some item
  layer_has layers i layer own left item is within has less found =
      ap (λ ss. slice_get ss left) (front layers i layer own is within has) ∙ got_front own _ left less ∙ slice_get-get_or own left item less ∙ ap Some (sym found)

  -- it is in one of those behind
  pub layer_lacks : (layers : List Layer) (i : ℕ) (layer : Layer) (own : List X) (left : ℕ) → layer ≡ get_or layers i layer → i < length layers →
      own ≡ f layer → length own ≤ left → slice_get (flat_map f (drop i layers)) left ≡ slice_get (flat_map f (drop (i + 1) layers)) (left - length own)
  layer_lacks layers i layer own left is within has more =
      ap (λ ss. slice_get ss left) (front layers i layer own is within has) ∙ got_back own _ left more

-- the same of what is made of what each layer declares
module _ {A X : Type 0} (declared : Layer → List A) (made : Layer → A → X) where
  pub mapped_has : (layers : List Layer) (i : ℕ) (layer : Layer) (own : List A) (left : ℕ) (item : A) → layer ≡ get_or layers i layer → i < length layers →
      own ≡ declared layer → left < length own → item ≡ get_or own left item → slice_get (flat_map (λ l. map (made l) (declared l)) (drop i layers)) left ≡ Some (made layer item)
  mapped_has layers i layer own left item is within has less found =
      let few : left < length (map (made layer) own) = rw (length-map own (made layer)) less in
      ap (λ ss. slice_get ss left) (front (λ l. map (made l) (declared l)) layers i layer (map (made layer) own) is within (ap (map (made layer)) has))
      ∙ got_front (map (made layer) own) _ left few ∙ slice_get-map (made layer) own left ∙ ap (option_map (made layer)) (slice_get-get_or own left item less) ∙ ap (λ a. Some (made layer a)) (sym found)

  pub mapped_lacks : (layers : List Layer) (i : ℕ) (layer : Layer) (own : List A) (left : ℕ) → layer ≡ get_or layers i layer → i < length layers →
      own ≡ declared layer → length own ≤ left →
      slice_get (flat_map (λ l. map (made l) (declared l)) (drop i layers)) left ≡ slice_get (flat_map (λ l. map (made l) (declared l)) (drop (i + 1) layers)) (left - length own)
  mapped_lacks layers i layer own left is within has more =
      let many : length (map (made layer) own) ≤ left = rw (length-map own (made layer)) more in
      layer_lacks (λ l. map (made l) (declared l)) layers i layer (map (made layer) own) left is within (ap (map (made layer)) has) many
      ∙ ap (λ n. slice_get (flat_map (λ l. map (made l) (declared l)) (drop (i + 1) layers)) (left - n)) (length-map own (made layer))
