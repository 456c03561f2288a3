-- Of areas that lie over each other, the topmost that has a point.
use Rattle.std.proofs.Common.{◌≡◌, ℕ, ℤ, Bool, true, false, cond, Option, Some, None, List, [], ◌∷◌, ◌++◌, refl, sym, ◌∙◌, ap, subst}
use Rattle.std.proofs.lemmas.List.{reverse-append}
use Rattle.std.proofs.lemmas.List.Folds.{find-append}
use Rattle.std.proofs.lemmas.List.Elements.{All-from_recursion, recursion_from_All}
use Rattle.std.specs.Prelude.{◌↔◌, find, reverse, All, IsNone, IfSome, MatchOption}
use Rattle.std.specs.Option.{option_map, option_or}
use Rattle.std.specs.List.{AllByRecursion}
use Rattle.input_grab.specs.declared.area.Area.{Area}
use Rattle.input_grab.specs.Area.{has_point, topmost, IsTopmost}

-- the area lacks the point
abbrev Misses : ℤ → ℤ → Area → Type 0
Misses x y area = has_point area x y ≡ false

option_map-option_or : (a b : Option Area) → option_map (λ area. area.serial) (option_or a b) ≡ option_or (option_map (λ area. area.serial) a) (option_map (λ area. area.serial) b)
option_map-option_or None b = refl
option_map-option_or (Some area) b = refl

-- a search of one area
find-one : (area : Area) (test : Bool) → option_map (λ a. a.serial) (cond test (Some area) None) ≡ cond test (Some area.serial) None
find-one area true = refl
find-one area false = refl

-- a search from the topmost area down
topmost-from_find : (areas : List Area) (x y : ℤ) → option_map (λ area. area.serial) (find (λ area. has_point area x y) (reverse areas)) ≡ topmost areas x y
unfolding topmost
topmost-from_find [] x y = refl
topmost-from_find (area ∷ above) x y =
    let test = λ (a : Area). has_point a x y in
    ap (λ l. option_map (λ a. a.serial) (find test l)) (reverse-append (area ∷ []) above)
    ∙ ap (option_map (λ a. a.serial)) (find-append test (reverse above) (area ∷ []))
    ∙ option_map-option_or (find test (reverse above)) (find test (area ∷ []))
    ∙ (λ i. option_or (topmost-from_find above x y i) (find-one area (has_point area x y) i))

-- what was found among the areas above, and then at this one
told_more : (area : Area) (above : List Area) (x y : ℤ) (found : Option ℕ) → MatchOption found (AllByRecursion (Misses x y) above) (IsTopmost above x y)
    → (test : Bool) → has_point area x y ≡ test
    → MatchOption (option_or found (cond test (Some area.serial) None)) (AllByRecursion (Misses x y) (area ∷ above)) (IsTopmost (area ∷ above) x y)
told_more area above x y (Some serial) told test is =
    record { below = area ∷ told.below; area = told.area; above = told.above; parts = ap (λ l. area ∷ l) told.parts; has = told.has; named = told.named; free = told.free }
told_more area above x y None told true is =
    record { below = []; area = area; above = above; parts = refl; has = is; named = refl; free = All-from_recursion (Misses x y) above told }
told_more area above x y None told false is = (is, told)

-- what is found says of the areas
told : (areas : List Area) (x y : ℤ) → MatchOption (topmost areas x y) (AllByRecursion (Misses x y) areas) (IsTopmost areas x y)
unfolding topmost
told [] x y = tt
told (area ∷ above) x y = told_more area above x y (topmost above x y) (told above x y) (has_point area x y) refl

pub last_from_topmost : (areas : List Area) (x y : ℤ) (found : Option ℕ) → found ≡ topmost areas x y → IfSome found (IsTopmost areas x y)
last_from_topmost areas x y found is = go found (subst (λ o. MatchOption o (AllByRecursion (Misses x y) areas) (IsTopmost areas x y)) (sym is) (told areas x y))
  where
    go : (o : Option ℕ) → MatchOption o (AllByRecursion (Misses x y) areas) (IsTopmost areas x y) → IfSome o (IsTopmost areas x y)
    go None h = tt
    go (Some serial) h = h

-- where all areas lack the point, so does each
at_part : (below : List Area) (area : Area) (above : List Area) (x y : ℤ) → AllByRecursion (Misses x y) (below ++ area ∷ above) → has_point area x y ≡ false
at_part [] area above x y all = all.0
at_part (first ∷ below) area above x y all = at_part below area above x y all.1

pub none_from_topmost : (areas : List Area) (x y : ℤ) (found : Option ℕ) → found ≡ topmost areas x y → IsNone found ↔ All (Misses x y) areas
none_from_topmost areas x y found is = go found (subst (λ o. MatchOption o (AllByRecursion (Misses x y) areas) (IsTopmost areas x y)) (sym is) (told areas x y))
  where
    go : (o : Option ℕ) → MatchOption o (AllByRecursion (Misses x y) areas) (IsTopmost areas x y) → IsNone o ↔ All (Misses x y) areas
    go None h = (λ none. All-from_recursion (Misses x y) areas h, λ all. refl)
    go (Some serial) h = (
      λ none. cc,
      λ all.
          let lacks = at_part h.below h.area h.above x y (subst (AllByRecursion (Misses x y)) h.parts (recursion_from_All (Misses x y) areas all)) in
          let clash = sym h.has ∙ lacks in cc,
    )

-- the serial of what a search found at one place, which is this place
pub topmost-from_search : (areas : List Area) (x y x' y' : ℤ) (last : Option Area) (found : Option ℕ) → found ≡ option_map (λ area. area.serial) last
    → last ≡ find (λ area. has_point area x' y') (reverse areas) → x' ≡ x → y' ≡ y → found ≡ topmost areas x y
topmost-from_search areas x y x' y' last found is searched column row =
    is ∙ ap (option_map (λ area. area.serial)) searched ∙ topmost-from_find areas x' y' ∙ (λ i. topmost areas (column i) (row i))
