-- The bytes of a row's part, and of a canvas after a row is filled.
use Rattle.std.proofs.Common.{◌≡◌, ℕ, ◌+◌, ◌-◌, ◌*◌, ◌/◌, ◌%◌, ◌<◌, ◌≤◌, ⊎_elim, true, false, List, length, get_or, take, drop, EachIndex, sym, ap, ◌∙◌, cond, arith, rules}
use Rattle.std.proofs.lemmas.Bool.Decides.{nat_tests}
use Rattle.std.proofs.lemmas.Nat.{div-mul-add, mod-mul-add, div-add-mod'}
use Rattle.std.proofs.lemmas.List.{places, get_or-take, get_or-drop}
use Rattle.std.proofs.lemmas.Bool.{cases_lt}
use borrow.Rule.Slice.PartMut.{put_mid}
use Rattle.rect_raster.specs.declared.area.Area.{Area}
use Rattle.rect_raster.specs.Drawing.{channel_of, alpha_of, blended}
use Rattle.rect_raster.specs.Bytes.{has_pixel, has_byte, painted, IsPattern, IsPainted}

-- a pixel in the row's part stands in that row and between its columns
pub row_part : (area : Area) (width row p : ℕ) → area.right ≤ width → row * width + area.left ≤ p → p < row * width + area.right
    → (p / width ≡ row) × (area.left ≤ p % width) × (p % width < area.right)
row_part area width row p within low high =
    let column = p - row * width in
    let small : column < width = omega arith in
    let place : row * width + column ≡ p = omega arith in
    let row_is : p / width ≡ row = ap (λ n. n / width) (sym place) ∙ div-mul-add row width column small in
    let column_is : p % width ≡ column = ap (λ n. n % width) (sym place) ∙ mod-mul-add row width column small in
    (row_is, omega arith, omega arith)

-- a pixel of that row and between those columns is in the row's part
pub row_part_has : (area : Area) (width row p : ℕ) → p / width ≡ row → area.left ≤ p % width → p % width < area.right
    → (row * width + area.left ≤ p) × (p < row * width + area.right)
row_part_has area width row p row_is low high =
    let place : row * width + p % width ≡ p = ap (λ n. n * width + p % width) (sym row_is) ∙ div-add-mod' p width in
    (omega arith, omega arith)

-- in the row's part, the area with one row more has the pixel
pub has_pixel-in_part : (area : Area) (row column r : ℕ) → r ≡ row → area.left ≤ column → column < area.right → area.top ≤ row
    → has_pixel (record area { bottom = row + 1 }) column r ≡ true
has_pixel-in_part area row column r row_is low high top = grind (arith, nat_tests)

-- outside of the row's part, the area with one row more has what it had
pub has_pixel-past_part : (area : Area) (row column r : ℕ) → (r ≡ row → area.left ≤ column → column < area.right → ⊥)
    → has_pixel (record area { bottom = row + 1 }) column r ≡ has_pixel (record area { bottom = row }) column r
has_pixel-past_part area row column r past = grind (arith, nat_tests)

module _ (before part : List ℕ) (a n k : ℕ) where
  pub get_or-put_mid_below : a ≤ length before → k < a → get_or (put_mid a n before part) k 0 ≡ get_or before k 0
  get_or-put_mid_below fits h = search (rules, places)

  pub get_or-put_mid_in : a + n ≤ length before → length part ≡ n → a ≤ k → k < a + n → get_or (put_mid a n before part) k 0 ≡ get_or part (k - a) 0
  get_or-put_mid_in fits whole low high = search (rules, places)

  pub get_or-put_mid_above : a + n ≤ length before → length part ≡ n → a + n ≤ k → get_or (put_mid a n before part) k 0 ≡ get_or before k 0
  get_or-put_mid_above fits whole h = search (rules, places)

pub length-put_mid : (before part : List ℕ) (a n : ℕ) → a + n ≤ length before → length part ≡ n → length (put_mid a n before part) ≡ length before
length-put_mid before part a n fits whole = search (rules, places)

-- before its row is painted, the area down to it does not have a pixel of that row
pub has_pixel-before : (area : Area) (row column r : ℕ) → r ≡ row → has_pixel (record area { bottom = row }) column r ≡ false
has_pixel-before area row column r row_is = grind (arith, nat_tests)

-- what a repeated pattern has at a place
pub pattern_at : (argb k : ℕ) (pattern : List ℕ) → length pattern ≡ 48 → IsPattern argb pattern → get_or pattern (k % 48) 0 ≡ channel_of argb (k % 3)
pattern_at argb k pattern sized is =
    let within : k % 48 < length pattern = omega arith in
    let same : k % 48 % 3 ≡ k % 3 = omega arith in
    is (k % 48) within ∙ ap (channel_of argb) same

module _ (area : Area) (width row argb : ℕ) (old before pattern part : List ℕ) where
  -- where the row's part begins in the canvas, in bytes
  abbrev from : ℕ
  from = 3 * (row * width + area.left)

  -- how many bytes it has
  abbrev count : ℕ
  count = 3 * (row * width + area.right) - from

  abbrev after : List ℕ
  after = put_mid from count before part

  -- the area down to the row, and with the row
  abbrev above : Area
  above = record area { bottom = row }

  abbrev more : Area
  more = record area { bottom = row + 1 }

  module _ (ordered : area.left ≤ area.right) (within : area.right ≤ width) (started : area.top ≤ row) (fits : 3 * (row * width + area.right) ≤ length before)
      (whole : length part ≡ count) (sized : length pattern ≡ 48) (is : IsPattern argb pattern)
      (coloured : EachIndex part (λ k. get_or part k 0 ≡ blended (get_or pattern (k % 48) 0) (alpha_of argb) (get_or (take count (drop from before)) k 0)))
      (done : IsPainted above width argb old before) where
    -- a byte of the row's part before it is painted
    part_before : (k : ℕ) → from ≤ k → k < from + count → get_or (take count (drop from before)) (k - from) 0 ≡ get_or before k 0
    part_before k low high =
        let small : k - from < count = omega arith in
        let place : from + (k - from) ≡ k = omega arith in
        get_or-take count (drop from before) (k - from) 0 small ∙ get_or-drop from before (k - from) 0 ∙ ap (λ n. get_or before n 0) place

    -- and it is as it was at first
    byte_before : (k : ℕ) → k / 3 / width ≡ row → k < length before → get_or before k 0 ≡ get_or old k 0
    byte_before k row_is bound =
        let not_yet : has_byte above width k ≡ false = has_pixel-before area row (k / 3 % width) (k / 3 / width) row_is in
        done k bound ∙ ap (λ b. cond b (painted argb k (get_or old k 0)) (get_or old k 0)) not_yet

    byte_in : (k : ℕ) → from ≤ k → k < from + count → get_or after k 0 ≡ cond (has_byte more width k) (painted argb k (get_or old k 0)) (get_or old k 0)
    byte_in k low high =
        let part_of = row_part area width row (k / 3) within (omega arith) (omega arith) in
        let has : has_byte more width k ≡ true = has_pixel-in_part area row (k / 3 % width) (k / 3 / width) part_of.0 part_of.1 part_of.2 started in
        let same : (k - from) % 3 ≡ k % 3 = omega arith in
        let read : get_or after k 0 ≡ get_or part (k - from) 0 = get_or-put_mid_in before part from count k (omega arith) whole low high in
        let colour : get_or pattern ((k - from) % 48) 0 ≡ channel_of argb (k % 3) = pattern_at argb (k - from) pattern sized is ∙ ap (channel_of argb) same in
        let below : get_or (take count (drop from before)) (k - from) 0 ≡ get_or old k 0 =
        part_before k low high ∙ byte_before k part_of.0 (omega arith) in
        rw has
        (read ∙ coloured (k - from) (omega arith) ∙ (λ i. blended (colour i) (alpha_of argb) (below i)))

    byte_past : (k : ℕ) → k < length before → get_or after k 0 ≡ get_or before k 0 → (from ≤ k → k < from + count → ⊥)
        → get_or after k 0 ≡ cond (has_byte more width k) (painted argb k (get_or old k 0)) (get_or old k 0)
    byte_past k h read past =
        let has : has_byte more width k ≡ has_byte above width k =
        has_pixel-past_part area row (k / 3 % width) (k / 3 / width) (λ row_is low high. let place = row_part_has area width row (k / 3) row_is low high in past (omega arith) (omega arith)) in
        rw has (read ∙ done k h)

    -- one row more is painted
    pub IsPainted-more : IsPainted more width argb old after
    IsPainted-more k h =
        let bound : k < length before = omega (arith, length-put_mid before part from count (omega arith) whole) in
        ⊎_elim (λ below. byte_past k bound (get_or-put_mid_below before part from count k (omega arith) below) (λ low high. omega arith))
        (λ low. ⊎_elim (λ high. byte_in k low high)
        (λ past. byte_past k bound (get_or-put_mid_above before part from count k (omega arith) whole past) (λ _ high. omega arith)) (cases_lt k (from + count)))
        (cases_lt k from)
