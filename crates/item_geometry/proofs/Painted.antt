-- Laws of the parts that a rectangle is painted as.
use Rattle.std.proofs.Common.{◌≡◌, ℕ, ℤ, pos, ◌-ℤ◌, ◌*ℤ◌, ◌<ℤ◌, Bool, true, false, cond, ◌||◌, ◌&&◌, Option, Some, None, List, [], ◌∷◌, map, refl, sym, ◌∙◌, ap, inl, inr, arith}
use Rattle.std.proofs.lemmas.Bool.{cases_Bool}
use Rattle.std.proofs.lemmas.Int.{ints, by_lt_z}
use Rattle.std.specs.Prelude.{int_le, int_lt}
use Rattle.item_geometry.specs.declared.parts.RectPart.{RectPart}
use Rattle.item_geometry.specs.declared.parts.Rects.{Rects}
use Rattle.item_geometry.specs.declared.parts.Rects.TheVariants.{One, Five}
use Rattle.item_geometry.specs.Rectangle.{part_of, bordered, with_border, painted_inside, painted, in_span, has_pixel, colors_at, pixel_colors}

-- parts of one place, size and colour are one
pub same_part : {x x' y y' w w' h h' : ℤ} {argb : ℕ} → x ≡ x' → y ≡ y' → w ≡ w' → h ≡ h' → part_of x y w h argb ≡ part_of x' y' w' h' argb
same_part {argb} x y w h = λ i. part_of (x i) (y i) (w i) (h i) argb

-- and so are rectangles with borders
pub same_bordered : {w w' h h' b b' : ℤ} {fill color : ℕ} → w ≡ w' → h ≡ h' → b ≡ b' → bordered w h fill b color ≡ bordered w' h' fill b' color
same_bordered {fill} {color} w h b = λ i. bordered (w i) (h i) fill (b i) color

-- a border that leaves an inside
pub painted_bordered : (w h b : ℤ) (fill color : ℕ) (border : Option (ℤ × ℕ)) → border ≡ Some (b, color)
    → int_le w (pos 0) ≡ false → int_le h (pos 0) ≡ false → int_le b (pos 0) ≡ false → int_le w (pos 2 *ℤ b) ≡ false → int_le h (pos 2 *ℤ b) ≡ false
    → painted w h fill border ≡ bordered w h fill b color
painted_bordered w h b fill color border is wide high thick columns rows = rw (is, wide, high, thick, columns, rows)

-- which part of one axis a place is in, beside a border at each end
data Third : Type 0 where
  outside : Third
  first : Third
  middle : Third
  last : Third

abbrev is_first : Third → Bool
is_first outside = false
is_first first = true
is_first middle = false
is_first last = false

abbrev is_middle : Third → Bool
is_middle outside = false
is_middle first = false
is_middle middle = true
is_middle last = false

abbrev is_last : Third → Bool
is_last outside = false
is_last first = false
is_last middle = false
is_last last = true

abbrev is_within : Third → Bool
is_within outside = false
is_within first = true
is_within middle = true
is_within last = true

abbrev is_edge : Third → Bool
is_edge outside = true
is_edge first = true
is_edge middle = false
is_edge last = true

-- the tests of a place that the parts and their colours rest on
record Tests (w b x : ℤ) (third : Third) : Type 0 where
  at_first : in_span (pos 0) b x ≡ is_first third
  at_middle : in_span b (w -ℤ pos 2 *ℤ b) x ≡ is_middle third
  at_last : in_span (w -ℤ b) b x ≡ is_last third
  at_any : in_span (pos 0) w x ≡ is_within third
  at_edge : int_lt x b || int_le (w -ℤ b) x ≡ is_edge third

tests_at : (w b x : ℤ) → pos 0 <ℤ b → (pos 2 *ℤ b) <ℤ w → (third : Third) × Tests w b x third
tests_at w b x thick wide =
    by_lt_z x (pos 0) (λ before. (outside, record { at_first = grind (arith, ints); at_middle = grind (arith, ints); at_last = grind (arith, ints); at_any = grind (arith, ints); at_edge = grind (arith, ints) }))
    (λ from. by_lt_z x b (λ in_first. (first, record { at_first = grind (arith, ints); at_middle = grind (arith, ints); at_last = grind (arith, ints); at_any = grind (arith, ints); at_edge = grind (arith, ints) }))
    (λ past. by_lt_z x (w -ℤ b) (λ in_middle. (middle, record { at_first = grind (arith, ints); at_middle = grind (arith, ints); at_last = grind (arith, ints); at_any = grind (arith, ints); at_edge = grind (arith, ints) }))
    (λ far. by_lt_z x w (λ in_last. (last, record { at_first = grind (arith, ints); at_middle = grind (arith, ints); at_last = grind (arith, ints); at_any = grind (arith, ints); at_edge = grind (arith, ints) }))
    (λ beyond. (outside, record { at_first = grind (arith, ints); at_middle = grind (arith, ints); at_last = grind (arith, ints); at_any = grind (arith, ints); at_edge = grind (arith, ints) })))))

-- a part comes first where a test of a pixel holds
abbrev kept : Bool → ℕ → List ℕ → List ℕ
kept test argb rest = cond test (argb ∷ rest) rest

-- the five parts have each pixel of the rectangle once
tiled : (column row : Third) (fill color : ℕ)
    → kept (is_middle column && is_middle row) fill
    (kept (is_within column && is_first row) color
    (kept (is_within column && is_last row) color
    (kept (is_first column && is_middle row) color
    (kept (is_last column && is_middle row) color []))))
    ≡ cond (is_within column && is_within row) (cond (is_edge column || is_edge row) color fill ∷ []) []
tiled outside outside fill color = refl
tiled outside first fill color = refl
tiled outside middle fill color = refl
tiled outside last fill color = refl
tiled first outside fill color = refl
tiled first first fill color = refl
tiled first middle fill color = refl
tiled first last fill color = refl
tiled middle outside fill color = refl
tiled middle first fill color = refl
tiled middle middle fill color = refl
tiled middle last fill color = refl
tiled last outside fill color = refl
tiled last first fill color = refl
tiled last middle fill color = refl
tiled last last fill color = refl

-- the colours of those that pass a test, one after another
map-kept : (test : Bool) (part : RectPart) (rest : List RectPart) → map (λ p. p.argb) (cond test (part ∷ rest) rest) ≡ kept test part.argb (map (λ p. p.argb) rest)
map-kept true part rest = refl
map-kept false part rest = refl

colors_at-five : (one two three four five : RectPart) (x y : ℤ) → colors_at (Five (one ∷ two ∷ three ∷ four ∷ five ∷ [])) x y
    ≡ kept (has_pixel one x y) one.argb (kept (has_pixel two x y) two.argb (kept (has_pixel three x y) three.argb (kept (has_pixel four x y) four.argb (kept (has_pixel five x y) five.argb []))))
colors_at-five one two three four five x y =
    map-kept (has_pixel one x y) one _
    ∙ ap (kept (has_pixel one x y) one.argb) (map-kept (has_pixel two x y) two _
    ∙ ap (kept (has_pixel two x y) two.argb) (map-kept (has_pixel three x y) three _
    ∙ ap (kept (has_pixel three x y) three.argb) (map-kept (has_pixel four x y) four _
    ∙ ap (kept (has_pixel four x y) four.argb) (map-kept (has_pixel five x y) five []))))

colors_at-bordered : (w h b x y : ℤ) (fill color : ℕ) → pos 0 <ℤ b → (pos 2 *ℤ b) <ℤ w → (pos 2 *ℤ b) <ℤ h
    → colors_at (bordered w h fill b color) x y ≡ pixel_colors w h fill (Some (b, color)) x y
colors_at-bordered w h b x y fill color thick wide high =
    let (column, across) = tests_at w b x thick wide in
    let (row, down) = tests_at h b y thick high in
    let rest = h -ℤ pos 2 *ℤ b in
    colors_at-five (part_of b b (w -ℤ pos 2 *ℤ b) rest fill) (part_of (pos 0) (pos 0) w b color) (part_of (pos 0) (h -ℤ b) w b color) (part_of (pos 0) b b rest color) (part_of (w -ℤ b) b b rest color) x y
    ∙ (λ i. kept (across.at_middle i && down.at_middle i) fill
    (kept (across.at_any i && down.at_first i) color
    (kept (across.at_any i && down.at_last i) color
    (kept (across.at_first i && down.at_middle i) color
    (kept (across.at_last i && down.at_middle i) color [])))))
    ∙ tiled column row fill color
    ∙ sym (λ i. cond (across.at_any i && down.at_any i) (cond (across.at_edge i || down.at_edge i) color fill ∷ []) [])

-- one part in one colour
colors_at-one : (w h x y : ℤ) (argb : ℕ) → colors_at (One (part_of (pos 0) (pos 0) w h argb)) x y ≡ cond (in_span (pos 0) w x && in_span (pos 0) h y) (argb ∷ []) []
colors_at-one w h x y argb = map-kept (in_span (pos 0) w x && in_span (pos 0) h y) (part_of (pos 0) (pos 0) w h argb) []

-- each pixel is on the border, or none is
all_border : (within edge : Bool) (fill color : ℕ) → (within ≡ true → edge ≡ true) → cond within (color ∷ []) [] ≡ cond within (cond edge color fill ∷ []) []
all_border false edge fill color each = refl
all_border true edge fill color each = ap (λ b. cond b color fill ∷ []) (sym (each refl))

no_border : (within edge : Bool) (fill color : ℕ) → (within ≡ true → edge ≡ false) → cond within (fill ∷ []) [] ≡ cond within (cond edge color fill ∷ []) []
no_border false edge fill color each = refl
no_border true edge fill color each = ap (λ b. cond b color fill ∷ []) (sym (each refl))

colors_at-with_border : (w h b x y : ℤ) (fill color : ℕ)
    → colors_at (with_border w h fill b color) x y ≡ pixel_colors w h fill (Some (b, color)) x y
colors_at-with_border w h b x y fill color =
    by_lt_z (pos 0) b
    (λ thick.
    let there : int_le b (pos 0) ≡ false = grind (arith, ints) in
    by_lt_z (pos 2 *ℤ b) w
    (λ wide. by_lt_z (pos 2 *ℤ b) h
    (λ high.
    let roomy : int_le w (pos 2 *ℤ b) || int_le h (pos 2 *ℤ b) ≡ false = grind (arith, ints) in
    rw (there, roomy) (colors_at-bordered w h b x y fill color thick wide high))
    (λ low.
    let full : int_le w (pos 2 *ℤ b) || int_le h (pos 2 *ℤ b) ≡ true = grind (arith, ints) in
    rw (there, full) (colors_at-one w h x y color ∙ all_border _ _ fill color (λ within. grind (arith, ints)))))
    (λ narrow.
    let full : int_le w (pos 2 *ℤ b) || int_le h (pos 2 *ℤ b) ≡ true = grind (arith, ints) in
    rw (there, full) (colors_at-one w h x y color ∙ all_border _ _ fill color (λ within. grind (arith, ints)))))
    (λ thin.
    let none : int_le b (pos 0) ≡ true = grind (arith, ints) in
    rw none (colors_at-one w h x y fill ∙ no_border _ _ fill color (λ within. grind (arith, ints))))

colors_at-inside : (w h : ℤ) (fill : ℕ) (border : Option (ℤ × ℕ)) (x y : ℤ)
    → colors_at (painted_inside w h fill border) x y ≡ pixel_colors w h fill border x y
colors_at-inside w h fill None x y = colors_at-one w h x y fill
colors_at-inside w h fill (Some border) x y = colors_at-with_border w h border.0 x y fill border.1

-- an empty rectangle has no pixel, and is painted as nothing
colors_at-empty : (w h : ℤ) (fill : ℕ) (border : Option (ℤ × ℕ)) (x y : ℤ) → int_le w (pos 0) || int_le h (pos 0) ≡ true
    → colors_at (painted w h fill border) x y ≡ pixel_colors w h fill border x y
colors_at-empty w h fill border x y empty =
    let no_pixel : in_span (pos 0) w x && in_span (pos 0) h y ≡ false = grind (arith, ints) in
    rw (empty, no_pixel)

-- each pixel of a rectangle is painted once, in its colour, and no other pixel is
pub colors_at-painted : (w h : ℤ) (fill : ℕ) (border : Option (ℤ × ℕ)) (x y : ℤ)
    → colors_at (painted w h fill border) x y ≡ pixel_colors w h fill border x y
colors_at-painted w h fill border x y =
    elim (cases_Bool (int_le w (pos 0) || int_le h (pos 0))) [
      | inl empty ↦ colors_at-empty w h fill border x y empty
      | inr full ↦ rw full (colors_at-inside w h fill border x y)
    ]

-- the same of what a rectangle is painted as
pub colors_at-from_painted : (rects : Rects) (w h : ℤ) (fill : ℕ) (border : Option (ℤ × ℕ)) → rects ≡ painted w h fill border
    → (x y : ℤ) → colors_at rects x y ≡ pixel_colors w h fill border x y
colors_at-from_painted rects w h fill border is x y = ap (λ r. colors_at r x y) is ∙ colors_at-painted w h fill border x y
