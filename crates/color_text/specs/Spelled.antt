-- The colours that texts spell, as 0xAARRGGBB.
use Rattle.std.specs.Prelude.{ℕ, ◌+◌, ◌-◌, ◌*◌, ◌^◌, Bool, ◌&&◌, ◌==◌, nat_le, List, [], ◌∷◌, Option, Some, None, option_map, option_and_then, codes, find, if◌then◌else◌}
use Rattle.std.specs.Str.{str_eq_ignore_ascii_case}

-- low ≤ b ≤ high
abbrev within : ℕ → ℕ → ℕ → Bool
within low high b = nat_le low b && nat_le b high

-- the value of a hexadecimal digit, in either case
abbrev pub hex_digit : ℕ → Option ℕ
hex_digit b =
    if within 48 57 b then Some (b - 48) else
    if within 65 70 b then Some (b - 55) else
    if within 97 102 b then Some (b - 87) else None

-- the value of two hexadecimal digits
abbrev pub hex_byte : ℕ → ℕ → Option ℕ
hex_byte first second =
    option_and_then (λ high. option_map (λ low. 16 * high + low) (hex_digit second)) (hex_digit first)

-- the colour of these bytes
abbrev pub argb_of : ℕ → ℕ → ℕ → ℕ → ℕ
argb_of alpha red green blue = alpha * 2 ^ 24 + red * 2 ^ 16 + green * 2 ^ 8 + blue

-- the colour of the bytes that these are, where all four are some
abbrev pub color_of_bytes : Option ℕ → Option ℕ → Option ℕ → Option ℕ → Option ℕ
color_of_bytes alpha red green blue =
    option_and_then (λ a. option_and_then (λ r. option_and_then (λ g. option_map (λ b. argb_of a r g b) blue) green) red) alpha

-- the colour that the digits behind '#' spell: RGB, where each digit stands for two, RRGGBB or AARRGGBB
abbrev pub hexadecimal_color : List ℕ → Option ℕ
hexadecimal_color (r ∷ g ∷ b ∷ []) = color_of_bytes (Some 255) (hex_byte r r) (hex_byte g g) (hex_byte b b)
hexadecimal_color (r ∷ s ∷ g ∷ h ∷ b ∷ c ∷ []) = color_of_bytes (Some 255) (hex_byte r s) (hex_byte g h) (hex_byte b c)
hexadecimal_color (a ∷ z ∷ r ∷ s ∷ g ∷ h ∷ b ∷ c ∷ []) =
    color_of_bytes (hex_byte a z) (hex_byte r s) (hex_byte g h) (hex_byte b c)
hexadecimal_color _ = None

-- the names of colours
abbrev pub color_names : List (List ℕ × ℕ)
color_names =
    (codes "black", 0xff000000)
    ∷ (codes "white", 0xffffffff)
    ∷ (codes "red", 0xffff0000)
    ∷ (codes "lime", 0xff00ff00)
    ∷ (codes "green", 0xff008000)
    ∷ (codes "blue", 0xff0000ff)
    ∷ (codes "yellow", 0xffffff00)
    ∷ (codes "cyan", 0xff00ffff)
    ∷ (codes "aqua", 0xff00ffff)
    ∷ (codes "magenta", 0xffff00ff)
    ∷ (codes "fuchsia", 0xffff00ff)
    ∷ (codes "gray", 0xff808080)
    ∷ (codes "grey", 0xff808080)
    ∷ (codes "silver", 0xffc0c0c0)
    ∷ (codes "maroon", 0xff800000)
    ∷ (codes "olive", 0xff808000)
    ∷ (codes "navy", 0xff000080)
    ∷ (codes "purple", 0xff800080)
    ∷ (codes "teal", 0xff008080)
    ∷ (codes "orange", 0xffffa500)
    ∷ (codes "lightgray", 0xffd3d3d3)
    ∷ (codes "darkgray", 0xffa9a9a9)
    ∷ (codes "pink", 0xffffc0cb)
    ∷ (codes "brown", 0xffa52a2a)
    ∷ (codes "gold", 0xffffd700)
    ∷ (codes "tomato", 0xffff6347)
    ∷ (codes "steelblue", 0xff4682b4)
    ∷ (codes "lightsteelblue", 0xffb0c4de)
    ∷ (codes "transparent", 0x00000000) ∷ []

-- the colour of that name among these, in any case of letters
unfoldable pub color_among : List (List ℕ × ℕ) → List ℕ → Option ℕ
color_among names text = option_map (λ entry. entry.1) (find (λ entry. str_eq_ignore_ascii_case entry.0 text) names)

-- the colour of that name
unfoldable pub named_color : List ℕ → Option ℕ
named_color text = color_among color_names text

-- the colour that a text spells: by digits behind '#', or else by a name
unfoldable pub spelled_color : List ℕ → Option ℕ
spelled_color [] = None
spelled_color (first ∷ rest) = if first == 35 then hexadecimal_color rest else named_color (first ∷ rest)
