-- The forms of colours by their length.
use Rattle.std.proofs.Common.{◌≡◌, ◌∙◌, ℕ, ◌<◌, ◌≤◌, false, List, [], ◌∷◌, length, take, drop, get_or, ◌-◌, Option, Some, None, refl, ap, arith, ◌==◌}
use Rattle.std.proofs.lemmas.List.{take_all}
use Rattle.color_text.specs.Spelled.{hex_byte, color_of_bytes, hexadecimal_color, spelled_color, named_color}

pub three : (ds : List ℕ) (red green blue : Option ℕ) → 3 ≤ length ds → length ds < 4 →
    red ≡ hex_byte (get_or ds 0 0) (get_or ds 0 0) → green ≡ hex_byte (get_or ds 1 0) (get_or ds 1 0) → blue ≡ hex_byte (get_or ds 2 0) (get_or ds 2 0) →
    color_of_bytes (Some 255) red green blue ≡ hexadecimal_color ds
three (r ∷ g ∷ b ∷ []) red green blue some few is_red is_green is_blue =
    ap (λ x. color_of_bytes (Some 255) x green blue) is_red
    ∙ (ap (λ x. color_of_bytes (Some 255) (hex_byte r r) x blue) is_green ∙ ap (λ x. color_of_bytes (Some 255) (hex_byte r r) (hex_byte g g) x) is_blue)
three [] red green blue some few is_red is_green is_blue = absurd (omega (arith, some))
three (r ∷ []) red green blue some few is_red is_green is_blue = absurd (omega (arith, some))
three (r ∷ g ∷ []) red green blue some few is_red is_green is_blue = absurd (omega (arith, some))
three (r ∷ g ∷ b ∷ d ∷ ds) red green blue some few is_red is_green is_blue = absurd (omega (arith, few))

pub six : (ds : List ℕ) (red green blue : Option ℕ) → 6 ≤ length ds → length ds < 7 →
    red ≡ hex_byte (get_or ds 0 0) (get_or ds 1 0) → green ≡ hex_byte (get_or ds 2 0) (get_or ds 3 0) → blue ≡ hex_byte (get_or ds 4 0) (get_or ds 5 0) →
    color_of_bytes (Some 255) red green blue ≡ hexadecimal_color ds
six (r ∷ s ∷ g ∷ h ∷ b ∷ c ∷ []) red green blue some few is_red is_green is_blue =
    ap (λ x. color_of_bytes (Some 255) x green blue) is_red
    ∙ (ap (λ x. color_of_bytes (Some 255) (hex_byte r s) x blue) is_green ∙ ap (λ x. color_of_bytes (Some 255) (hex_byte r s) (hex_byte g h) x) is_blue)
six [] red green blue some few is_red is_green is_blue = absurd (omega (arith, some))
six (r ∷ []) red green blue some few is_red is_green is_blue = absurd (omega (arith, some))
six (r ∷ s ∷ []) red green blue some few is_red is_green is_blue = absurd (omega (arith, some))
six (r ∷ s ∷ g ∷ []) red green blue some few is_red is_green is_blue = absurd (omega (arith, some))
six (r ∷ s ∷ g ∷ h ∷ []) red green blue some few is_red is_green is_blue = absurd (omega (arith, some))
six (r ∷ s ∷ g ∷ h ∷ b ∷ []) red green blue some few is_red is_green is_blue = absurd (omega (arith, some))
six (r ∷ s ∷ g ∷ h ∷ b ∷ c ∷ d ∷ ds) red green blue some few is_red is_green is_blue = absurd (omega (arith, few))

pub eight : (ds : List ℕ) (alpha red green blue : Option ℕ) → 8 ≤ length ds → length ds < 9 →
    alpha ≡ hex_byte (get_or ds 0 0) (get_or ds 1 0) →
    red ≡ hex_byte (get_or ds 2 0) (get_or ds 3 0) → green ≡ hex_byte (get_or ds 4 0) (get_or ds 5 0) → blue ≡ hex_byte (get_or ds 6 0) (get_or ds 7 0) →
    color_of_bytes alpha red green blue ≡ hexadecimal_color ds
eight (a ∷ z ∷ r ∷ s ∷ g ∷ h ∷ b ∷ c ∷ []) alpha red green blue some few is_alpha is_red is_green is_blue =
    ap (λ x. color_of_bytes x red green blue) is_alpha
    ∙ (ap (λ x. color_of_bytes (hex_byte a z) x green blue) is_red
    ∙ (ap (λ x. color_of_bytes (hex_byte a z) (hex_byte r s) x blue) is_green ∙ ap (λ x. color_of_bytes (hex_byte a z) (hex_byte r s) (hex_byte g h) x) is_blue))
eight [] alpha red green blue some few is_alpha is_red is_green is_blue = absurd (omega (arith, some))
eight (a ∷ []) alpha red green blue some few is_alpha is_red is_green is_blue = absurd (omega (arith, some))
eight (a ∷ z ∷ []) alpha red green blue some few is_alpha is_red is_green is_blue = absurd (omega (arith, some))
eight (a ∷ z ∷ r ∷ []) alpha red green blue some few is_alpha is_red is_green is_blue = absurd (omega (arith, some))
eight (a ∷ z ∷ r ∷ s ∷ []) alpha red green blue some few is_alpha is_red is_green is_blue = absurd (omega (arith, some))
eight (a ∷ z ∷ r ∷ s ∷ g ∷ []) alpha red green blue some few is_alpha is_red is_green is_blue = absurd (omega (arith, some))
eight (a ∷ z ∷ r ∷ s ∷ g ∷ h ∷ []) alpha red green blue some few is_alpha is_red is_green is_blue = absurd (omega (arith, some))
eight (a ∷ z ∷ r ∷ s ∷ g ∷ h ∷ b ∷ []) alpha red green blue some few is_alpha is_red is_green is_blue = absurd (omega (arith, some))
eight (a ∷ z ∷ r ∷ s ∷ g ∷ h ∷ b ∷ c ∷ d ∷ ds) alpha red green blue some few is_alpha is_red is_green is_blue = absurd (omega (arith, few))

-- a text by digits behind '#', by another text, and by none
pub by_digits : (text digits : List ℕ) → 1 ≤ length text → get_or text 0 0 ≡ 35 → digits ≡ take (length text - 1) (drop 1 text) → hexadecimal_color digits ≡ spelled_color text
unfolding spelled_color
by_digits [] digits some hash is = absurd (omega (arith, some))
by_digits (first ∷ rest) digits some hash is = rw (hash, is ∙ take_all (length (first ∷ rest) - 1) rest (omega arith)) refl

pub by_name : (text : List ℕ) → 1 ≤ length text → (get_or text 0 0 == 35) ≡ false → named_color text ≡ spelled_color text
unfolding spelled_color
by_name [] some other = absurd (omega (arith, some))
by_name (first ∷ rest) some other = rw other refl

pub by_nothing : (text : List ℕ) → length text < 1 → None ≡ spelled_color text
unfolding spelled_color
by_nothing [] none = refl
by_nothing (first ∷ rest) none = absurd (omega (arith, none))
