-- Entries of a table under names.
use Rattle.std.proofs.Common.{◌≡◌, ◌∙◌, ℕ, ◌<◌, ◌≤◌, ◌+◌, true, false, List, [], ◌∷◌, length, drop, get_or, map, Bor, Option, Some, None, refl, sym}
use Rattle.std.specs.Str.{str_eq_ignore_ascii_case}
use Rattle.std.proofs.lemmas.List.{at_drop_more, at_drop_all}
use Rattle.color_text.specs.Spelled.{color_among}

-- a table's entry, as the names are seen
abbrev pub seen : Bor (List ℕ) × ℕ → List ℕ × ℕ
seen entry = (entry.0.now, entry.1)

-- the colour among these entries
abbrev pub among : List ℕ → List (Bor (List ℕ) × ℕ) → Option ℕ
among text names = color_among (map seen names) text

-- what stands at no place of a table
abbrev pub no_entry : Bor (List ℕ) × ℕ
no_entry = (record { ref_ptr = (0, 0); now = [] }, 0)

abbrev pub entry_at : List (Bor (List ℕ) × ℕ) → ℕ → Bor (List ℕ) × ℕ
entry_at names i = get_or names i no_entry

first_found : (text : List ℕ) (entry : Bor (List ℕ) × ℕ) (names : List (Bor (List ℕ) × ℕ)) → str_eq_ignore_ascii_case entry.0.now text ≡ true →
    among text (entry ∷ names) ≡ Some entry.1
unfolding color_among
first_found text entry names is = rw is refl

first_passed : (text : List ℕ) (entry : Bor (List ℕ) × ℕ) (names : List (Bor (List ℕ) × ℕ)) → str_eq_ignore_ascii_case entry.0.now text ≡ false →
    among text (entry ∷ names) ≡ among text names
unfolding color_among
first_passed text entry names is = rw is refl

-- the entry is of that name
pub found : (text : List ℕ) (names : List (Bor (List ℕ) × ℕ)) (i : ℕ) → i < length names → str_eq_ignore_ascii_case (entry_at names i).0.now text ≡ true →
    Some (entry_at names i).1 ≡ among text (drop i names)
found text names i within is =
    sym (at_drop_more (among text) names i no_entry within ∙ first_found text (entry_at names i) (drop (i + 1) names) is)

-- the entry is of another name
pub passed : (text : List ℕ) (names : List (Bor (List ℕ) × ℕ)) (i : ℕ) → i < length names → str_eq_ignore_ascii_case (entry_at names i).0.now text ≡ false →
    among text (drop (i + 1) names) ≡ among text (drop i names)
passed text names i within is =
    sym (at_drop_more (among text) names i no_entry within ∙ first_passed text (entry_at names i) (drop (i + 1) names) is)

-- no entry is left
pub none_left : (text : List ℕ) (names : List (Bor (List ℕ) × ℕ)) (i : ℕ) → length names ≤ i → None ≡ among text (drop i names)
unfolding color_among
none_left text names i past = sym (at_drop_all (among text) names i past)
