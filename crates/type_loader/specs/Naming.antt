-- The names of types and of their files.
use Rattle.std.specs.Prelude.{◌≡◌, ◌≢◌, ℕ, ◌≤◌, nat_eq, Bool, List, [], ◌∷◌, ◌++◌, length, fold, codes, All, if◌then◌else◌}
use Rattle.std.specs.Cmp.Lexicographic.{pointwise}
use Rattle.std.specs.List.{list_any}

-- the file of the type of that name
abbrev pub file_of : List ℕ → List ℕ
file_of name = name ++ codes ".qml"

-- a name that a document's file may have: `.qml` at its end, 5 to 255 bytes, no slash and no zero byte
pub record IsLawful (file : List ℕ) : Type 0 where
  pub ending : (name : List ℕ) × (file ≡ file_of name)
  pub least : 5 ≤ length file
  pub most : length file ≤ 255
  pub plain : All (λ byte. (byte ≢ 47) × (byte ≢ 0)) file

-- the names have this one
abbrev pub among : List (List ℕ) → List ℕ → Bool
among names name = list_any (pointwise nat_eq name) names

-- the names with this one, which goes last where it is new
abbrev pub with_name : List (List ℕ) → List ℕ → List (List ℕ)
with_name names name = if among names name then names else names ++ name ∷ []
