-- The words after the program's name: the main document and the script.
use Rattle.std.specs.Prelude.{◌≡◌, ◌≢◌, ℕ, ◌<◌, ◌≤◌, List, [], length, slice_get, slice_index_or, Some, All, IsTrue, nat_eq, codes}
use Rattle.std.specs.List.{ends_with}

-- the first word, or nothing
abbrev pub main_of : List (List ℕ) → List ℕ
main_of words = slice_index_or words 0 []

-- the second word, or nothing
abbrev pub script_of : List (List ℕ) → List ℕ
script_of words = slice_index_or words 1 []

-- a file of the folder itself: no dash in front, no slash and no zero byte anywhere
pub record IsPlainName (name : List ℕ) : Type 0 where
  pub no_dash : slice_get name 0 ≢ Some 45
  pub one_part : All (λ byte. (byte ≢ 47) × (byte ≢ 0)) name

-- a document's file: `.qml` at its end, and something before
pub record IsMainName (name : List ℕ) : Type 0 where
  pub short : length name ≤ 255
  pub longer : length (codes ".qml") < length name
  pub ending : IsTrue (ends_with nat_eq name (codes ".qml"))
  pub plain : IsPlainName name

-- a script's file
pub record IsScriptName (name : List ℕ) : Type 0 where
  pub some : 0 < length name
  pub short : length name ≤ 255
  pub plain : IsPlainName name

-- the words of a run: a document's file and a script's file, and no others
pub record AreLawful (words : List (List ℕ)) : Type 0 where
  pub two : length words ≡ 2
  pub main : IsMainName (main_of words)
  pub script : IsScriptName (script_of words)
