-- A store of files, and what a fetch says of it.
use Rattle.std.specs.Prelude.{◌≡◌, ℕ, ◌<◌, ◌≤◌, List, [], length, Option, None, Some, IfSome}
use Rattle.std.specs.Ordering.{nat_cmp}
use Rattle.std.specs.Cmp.Lexicographic.{slice_cmp}
use Rattle.std.specs.FinMap.{FinMap, get}
use Rattle.outside.specs.declared.files.Fetch.{Fetch}
use Rattle.outside.specs.declared.files.Fetch.TheVariants.{Found, Missing, TooLong, Failed, NoMemory}

-- the files by name, names and files as their bytes
abbrev pub Store : Type 0
Store = FinMap (slice_cmp nat_cmp) (List ℕ)

-- the store has a longer file of that name
abbrev pub IsLonger : Option (List ℕ) → ℕ → Type 0
IsLonger None limit = ⊥
IsLonger (Some file) limit = limit < length file

-- a fetch answered this and left these bytes
abbrev pub Answers : Option Store → List ℕ → ℕ → List ℕ → Fetch → Type 0
Answers held name limit out Found = (length out ≤ limit) × IfSome held (λ files. get files name ≡ Some out)
Answers held name limit out Missing = (out ≡ []) × IfSome held (λ files. get files name ≡ None)
Answers held name limit out TooLong = (out ≡ []) × IfSome held (λ files. IsLonger (get files name) limit)
Answers held name limit out Failed = out ≡ []
Answers held name limit out NoMemory = out ≡ []
