-- Files in memory, and what one fetch does to them.
use Rattle.std.specs.Prelude.{ℕ, Bool, nat_lt, List, length, Option, None, Some, if◌then◌else◌, string_bytes, map, refl}
use Rattle.std.specs.Ordering.{nat_cmp}
use Rattle.std.specs.FinMap as files_by_name
use Rattle.std.specs.FinSet as call_numbers
use Rattle.std.specs.Coded.{Coded, code_by, coded×, coded_ℕ, coded_list}
use Rattle.outside.specs.Count.{next_count}
use Rattle.outside.specs.Store.{Store}
use Rattle.outside.specs.declared.files.Fetch.{Fetch}
use Rattle.outside.specs.declared.files.Fetch.TheVariants.{Found, Missing, TooLong, Failed}
use Rattle.outside.specs.declared.memory_files.MemoryFile.{MemoryFile}

-- the files by name, the numbers of the fetches that fail, and how many fetches were made and have failed
pub record MemoryFiles : Type 0 where
  pub files : Store
  pub failing : call_numbers.FinSet nat_cmp
  pub calls : ℕ
  pub faults : ℕ

-- it is stored as the tuple of its fields
abbrev pub memory_files_code : Coded MemoryFiles
memory_files_code =
    code_by (Store × (call_numbers.FinSet nat_cmp × (ℕ × ℕ)))
    (coded× (files_by_name.code (coded_list coded_ℕ) (coded_list coded_ℕ)) (coded× (call_numbers.code coded_ℕ) (coded× coded_ℕ coded_ℕ)))
    (λ m. (m.files, (m.failing, (m.calls, m.faults))))
    (λ p. record { files = p.0; failing = p.1.0; calls = p.1.1.0; faults = p.1.1.1 })
    (λ _. refl)

-- a file's name with its bytes
abbrev pub named_bytes : MemoryFile → List ℕ × List ℕ
named_bytes file = (string_bytes file.name, file.bytes.items)

-- the files by name, where the newest of a name stands first
abbrev pub store_of : List MemoryFile → Store
store_of files = files_by_name.from_entries (map named_bytes files)

-- the calls of these numbers
abbrev pub call_set_of : List ℕ → call_numbers.FinSet nat_cmp
call_set_of calls = call_numbers.from_list calls

-- the next fetch is one that fails
abbrev pub fails_next : MemoryFiles → Bool
fails_next m = call_numbers.contains m.failing (next_count m.calls)

-- the answer for a file that is there or not, and may have so many bytes
abbrev pub answer_for : Option (List ℕ) → ℕ → Fetch
answer_for None limit = Missing
answer_for (Some file) limit = (if nat_lt limit (length file) then TooLong else Found)

-- the answer of the next fetch, where memory lasts
abbrev pub next_answer : MemoryFiles → List ℕ → ℕ → Fetch
next_answer m name limit = (if fails_next m then Failed else answer_for (files_by_name.get m.files name) limit)

-- what a fetch leaves
abbrev pub after_fetch : MemoryFiles → MemoryFiles
after_fetch m = record m { calls = next_count m.calls; faults = (if fails_next m then next_count m.faults else m.faults) }
