-- A sink in memory, and what one write does to it.
use Rattle.std.specs.Prelude.{ℕ, ◌-◌, ◌<◌, ◌≤◌, List, length, min}

-- the bytes written so far, at most how many a write takes and how many ever go in, and the writes that failed
pub record MemorySink : Type 0 where
  pub bytes : List ℕ
  pub per_write : ℕ
  pub room : ℕ
  pub faults : ℕ

-- how many bytes of a piece a write takes
abbrev pub count_taken : MemorySink → List ℕ → ℕ
count_taken sink piece = min sink.per_write (min (length piece) (sink.room - length sink.bytes))

-- the piece has bytes, and no room is left for one
abbrev pub IsFullFor : MemorySink → List ℕ → Type 0
IsFullFor sink piece = (0 < length piece) × (sink.room ≤ length sink.bytes)
