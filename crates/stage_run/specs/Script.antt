-- A script: lines that each say `frame`.
use Rattle.std.specs.Prelude.{◌≡◌, ℕ, ◌-◌, ◌==◌, ◌≤◌, if◌then◌else◌, Bool, List, [], ◌∷◌, take, replicate, slice_get, Option, None, Some, codes}

-- LF
abbrev pub is_line_end : ℕ → Bool
is_line_end byte = byte == 10

-- a byte in front of the first line
abbrev pub onto_first : ℕ → List (List ℕ) → List (List ℕ)
onto_first byte [] = (byte ∷ []) ∷ []
onto_first byte (line ∷ lines) = (byte ∷ line) ∷ lines

-- the lines of a text, each ended by LF, which the last may lack
abbrev pub lines_of : List ℕ → List (List ℕ)
lines_of [] = []
lines_of (byte ∷ bytes) = if is_line_end byte then [] ∷ lines_of bytes else onto_first byte (lines_of bytes)

-- the one command
abbrev pub frame_word : List ℕ
frame_word = codes "frame"

-- each line says `frame`, and there are `count` of them, at most 100,000
pub record IsScript (bytes : List ℕ) (count : ℕ) : Type 0 where
  pub frames : lines_of bytes ≡ replicate count frame_word
  pub few : count ≤ 100000

-- a line with this number is there and is bad: it says something else, or its command is one too many
abbrev pub IsBadLine : Option (List ℕ) → ℕ → Type 0
IsBadLine None number = ⊥
IsBadLine (Some line) number = line ≡ frame_word → number ≡ 100001

-- the first bad line, counted from 1
pub record IsFirstBadLine (bytes : List ℕ) (number : ℕ) : Type 0 where
  pub counted : 1 ≤ number
  pub near : number ≤ 100001
  pub good_before : take (number - 1) (lines_of bytes) ≡ replicate (number - 1) frame_word
  pub bad : IsBadLine (slice_get (lines_of bytes) (number - 1)) number
