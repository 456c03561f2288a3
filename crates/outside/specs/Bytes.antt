-- What a sink that tells its bytes has gained.
use Rattle.std.specs.Prelude.{ℕ, List, Option, take}
use Rattle.std.specs.Io.KnownBytes.{Appends}

-- known bytes grew by the first n bytes of the piece
abbrev pub AppendsPart : Option (List ℕ) → Option (List ℕ) → List ℕ → Type 0
AppendsPart old new piece = (n : ℕ) × Appends old new (take n piece)
