-- Dirty items in order, each once.
use Rattle.std.specs.Prelude.{ℕ, ◌==◌, not, if◌then◌else◌, List, [], ◌∷◌, ◌++◌, filter}
use Rattle.std.specs.List.{list_any}

-- with the item at the end, unless it is among them
abbrev pub marked : ℕ → List ℕ → List ℕ
marked serial dirty = if list_any (λ s. s == serial) dirty then dirty else dirty ++ serial ∷ []

-- all but the item, in order
abbrev pub without : ℕ → List ℕ → List ℕ
without serial dirty = filter (λ s. not (s == serial)) dirty
