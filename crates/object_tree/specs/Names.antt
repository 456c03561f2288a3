-- What names stand for.
use Rattle.std.specs.Prelude.{ℕ, List, Option}
use Rattle.std.specs.Ordering.{nat_cmp}
use Rattle.std.specs.Cmp.Lexicographic.{slice_cmp}
use Rattle.std.specs.Map.{lookup}
use Rattle.std.specs.BTreeMap.{insert_entry, is_at}

module _ {X : Type 0} where
  -- what a name stands for
  abbrev pub named : List ℕ → List (List ℕ × X) → Option X
  named name entries = lookup (is_at (slice_cmp nat_cmp name)) entries

  -- with what one name stands for
  abbrev pub with_name : List (List ℕ × X) → List ℕ → X → List (List ℕ × X)
  with_name entries name meaning = insert_entry (slice_cmp nat_cmp) entries name meaning
