-- What a row ends as, once a reference to one of its items has ended.
use Rattle.std.specs.Prelude.{ℕ, List, Option, slice_set}
use Rattle.std.specs.Borrow.{LendsIf, Fml, RattleType, MutBor}
use Rattle.object_tree.specs.contracts.row.Row.{the_row}

-- the item is the last one written through the reference, and where there is none the row is as before
abbrev pub lends_item : (T : RattleType) → MutBor (List T.Denot) → ℕ → Option (MutBor T.Denot) → Fml
lends_item T row at r = LendsIf (the_row T) T row r (slice_set row.now at) row.now
