use Rattle.std.proofs.Common.{◌≡◌, drop}
use Rattle.color_text.proofs.Entries.{among}
use Rattle.color_text.proofs.table.color_among.Given as goal

-- the colour is that of the entries that are left
abbrev pub invariant-loop-entry : goal.invariant-loop-entry
invariant-loop-entry l = among l.text (drop l.entry-index l.names) ≡ among l.text l.names
