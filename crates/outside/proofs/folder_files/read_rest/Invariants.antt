use Rattle.std.proofs.Common.{◌-◌, ◌≤◌, vec_len}
use Rattle.std.specs.Io.KnownBytes.{Consumes}
use Rattle.outside.proofs.folder_files.read_rest.Given as goal

-- what has been read came from the file, and is within the limit
abbrev pub invariant-loop-got : goal.invariant-loop-got
invariant-loop-got g l = record {
  within : vec_len l.out ≤ l.limit;
  read : Consumes (g.F.Read.remaining l.fn.file) (g.F.Read.remaining l.file) l.out.items;
}

-- each turn takes a byte or more
abbrev pub decreases-loop-got : goal.decreases-loop-got
decreases-loop-got g l = l.limit - vec_len l.out
