use Rattle.std.proofs.Common.{◌≡◌, ◌≤◌}
use Rattle.type_loader.specs.Loads.{AreGrown}
use Rattle.type_loader.proofs.gathering.gathered.Given as goal

abbrev pub invariant-loop-count : goal.invariant-loop-count
invariant-loop-count g l = record {
  held : g.F.Files.held l.files ≡ g.F.Files.held l.fn.files;
  later : g.F.Files.faults l.fn.files ≤ g.F.Files.faults l.files;
  grown : AreGrown (g.F.Files.held l.fn.files) l.fn.cache l.cache l.fn.files l.files l.fn.root l.names l.sources l.count;
}
