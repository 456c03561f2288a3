use Rattle.std.proofs.Common.{◌≡◌}
use Rattle.std.specs.FinMap.{get}
use Rattle.std.specs.VecDeque.Iter.{deque_iter_rest}
use Rattle.outside.specs.FilesInMemory.{store_of}
use Rattle.outside.proofs.memory_files.newest.Given as goal

-- the name is not among the files that were passed
abbrev pub invariant-loop-file : goal.invariant-loop-file
invariant-loop-file l =
    get (store_of l.files.items) l.name ≡ get (store_of (deque_iter_rest l.file-iterator)) l.name
