use Rattle.std.proofs.Common.{length}
use Rattle.object_tree.proofs.declaring.+is_dotted.Given as goal

abbrev pub decreases-is_dotted : goal.decreases-is_dotted
decreases-is_dotted l = length l.first.now
