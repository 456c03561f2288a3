use Rattle.object_tree.proofs.Kept as kept
use Rattle.object_tree.proofs.ignored.kept_are_ignored.Goals as goal

pub returns : goal.returns
returns c = kept.kept_are_ignored
