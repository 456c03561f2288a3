use Rattle.std.proofs.Common.{subst}
use Rattle.std.specs.Map.{keys_of}
use Rattle.arena.specs.Arena.{AreGiven}
use Rattle.object_tree.specs.Store.{Store}
use Rattle.object_tree.proofs.Undone.{begun}
use Rattle.object_tree.proofs.objects.Objects.mark.Goals as goal

pub returns-clause-begun : goal.returns-clause-begun
returns-clause-begun c =
    begun c.args.parent c.args.self.now (subst (λ (s : Store). AreGiven s.objects.last (keys_of s.objects.things)) c.self.view_is c.last.ensures.given)
