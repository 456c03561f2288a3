use Rattle.signals.proofs.Assigned.{assigned_so}
use Rattle.signals.proofs.world.World.assignment.Goals as goal

pub returns : goal.returns
returns c =
    assigned_so _ c.args.op _ c.args.self.now.objects c.in_ok-place.place c.set_place.result c.value_or_null-old.result.now c.in_ok-value.value c.placed.result
    c.in_ok-place.ensures c.value_or_null-old.ensures c.in_ok-value.ensures c.set_place.ensures c.placed.ensures
