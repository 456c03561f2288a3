use Rattle.scene.proofs.Held.{held_none}
use Rattle.scene.proofs.scene.Scene.new.Goals as goal

pub invariant_of-result : goal.invariant_of-result
invariant_of-result c = held_none c.new-2.result c.in_ok-marks.marks _ _ c.new-2.ensures c.in_ok-marks.ensures c.new-3.ensures.len
