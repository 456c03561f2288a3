use Rattle.qml_types.proofs.Counts.{kept_levels}
use Rattle.qml_types.proofs.component.ComponentType.depth.Goals as goal

pub returns : goal.returns
returns c = kept_levels c.args.self.now
