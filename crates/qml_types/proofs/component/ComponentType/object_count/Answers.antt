use Rattle.qml_types.proofs.Counts.{kept_objects}
use Rattle.qml_types.proofs.component.ComponentType.object_count.Goals as goal

pub returns : goal.returns
returns c = kept_objects c.args.self.now
