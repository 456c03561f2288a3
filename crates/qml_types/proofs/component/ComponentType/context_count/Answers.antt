use Rattle.qml_types.proofs.Counts.{kept_contexts}
use Rattle.qml_types.proofs.component.ComponentType.context_count.Goals as goal

pub returns : goal.returns
returns c = kept_contexts c.args.self.now
