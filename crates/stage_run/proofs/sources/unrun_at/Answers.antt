use Rattle.std.proofs.Common.{◌∙◌, ap}
use Rattle.qml_types.specs.declared.component.ComponentType.{out-ComponentType}
use Rattle.stage_run.proofs.Refusals.{unrun_told}
use Rattle.stage_run.proofs.sources.unrun_at.Goals as goal

pub returns : goal.returns
returns c =
    unrun_told c.args.components.now c.args.place c.index-components-place.result c.in-Ok.name c.requires.first c.requires.within c.index-components-place.is
    (c.in-Ok.ensures ∙ ap (λ component. (out-ComponentType component).file) c.get-component.ensures)
