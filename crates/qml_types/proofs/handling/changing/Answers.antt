use Rattle.std.proofs.Common.{◌∙◌, Some, ap}
use Rattle.qml_types.specs.Scope.{changing}
use Rattle.qml_types.proofs.Texts.{changing_some, changing_none}
use Rattle.qml_types.proofs.handling.changing.Goals as goal

pub returns-in_ok-new-in-Some : goal.returns-in_ok-new-in-Some
returns-in_ok-new-in-Some c =
    let cut = c.in-Some.ensures.cases in
    ap (λ m. Some m) c.in_ok-new-in-Some.ensures
    ∙ changing_some c.as_str.result.now c.in-Some.slot.now cut.0 cut.1.0 cut.1.1 cut.2
    ∙ ap changing c.as_str.ensures.value

pub returns-in-None : goal.returns-in-None
returns-in-None c = changing_none c.as_str.result.now c.in-None.ensures.cases ∙ ap changing c.as_str.ensures.value
