use Rattle.std.proofs.Common.{◌∙◌, ap}
use Rattle.std.specs.Prelude.{Option}
use Rattle.qml_ast.specs.declared.place.Place.{Place}
use Rattle.qml_ast.specs.declared.value.Value.{Value}
use Rattle.item_equations.specs.Ignored.{neglect_of}
use Rattle.binding_engine.specs.Equations.{family_of}
use Rattle.binding_engine.proofs.Resting.{all_seen}
use Rattle.binding_engine.proofs.ignored.neglect_at.Goals as goal

pub returns : goal.returns
returns c =
    c.neglect_of.ensures
    ∙ ap (λ (see : Place → Option Value). neglect_of (family_of c.args.present.now.objects.now) see c.args.item c.args.slot)
    (all_seen c.args.present.now.objects.now c.args.present.now.cells c.requires)
