use Rattle.std.proofs.Common.{◌∙◌, ap}
use Rattle.std.specs.Prelude.{Err}
use Rattle.binding_engine.proofs.Natives.{comes_to_value, comes_to_overflow, comes_to_need}
use Rattle.binding_engine.proofs.present.Present.native.Goals as goal

pub returns-in-Ok-clause-outcome : goal.returns-in-Ok-clause-outcome
returns-in-Ok-clause-outcome c =
    comes_to_value (c.args.self.now.objects.now, c.args.self.now.cells) c.args.native c.args.item c.in-Ok.value (c.evaluate.ensures.value ∙ c.in-Ok.is)

pub returns-in-Err-Overflow-clause-outcome : goal.returns-in-Err-Overflow-clause-outcome
returns-in-Err-Overflow-clause-outcome c =
    comes_to_overflow (c.args.self.now.objects.now, c.args.self.now.cells) c.args.native c.args.item (c.evaluate.ensures.value ∙ c.in-Err-Overflow.is ∙ ap Err c.in-Err-Overflow.field-0-is)

pub returns-in-Err-Needs-clause-outcome : goal.returns-in-Err-Needs-clause-outcome
returns-in-Err-Needs-clause-outcome c =
    comes_to_need (c.args.self.now.objects.now, c.args.self.now.cells) c.args.native c.args.item c.in-Err-Needs.needed (c.evaluate.ensures.value ∙ c.in-Err-Needs.is ∙ ap Err c.in-Err-Needs.field-0-is)
