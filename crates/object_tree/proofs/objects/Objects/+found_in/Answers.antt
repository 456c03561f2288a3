use Rattle.std.proofs.Common.{◌∙◌, option_copied, ap, sym}
use Rattle.object_tree.proofs.Lookups.{found_now}
use Rattle.object_tree.proofs.objects.Objects.+found_in.Goals as goal

pub returns-in-Some : goal.returns-in-Some
returns-in-Some t c =
    sym (found_now c.args.left c.args.name.now c.args.scope c.in_ok-number.field-0 c.in_ok-context.context.now c.args.self.now c.in-Some.found c.args.number
    c.if-left-eq0.false c.in_ok-number.was (sym c.context.ensures ∙ ap option_copied c.in_ok-context.was) (sym c.found_here.ensures ∙ c.in-Some.is))
