use Rattle.std.proofs.Common.{◌∙◌, ap, w32}
use Rattle.std.proofs.lemmas.Int.{to_z-of_z}
use Rattle.type_table.specs.declared.item_slots.TheConstants.{WIDTH, HEIGHT}
use Rattle.stage_run.specs.Started.{with_content}
use Rattle.stage_run.proofs.Starting.{started_so}
use Rattle.stage_run.proofs.start.start.Goals as goal

pub returns : goal.returns
returns c =
    started_so c.args.main.now c.args.width c.args.height c.in_ok-objects.objects c.set_content.new.objects c.set_content-2.new.objects c.make_root.new.objects
    c.in_ok-limit.limit c.new-world.result.engine c.new-world.result c.note_refusal.new.world c.react-2.new.self c.complete_all.new.world c.new-2.result c.in_ok-react.field-0
    c.in_ok-objects.ensures
    (c.set_content.ensures ∙ ap (λ n. with_content WIDTH n c.in_ok-objects.objects) (to_z-of_z w32 c.args.width c.ranges.width))
    (c.set_content-2.ensures ∙ ap (λ n. with_content HEIGHT n c.set_content.new.objects) (to_z-of_z w32 c.args.height c.ranges.height))
    c.in_ok-limit.ensures.made c.in_ok-limit.ensures.limit c.new-world.ensures c.in_ok-note_refusal.ensures c.new-2.ensures c.in_ok-react.ensures c.in_ok-complete_all.ensures
