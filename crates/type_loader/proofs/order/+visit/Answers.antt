use Rattle.std.proofs.Common.{rules, arith, ◌≡◌, ◌≢◌, ◌-◌, false, fold, ap, sym, ◌∙◌}
use Rattle.type_loader.specs.Cycles.{mentioned_by}
use Rattle.type_loader.specs.Naming.{among, with_name}
use Rattle.type_loader.specs.Order.{post}
use Rattle.type_loader.proofs.Posting.{done_at_end, on_ok, post_more}
use Rattle.type_loader.proofs.order.+visit.Goals as goal

pub returns : goal.returns
returns t c =
    let some : c.args.levels ≢ 0 = search rules in
    let absent : among c.args.done.now c.args.name.now ≡ false = search rules in
    let copied : c.in_ok-copy.field-0 ≡ c.args.name.now = search rules in
    let done : c.loop-mention.done ≡ fold (post c.args.sources.now (c.args.levels - 1)) c.args.done.now (mentioned_by c.args.sources.now c.args.name.now) =
    done_at_end (post c.args.sources.now (c.args.levels - 1)) (λ m. m.name) c.loop-mention.done _ c.mentioned_by-mention-items.result.now c.loop-mention.mention-index (omega arith) c.loop-mention.invariant in
    on_ok c.add.result _ _
    (λ (new : c.add.new.self ≡ with_name c.loop-mention.done c.in_ok-copy.field-0).
    new ∙ (ap (λ d. with_name d c.in_ok-copy.field-0) done ∙ (ap (with_name _) copied ∙ sym (post_more c.args.sources.now c.args.levels c.args.done.now c.args.name.now some absent))))
    c.add.ensures.ok
