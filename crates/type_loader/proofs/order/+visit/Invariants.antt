use Rattle.std.proofs.Common.{◌≡◌, ℕ, ◌-◌, fold, map, drop}
use Rattle.type_loader.specs.Cycles.{mentioned_by}
use Rattle.type_loader.specs.Order.{post}
use Rattle.type_loader.proofs.order.+visit.Given as goal

abbrev pub decreases-visit : goal.decreases-visit
decreases-visit l = l.levels

abbrev pub invariant-loop-mention : goal.invariant-loop-mention
invariant-loop-mention l =
    fold (post l.sources (l.levels - 1)) l.done (map (λ m. m.name) (drop l.mention-index l.mention-items))
    ≡ fold (post l.sources (l.levels - 1)) l.fn.done (mentioned_by l.sources l.name)
