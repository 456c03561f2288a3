use Rattle.std.proofs.Common.{◌∙◌, IsSome, subst, sym}
use Rattle.std.specs.FinMap as map
use Rattle.timers.specs.Queue.{Stored}
use Rattle.timers.proofs.Maps.{tree-insert, tree-has, len-replaced}
use Rattle.timers.proofs.running_timers.RunningTimers.replace.Goals as goal

pub unreachable-requires : goal.unreachable-requires
unreachable-requires c =
    tree-has c.self.inside.timers c.args.serial
    (subst (λ (s : Stored). IsSome (map.get s.timers c.args.serial)) (sym c.self.view_is) c.requires)
    c.in-Err.ensures.absent

pub returns-clause-timers : goal.returns-clause-timers
returns-clause-timers c = rw (← c.self.view_is) (tree-insert c.self.inside.timers c.insert.new.self _ _ c.in-Ok.ensures.updates)

pub returns-clause-count : goal.returns-clause-count
returns-clause-count c =
    rw (← c.self.view_is) (len-replaced _ _ c.in-Ok.field-0
    (λ none. tree-has c.self.inside.timers c.args.serial
    (subst (λ (s : Stored). IsSome (map.get s.timers c.args.serial)) (sym c.self.view_is) c.requires)
    (sym c.in-Ok.ensures.old ∙ none))
    c.in-Ok.ensures.len)
