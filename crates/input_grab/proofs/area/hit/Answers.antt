use Rattle.std.proofs.Common.{rules, arith}
use Rattle.std.proofs.lemmas.Int.{ints}
use Rattle.std.specs.Option.{option_copied}
use Rattle.input_grab.proofs.Topmost.{topmost-from_search, last_from_topmost, none_from_topmost}
use Rattle.input_grab.proofs.area.hit.Goals as goal

pub returns-clause-serial : goal.returns-clause-serial
returns-clause-serial c =
    topmost-from_search c.args.areas.now c.args.x c.args.y _ _ (option_copied c.last_with.result) c.map.result (search rules) c.last_with.ensures (omega (arith, ints)) (omega (arith, ints))

pub returns-clause-last : goal.returns-clause-last
returns-clause-last c = last_from_topmost c.args.areas.now c.args.x c.args.y c.map.result (returns-clause-serial c)

pub returns-clause-none : goal.returns-clause-none
returns-clause-none c = none_from_topmost c.args.areas.now c.args.x c.args.y c.map.result (returns-clause-serial c)
