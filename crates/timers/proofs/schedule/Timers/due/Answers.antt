use Rattle.std.proofs.Common.{rules}
use Rattle.timers.specs.Schedule.{IsFirstDue, IsNoneDue}
use Rattle.timers.proofs.Firsts.{first_is, none_is}
use Rattle.timers.proofs.schedule.Timers.due.Goals as goal

pub returns-in-Some-clause-least : goal.returns-in-Some-clause-least
returns-in-Some-clause-least c =
    let found : IsFirstDue c.args.self.now.running c.args.until (c.in-Some.time, c.in-Some.serial) = search rules in
    first_is _ _ _ found

pub returns-in_default-clause-least : goal.returns-in_default-clause-least
returns-in_default-clause-least c =
    let none : IsNoneDue c.args.self.now.running c.args.until = search rules in none_is _ _ none

pub returns-in_default-2-clause-least : goal.returns-in_default-2-clause-least
returns-in_default-2-clause-least c =
    let none : IsNoneDue c.args.self.now.running c.args.until = search rules in none_is _ _ none
