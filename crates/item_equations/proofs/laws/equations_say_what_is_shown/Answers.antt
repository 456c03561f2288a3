use Rattle.item_equations.proofs.Answered.{answers}
use Rattle.item_equations.proofs.laws.equations_say_what_is_shown.Goals as goal

pub returns : goal.returns
returns c family values read native item = answers family values read native item
