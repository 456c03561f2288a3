use Rattle.print_laws.proofs.Law.{spells_alike, only_alike}
use Rattle.print_laws.proofs.canonical_text_is_alike.Goals as goal

pub returns-clause-spelled : goal.returns-clause-spelled
returns-clause-spelled c = spells_alike

pub returns-clause-only : goal.returns-clause-only
returns-clause-only c = only_alike
