use Rattle.print_laws.proofs.Law.{same_again}
use Rattle.print_laws.proofs.OneText.{one_text}
use Rattle.print_laws.proofs.alike_documents_have_one_text.Goals as goal

pub returns-clause-texts : goal.returns-clause-texts
returns-clause-texts c = one_text

pub returns-clause-again : goal.returns-clause-again
returns-clause-again c = same_again
