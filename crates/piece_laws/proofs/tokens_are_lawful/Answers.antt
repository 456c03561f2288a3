use Rattle.piece_laws.proofs.Lawful.{tokens_are_lawful}
use Rattle.piece_laws.proofs.tokens_are_lawful.Goals as goal

pub returns : goal.returns
returns c = tokens_are_lawful
