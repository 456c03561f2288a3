use Rattle.piece_laws.proofs.Whole.{pieces_are_lexed}
use Rattle.piece_laws.proofs.pieces_are_lexed.Goals as goal

pub returns : goal.returns
returns c = pieces_are_lexed
