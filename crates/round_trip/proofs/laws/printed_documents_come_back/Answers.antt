use Rattle.round_trip.proofs.Coming.{comes_back}
use Rattle.round_trip.proofs.laws.printed_documents_come_back.Goals as goal

pub returns : goal.returns
returns c = comes_back
