use Rattle.std.proofs.Common.{Some}
use Rattle.baton.specs.declared.view.Cargo.TheVariants.{Answer}
use Rattle.baton.proofs.EachStep.{in_hand}
use Rattle.baton.proofs.waiting.answer_in_hand.Goals as goal

pub exchange-requires : goal.exchange-requires
exchange-requires g c = let held = c.requires.holds in (c.requires.table, (Some (Answer held.0), in_hand _ _ held.1))
