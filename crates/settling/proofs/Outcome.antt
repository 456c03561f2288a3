-- What each place has after a settle.
use Rattle.std.proofs.Common.{List}
use Rattle.settling.specs.Runs.{Run}
use Rattle.settling.specs.Spaces.{Space}
use Rattle.settling.specs.Settling.{Settles, Covers, IsReady, settled}
use Rattle.settling.specs.Laws.{IsSettled}
use Rattle.settling.proofs.Steps.{ready_ended, becomes_ended, becomes_value, becomes_mark}
use Rattle.settling.proofs.Fulfilled.{settles_later, settles_hold, settles_end}
use Rattle.settling.proofs.Fuel.{settled_is}

module _ {S P V F : Type 0} (space : Space S P V F) (tree : P → Run P V F) where
  pub settles_outcome : {places : List P} {s t : S} → Settles space tree places s t → Covers space places s → IsReady space s → (p : P)
      → IsSettled space tree s t p
  settles_outcome {s = s} h covers ready p = record {
    ended = settles_end space tree h covers ready p;
    holds = λ f. (settles_hold space tree h covers p f).holds;
    as_before = λ f. becomes_ended (settles_later space tree h p) (ready_ended (space.at s p) (ready p) f);
    last_value = λ v. becomes_value (settles_later space tree h p) v;
    last_mark = λ v. becomes_mark (settles_later space tree h p) v;
  }

  pub settled_ends : (places : List P) (s : S) → Covers space places s → IsReady space s → (p : P) → IsSettled space tree s (settled space tree places s) p
  settled_ends places s covers ready p = settles_outcome (settled_is space tree places s covers) covers ready p
