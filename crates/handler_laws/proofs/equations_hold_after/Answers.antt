use Rattle.handler_laws.proofs.Held as held
use Rattle.handler_laws.proofs.equations_hold_after.Goals as goal

pub returns : goal.returns
returns c = record { reacts = held.reacts; writes = held.writes; emits = held.emits; completes = held.completes; executes = held.executes }
