use Rattle.type_loader.proofs.Answering.{if_fault, if_read, if_unit, still_sound_after}
use Rattle.type_loader.proofs.Sized.{if_keeps}
use Rattle.type_loader.proofs.loading.load.Goals as goal

pub returns-clause-sized : goal.returns-clause-sized
returns-clause-sized g c = if_keeps _ _ _ _ _ _ c.listed.result c.listed.ensures.loaded

pub returns-clause-unit : goal.returns-clause-unit
returns-clause-unit g c = if_unit _ _ _ _ _ (g.F.Files.faults c.args.files.now) (g.F.Files.faults c.listed.new.files) _ c.listed.result c.listed.ensures.loaded

pub returns-clause-fault : goal.returns-clause-fault
returns-clause-fault g c = if_fault _ _ _ _ _ _ _ _ c.listed.result c.listed.ensures.unloaded

pub returns-clause-sound : goal.returns-clause-sound
returns-clause-sound g c = still_sound_after _ _ _ _ _ _ _ _ c.listed.result c.listed.ensures.loaded c.listed.ensures.unloaded

pub returns-clause-read : goal.returns-clause-read
returns-clause-read g c = if_read _ _ _ _ _ _ _ _ c.listed.result c.listed.ensures.unloaded
