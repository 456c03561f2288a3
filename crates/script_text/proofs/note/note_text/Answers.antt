use Rattle.script_text.proofs.note.note_text.Goals as goal

pub returns-in-Loop : goal.returns-in-Loop
returns-in-Loop c = rw c.in-Loop.is c.told.ensures

pub returns-in-Fault : goal.returns-in-Fault
returns-in-Fault c = rw (c.in-Fault.is, ← c.fault_word.ensures) c.told-in-Fault.ensures
