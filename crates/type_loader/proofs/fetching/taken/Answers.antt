use Rattle.std.proofs.Common.{rules, ◌≡◌}
use Rattle.type_loader.specs.Naming.{file_of, IsLawful}
use Rattle.type_loader.proofs.Taking.{halted_by_flaw, if_halted}
use Rattle.type_loader.proofs.fetching.taken.Goals as goal

pub returns-in-Ok-clause-halted : goal.returns-in-Ok-clause-halted
returns-in-Ok-clause-halted g c =
    let lawful : IsLawful (file_of c.args.name) = search rules in
    let is : c.in_ok-file.file ≡ file_of c.args.name = search rules in
    if_halted _ _ _ _ _ _ _ _ _ c.in_ok-file.file c.in-Ok.document c.source_of.result is lawful c.in-Ok.ensures.had c.source_of.ensures.memory

pub returns-in-Err-clause-halted : goal.returns-in-Err-clause-halted
returns-in-Err-clause-halted g c =
    let lawful : IsLawful (file_of c.args.name) = search rules in
    let is : c.in_ok-file.file ≡ file_of c.args.name = search rules in
    halted_by_flaw _ _ _ _ _ _ _ _ _ _ c.in_ok-file.file c.in-Err.flaw is lawful c.in-Err.ensures.without c.told.ensures
