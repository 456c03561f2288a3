use Rattle.statement_laws.proofs.Sound.{statement_sound, block_sound}
use Rattle.statement_laws.proofs.reads_spelled.Goals as goal

pub returns-clause-stmts : goal.returns-clause-stmts
returns-clause-stmts c = statement_sound

pub returns-clause-blocks : goal.returns-clause-blocks
returns-clause-blocks c = block_sound
