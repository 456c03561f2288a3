use Rattle.stage_run.proofs.Refusals.{if_run, if_unrun, refused_loading}
use Rattle.stage_run.proofs.sources.load_document.Goals as goal

pub returns-in-Ok-clause-read : goal.returns-in-Ok-clause-read
returns-in-Ok-clause-read g c =
    if_run (g.F.Files.held c.args.files.now) c.args.name.now c.in-Ok.unit _ c.all_run.result c.new-cache.ensures c.in-Ok.ensures.unit c.all_run.ensures.run

pub returns-in-Ok-clause-refused : goal.returns-in-Ok-clause-refused
returns-in-Ok-clause-refused g c =
    if_unrun (g.F.Files.held c.args.files.now) c.args.name.now (g.F.Files.faults c.args.files.now) (g.F.Files.faults c.load.new.files) c.in-Ok.unit _ c.all_run.result
    c.new-cache.ensures c.in-Ok.ensures.unit c.all_run.ensures.refused

pub returns-clause-refused : goal.returns-clause-refused
returns-clause-refused g c =
    refused_loading (g.F.Files.held c.args.files.now) c.args.name.now (g.F.Files.faults c.args.files.now) (g.F.Files.faults c.load.new.files) c.in-Err.fault _ c.load_status.result
    c.new-cache.ensures c.load_status.ensures c.in-Err.ensures.fault c.in-Err.ensures.read
