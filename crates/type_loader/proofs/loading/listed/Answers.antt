use Rattle.std.proofs.Common.{rules}
use Rattle.type_loader.proofs.Uniting.{if_unloaded}
use Rattle.type_loader.proofs.loading.listed.Goals as goal

pub returns-clause-unloaded : goal.returns-clause-unloaded
returns-clause-unloaded g c =
    if_unloaded _ _ _ _ _ _ _ c.args.name.now c.in_ok-root.root c.in_ok-copy.field-0 c.in_ok-sources.sources _ c.unit_of.result (search rules) (search rules) (search rules) (search rules)
    c.in_ok-sources.ensures.gathered c.unit_of.ensures.refused
