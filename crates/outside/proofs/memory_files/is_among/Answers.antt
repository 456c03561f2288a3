use Rattle.std.specs.FinSet.{contains-from_list_nat}
use Rattle.outside.proofs.memory_files.is_among.Goals as goal

pub returns : goal.returns
returns c =
    let members = contains-from_list_nat c.args.calls.now.items c.args.call in
    cc (c.contains.ensures.value, c.deref.ensures.value, members)
