use Rattle.std.proofs.Common.{◌≡◌, fold, map, drop}
use Rattle.type_loader.specs.Naming.{with_name}
use Rattle.type_loader.proofs.names.Names.add_all.Given as goal

abbrev pub invariant-loop-mention : goal.invariant-loop-mention
invariant-loop-mention l =
    fold with_name l.self (map (λ m. m.name) (drop l.mention-index l.mentions)) ≡ fold with_name l.fn.self (map (λ m. m.name) l.mentions)
