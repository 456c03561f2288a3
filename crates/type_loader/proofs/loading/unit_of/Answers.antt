use Rattle.std.proofs.Common.{rules, ◌≡◌, ◌<◌, [], Ok, length, sym, subst}
use Rattle.type_loader.specs.Order.{components_of, in_order, made_by}
use Rattle.type_loader.proofs.Closing.{closed}
use Rattle.type_loader.proofs.Uniting.{some_component}
use Rattle.type_loader.proofs.loading.unit_of.Goals as goal

pub no_cycle-requires : goal.no_cycle-requires
no_cycle-requires c = closed c.args.root.now c.args.sources.now c.requires.all

pub invariant_of-result : goal.invariant_of-result
invariant_of-result c =
    let is : c.in_ok-components.components ≡ components_of c.in_ok-made.made c.args.sources.now = search rules in
    let made : made_by c.args.sources.now [] (in_order c.args.root.now c.args.sources.now) ≡ Ok c.in_ok-made.made = search rules in
    record { some = subst (λ all. 0 < length all) (sym is) (some_component c.args.root.now c.args.sources.now c.in_ok-made.made c.requires.all made) }
