use Rattle.std.proofs.Common.{[], ◌∷◌, refl, sym, subst}
use Rattle.scene.specs.Keys.{group_keys}
use Rattle.sg_nodes.specs.declared.node.NodeKind.TheVariants.{Group as GroupKind}
use Rattle.sg_nodes.specs.Bodies.{fresh_body}
use Rattle.sg_nodes.specs.Stored.{forest_of}
use Rattle.sg_sync.specs.Swapping.{Swapped}
use Rattle.sg_sync.proofs.Swapping.{swapped_made}
use Rattle.sg_sync.proofs.renew.group_or_new.Goals as goal

pub returns-in-None-clause-swapped : goal.returns-in-None-clause-swapped
returns-in-None-clause-swapped c =
    let made = swapped_made (forest_of c.args.nodes.now) (forest_of c.make.new.self) c.make.result _ _ c.make.ensures.fresh c.make.ensures.after in (
      record { item = c.args.serial; body = fresh_body GroupKind },
      (
        (refl, refl),
        subst (λ g. Swapped (forest_of c.args.nodes.now) (forest_of c.make.new.self) (group_keys g) (c.make.result ∷ []) [] (record { item = c.args.serial; body = fresh_body GroupKind } ∷ [])) (sym c.in-None.is) made,
      ),
    )
