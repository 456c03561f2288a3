use Rattle.std.proofs.Common.{◌≡◌, List, [], Some, IsSome, is_some, refl, ap, sym, ◌∙◌, subst}
use Rattle.links.specs.declared.node_key.NodeKey.{NodeKey}
use Rattle.scene.specs.Picture.{Picture}
use Rattle.sg_nodes.specs.Forest.{Forest, IsLive}
use Rattle.sg_nodes.specs.Stored.{forest_of}
use Rattle.sg_standing.specs.Standing.{group_slot}
use Rattle.sg_sync.specs.Linking.{Distinct}
use Rattle.sg_sync.specs.Swapping.{Swapped}
use Rattle.sg_sync.specs.Dressing.{Dressing, AreLinked, HasNoParent}
use Rattle.std.proofs.lemmas.Option.{same_Some}
use Rattle.sg_sync.proofs.Dressed.{group_at}
use Rattle.sg_sync.proofs.Starting.{released_distinct, dressing_first, linked_first, no_parent_first}
use Rattle.sg_sync.proofs.Parking.{dressing_moved, root_group, parked, parked_linked}
use Rattle.sg_sync.proofs.Finishing.{linked_moved, stands}
use Rattle.sg_sync.proofs.syncing.update.Goals as goal

pub free_all-requires-clause-distinct : goal.free_all-requires-clause-distinct
free_all-requires-clause-distinct c = subst (λ (ks : List NodeKey). Distinct ks) (sym c.released.ensures) (released_distinct (forest_of c.args.nodes.now) c.args.scene.now c.requires.agree)

pub renew_all-requires-clause-dressing : goal.renew_all-requires-clause-dressing
renew_all-requires-clause-dressing c =
    subst (λ (q : Picture). Dressing (forest_of c.free_all.new.nodes) q.items q.root c.args.serials.now) (sym c.clear_released.ensures)
    (subst (Dressing (forest_of c.free_all.new.nodes) c.args.scene.now.items c.args.scene.now.root) c.requires.dirty
    (dressing_first c.requires.agree c.requires.forest
    (subst (λ (ks : List NodeKey). Swapped (forest_of c.args.nodes.now) (forest_of c.free_all.new.nodes) ks [] ks []) c.released.ensures c.free_all.ensures.swapped)))

pub renew_all-requires-clause-linked : goal.renew_all-requires-clause-linked
renew_all-requires-clause-linked c =
    subst (λ (q : Picture). AreLinked (forest_of c.free_all.new.nodes) q.items c.args.serials.now) (sym c.clear_released.ensures)
    (subst (AreLinked (forest_of c.free_all.new.nodes) c.args.scene.now.items) c.requires.dirty
    (linked_first c.requires.agree c.requires.forest
    (subst (λ (ks : List NodeKey). Swapped (forest_of c.args.nodes.now) (forest_of c.free_all.new.nodes) ks [] ks []) c.released.ensures c.free_all.ensures.swapped)))

pub renew_all-requires-clause-no_parent : goal.renew_all-requires-clause-no_parent
renew_all-requires-clause-no_parent c =
    subst (λ (q : Picture). HasNoParent (forest_of c.free_all.new.nodes) q.items q.root) (sym c.clear_released.ensures)
    (no_parent_first c.requires.agree c.requires.forest
    (subst (λ (ks : List NodeKey). Swapped (forest_of c.args.nodes.now) (forest_of c.free_all.new.nodes) ks [] ks []) c.released.ensures c.free_all.ensures.swapped))

pub group_key-root-requires : goal.group_key-root-requires
group_key-root-requires c =
    subst (λ r. IsSome (group_slot c.renew_all.new.scene.items r)) (sym c.root.ensures) (ap is_some (root_group c.renew_all.ensures.dressing).1.1.1.1)

pub set_root-requires-clause-live : goal.set_root-requires-clause-live
set_root-requires-clause-live c =
    let top = root_group c.renew_all.ensures.dressing in
    let node = c.renew_all.ensures.dressing.of_nodes c.renew_all.new.scene.root 0 top.1.0.slot top.0 top.1.1.0 (group_at top.0 top.1.0 top.1.1.1.0) in
    subst (IsLive (forest_of c.renew_all.new.nodes))
    (same_Some top.1.0.slot c.group_key-root.result.slot (sym top.1.1.1.1 ∙ (ap (group_slot c.renew_all.new.scene.items) (sym c.root.ensures) ∙ sym c.group_key-root.ensures))) (ap is_some node.1.0)

pub set_root-requires-clause-no_parent : goal.set_root-requires-clause-no_parent
set_root-requires-clause-no_parent c =
    c.renew_all.ensures.no_parent c.group_key-root.result.slot (ap (group_slot c.renew_all.new.scene.items) (sym c.root.ensures) ∙ sym c.group_key-root.ensures)

pub park_all-requires-clause-dressing : goal.park_all-requires-clause-dressing
park_all-requires-clause-dressing c = dressing_moved c.renew_all.ensures.dressing (forest_of c.set_root.new.self) (ap (λ (h : Forest). h.node) c.set_root.ensures.after)

pub link_all-requires-clause-dressing : goal.link_all-requires-clause-dressing
link_all-requires-clause-dressing c =
    dressing_moved c.renew_all.ensures.dressing (forest_of c.park_all.new.nodes) (ap (λ (h : Forest). h.node) c.park_all.ensures.after ∙ ap (λ (h : Forest). h.node) c.set_root.ensures.after)

pub link_all-requires-clause-parked : goal.link_all-requires-clause-parked
link_all-requires-clause-parked c =
    parked (dressing_moved c.renew_all.ensures.dressing (forest_of c.set_root.new.self) (ap (λ (h : Forest). h.node) c.set_root.ensures.after)) (forest_of c.park_all.new.nodes)
    (c.park_all.ensures.after ∙ ap (λ (h : Forest). record (forest_of c.set_root.new.self) { children = h.children }) (sym c.park_all.ensures.after))
    c.group_key-root.result.slot c.args.serials.now c.park_all.ensures.forest (ap (λ (h : Forest). h.root) c.set_root.ensures.after)
    (ap (group_slot c.renew_all.new.scene.items) (sym c.root.ensures) ∙ sym c.group_key-root.ensures) c.park_all.ensures.after
    (linked_moved (forest_of c.renew_all.new.nodes) c.renew_all.new.scene.items c.args.serials.now c.renew_all.ensures.linked (forest_of c.set_root.new.self) (ap (λ (h : Forest). h.children) c.set_root.ensures.after))

pub link_all-requires-clause-linked : goal.link_all-requires-clause-linked
link_all-requires-clause-linked c =
    parked_linked (dressing_moved c.renew_all.ensures.dressing (forest_of c.set_root.new.self) (ap (λ (h : Forest). h.node) c.set_root.ensures.after)) (forest_of c.park_all.new.nodes)
    (c.park_all.ensures.after ∙ ap (λ (h : Forest). record (forest_of c.set_root.new.self) { children = h.children }) (sym c.park_all.ensures.after))
    c.group_key-root.result.slot c.args.serials.now c.park_all.ensures.forest (ap (λ (h : Forest). h.root) c.set_root.ensures.after)
    (ap (group_slot c.renew_all.new.scene.items) (sym c.root.ensures) ∙ sym c.group_key-root.ensures) c.park_all.ensures.after
    (linked_moved (forest_of c.renew_all.new.nodes) c.renew_all.new.scene.items c.args.serials.now c.renew_all.ensures.linked (forest_of c.set_root.new.self) (ap (λ (h : Forest). h.children) c.set_root.ensures.after))

pub returns-clause-stand : goal.returns-clause-stand
returns-clause-stand c =
    let nodes_same : (forest_of c.link_all.new.nodes).node ≡ (forest_of c.renew_all.new.nodes).node =
    ap (λ (h : Forest). h.node) c.link_all.ensures.after ∙ (ap (λ (h : Forest). h.node) c.park_all.ensures.after ∙ ap (λ (h : Forest). h.node) c.set_root.ensures.after) in
    let root_same : (forest_of c.link_all.new.nodes).root ≡ Some c.group_key-root.result.slot =
    ap (λ (h : Forest). h.root) c.link_all.ensures.after ∙ (ap (λ (h : Forest). h.root) c.park_all.ensures.after ∙ ap (λ (h : Forest). h.root) c.set_root.ensures.after) in
    stands (dressing_moved c.renew_all.ensures.dressing (forest_of c.link_all.new.nodes) nodes_same) c.link_all.ensures.linked c.link_all.ensures.forest
    (root_same ∙ (c.group_key-root.ensures ∙ ap (group_slot c.renew_all.new.scene.items) c.root.ensures)) c.renew_all.new.scene refl refl
    (ap (λ (q : Picture). q.dirty) c.renew_all.ensures.scene)
    (ap (λ (q : Picture). q.released) c.renew_all.ensures.scene ∙ ap (λ (q : Picture). q.released) c.clear_released.ensures)
