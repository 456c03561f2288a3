use Rattle.std.proofs.Common.{◌≡◌, ◌≢◌, ◌∙◌, ap, sym, subst, arith, refl, Option, Some, None, length, option_map, ◌<◌}
use Rattle.std.specs.Prelude.{IfSome}
use Rattle.std.specs.List.{slice_get}
use Rattle.links.specs.declared.node_key.NodeKey.{NodeKey}
use Rattle.links.specs.Chains.{cells_in}
use Rattle.sg_nodes.specs.Forest.{IsLive, IsChild, IsFrom, moved, slot_of}
use Rattle.sg_nodes.specs.Stored.{StoredNodes, forest_of, stored, IsStored}
use Rattle.sg_nodes.proofs.Chained.{full_cell, full_list, stands_within, numbers_kept, placed_cells, spot, moved_before}
use Rattle.sg_nodes.proofs.Keeping.{relinked}
use Rattle.sg_nodes.proofs.nodes.Nodes.insert_before.Goals as goal

pub insert_before-requires-clause-linked : goal.insert_before-requires-clause-linked
insert_before-requires-clause-linked c =
    let child : IsChild (forest_of c.args.self.now) c.args.parent.slot c.in-Some.at.slot =
    subst (λ (o : Option NodeKey). IfSome o (λ a. IsChild (forest_of c.args.self.now) c.args.parent.slot a.slot)) c.in-Some.is c.requires.child in
    let other : c.in-Some.at.slot ≢ c.args.key.slot = subst (λ (o : Option NodeKey). IfSome o (λ a. a.slot ≢ c.args.key.slot)) c.in-Some.is c.requires.other in
    let stands = spot c.self.inside.links c.loosen.new.links c.args.key.slot c.args.parent.slot c.in-Some.at.slot c.loosen.ensures.lists child.0
    (ap (λ (s : StoredNodes). slice_get (cells_in s.lists c.args.parent.slot) child.0) c.self.view_is ∙ child.1) other in
    (c.args.parent.slot, (stands.0, stands.1))

after : (c : goal.After-insert_before)
    → (forest_of (stored c.self.inside.nodes c.insert_before.new.self c.self.inside.root c.self.inside.spare)
    ≡ record (forest_of (stored c.self.inside.nodes c.self.inside.links c.self.inside.root c.self.inside.spare)) {
      children = moved (λ l. cells_in c.self.inside.links.lists l) c.args.key.slot c.args.parent.slot (Some c.in-Some.at.slot);
    })
    × IsStored c.self.inside.nodes c.insert_before.new.self c.self.inside.root c.self.inside.spare c.self.inside.count
after c =
    let child : IsChild (forest_of c.args.self.now) c.args.parent.slot c.in-Some.at.slot =
    subst (λ (o : Option NodeKey). IfSome o (λ a. IsChild (forest_of c.args.self.now) c.args.parent.slot a.slot)) c.in-Some.is c.requires.child in
    let other : c.in-Some.at.slot ≢ c.args.key.slot = subst (λ (o : Option NodeKey). IfSome o (λ a. a.slot ≢ c.args.key.slot)) c.in-Some.is c.requires.other in
    let stands = spot c.self.inside.links c.loosen.new.links c.args.key.slot c.args.parent.slot c.in-Some.at.slot c.loosen.ensures.lists child.0
    (ap (λ (s : StoredNodes). slice_get (cells_in s.lists c.args.parent.slot) child.0) c.self.view_is ∙ child.1) other in
    let linked = c.insert_before.ensures.after c.args.parent.slot stands.0 stands.1 in
    relinked c.self.invariant c.insert_before.new.self c.args.key.slot c.args.parent.slot (Some c.in-Some.at.slot)
    (subst (λ (s : StoredNodes). IsLive (forest_of s) c.args.key.slot) (sym c.self.view_is) c.requires.live)
    (subst (λ (s : StoredNodes). IsLive (forest_of s) c.args.parent.slot) (sym c.self.view_is) c.requires.parent_live)
    (subst (λ (s : StoredNodes). s.root ≢ Some c.args.key.slot) (sym c.self.view_is) c.requires.not_root)
    (subst (λ (s : StoredNodes). ¬ IsFrom (forest_of s) c.args.key.slot c.args.parent.slot) (sym c.self.view_is) c.requires.not_above)
    (moved_before c.self.inside.links c.loosen.new.links c.insert_before.new.self c.args.key.slot c.args.parent.slot c.in-Some.at.slot stands.0 c.loosen.ensures.lists c.loosen.ensures.disjoint stands.1 linked)
    (λ count full. numbers_kept c.loosen.new.links c.insert_before.new.self c.args.parent.slot _
    (stands_within c.loosen.new.links c.args.parent.slot stands.0 c.in-Some.at.slot stands.1) linked count (c.loosen.ensures.numbers count full))
    c.insert_before.ensures.disjoint

after_last : (c : goal.After-push_back)
    → (forest_of (stored c.self.inside.nodes c.push_back.new.self c.self.inside.root c.self.inside.spare)
    ≡ record (forest_of (stored c.self.inside.nodes c.self.inside.links c.self.inside.root c.self.inside.spare)) {
      children = moved (λ l. cells_in c.self.inside.links.lists l) c.args.key.slot c.args.parent.slot None;
    })
    × IsStored c.self.inside.nodes c.push_back.new.self c.self.inside.root c.self.inside.spare c.self.inside.count
after_last c =
    let live = subst (λ (s : StoredNodes). IsLive (forest_of s) c.args.parent.slot) (sym c.self.view_is) c.requires.parent_live in
    let within : c.args.parent.slot < length c.loosen.new.links.lists =
    let below = c.self.invariant.within c.args.parent.slot live in let full = (c.loosen.ensures.numbers c.self.inside.count c.self.invariant.full).lists in omega arith in
    relinked c.self.invariant c.push_back.new.self c.args.key.slot c.args.parent.slot None
    (subst (λ (s : StoredNodes). IsLive (forest_of s) c.args.key.slot) (sym c.self.view_is) c.requires.live) live
    (subst (λ (s : StoredNodes). s.root ≢ Some c.args.key.slot) (sym c.self.view_is) c.requires.not_root)
    (subst (λ (s : StoredNodes). ¬ IsFrom (forest_of s) c.args.key.slot c.args.parent.slot) (sym c.self.view_is) c.requires.not_above)
    (placed_cells c.self.inside.links c.loosen.new.links c.push_back.new.self c.args.key.slot c.args.parent.slot None _ c.loosen.ensures.lists within c.push_back.ensures.after refl)
    (λ count full. numbers_kept c.loosen.new.links c.push_back.new.self c.args.parent.slot _ within c.push_back.ensures.after count (c.loosen.ensures.numbers count full))
    c.push_back.ensures.disjoint

pub push_back-requires-clause-list : goal.push_back-requires-clause-list
push_back-requires-clause-list c =
    full_list (c.loosen.ensures.numbers c.self.inside.count c.self.invariant.full) c.args.parent.slot
    (c.self.invariant.within c.args.parent.slot (subst (λ (s : StoredNodes). IsLive (forest_of s) c.args.parent.slot) (sym c.self.view_is) c.requires.parent_live))

pub push_back-requires-clause-cell : goal.push_back-requires-clause-cell
push_back-requires-clause-cell c =
    full_cell (c.loosen.ensures.numbers c.self.inside.count c.self.invariant.full) c.args.key.slot
    (c.self.invariant.within c.args.key.slot (subst (λ (s : StoredNodes). IsLive (forest_of s) c.args.key.slot) (sym c.self.view_is) c.requires.live))

pub invariant_of-self : goal.invariant_of-self
invariant_of-self c = (after c).1

pub invariant_of-self-in-None : goal.invariant_of-self-in-None
invariant_of-self-in-None c = (after_last c).1

pub returns-in-Some-clause-after : goal.returns-in-Some-clause-after
returns-in-Some-clause-after c =
    subst (λ (o : Option NodeKey). forest_of (stored c.self.inside.nodes c.insert_before.new.self c.self.inside.root c.self.inside.spare)
    ≡ record (forest_of c.args.self.now) { children = moved (forest_of c.args.self.now).children c.args.key.slot c.args.parent.slot (option_map slot_of o) }) (sym c.in-Some.is)
    (subst (λ (s : StoredNodes). forest_of (stored c.self.inside.nodes c.insert_before.new.self c.self.inside.root c.self.inside.spare)
    ≡ record (forest_of s) { children = moved (forest_of s).children c.args.key.slot c.args.parent.slot (Some c.in-Some.at.slot) }) c.self.view_is (after c).0)

pub returns-in-Some-clause-forest : goal.returns-in-Some-clause-forest
returns-in-Some-clause-forest c = (after c).1.forest

pub returns-in-None-clause-after : goal.returns-in-None-clause-after
returns-in-None-clause-after c =
    subst (λ (o : Option NodeKey). forest_of (stored c.self.inside.nodes c.push_back.new.self c.self.inside.root c.self.inside.spare)
    ≡ record (forest_of c.args.self.now) { children = moved (forest_of c.args.self.now).children c.args.key.slot c.args.parent.slot (option_map slot_of o) }) (sym c.in-None.is)
    (subst (λ (s : StoredNodes). forest_of (stored c.self.inside.nodes c.push_back.new.self c.self.inside.root c.self.inside.spare)
    ≡ record (forest_of s) { children = moved (forest_of s).children c.args.key.slot c.args.parent.slot None }) c.self.view_is (after_last c).0)

pub returns-in-None-clause-forest : goal.returns-in-None-clause-forest
returns-in-None-clause-forest c = (after_last c).1.forest
