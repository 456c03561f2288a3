use Rattle.std.proofs.Common.{◌+◌, ◌∙◌, ap, btree_map_len}
use Rattle.scene.specs.Picture.{StoredItems}
use Rattle.scene.proofs.Maps.{one_entry}
use Rattle.scene.proofs.Storing.{none, items_inserted, cells_inserted}
use Rattle.scene.proofs.items.Items.insert.Goals as goal

pub returns-clause-items : goal.returns-clause-items
returns-clause-items c = items_inserted c.self.inside.entries c.args.self.now c.self.view_is c.insert.new.self c.args.serial c.args.entry c.in_ok-insert.ensures.updates

pub returns-clause-cells : goal.returns-clause-cells
returns-clause-cells c = cells_inserted c.self.inside.entries c.args.self.now c.self.view_is c.insert.new.self c.args.serial c.args.entry c.in_ok-insert.ensures.updates

pub returns-clause-count : goal.returns-clause-count
returns-clause-count c =
    let gone = none c.self.inside.entries c.args.self.now c.self.view_is c.args.serial c.requires in
    one_entry (btree_map_len c.self.inside.entries) (btree_map_len c.insert.new.self) c.in_ok-insert.field-0 (c.in_ok-insert.ensures.old ∙ gone) c.in_ok-insert.ensures.len
    ∙ ap (λ (s : StoredItems). s.count + 1) c.self.view_is
