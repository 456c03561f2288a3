use Rattle.std.proofs.Common.{◌≡◌, ℕ, List, ap, ◌∙◌, vec_len, vec_capacity, arith}
use Rattle.std.specs.FinMap as map
use Rattle.links.specs.declared.node_key.NodeKey.{NodeKey}
use Rattle.scene.specs.Holding.{IsHeld}
use Rattle.scene.specs.Picture.{Items, Picture, StoredItems, no_keys}
use Rattle.scene.proofs.Held.{held_added, held_again}
use Rattle.scene.proofs.scene.Scene.add.Goals as goal

-- after the cell is freed again
again : (c : goal.After-free) → IsHeld c.insert.new.self c.free.new.self (vec_len c.reserve.new.self) (vec_capacity c.reserve.new.self) × (c.free.new.self.dirty ≡ c.self.inside.marks.dirty)
again c =
    held_again c.self.invariant c.insert.new.self c.add.new.self c.free.new.self _ _ c.args.serial c.in_ok-cell.cell c.in-Err.ensures.err c.reserve.ensures.len
    (ap (λ (p : Picture). map.get p.items c.args.serial) c.self.view_is ∙ c.requires.new_item) c.reserve.ensures.capacity
    c.in_ok-cell.ensures.owner c.in_ok-cell.ensures.vacant c.in_ok-cell.ensures.dirty c.free.ensures.owner c.free.ensures.dirty

pub invariant_of-self-in-Err : goal.invariant_of-self-in-Err
invariant_of-self-in-Err c = (again c).0

pub returns-in-Err-clause-err : goal.returns-in-Err-clause-err
returns-in-Err-clause-err c =
    let view : Items → List ℕ → List NodeKey → Picture =
    λ items dirty released. record { items = items; dirty = dirty; released = released; root = c.self.inside.root; width = c.self.inside.width; height = c.self.inside.height } in
    ap (λ items. view items c.free.new.self.dirty c.reserve.new.self.items) (ap (λ (s : StoredItems). s.items) c.in-Err.ensures.err)
    ∙ (ap (λ dirty. view c.self.inside.items.items dirty c.reserve.new.self.items) (again c).1
    ∙ (ap (λ released. view c.self.inside.items.items c.self.inside.marks.dirty released) c.reserve.ensures.items ∙ c.self.view_is))

pub invariant_of-self-in-Ok : goal.invariant_of-self-in-Ok
invariant_of-self-in-Ok c =
    held_added c.self.invariant c.insert.new.self c.add.new.self _ _ c.args.serial c.in_ok-cell.cell (record { paint = c.args.paint; keys = no_keys }) c.reserve.ensures.len
    (ap (λ (p : Picture). map.get p.items c.args.serial) c.self.view_is ∙ c.requires.new_item) c.requires.under
    c.in-Ok.ensures.items c.in-Ok.ensures.cells c.in-Ok.ensures.count
    (let room = c.in-Some.ensures in let enough = c.in_ok-reserve.ensures.ok in let count = c.in-Ok.ensures.count in let len = c.len.ensures.count in omega arith)
    c.in_ok-cell.ensures.owner c.in_ok-cell.ensures.vacant c.in_ok-cell.ensures.dirty
