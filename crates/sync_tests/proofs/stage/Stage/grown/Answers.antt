use Rattle.std.proofs.Common.{◌≤◌, ℕ, List, [], ◌∷◌, ◌++◌, IsSome, ap, sym, ◌∙◌, refl, is_some, subst, arith}
use Rattle.std.specs.FinMap as map
use Rattle.scene.specs.Picture.{Picture}
use Rattle.sync_tests.proofs.Maps.{put_same, put_stays}
use Rattle.sync_tests.proofs.Growing.{grown_staged, item_read, under_read, none_of, deep_enough, both_marked}
use Rattle.sync_tests.proofs.stage.Stage.grown.Goals as goal

pub mark-requires : goal.mark-requires
mark-requires c =
    subst (λ (p : Picture). IsSome (map.get p.items c.args.child)) (sym c.in_ok-put-2.ensures.ok)
    (put_stays c.put.new.self.items c.args.parent c.in_ok-wider.wider c.args.child
    (subst (λ (p : Picture). IsSome (map.get p.items c.args.child)) (sym c.in_ok-put.ensures.ok) (ap is_some (put_same c.self.inside.scene.items c.args.child c.paint.result c.args.child refl))))

pub mark-requires-2 : goal.mark-requires-2
mark-requires-2 c =
    subst (λ (p : Picture). IsSome (map.get p.items c.args.parent)) (sym c.mark.ensures)
    (subst (λ (p : Picture). IsSome (map.get p.items c.args.parent)) (sym c.in_ok-put-2.ensures.ok) (ap is_some (put_same c.put.new.self.items c.args.parent c.in_ok-wider.wider c.args.parent refl)))

pub invariant_of-result-2 : goal.invariant_of-result-2
invariant_of-result-2 c =
    let read = item_read (map.get c.self.inside.scene.items c.args.parent) c.in-Some.old.now c.in-Some.ensures.paint in
    let tree = c.self.invariant.agree.tree in
    let low : tree.depth c.args.parent ≤ c.self.inside.deepest = c.self.invariant.shallow c.args.parent (ap is_some read.1.0) in
    let now =
    both_marked c.self.inside.scene c.put.new.self c.put-2.new.self c.mark.new.self c.mark-2.new.self c.args.parent c.args.child c.paint.result c.in_ok-wider.wider c.in_ok-put.ensures.ok c.in_ok-put-2.ensures.ok
    c.mark.ensures c.mark-2.ensures in
    grown_staged c.self.invariant c.changes_agree.ensures c.args.parent c.args.child read.0 read.1.0 (none_of (map.get c.self.inside.scene.items c.args.child) (ap is_some (sym c.keys.ensures) ∙ (sym c.is_some.ensures ∙ c.if-is_some.false)))
    c.paint.result c.in_ok-wider.wider (c.paint.ensures.children ∙ c.new.ensures) c.paint.ensures.under
    (c.in_ok-wider.ensures.children ∙ ap (λ (xs : List ℕ). xs ++ c.args.child ∷ []) (sym read.1.1)) (c.in_ok-wider.ensures.under ∙ under_read _ c.in-Some.old.now read.0 read.1.0 c.in-Some.ensures.paint) (omega arith)
    c.deeper-deepest.result c.deeper-deepest.ensures.more
    (deep_enough tree c.args.parent c.root.result c.self.inside.deepest c.deeper-deepest.result _ refl (c.root.ensures ∙ ap (λ (p : Picture). p.root) now) low c.deeper-deepest.ensures.root c.deeper-deepest.ensures.other)
    c.mark-2.new.self now
