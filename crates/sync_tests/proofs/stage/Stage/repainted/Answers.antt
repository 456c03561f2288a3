use Rattle.std.proofs.Common.{ℕ, List, ap, sym, ◌∙◌, refl, is_some, subst}
use Rattle.std.specs.FinMap as map
use Rattle.scene.specs.Dirty.{marked}
use Rattle.scene.specs.Picture.{Picture}
use Rattle.sync_tests.specs.Staged.{IsReordered}
use Rattle.sync_tests.proofs.Maps.{put_same}
use Rattle.sync_tests.proofs.Growing.{repainted_staged, item_read}
use Rattle.sync_tests.proofs.stage.Stage.repainted.Goals as goal

pub mark-requires : goal.mark-requires
mark-requires c = ap (λ (p : Picture). is_some (map.get p.items c.args.serial)) c.in_ok-put.ensures.ok ∙ ap is_some (put_same c.self.inside.scene.items c.args.serial c.paint.result c.args.serial refl)

pub invariant_of-result-2 : goal.invariant_of-result-2
invariant_of-result-2 c =
    let read = item_read (map.get c.self.inside.scene.items c.args.serial) c.in-Some.old.now c.in-Some.ensures.paint in
    repainted_staged c.self.invariant c.changes_agree.ensures c.args.serial read.0 read.1.0 c.paint.result
    (subst (λ (xs : List ℕ). IsReordered xs c.paint.result.children) (c.as_slice.ensures ∙ sym read.1.1)
    (subst (IsReordered c.as_slice.result.now) (sym (c.paint.ensures.children ∙ c.from_vec.ensures)) c.in_ok-children.ensures)) c.paint.ensures.under c.mark.new.self
    (c.mark.ensures ∙ ap (λ (p : Picture). record p { dirty = marked c.args.serial p.dirty }) c.in_ok-put.ensures.ok)
