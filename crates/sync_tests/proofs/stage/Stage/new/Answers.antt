use Rattle.std.proofs.Common.{◌≡◌, ℕ, List, None, ap, sym, ◌∙◌, refl, is_some, subst, nat_cmp}
use Rattle.std.specs.FinMap as map
use Rattle.scene.specs.Picture.{Item, Picture, Items, keys_or_none, with_paint}
use Rattle.sg_nodes.specs.Forest.{Forest}
use Rattle.sg_nodes.specs.Stored.{forest_of}
use Rattle.sg_standing.specs.Standing.{Agree}
use Rattle.sg_sync.specs.Own.{IsIn}
use Rattle.sync_tests.proofs.Maps.{put_same, put_other, is_marked}
use Rattle.sync_tests.proofs.Staging.{alone_staged}
use Rattle.sync_tests.proofs.stage.Stage.new.Goals as goal

pub mark-requires : goal.mark-requires
mark-requires c = ap (λ (p : Picture). is_some (map.get p.items 1)) c.in_ok-put.ensures.ok ∙ ap is_some (put_same c.in_ok-scene.scene.items 1 c.paint.result 1 refl)

pub invariant_of-result : goal.invariant_of-result
invariant_of-result c =
    let first : Picture = c.in_ok-scene.scene in
    let none : (serial : ℕ) → map.get first.items serial ≡ None = λ serial. ap (λ (p : Picture). map.get p.items serial) c.in_ok-scene.ensures ∙ map.get-empty nat_cmp serial in
    let items_are : c.mark.new.self.items ≡ with_paint 1 c.paint.result first.items = ap (λ (p : Picture). p.items) c.mark.ensures ∙ ap (λ (p : Picture). p.items) c.in_ok-put.ensures.ok in
    let item : Item = record { paint = c.paint.result; keys = keys_or_none (map.get first.items 1) } in
    alone_staged (forest_of c.new-3.result) c.mark.new.self 1 item
    (λ q tree keys freed. subst (λ (h : Forest). Agree h q) (sym c.new-3.ensures) (c.new_nodes_agree.ensures q tree keys freed))
    (ap (λ (m : Items). map.get m 1) items_are ∙ put_same first.items 1 c.paint.result 1 refl)
    (λ serial ne. ap (λ (m : Items). map.get m serial) items_are ∙ (put_other first.items 1 c.paint.result serial ne ∙ none serial))
    (ap keys_or_none (none 1)) (c.paint.ensures.children ∙ c.new-2.ensures) c.paint.ensures.under
    (subst (λ (xs : List ℕ). IsIn xs 1) (sym (ap (λ (p : Picture). p.dirty) c.mark.ensures)) (is_marked 1 c.put.new.self.dirty))
    (ap (λ (p : Picture). p.root) c.mark.ensures ∙ (ap (λ (p : Picture). p.root) c.in_ok-put.ensures.ok ∙ ap (λ (p : Picture). p.root) c.in_ok-scene.ensures))
    (ap (λ (p : Picture). p.released) c.mark.ensures ∙ (ap (λ (p : Picture). p.released) c.in_ok-put.ensures.ok ∙ ap (λ (p : Picture). p.released) c.in_ok-scene.ensures))
