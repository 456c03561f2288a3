use Rattle.std.proofs.Common.{◌≡◌, ℕ, ◌+◌, List, [], ◌∷◌, ◌++◌, take, length, Some, ap, sym, ◌∙◌, subst, arith}
use Rattle.std.specs.List.{slice_get}
use Rattle.std.proofs.lemmas.List.{length_push}
use Rattle.sg_sync.specs.Own.{IsIn}
use Rattle.sg_sync.proofs.Members.{in_none, distinct_by_place}
use Rattle.sg_sync.proofs.Gathering.{pushed, pushed_within, pushed_items, all_there, item_at, none_first}
use Rattle.sg_sync.proofs.dirty.dirty_items.Goals as goal

pub loop-next-preserved : goal.loop-next-preserved
loop-next-preserved c =
    let xs : List ℕ = c.loop-next.serials.items in
    let dirty : List ℕ = c.args.scene.now.dirty in
    let s : ℕ = c.in-Some.serial in
    let at : slice_get dirty (length xs) ≡ Some s = sym c.loop-next.invariant.next ∙ c.in-Some.is in
    let now : c.push.new.self.items ≡ xs ++ s ∷ [] = c.in_ok-push.ensures.items in
    let long : length c.push.new.self.items ≡ length xs + 1 = ap length now ∙ length_push xs s in
    record {
      so_far = now ∙ (pushed xs dirty s c.loop-next.invariant.so_far at ∙ ap (λ ys. take (length ys) dirty) (sym now));
      within = let short = pushed_within xs dirty s at in let same = ap length now in omega arith;
      next = c.next_dirty-next.ensures.next (length xs) at ∙ ap (slice_get dirty) (sym long);
      items = λ serial is. pushed_items c.args.scene.now.items xs s c.loop-next.invariant.items (c.loop-next.invariant.known s c.in-Some.is) serial (subst (λ ys. IsIn ys serial) now is);
      known = item_at c.args.scene.now.items c.next_dirty-next.result c.next_dirty-next.ensures.item;
      apart = c.loop-next.invariant.apart;
    }

pub loop-next-init : goal.loop-next-init
loop-next-init c = record {
  so_far = none_first c.new-serials.result.items c.args.scene.now.dirty c.new-serials.ensures.items;
  within = let none = ap length c.new-serials.ensures.items in omega arith;
  next = c.first_dirty-next.ensures.first ∙ ap (λ (ys : List ℕ). slice_get c.args.scene.now.dirty (length ys)) (sym c.new-serials.ensures.items);
  items = λ serial is. absurd (in_none serial (subst (λ (ys : List ℕ). IsIn ys serial) c.new-serials.ensures.items is));
  known = item_at c.args.scene.now.items c.first_dirty-next.result c.first_dirty-next.ensures.item;
  apart = c.first_dirty-next.ensures.apart;
}

pub returns-clause-dirty : goal.returns-clause-dirty
returns-clause-dirty c = all_there c.loop-next.serials.items c.args.scene.now.dirty c.loop-next.invariant.so_far (sym c.loop-next.invariant.next ∙ c.in_default.is)

pub returns-clause-distinct : goal.returns-clause-distinct
returns-clause-distinct c = distinct_by_place c.args.scene.now.dirty c.loop-next.invariant.apart.place

pub returns-clause-items : goal.returns-clause-items
returns-clause-items c serial is =
    c.loop-next.invariant.items serial
    (subst (λ (ys : List ℕ). IsIn ys serial) (sym (all_there c.loop-next.serials.items c.args.scene.now.dirty c.loop-next.invariant.so_far (sym c.loop-next.invariant.next ∙ c.in_default.is))) is)
