use Rattle.std.proofs.Common.{refl, ◌≡◌, ◌<◌, ℕ, ◌+◌, List, take, drop, length, get_or, ap, sym, ◌∙◌, subst, arith}
use Rattle.std.specs.FinMap as map
use Rattle.std.proofs.lemmas.List.{drop_more}
use Rattle.links.specs.declared.node_key.NodeKey.{NodeKey}
use Rattle.scene.specs.Picture.{Items, Picture, with_keys}
use Rattle.sg_nodes.specs.Stored.{forest_of}
use Rattle.sg_sync.specs.Counting.{made_for, freed_for, total}
use Rattle.sg_sync.specs.Dressing.{Dressing, AreLinked, HasNoParent, SamePaints}
use Rattle.sg_sync.proofs.Dressed.{the_item}
use Rattle.sg_sync.proofs.Renewing.{same_item, paints_back}
use Rattle.sg_sync.proofs.Stepping.{dressing_after, linked_after, no_parent_after, can_renew, paints_after, get_other}
use Rattle.sg_sync.proofs.Counting.{at_place, not_after, not_before, dirty_rest, still_not, total_more, scene_step, count_step}
use Rattle.sg_sync.proofs.Stepping.{keep_step, all_keep}
use Rattle.sg_sync.proofs.renew.renew_all.Goals as goal

pub renew-keys-requires-clause-can_renew : goal.renew-keys-requires-clause-can_renew
renew-keys-requires-clause-can_renew c one e =
    let s : ℕ = get_or c.args.serials.now c.loop-serial.serial-index 0 in
    can_renew (forest_of c.loop-serial.nodes) c.loop-serial.scene.items c.loop-serial.scene.root s (drop (c.loop-serial.serial-index + 1) c.args.serials.now) one
    (subst (Dressing (forest_of c.loop-serial.nodes) c.loop-serial.scene.items c.loop-serial.scene.root) (drop_more c.args.serials.now c.loop-serial.serial-index 0 (omega arith)) c.loop-serial.invariant.dressing) e

pub loop-serial-preserved : goal.loop-serial-preserved
loop-serial-preserved c =
    let serials : List ℕ = c.args.serials.now in
    let i : ℕ = c.loop-serial.serial-index in
    let lt : i < length serials = omega arith in
    let s : ℕ = get_or serials i 0 in
    let d = subst (Dressing (forest_of c.loop-serial.nodes) c.loop-serial.scene.items c.loop-serial.scene.root) (drop_more serials i 0 lt) c.loop-serial.invariant.dressing in
    let one =
    the_item (map.get c.loop-serial.scene.items s)
    (same_item c.loop-serial.scene.items c.args.scene.now.items s (paints_back c.args.scene.now.items c.loop-serial.scene.items c.loop-serial.invariant.paints) (c.requires.items s (at_place serials i lt))) in
    let keys = c.renew-keys.result in
    let after : Items = with_keys s keys c.loop-serial.scene.items in
    let items_are : c.renew-keys.new.scene.items ≡ after = ap (λ (p : Picture). p.items) c.renew-keys.ensures.scene in
    let root_is : c.renew-keys.new.scene.root ≡ c.loop-serial.scene.root = ap (λ (p : Picture). p.root) c.renew-keys.ensures.scene in
    let swap = c.renew-keys.ensures.swapped one.0 one.1 in
    let kept = λ (key : NodeKey). c.renew-keys.ensures.kept one.0 key one.1 in
    let gone = not_after serials i lt c.requires.distinct in
    let same_get : map.get c.loop-serial.scene.items s ≡ map.get c.args.scene.now.items s = c.loop-serial.invariant.others s (not_before serials i lt c.requires.distinct) in
    record {
      dressing =
          subst (λ (m : Items). Dressing (forest_of c.renew-keys.new.nodes) m c.renew-keys.new.scene.root (drop (i + 1) serials)) (sym items_are)
          (subst (λ r. Dressing (forest_of c.renew-keys.new.nodes) after r (drop (i + 1) serials)) (sym root_is)
          (dressing_after keys d one.1 swap kept c.renew-keys.ensures.group gone));
      linked =
          subst (λ (m : Items). AreLinked (forest_of c.renew-keys.new.nodes) m serials) (sym items_are)
          (linked_after keys d one.1 swap kept c.renew-keys.ensures.group gone serials (at_place serials i lt) c.loop-serial.invariant.linked);
      no_parent =
          subst (λ (m : Items). HasNoParent (forest_of c.renew-keys.new.nodes) m c.renew-keys.new.scene.root) (sym items_are)
          (subst (HasNoParent (forest_of c.renew-keys.new.nodes) after) (sym root_is)
          (no_parent_after keys d one.1 swap kept c.renew-keys.ensures.group gone c.loop-serial.invariant.forest c.loop-serial.invariant.no_parent));
      paints = subst (SamePaints c.args.scene.now.items) (sym items_are) (paints_after c.loop-serial.scene.items s one.0 keys one.1 c.args.scene.now.items c.loop-serial.invariant.paints);
      others = λ serial absent.
          let still = still_not serials i lt serial absent in
          ap (λ (m : Items). map.get m serial) items_are
          ∙ (get_other c.loop-serial.scene.items s one.0 keys one.1 serial still.0 ∙ c.loop-serial.invariant.others serial still.1);
      keep =
          keep_step c.args.scene.now.items c.loop-serial.scene.items c.renew-keys.new.scene.items s one.0 keys one.1 same_get items_are c.loop-serial.invariant.keep kept (c.renew-keys.ensures.kept_rects one.0 one.1);
      scene =
          scene_step c.args.scene.now c.loop-serial.scene c.renew-keys.new.scene after s (drop i serials) (drop (i + 1) serials) c.loop-serial.invariant.scene c.renew-keys.ensures.scene
          (dirty_rest serials i lt c.requires.distinct);
      room = let one_less = c.renew-keys.ensures.spare in let was = c.loop-serial.invariant.room in omega arith;
      few_made = let more = c.renew-keys.ensures.few_made in let was = c.loop-serial.invariant.few_made in omega arith;
      few_released = let more = c.renew-keys.ensures.few_released in let was = c.loop-serial.invariant.few_released in omega arith;
      counted =
          count_step c.args.done.now c.loop-serial.done c.renew-keys.new.done (total made_for c.args.scene.now.items (take i serials)) (total freed_for c.args.scene.now.items (take i serials))
          (made_for (map.get c.loop-serial.scene.items s)) (freed_for (map.get c.loop-serial.scene.items s)) (total made_for c.args.scene.now.items (take (i + 1) serials)) (total freed_for c.args.scene.now.items (take (i + 1) serials))
          c.loop-serial.invariant.counted c.renew-keys.ensures.counted
          (ap (λ o. total made_for c.args.scene.now.items (take i serials) + made_for o) same_get ∙ total_more serials i lt made_for c.args.scene.now.items)
          (ap (λ o. total freed_for c.args.scene.now.items (take i serials) + freed_for o) same_get ∙ total_more serials i lt freed_for c.args.scene.now.items);
      forest = c.renew-keys.ensures.forest;
    }

pub loop-serial-init : goal.loop-serial-init
loop-serial-init c =
    let made : c.args.done.now.made ≡ c.args.done.now.made + 0 = omega arith in
    let freed : c.args.done.now.released ≡ c.args.done.now.released + 0 = omega arith in
    record {
      dressing = c.requires.dressing;
      linked = c.requires.linked;
      no_parent = c.requires.no_parent;
      paints = λ serial. refl;
      others = λ serial absent. refl;
      keep = all_keep c.args.scene.now.items;
      scene = ap (λ (xs : List ℕ). record c.args.scene.now { dirty = xs }) c.requires.dirty;
      room = let enough = c.requires.room in omega arith;
      few_made = omega arith;
      few_released = omega arith;
      counted = λ i. record c.args.done.now { made = made i; released = freed i };
      forest = c.requires.forest;
    }
