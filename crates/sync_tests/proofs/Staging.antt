-- Nodes agree with a scene, in which no item stands deeper.
use Rattle.std.proofs.Common.{◌≡◌, ◌≢◌, ⊎_elim, ℕ, ◌≤◌, length, [], Option, Some, None, IsSome, is_some, option_map, refl, ap, sym, ◌∙◌, subst, arith}
use Rattle.std.specs.List.{slice_get}
use Rattle.std.specs.FinMap as map
use Rattle.std.proofs.lemmas.Option.{none-some, same_Some}
use Rattle.std.proofs.lemmas.Bool.{cases_eq}
use Rattle.scene.specs.declared.paint.Paint.{Paint}
use Rattle.scene.specs.Picture.{Item, Items, Picture, no_keys, IsDirty}
use Rattle.sg_nodes.specs.Forest.{Forest}
use Rattle.sg_standing.specs.Trees.{IsTree, IsItem, Names}
use Rattle.sg_standing.specs.Standing.{Agree, Stand}
use Rattle.sg_sync.specs.Dressing.{SamePaints}
use Rattle.sync_tests.specs.Staged.{IsStaged}

pub there : (o : Option Item) → IsSome o → (i : Item) × (o ≡ Some i)
there None is = cc
there (Some i) is = (i, refl)

-- items of which the same are named, at places of their own, are one tree as deep as the others are
module _ {old new : Items} {root : ℕ} (tree : IsTree old root) (back : (parent place child : ℕ) → Names new parent place child → (j : ℕ) × Names old parent j child)
    (on : (parent place child : ℕ) → Names old parent place child → (j : ℕ) × Names new parent j child) (item_back : (serial : ℕ) → IsItem new serial → IsItem old serial)
    (item_on : (serial : ℕ) → IsItem old serial → IsItem new serial) (once : (parent i j child : ℕ) → Names new parent i child → Names new parent j child → i ≡ j)
    (fits : (serial : ℕ) (item : Item) → map.get new serial ≡ Some item → item.paint.under ≤ length item.paint.children) where
  abbrev pub tree_alike : IsTree new root
  tree_alike = record {
    depth = tree.depth;
    rooted = item_on root tree.rooted;
    named = λ parent place child is. let was = back parent place child is in item_on child (tree.named parent was.0 child was.1);
    one_parent = λ a b i j child p q. let one = back a i child p in let two = back b j child q in tree.one_parent a b one.0 two.0 child one.1 two.1;
    one_place = once;
    reached = λ serial is ne.
        let found = tree.reached serial (item_back serial is) ne in
        let now = on found.0 found.1 serial found.2 in
        (found.0, now.0, now.1);
    at_root = tree.at_root;
    below = λ parent place child is. let was = back parent place child is in tree.below parent was.0 child was.1;
    most = λ serial is. tree.most serial (item_back serial is);
    fits = fits;
  }

-- after a sync
alike : (o p : Option Item) (item : Item) → option_map (λ (i : Item). i.paint) p ≡ option_map (λ (i : Item). i.paint) o → p ≡ Some item → (was : Item) × ((o ≡ Some was) × (was.paint ≡ item.paint))
alike None p item e is = absurd (none-some item.paint (sym e ∙ ap (option_map (λ (i : Item). i.paint)) is))
alike (Some was) p item e is = (was, (refl, same_Some was.paint item.paint (sym e ∙ ap (option_map (λ (i : Item). i.paint)) is)))

names_alike : (old new : Items) (parent place child : ℕ) → SamePaints old new → Names new parent place child → Names old parent place child
names_alike old new parent place child same names =
    let was = alike (map.get old parent) (map.get new parent) names.0 (same parent) names.1.0 in
    (was.0, (was.1.0, ap (λ (p : Paint). slice_get p.children place) was.1.1 ∙ names.1.1))

item_alike : (old new : Items) (serial : ℕ) → SamePaints old new → IsItem new serial → IsItem old serial
item_alike old new serial same is =
    let found = there (map.get new serial) is in ap is_some (alike (map.get old serial) (map.get new serial) found.0 (same serial) found.1).1.0

pub synced_staged : (f g : Forest) (p q : Picture) (deepest : ℕ) → IsStaged f p deepest → Stand g q → SamePaints p.items q.items → q.root ≡ p.root → IsStaged g q deepest
synced_staged f g p q deepest s stand same root_same =
    let turned : SamePaints q.items p.items = λ serial. sym (same serial) in
    let tree : IsTree q.items q.root =
    subst (IsTree q.items) (sym root_same)
    (tree_alike s.agree.tree (λ parent place child is. (place, names_alike p.items q.items parent place child same is)) (λ parent place child is. (place, names_alike q.items p.items parent place child turned is))
    (λ serial is. item_alike p.items q.items serial same is) (λ serial is. item_alike q.items p.items serial turned is)
    (λ parent i j child a b. s.agree.tree.one_place parent i j child (names_alike p.items q.items parent i child same a) (names_alike p.items q.items parent j child same b)) stand.agree.tree.fits) in
    record { agree = record stand.agree { tree = tree }; shallow = λ serial is. s.shallow serial (item_alike p.items q.items serial same is) }

-- the content item alone
pub alone_staged : (f : Forest) (p : Picture) (root : ℕ) (item : Item) → ((q : Picture) → IsTree q.items q.root → ((serial : ℕ) (i : Item) → map.get q.items serial ≡ Some i → (i.keys ≡ no_keys) × IsDirty q serial) → q.released ≡ [] → Agree f q)
    → map.get p.items root ≡ Some item → ((serial : ℕ) → serial ≢ root → map.get p.items serial ≡ None) → item.keys ≡ no_keys → item.paint.children ≡ [] → item.paint.under ≤ length item.paint.children → IsDirty p root
    → p.root ≡ root → p.released ≡ [] → IsStaged f p 0
alone_staged f p root item agrees at others keys bare fits dirty root_is none =
    let only : (serial : ℕ) (i : Item) → map.get p.items serial ≡ Some i → (serial ≡ root) × (i ≡ item) =
    λ serial i e.
    ⊎_elim (λ (same : serial ≡ root). (same, same_Some i item (sym e ∙ (ap (map.get p.items) same ∙ at))))
    (λ (ne : serial ≢ root). absurd (none-some i (sym (others serial ne) ∙ e))) (cases_eq serial root) in
    let nameless : (parent place child : ℕ) → ¬ Names p.items parent place child =
    λ parent place child names.
    none-some child (ap (λ xs. slice_get xs place) (sym bare) ∙ (ap (λ (i : Item). slice_get i.paint.children place) (sym (only parent names.0 names.1.0).1) ∙ names.1.1)) in
    let tree : IsTree p.items p.root = record {
      depth = λ serial. 0;
      rooted = ap (λ r. is_some (map.get p.items r)) root_is ∙ ap is_some at;
      named = λ parent place child is. absurd (nameless parent place child is);
      one_parent = λ a b i j child q r. absurd (nameless a i child q);
      one_place = λ parent i j child q r. absurd (nameless parent i child q);
      reached = λ serial is ne. let found = there (map.get p.items serial) is in absurd (ne ((only serial found.0 found.1).0 ∙ sym root_is));
      at_root = refl;
      below = λ parent place child is. absurd (nameless parent place child is);
      most = λ serial is. omega arith;
      fits = λ serial i e. subst (λ (x : Item). x.paint.under ≤ length x.paint.children) (sym (only serial i e).1) fits;
    } in
    let agree = agrees p tree (λ serial i e. (ap (λ (x : Item). x.keys) (only serial i e).1 ∙ keys, subst (IsDirty p) (sym (only serial i e).0) dirty)) none in
    record { agree = record agree { tree = tree }; shallow = λ serial is. omega arith }
