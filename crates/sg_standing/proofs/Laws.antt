-- Nodes agree with a new scene, and those that stand are the items' own.
use Rattle.std.proofs.Common.{◌≡◌, ⊎_elim, inl, ℕ, List, [], Some, ap, sym, ◌∙◌}
use Rattle.std.specs.List.{slice_get}
use Rattle.std.specs.FinMap as map
use Rattle.std.proofs.lemmas.Option.{none-some}
use Rattle.links.specs.declared.node_key.NodeKey.{NodeKey}
use Rattle.scene.specs.declared.keys.ItemKeys.{ItemKeys}
use Rattle.scene.specs.Keys.{keys_of}
use Rattle.scene.specs.Picture.{Item, Picture, IsDirty, no_keys}
use Rattle.sg_nodes.specs.declared.node.Node.{Node}
use Rattle.sg_nodes.specs.Forest.{Forest, no_nodes, key_of}
use Rattle.sg_standing.specs.Trees.{IsTree}
use Rattle.sg_standing.specs.Standing.{Agree, Stand, HasNodes, IsOwned, KeyAt, ReleasedAt}

pub no_key : (item : Item) (i slot : ℕ) → item.keys ≡ no_keys → ¬ KeyAt item i slot
no_key item i slot e at = none-some (key_of slot) (ap (λ (k : ItemKeys). slice_get (keys_of k) i) (sym e) ∙ at)

none_waits : (p : Picture) (i slot : ℕ) → p.released ≡ [] → ¬ ReleasedAt p i slot
none_waits p i slot e at = none-some (key_of slot) (ap (λ (ks : List NodeKey). slice_get ks i) (sym e) ∙ at)

pub agree_new : (p : Picture) → IsTree p.items p.root → ((serial : ℕ) (item : Item) → map.get p.items serial ≡ Some item → (item.keys ≡ no_keys) × IsDirty p serial) → p.released ≡ [] → Agree no_nodes p
agree_new p tree new freed = record {
  tree = tree;
  one_item = λ a b item other i j slot e g k l. absurd (no_key item i slot (new a item e).0 k);
  released_once = λ i j slot k l. absurd (none_waits p i slot freed k);
  not_released = λ serial i j slot item e k. absurd (no_key item i slot (new serial item e).0 k);
  of_nodes = λ serial i slot item e k. absurd (no_key item i slot (new serial item e).0 k);
  still_live = λ i slot k. absurd (none_waits p i slot freed k);
  of_items = λ slot node e. absurd (none-some node e);
  keyed = λ serial item e. inl (new serial item e);
  root = λ item key e k. absurd (none-some key (ap (λ (ks : ItemKeys). ks.group) (sym (new p.root item e).0) ∙ k));
  clean = λ serial item e still. absurd (still (new serial item e).1);
}

pub has_nodes : (f : Forest) (p : Picture) (serial : ℕ) (item : Item) → Stand f p → map.get p.items serial ≡ Some item → HasNodes f p.items serial item
has_nodes f p serial item stand e =
    stand.agree.clean serial item e (λ dirty. none-some serial (ap (λ xs. slice_get xs dirty.0) (sym stand.none_dirty) ∙ dirty.1))

pub is_owned : (f : Forest) (p : Picture) (slot : ℕ) (node : Node) → Stand f p → f.node slot ≡ Some node → IsOwned p.items node.item slot
is_owned f p slot node stand e =
    ⊎_elim (λ (own : IsOwned p.items node.item slot). own)
    (λ (waits : (i : ℕ) × ReleasedAt p i slot). absurd (none_waits p waits.0 slot stand.none_released waits.1))
    (stand.agree.of_items slot node e)
