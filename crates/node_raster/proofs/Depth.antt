-- The levels of items that are one tree.
use Rattle.std.proofs.Common.{◌≡◌, ℕ, zero, suc, ◌+◌, ◌≤◌, Option, Some, None, IsSome, refl, ap, ◌∙◌, arith}
use Rattle.std.specs.Prelude.{option_map, slice_get}
use Rattle.std.specs.FinMap as map
use Rattle.scene.specs.declared.paint.Paint.{Paint}
use Rattle.scene.specs.Picture.{Item, Items}
use Rattle.painting.specs.Painting.{IsOnLevels}
use Rattle.sg_standing.specs.Trees.{IsTree, Names}
use Rattle.node_raster.specs.Nodes.{records}
use Rattle.node_raster.proofs.Places.{from_option}

none_there : (o : Option Item) → ¬ IsSome o → option_map (λ (item : Item). item.paint) o ≡ None
none_there None never = refl
none_there (Some item) never = absurd (never refl)

module _ {items : Items} {root : ℕ} (tree : IsTree items root) where
  on_levels : (n serial : ℕ) → 257 ≤ tree.depth serial + n → IsOnLevels n (records items) serial
  unfolding IsOnLevels
  on_levels zero serial deep =
      none_there (map.get items serial) (λ is. let most = tree.most serial is in omega arith)
  on_levels (suc n) serial deep = λ paint at place child named.
      let item = from_option (λ (item : Item). item.paint) (map.get items serial) paint at in
      let names : Names items serial place child = (item.0, (item.1.0, ap (λ (p : Paint). slice_get p.children place) item.1.1 ∙ named)) in
      on_levels n child (let below = tree.below serial place child names in omega arith)

  pub on_all_levels : IsOnLevels 257 (records items) root
  on_all_levels = on_levels 257 root (let top = tree.at_root in omega arith)
