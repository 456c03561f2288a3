-- A canvas on which all nodes were painted.
use Rattle.std.proofs.Common.{◌≡◌, ℕ, ◌≤◌, [], Option, Some, None, refl, sym, ap, ◌∙◌, arith}
use Rattle.std.specs.Prelude.{option_map}
use Rattle.links.specs.declared.node_key.NodeKey.{NodeKey}
use Rattle.rect_raster.specs.Picture.{Picture}
use Rattle.rect_raster.specs.Drawing.{drawing}
use Rattle.scene.specs.Picture.{Picture as Scene}
use Rattle.painting.specs.declared.viewport.Viewport.{Viewport}
use Rattle.painting.specs.Shapes.{shapes}
use Rattle.painting.specs.Painting.{picture, window}
use Rattle.sg_nodes.specs.Forest.{Forest, key_of}
use Rattle.sg_standing.specs.Standing.{Stand}
use Rattle.node_raster.specs.Nodes.{paint_node_within, painted_root, paint_of_nodes, IsShallow, records}
use Rattle.node_raster.specs.Drawn.{ShowsMore}
use Rattle.node_raster.proofs.Alike.{nodes_painted}
use Rattle.node_raster.proofs.Deeper.{all_levels}
use Rattle.node_raster.proofs.Siblings.{slot_is}

module _ (f : Forest) (old cleared : Picture) (w h : ℕ) (wide : old.width ≡ w) (high : old.height ≡ h) (white : cleared ≡ drawing old.width old.height []) where
  white_so : cleared ≡ drawing w h []
  white_so = white ∙ (λ i. drawing (wide i) (high i) [])

  -- the nodes from the root on
  pub root_shown : (root : Option NodeKey) (key : NodeKey) (levels : ℕ) (viewport : Viewport) (new : Picture) → root ≡ option_map key_of f.root → root ≡ Some key
      → viewport ≡ window → levels ≡ 258 → ShowsMore (paint_node_within levels f viewport key.slot) cleared new → new ≡ drawing w h (shapes (paint_of_nodes 258 f))
  root_shown root key levels viewport new root_is is view levels_are shows =
      let slot = slot_is f.root key (sym root_is ∙ is) in
      shows w h [] white_so
      ∙ (λ i. drawing w h (shapes (paint_node_within (levels_are i) f (view i) key.slot)))
      ∙ ap (λ (r : Option ℕ). drawing w h (shapes (painted_root 258 f r))) (sym slot)

  -- no root
  pub nothing_shown : (root : Option NodeKey) → root ≡ option_map key_of f.root → root ≡ None → cleared ≡ drawing w h (shapes (paint_of_nodes 258 f))
  nothing_shown root root_is none = white_so ∙ ap (λ (r : Option ℕ). drawing w h (shapes (painted_root 258 f r))) (sym (no_slot f.root (sym root_is ∙ none)))
    where
      no_slot : (o : Option ℕ) → option_map key_of o ≡ None → o ≡ None
      no_slot None is = refl
      no_slot (Some slot) is = cc

module _ (f : Forest) (w h : ℕ) (new : Picture) (shown : new ≡ drawing w h (shapes (paint_of_nodes 258 f))) where
  pub all_shown : IsShallow f → (levels : ℕ) → 258 ≤ levels → new ≡ drawing w h (shapes (paint_of_nodes levels f))
  all_shown shallow levels enough = shown ∙ ap (λ list. drawing w h (shapes list)) (sym (all_levels f shallow levels enough))

  pub scene_shown : (p : Scene) → Stand f p → new ≡ picture (records p.items) p.root w h
  scene_shown p stand = shown ∙ ap (λ list. drawing w h (shapes list)) (nodes_painted stand 258 (omega arith))
