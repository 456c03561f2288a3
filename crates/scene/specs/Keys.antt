-- The keys of an item's nodes.
use Rattle.std.specs.Prelude.{List, [], ◌∷◌, ◌++◌, Option, Some, None}
use Rattle.links.specs.declared.node_key.NodeKey.{NodeKey}
use Rattle.scene.specs.declared.keys.RectKeys.{RectKeys}
use Rattle.scene.specs.declared.keys.RectKeys.TheVariants.{Zero, One, Five}
use Rattle.scene.specs.declared.keys.ItemKeys.{ItemKeys}

-- the keys of the rectangles, in the order of painting
abbrev pub rect_keys : RectKeys → List NodeKey
rect_keys Zero = []
rect_keys (One key) = key ∷ []
rect_keys (Five keys) = keys

abbrev pub group_keys : Option NodeKey → List NodeKey
group_keys None = []
group_keys (Some key) = key ∷ []

-- the key of the group, and then those of the rectangles
abbrev pub keys_of : ItemKeys → List NodeKey
keys_of keys = group_keys keys.group ++ rect_keys keys.rects
