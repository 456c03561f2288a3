-- The objects, and the contexts in which they were made.
use Rattle.std.specs.Prelude.{◌≡◌, ℕ, List, None}
use Rattle.arena.specs.Arena.{Arena}
use Rattle.qml_ast.specs.declared.place.Place.{Place}
use Rattle.qml_ast.specs.declared.value.Value.{Value}
use Rattle.qml_ast.specs.declared.value.Value.TheVariants.{Obj, Line}
use Rattle.object_tree.specs.declared.context.Context.{Context}
use Rattle.object_tree.specs.declared.instance.Instance.{Instance}

pub record Store : Type 0 where
  -- the objects under their serials, and the last serial that was given
  pub objects : Arena Instance
  -- the contexts, of which the first has the number 1
  pub contexts : List Context
  -- the number of the present settle
  pub settle : ℕ
  -- the places of the anchors that the last settle ignored, each once
  pub ignored : List Place

-- what references to objects that are no more are read as
pub record IsNull (null no_line : Value) : Type 0 where
  pub object : null ≡ Obj 0
  pub line : no_line ≡ Line None
