-- The store of a program that has not made anything yet.
use Rattle.std.specs.Prelude.{[], None}
use Rattle.arena.specs.Arena.{with_next}
use Rattle.type_table.specs.declared.built_in.BuiltIn.TheVariants as built_in
use Rattle.object_tree.specs.declared.instance.Instance.{Instance}
use Rattle.object_tree.specs.Making.{new_properties}
use Rattle.object_tree.specs.Store.{Store}

-- the item in which the root of a document stands
unfoldable pub content_item : Instance
content_item = record {
  object = record { serial = 1; parent = None };
  built_in = built_in.Item;
  depth = 0;
  layers = [];
  names = [];
  signals = 0;
  methods = 0;
  item_parent = None;
  children = [];
  properties = new_properties 1 1 built_in.Item;
}

-- the content item alone
abbrev pub first_store : Store
first_store = record { objects = with_next (record { last = 0; things = [] }) content_item; contexts = []; settle = 1; ignored = [] }
