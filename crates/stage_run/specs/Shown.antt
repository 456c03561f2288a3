-- What the window shows of a unit.
use Rattle.std.specs.Prelude.{ℕ, pos, List, [], ◌∷◌, Option, None, Some}
use Rattle.qml_types.specs.declared.component.ComponentType.{ComponentType}
use Rattle.rect_raster.specs.Picture.{Picture}
use Rattle.object_tree.specs.First.{first_store}
use Rattle.binding_engine.specs.Holding.{EquationsHold}
use Rattle.object_tree.specs.Store.{Store}
use Rattle.painting.specs.Painting.{picture}
use Rattle.item_paint.specs.Items.{paint_of}
use Rattle.item_paint.specs.declared.showing.TheConstants.{CONTENT_ITEM}
use Rattle.type_loader.specs.declared.unit.Unit.{Unit as UnitOf}
use Rattle.signals.specs.declared.world.World.{World}
use Rattle.stage_run.specs.Started.{started}

-- the world with which a run starts of the main document, which is the first
abbrev pub started_first : List ComponentType → Option World
started_first [] = None
started_first (main ∷ _) = Some (started main (pos 640) (pos 480))

abbrev pub Holds : Option World → Type 0
Holds None = Unit {0}
Holds (Some w) = EquationsHold w.objects

-- Each expression of the objects with which a run starts has its value over those same objects, or its fault is
-- marked, but for those that a loop has suspended.
abbrev pub StartHolds : List ComponentType → Type 0
StartHolds components = Holds (started_first components)

-- the window of 640 by 480 pixels with a store's items in it
abbrev pub picture_in : Store → Picture
picture_in store = picture (paint_of store) CONTENT_ITEM 640 480

-- the window with a world's items in it
abbrev pub picture_with : Option World → Picture
picture_with None = picture_in first_store
picture_with (Some w) = picture_in w.objects

abbrev pub notes_with : Option World → List ℕ
notes_with None = []
notes_with (Some w) = w.notes

-- the window with the main document in it
unfoldable pub picture_of : UnitOf → Picture
picture_of unit = picture_with (started_first unit.components)

-- what is noted as a run starts
unfoldable pub notes_of : UnitOf → List ℕ
notes_of unit = notes_with (started_first unit.components)
