-- What a run writes.
use Rattle.std.specs.Prelude.{ℕ, zero, suc, List, [], ◌++◌, flat_map}
use Rattle.rect_raster.specs.Picture.{ppm}
use Rattle.stage_run.specs.declared.journal.Move.{Move}
use Rattle.stage_run.specs.declared.journal.Move.TheVariants.{Command}
use Rattle.stage_run.specs.Shown.{picture_of}
use Rattle.type_loader.specs.declared.unit.Unit.{Unit as UnitOf}

-- the image of the window with a unit in it
unfoldable pub image_of : UnitOf → List ℕ
image_of unit = ppm (picture_of unit)

-- each command is `frame`, and writes the image of the unit
abbrev pub bytes_of : UnitOf → Move → List ℕ
bytes_of unit (Command number) = image_of unit

-- what the moves of a journal write, in order
abbrev pub written : UnitOf → List Move → List ℕ
written unit journal = flat_map (bytes_of unit) journal

-- so many copies of an image, one after another
abbrev pub copies : List ℕ → ℕ → List ℕ
copies image zero = []
copies image (suc n) = copies image n ++ image
