use Rattle.std.proofs.Common.{◌∙◌, ap}
use Rattle.std.specs.List.{slice_get}
use Rattle.scene.specs.Picture.{Picture}
use Rattle.scene.proofs.Lists.{there_at}
use Rattle.scene.proofs.scene.Scene.first_dirty.Goals as goal

pub returns-clause-dirty : goal.returns-clause-dirty
returns-clause-dirty c =
    there_at c.args.self.now.dirty 0 c.first.result (c.first.ensures.first ∙ ap (λ (p : Picture). slice_get p.dirty 0) c.self.view_is)
