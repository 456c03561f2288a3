use Rattle.std.proofs.Common.{◌∙◌, ◌+◌, ap}
use Rattle.std.specs.List.{slice_get}
use Rattle.scene.specs.Picture.{Picture}
use Rattle.scene.proofs.Lists.{there_at}
use Rattle.scene.proofs.Held.{has_owner}
use Rattle.scene.proofs.scene.Scene.next_dirty.Goals as goal

pub returns-clause-dirty : goal.returns-clause-dirty
returns-clause-dirty c =
    let own = has_owner c.self.invariant c.args.serial c.in-Some.cell c.in-Some.ensures.cell in
    let place = c.requires.0 in
    there_at c.args.self.now.dirty (place + 1) c.next.result
    (c.next.ensures.next c.args.serial place own (ap (λ (p : Picture). slice_get p.dirty place) c.self.view_is ∙ c.requires.1)
    ∙ ap (λ (p : Picture). slice_get p.dirty (place + 1)) c.self.view_is)
