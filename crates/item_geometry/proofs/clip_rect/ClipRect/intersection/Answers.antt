use Rattle.std.proofs.Common.{ap, ◌∙◌, arith}
use Rattle.std.proofs.lemmas.Int.{ints, clamps}
use Rattle.item_geometry.specs.Clip.{has_point}
use Rattle.item_geometry.proofs.Clips.{same_rect, has_point-common}
use Rattle.item_geometry.proofs.clip_rect.ClipRect.intersection.Goals as goal

pub returns-clause-edges : goal.returns-clause-edges
returns-clause-edges c =
    same_rect (omega (arith, ints, clamps)) (omega (arith, ints, clamps)) (omega (arith, ints, clamps)) (omega (arith, ints, clamps))

pub returns-clause-points : goal.returns-clause-points
returns-clause-points c x y = ap (λ rect. has_point rect x y) (returns-clause-edges c) ∙ has_point-common c.args.self c.args.other x y
