use Rattle.std.proofs.Common.{◌∙◌, ap, w32}
use Rattle.std.proofs.lemmas.Int.{to_z-of_z}
use Rattle.qml_ast.specs.declared.place.Side.TheVariants.{Shown}
use Rattle.qml_ast.specs.declared.value.Value.TheVariants.{Int}
use Rattle.object_tree.specs.Writing.{kept, written}
use Rattle.stage_run.specs.Started.{content_place}
use Rattle.stage_run.proofs.start.set_content.Goals as goal

pub returns : goal.returns
returns c =
    let same = to_z-of_z w32 c.args.pixels c.ranges.pixels in
    c.keep.ensures
    ∙ (ap (λ n. kept c.content_place-2.result (Int n) c.set_own.new.self) same
    ∙ (ap (λ place. kept place (Int c.args.pixels) c.set_own.new.self) c.content_place-2.ensures
    ∙ ap (kept (content_place c.args.slot Shown) (Int c.args.pixels))
    (c.set_own.ensures ∙ (ap (λ n. written c.content_place.result (Int n) c.args.objects.now) same
    ∙ ap (λ place. written place (Int c.args.pixels) c.args.objects.now) c.content_place.ensures))))
