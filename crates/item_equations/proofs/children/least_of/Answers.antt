use Rattle.std.proofs.Common.{◌≡◌, ◌+◌, Option, None, refl, sym, ap, ◌∙◌}
use Rattle.std.specs.Prelude.{Ok, take}
use Rattle.qml_ast.specs.declared.place.Place.{Place}
use Rattle.qml_ast.specs.declared.value.Value.{Value}
use Rattle.item_equations.specs.Asking.{sight, walk}
use Rattle.item_equations.specs.Children.{least_from}
use Rattle.item_equations.proofs.Growing.{least_on, least_further}
use Rattle.item_equations.proofs.children.least_of.Goals as goal

pub loop-index-init : goal.loop-index-init
loop-index-init g c =
    let see : Place → Option Value = sight (g.R.Reader.clean c.args.reader.now) (g.R.Reader.means c.args.reader.now) in
    (least_on see (g.R.ItemReader.family c.args.reader.now) c.args.axis c.args.item None c.args.far.now.least c.args.far.now.met c.args.objects.now c.requires, (c.requires, refl))

pub loop-index-preserved : goal.loop-index-preserved
loop-index-preserved g c =
    let see : Place → Option Value = sight (g.R.Reader.clean c.args.reader.now) (g.R.Reader.means c.args.reader.now) in
    let before : walk see (least_from (g.R.ItemReader.family c.args.reader.now) c.args.axis c.args.item None (take c.loop-index.index c.args.objects.now)) ≡ Ok c.loop-index.far.least =
    ap (λ n. walk see (least_from (g.R.ItemReader.family c.args.reader.now) c.args.axis c.args.item None (take n c.args.objects.now))) (sym c.loop-index.invariant.1.1) ∙ c.loop-index.invariant.1.0 in
    let met : walk see (least_from (g.R.ItemReader.family c.args.reader.now) c.args.axis c.args.item None (take (c.loop-index.index + 1) c.args.objects.now)) ≡ Ok c.in_ok-far.field-0 =
    least_further see (g.R.ItemReader.family c.args.reader.now) c.args.axis c.args.item None c.loop-index.far.least c.in_ok-far.field-0 c.loop-index.index c.args.objects.now c.loop-index-test.true before
    (c.least_with.ensures ∙ c.in_ok-far.was) in
    (least_on see (g.R.ItemReader.family c.args.reader.now) c.args.axis c.args.item None c.in_ok-far.field-0 (c.loop-index.index + 1) c.args.objects.now met, (met, refl))
