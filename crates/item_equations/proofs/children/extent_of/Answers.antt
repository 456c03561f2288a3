use Rattle.std.proofs.Common.{◌≡◌, ◌+◌, Option, None, refl, sym, ap, ◌∙◌}
use Rattle.std.specs.Prelude.{Ok, take}
use Rattle.qml_ast.specs.declared.place.Place.{Place}
use Rattle.qml_ast.specs.declared.value.Value.{Value}
use Rattle.item_equations.specs.Asking.{sight, walk}
use Rattle.item_equations.specs.Children.{extent_from}
use Rattle.item_equations.proofs.Growing.{extent_on, extent_further}
use Rattle.item_equations.proofs.children.extent_of.Goals as goal

pub loop-index-init : goal.loop-index-init
loop-index-init g c =
    let see : Place → Option Value = sight (g.R.Reader.clean c.args.reader.now) (g.R.Reader.means c.args.reader.now) in
    (extent_on see (g.R.ItemReader.family c.args.reader.now) c.args.axis c.args.item None c.args.far.now.extent c.args.far.now.met c.args.objects.now c.requires, (c.requires, refl))

pub loop-index-preserved : goal.loop-index-preserved
loop-index-preserved g c =
    let see : Place → Option Value = sight (g.R.Reader.clean c.args.reader.now) (g.R.Reader.means c.args.reader.now) in
    let before : walk see (extent_from (g.R.ItemReader.family c.args.reader.now) c.args.axis c.args.item None (take c.loop-index.index c.args.objects.now)) ≡ Ok c.loop-index.far.extent =
    ap (λ n. walk see (extent_from (g.R.ItemReader.family c.args.reader.now) c.args.axis c.args.item None (take n c.args.objects.now))) (sym c.loop-index.invariant.1.1) ∙ c.loop-index.invariant.1.0 in
    let met : walk see (extent_from (g.R.ItemReader.family c.args.reader.now) c.args.axis c.args.item None (take (c.loop-index.index + 1) c.args.objects.now)) ≡ Ok c.in_ok-far.field-0 =
    extent_further see (g.R.ItemReader.family c.args.reader.now) c.args.axis c.args.item None c.loop-index.far.extent c.in_ok-far.field-0 c.loop-index.index c.args.objects.now c.loop-index-test.true before
    (c.extent_with.ensures ∙ c.in_ok-far.was) in
    (extent_on see (g.R.ItemReader.family c.args.reader.now) c.args.axis c.args.item None c.in_ok-far.field-0 (c.loop-index.index + 1) c.args.objects.now met, (met, refl))
