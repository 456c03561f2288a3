use Rattle.std.proofs.Common.{arith, rules, ◌≡◌, ◌≢◌, ℕ, ◌<◌, ℤ, pos, to_z, of_z, List, length, map, FitsSigned, ap, sym, ◌∙◌, get_or-set_other, get_or-set_same, below_more}
use Rattle.std.specs.Int.{w32, w128}
use Rattle.std.proofs.lemmas.Int.{ints, to_z-of_z}
use Rattle.std.proofs.lemmas.List.{length-map, get_or-map}
use Rattle.std.proofs.lemmas.List.FromFn.{fill_by_all}
use Rattle.positioners.specs.Axis.{along}
use Rattle.positioners.specs.Layout.{directed_offset_at, length_at, capped}
use Rattle.positioners.proofs.Steps.{span_of-take_more, directed_offset_at_is}
use Rattle.positioners.proofs.offsets.write_offsets.Goals as goal

pub loop-child-preserved : goal.loop-child-preserved
loop-child-preserved c =
    let lengths : List ℤ = map (along c.args.axis) c.args.sizes.now in
    let within : c.loop-child.child < length c.args.sizes.now = omega arith in
    let room : c.loop-child.child < length c.loop-child.out = omega arith in
    let spacing : ℤ = to_z w32 (of_z w32 c.args.spacing) in
    let step = span_of-take_more spacing (along c.args.axis) c.args.sizes.now c.loop-child.child (pos 0, pos 0) within in
    let length_is : c.along-length.result ≡ length_at lengths c.loop-child.child =
    c.along-length.ensures ∙ sym (get_or-map (along c.args.axis) c.args.sizes.now c.loop-child.child (pos 0, pos 0) (pos 0) within) in
    let spacing_fits : FitsSigned w32 c.args.spacing = search rules in
    let extent_fits : FitsSigned w128 c.args.extent = search rules in
    let length_fits : FitsSigned w32 c.along-length.result = search rules in
    let directed_fits : FitsSigned w128 c.directed.result = search rules in
    let written_fits : FitsSigned w32 c.capped.result = search rules in
    let reach_is = simp to_z-of_z at c.loop-child.invariant.reach in
    let value_is = simp to_z-of_z at c.directed.ensures in
    let capped_is = simp to_z-of_z at c.capped.ensures in
    let directed_is = directed_offset_at_is c.args.reversed c.args.spacing lengths c.loop-child.child _ c.along-length.result c.args.extent c.directed.result c.requires.extent reach_is length_is value_is in
    record {
      reach = omega (arith, ints, step);
      low = omega (arith, ints);
      high = omega (arith, ints);
      written = below_more _ _ (λ k below. let other : k ≢ c.loop-child.child = omega arith in rw get_or-set_other (c.loop-child.invariant.written k below)) (rw get_or-set_same (simp to_z-of_z (capped_is ∙ ap capped directed_is)));
    }

pub returns : goal.returns
returns c =
    let lengths : List ℤ = map (along c.args.axis) c.args.sizes.now in
    let offset_of : ℕ → ℤ = λ child. capped (directed_offset_at c.args.reversed c.args.spacing lengths child) in
    let spacing_fits : FitsSigned w32 c.args.spacing = search rules in
    let written = simp to_z-of_z at c.loop-child.invariant.written in
    let count : length lengths ≡ length c.args.sizes.now = simp length-map in
    fill_by_all offset_of c.loop-child.out (length lengths) (pos 0) (omega arith) (λ child within. written child (omega arith))
