use Rattle.std.proofs.Common.{rules, arith, ◌≡◌, ◌<◌, ◌≤◌, ◌∷◌, [], IfErr, length, Some, slice_get, ◌∙◌, sym, ap}
use Rattle.std.specs.Option.{option_copied}
use Rattle.type_loader.proofs.Growing.{not_grown, not_grown_yet, if_out, if_stopped, stopped_at, grown_by, at_its_end, at_its_last, too_many, at_count}
use Rattle.type_loader.proofs.Mentioning.{unlawful_mentioned}
use Rattle.type_loader.proofs.gathering.gathered.Goals as goal

pub returns-in_err-add-clause-stopped : goal.returns-in_err-add-clause-stopped
returns-in_err-add-clause-stopped g c =
    if_out _ _ _ _ _ _ _ _ _ (not_grown _ _ _ c.args.root) _ _ c.from_residual.result (search rules)

pub loop-count-init : goal.loop-count-init
loop-count-init g c = record {
  held = search rules;
  later = omega arith;
  grown = not_grown_yet _ _ _ _ c.add.new.self c.new-sources.result (search rules) (search rules);
}

pub returns-in_default-clause-gathered : goal.returns-in_default-clause-gathered
returns-in_default-clause-gathered g c =
    at_its_end _ _ _ _ _ _ _ _ _ c.loop-count.invariant.grown (at_count _ _ _ _ _ _ _ _ _ c.loop-count.invariant.grown _ (search rules))

pub returns-in_err-name-clause-stopped : goal.returns-in_err-name-clause-stopped
returns-in_err-name-clause-stopped g c =
    if_out _ _ _ _ _ _ _ _ _ c.loop-count.invariant.grown _ _ c.from_residual-in_err-name.result (search rules)

pub grow-requires : goal.grow-requires
grow-requires g c =
    let at : slice_get c.loop-count.names c.loop-count.count ≡ Some c.in_ok-name.name = search rules in
    unlawful_mentioned c.args.root c.loop-count.names c.loop-count.sources c.loop-count.count c.in_ok-name.name c.requires c.loop-count.invariant.grown.named at

pub returns-in_err-grow-clause-stopped : goal.returns-in_err-grow-clause-stopped
returns-in_err-grow-clause-stopped g c =
    let at : slice_get c.loop-count.names c.loop-count.count ≡ Some c.in_ok-name.name = search rules in
    let few : c.loop-count.count < 256 = omega arith in
    if_stopped _ _ _ _ _ _ _ _ _ c.loop-count.invariant.grown c.grow.new.cache c.grow.new.files _ _ c.in_err-grow.field-0.0 c.from_residual-in_err-grow.result (search rules)
    (stopped_at _ _ _ _ _ _ _ _ _ c.loop-count.invariant.grown c.grow.new.cache c.grow.new.files (g.F.Files.held c.loop-count.files)
    _ (g.F.Files.faults c.loop-count.files) _ c.in_ok-name.name c.in_err-grow.field-0.0 c.loop-count.invariant.held c.loop-count.invariant.later few
    (at_count _ _ _ _ _ _ _ _ _ c.loop-count.invariant.grown _ at) c.in_err-grow.ensures.halted)

pub loop-count-preserved : goal.loop-count-preserved
loop-count-preserved g c =
    let at : slice_get c.loop-count.names c.loop-count.count ≡ Some c.in_ok-name.name = search rules in
    let few : c.loop-count.count < 256 = omega arith in
    record {
      held = search rules;
      later = search rules;
      grown = grown_by _ _ _ _ _ _ _ _ _ c.loop-count.invariant.grown c.grow.new.cache c.grow.new.files (g.F.Files.held c.loop-count.files) c.in_ok-name.name
          c.grow.new.names c.grow.new.sources c.loop-count.invariant.held few (at_count _ _ _ _ _ _ _ _ _ c.loop-count.invariant.grown _ at) (c.in_ok-grow.ensures.grown);
    }

pub returns-then-len-gt-LIST_LIMIT-clause-stopped : goal.returns-then-len-gt-LIST_LIMIT-clause-stopped
returns-then-len-gt-LIST_LIMIT-clause-stopped g c =
    too_many _ _ _ _ _ _ _ _ _ c.loop-count.invariant.grown _ _ (omega arith) (omega (arith, c.loop-count.invariant.grown.counted))

pub returns-clause-gathered : goal.returns-clause-gathered
returns-clause-gathered g c =
    at_its_last _ _ _ _ _ _ _ _ _ c.loop-count.invariant.grown (omega (arith, c.loop-count.invariant.grown.counted))
