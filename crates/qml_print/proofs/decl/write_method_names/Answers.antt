use Rattle.std.proofs.Common.{◌∙◌, ◌++◌, ◌∷◌, [], ap}
use Rattle.qml_print.proofs.Joins.{joined_all}
use Rattle.qml_print.proofs.decl.write_method_names.Goals as goal

pub returns : goal.returns
returns c =
    joined_all (λ p. p.name) (44 ∷ 32 ∷ []) c.args.params.now c.first-item.result c.loop-param.param-index c.args.out.now c.put.new.self c.loop-param.out
    c.first-item.is c.in-len1-up.len_at_least c.loop-param-test.false (c.in_ok-put.ensures ∙ ap (λ name. c.args.out.now ++ name) c.as_bytes.ensures.value) c.loop-param.invariant
