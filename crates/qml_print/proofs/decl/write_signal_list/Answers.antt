use Rattle.std.proofs.Common.{◌∷◌, []}
use Rattle.qml_grammar.specs.Canonical.{signal_param_text}
use Rattle.qml_print.proofs.Joins.{joined_all}
use Rattle.qml_print.proofs.decl.write_signal_list.Goals as goal

pub returns : goal.returns
returns c =
    joined_all signal_param_text (44 ∷ 32 ∷ []) c.args.params.now c.first-item.result c.loop-param.param-index c.args.out.now c.write_signal_param.new.out c.loop-param.out
    c.first-item.is c.in-len1-up.len_at_least c.loop-param-test.false c.in_ok-write_signal_param.ensures c.loop-param.invariant
