use Rattle.std.proofs.Common.{◌≡◌, IfOk, IfErr, inr, arith, rules}
use Rattle.std.proofs.lemmas.Grind.{common_steps}
use Rattle.qml_ast.specs.declared.fault.DocFault.TheVariants.{NoMemory}
use Rattle.qml_expr.specs.Seen.{tokens_of}
use Rattle.qml_tokens.specs.Spelled.{HasFault}
use Rattle.qml_parse.specs.Parsed.{IsReadAs}
use Rattle.qml_parse.proofs.Refusing.{told}
use Rattle.qml_parse.proofs.Spelling.{all_read, all_spelled, complete, not_refused}
use Rattle.qml_parse.proofs.document.parse.Goals as goal

pub returns-clause-refused : goal.returns-clause-refused
returns-clause-refused c =
    told c.args.bytes.now (tokens_of c.in_ok-tokens.tokens.items) c.read.result c.in_ok-tokens.ensures (rw (c.as_slice.ensures.value, c.end_place.ensures) at c.read.ensures.refused)

pub returns-clause-spelled : goal.returns-clause-spelled
returns-clause-spelled c =
    all_spelled c.args.bytes.now c.read.result (all_read c.args.bytes.now (tokens_of c.in_ok-tokens.tokens.items) c.read.result c.in_ok-tokens.ensures (rw (c.as_slice.ensures.value, c.end_place.ensures) at c.read.ensures.read))

pub returns-in_err-tokens-clause-complete : goal.returns-in_err-tokens-clause-complete
returns-in_err-tokens-clause-complete c d spells =
    let wanted : c.in_err-tokens.field-0.0 ≡ NoMemory = not_refused c.args.bytes.now d c.in_err-tokens.field-0.0 spells c.in_err-tokens.ensures in
    inr (first_of (search rules, cc, grind (arith, common_steps)))

pub returns-clause-complete : goal.returns-clause-complete
returns-clause-complete c =
    let read : IfOk c.read.result (IsReadAs c.args.bytes.now) = all_read c.args.bytes.now (tokens_of c.in_ok-tokens.tokens.items) c.read.result c.in_ok-tokens.ensures (rw (c.as_slice.ensures.value, c.end_place.ensures) at c.read.ensures.read) in
    let refused : IfErr c.read.result (HasFault c.args.bytes.now) = told c.args.bytes.now (tokens_of c.in_ok-tokens.tokens.items) c.read.result c.in_ok-tokens.ensures (rw (c.as_slice.ensures.value, c.end_place.ensures) at c.read.ensures.refused) in
    complete c.args.bytes.now c.read.result read refused
