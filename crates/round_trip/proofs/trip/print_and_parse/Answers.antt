use Rattle.std.proofs.Common.{◌≡◌, Ok, Err, arith, rules}
use Rattle.std.proofs.lemmas.Grind.{common_steps}
use Rattle.qml_ast.specs.declared.fault.DocFault.TheVariants.{NoMemory}
use Rattle.qml_grammar.specs.Canonical.{document_text}
use Rattle.round_trip.proofs.Coming.{comes_back}
use Rattle.round_trip.proofs.trip.print_and_parse.Goals as goal

pub returns-in_err-parse-clause-alike : goal.returns-in_err-parse-clause-alike
returns-in_err-parse-clause-alike c text spells =
    let printed : c.as_slice.result.now ≡ document_text c.args.document.now = search rules in
    let back = comes_back text c.as_slice.result.now c.args.document.now (Err c.in_err-parse.field-0.0) spells printed c.in_err-parse.ensures.complete in
    let wanted : c.in_err-parse.field-0.0 ≡ NoMemory = back.1 in
    first_of (search rules, cc, grind (arith, common_steps))

pub returns-clause-alike : goal.returns-clause-alike
returns-clause-alike c text spells =
    let printed : c.as_slice.result.now ≡ document_text c.args.document.now = search rules in
    comes_back text c.as_slice.result.now c.args.document.now (Ok c.in_ok-parse.field-0) spells printed c.in_ok-parse.ensures.complete
