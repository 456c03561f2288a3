use Rattle.std.proofs.Common.{◌<◌, ◌≡◌, false, Some, arith, ap}
use Rattle.std.specs.Fmt.{styled_digits_output}
use Rattle.std.proofs.lemmas.Fmt.{hex_byte}
use Rattle.qml_ast.specs.TextForm.{byte_text}
use Rattle.qml_ast.proofs.text_form.HexDisplay.fmt.Goals as goal

pub returns-clause-writes : goal.returns-clause-writes
returns-clause-writes g c =
    let small : c.args.self.now.0 < 256 = omega arith in
    let text : styled_digits_output c.in_radix.result c.laid_out.result ≡ Some (byte_text c.args.self.now.0) = rw (c.laid_out.ensures, c.in_radix.ensures) (ap (λ t. Some t) (hex_byte false c.args.self.now.0 small)) in
    rw text at c.write.ensures.writes
