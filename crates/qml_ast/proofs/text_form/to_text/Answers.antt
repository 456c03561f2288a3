use Rattle.std.proofs.Common.{◌≤◌, length, arith, rules, ap}
use Rattle.std.specs.Int.{w32}
use Rattle.std.specs.Prelude.{FitsSigned}
use Rattle.std.specs.Fmt.{signed_decimal}
use Rattle.std.proofs.lemmas.Int.{to_z-of_z}
use Rattle.std.proofs.lemmas.Fmt.{length_signed_le}
use Rattle.qml_ast.proofs.text_form.to_text.Goals as goal

pub from_string-requires : goal.from_string-requires
from_string-requires c =
    let fits : FitsSigned w32 c.in-Int.n = search rules in
    let text = rw to_z-of_z at c.in_ok-to_string-in-Int.ensures.ok in
    let short : length (signed_decimal c.in-Int.n) ≤ 11 = length_signed_le 10 c.in-Int.n (omega (arith, fits.sfits)) (omega (arith, fits.sfits)) in
    omega (arith, ap length text)
