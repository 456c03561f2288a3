use Rattle.std.proofs.Common.{◌∙◌, ap, refl, arith}
use Rattle.color_text.specs.Spelled.{spelled_color}
use Rattle.color_text.proofs.Forms.{by_digits, by_name, by_nothing}
use Rattle.color_text.proofs.spelled.color_of.Goals as goal

pub returns-in-empty : goal.returns-in-empty
returns-in-empty c = grind (arith, by_nothing c.args.text.now)

pub returns-then-first-eq35 : goal.returns-then-first-eq35
returns-then-first-eq35 c =
    let bytes = c.as_bytes.result.now in
    c.hexadecimal.ensures ∙ (by_digits bytes _ c.in-len1-up.len_at_least (grind arith) refl ∙ ap spelled_color c.as_bytes.ensures.value)

pub returns-else-first-eq35 : goal.returns-else-first-eq35
returns-else-first-eq35 c = grind (arith, by_name c.args.text.now)
