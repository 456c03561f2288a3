use Rattle.std.proofs.Common.{◌∙◌}
use Rattle.color_text.proofs.Forms.{three, six, eight}
use Rattle.color_text.proofs.digits.hexadecimal.Goals as goal

pub returns-in-len3 : goal.returns-in-len3
returns-in-len3 c = c.color_of_bytes.ensures ∙ three c.args.digits.now _ _ _ c.in-len3.len_at_least c.in-len3.len_below c.hex_byte-red.ensures c.hex_byte-green.ensures c.hex_byte-blue.ensures

pub returns-in-len6 : goal.returns-in-len6
returns-in-len6 c = c.color_of_bytes-in-len6.ensures ∙ six c.args.digits.now _ _ _ c.in-len6.len_at_least c.in-len6.len_below c.hex_byte-red-in-len6.ensures c.hex_byte-green-in-len6.ensures c.hex_byte-blue-in-len6.ensures

pub returns-in-len8 : goal.returns-in-len8
returns-in-len8 c = c.color_of_bytes-in-len8.ensures ∙ eight c.args.digits.now _ _ _ _ c.in-len8.len_at_least c.in-len8.len_below c.hex_byte.ensures c.hex_byte-red-in-len8.ensures c.hex_byte-green-in-len8.ensures c.hex_byte-blue-in-len8.ensures
