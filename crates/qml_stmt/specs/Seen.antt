-- What contracts see of a token that may be missing: one of the grammar's.
use Rattle.std.specs.Prelude.{Option, option_map}
use Rattle.qml_grammar.specs.Lexemes.{Token}
use Rattle.qml_expr.specs.Seen.{token_of}
use Rattle.qml_expr.specs.declared.token.Token.{Token as HeldToken}

-- a token, as the grammar has it, or none
abbrev pub seen : Option HeldToken → Option Token
seen = option_map token_of
