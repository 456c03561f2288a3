-- Dotted names of types, from token to token.
use Rattle.std.specs.Prelude.{ℕ, Bool, true, false, List, ◌∷◌, Option, None, Some}
use Rattle.qml_grammar.specs.Documents.{opens_or_on}
use Rattle.qml_grammar.specs.Lexemes.{Token, is_mark, name_of}
use Rattle.qml_grammar.specs.declared.mark.Mark.TheVariants.{OpenBrace, Dot}
use Rattle.qml_parse.specs.declared.lookahead.Follower.{Follower}
use Rattle.qml_parse.specs.declared.lookahead.Follower.TheVariants.{Brace, BraceOrOn}

-- what may follow the name
abbrev pub follows : Follower → Option Token → Bool
follows Brace = is_mark OpenBrace
follows BraceOrOn = opens_or_on

-- the name behind a dot, where the tokens begin with both
abbrev pub name_behind_dot : List Token → Option (List ℕ)
name_behind_dot (o ∷ t ∷ ts) = elim (is_mark Dot (Some o)) [ true ↦ name_of (Some t) | false ↦ None ]
name_behind_dot _ = None
