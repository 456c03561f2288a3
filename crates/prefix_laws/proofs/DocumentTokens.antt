-- Tokens with which a document goes on.
use Rattle.std.proofs.Common.{◌≡◌, ℕ, false, true, List, [], ◌∷◌, ◌++◌, Some, refl, codes}
use Rattle.qml_grammar.specs.DocumentGrammar.{IsName, is_own_word}
use Rattle.qml_grammar.specs.Lexemes.{plain, word, Token, is_word}
use Rattle.qml_grammar.specs.Names.{upper_first, is_handler_name}
use Rattle.qml_grammar.specs.StatementGrammar.{IsWord}
use Rattle.qml_grammar.specs.Words.{same_word, word_number}
use Rattle.qml_grammar.specs.declared.mark.Mark.TheVariants.{OpenBrace, CloseBrace}
use Rattle.qml_grammar.specs.declared.word.Word.TheVariants as ww
use Rattle.prefix_laws.proofs.Going.{put, the_mark}

-- a name, of a member or a property
abbrev pub lower_name : List ℕ
lower_name = codes "a"

-- a name of a type
abbrev pub upper_name : List ℕ
upper_name = codes "A"

abbrev pub a_lower : Token
a_lower = put (plain (codes "a"))

abbrev pub an_upper : Token
an_upper = put (plain (codes "A"))

abbrev pub property_word : Token
property_word = put (word ww.Property)

abbrev pub in_braces : List Token → List Token
in_braces ts = the_mark OpenBrace ∷ ts ++ the_mark CloseBrace ∷ []

pub property_is : IsWord property_word ww.Property
unfolding same_word word_number
property_is = refl

pub lower_is : IsName a_lower lower_name
lower_is = refl

pub upper_is : IsName an_upper upper_name
upper_is = refl

pub upper_is_upper : upper_first upper_name ≡ true
upper_is_upper = refl

pub lower_no_alias : is_word ww.Alias (Some a_lower) ≡ false
lower_no_alias = refl

pub lower_no_handler : is_handler_name lower_name ≡ false
lower_no_handler = refl

pub lower_not_own : is_own_word (Some a_lower) ≡ false
lower_not_own = refl
