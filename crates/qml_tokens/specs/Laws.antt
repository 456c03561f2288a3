-- What holds of every text and its tokens.
use Rattle.std.specs.Prelude.{◌≡◌, ℕ, List}
use Rattle.qml_ast.specs.declared.fault.DocFault.{DocFault}
use Rattle.qml_ast.specs.declared.fault.DocFault.TheVariants.{NoMemory}
use Rattle.qml_grammar.specs.Lexemes.{Token}
use Rattle.qml_lex.specs.Reading.{IsRefused}
use Rattle.qml_tokens.specs.Spelled.{HasTokens}

-- a text has at most one list of tokens, and no fault beside it but want of memory
pub record HasOneReading (bytes : List ℕ) : Type 0 where
  pub one_list : (a b : List Token) → HasTokens bytes a → HasTokens bytes b → a ≡ b
  pub never_both : (a : List Token) (fault : DocFault) → HasTokens bytes a → IsRefused bytes fault → fault ≡ NoMemory
