-- What it means that a fault depends on the tokens up to it alone.
use Rattle.std.specs.Prelude.{◌≡◌, ◌&&◌, Bool, true, false, List, [], ◌∷◌, ◌++◌, Some, None, Err}
use Rattle.qml_ast.specs.declared.fault.DocFault.{DocFault}
use Rattle.qml_ast.specs.declared.fault.DocFault.TheVariants.{Unsupported}
use Rattle.qml_ast.specs.declared.span.Span.{Span}
use Rattle.qml_grammar.specs.Documents.{reading}
use Rattle.qml_grammar.specs.Inputs.{Input, Parser, place}
use Rattle.qml_grammar.specs.Lexemes.{Token, head, is_mark, is_name}
use Rattle.qml_grammar.specs.Names.{upper_first, name_is}
use Rattle.qml_grammar.specs.declared.mark.Mark.TheVariants.{Dot}
use Rattle.grammar_laws.specs.Faults.{IsFaultAt, IsLike}
use Rattle.grammar_laws.specs.Laws.{Way}

-- The fault stands at the next token or at the end. Every input with the same tokens before it and the same one
-- there has the same fault.
pub record FaultsNext {A : Type 0} (read : Parser A) (i : Input) (fault : DocFault) : Type 0 where
  pub text : List Token
  pub at : Input
  pub way : Way i at 0 text
  pub place : IsFaultAt fault (place at)
  pub alike : (k l : Input) → Way k l 0 text → IsLike l at → read k ≡ Err fault

-- dots and names in turn, a dot first
abbrev pub are_dotted : List Token → Bool
are_dotted [] = true
are_dotted (o ∷ []) = is_mark Dot (Some o)
are_dotted (o ∷ t ∷ ts) = is_mark Dot (Some o) && is_name (Some t) && are_dotted ts

-- names with dots between them, and maybe one more dot
abbrev pub is_dotted : List Token → Bool
is_dotted [] = false
is_dotted (t ∷ ts) = is_name (Some t) && are_dotted ts

-- Where a fault stands that shows behind these tokens.
pub data StandsIn (fault : DocFault) (text : List Token) (next : Span) : Type 0 where
  -- at the token there, or at the end
  behind : IsFaultAt fault next → StandsIn fault text next
  -- at the first token of a type's name with dots, or of a module, that is refused, and with which the tokens end
  refused : (us : List Token) (t : Token) (vs : List Token) → text ≡ us ++ t ∷ vs → is_dotted (t ∷ vs) ≡ true → fault ≡ Unsupported t.span → StandsIn fault text next
  -- further on in a name with dots with which the tokens end, whose first letter is upper case. Whether it is a
  -- type's, and refused at its first token, shows only behind it: `A.` is refused at its dot, and `A.B {` at `A`
  named : (us vs : List Token) (t : Token) (ws : List Token) → text ≡ us ++ (vs ++ t ∷ ws) → is_dotted (vs ++ t ∷ ws) ≡ true → name_is upper_first (head vs) ≡ true → IsFaultAt fault t.span → StandsIn fault text next

-- likewise, where the fault may stand within a name with dots that was read to its end
pub record FaultsWithin {A : Type 0} (read : Parser A) (i : Input) (fault : DocFault) : Type 0 where
  pub text : List Token
  pub at : Input
  pub way : Way i at 0 text
  pub place : StandsIn fault text (place at)
  pub alike : (k l : Input) → Way k l 0 text → IsLike l at → read k ≡ Err fault

-- where the first of the tokens begins, or the text ends
abbrev pub place_before : List Token → Span → Span
place_before ts end = elim (head ts) [ Some t ↦ t.span | None ↦ end ]

-- The first fault of a document's tokens. Whatever follows the token at which it shows, the fault is the same.
pub record FirstFault (ts : List Token) (end : Span) (fault : DocFault) : Type 0 where
  pub text : List Token
  pub rest : List Token
  pub whole : ts ≡ text ++ rest
  pub place : StandsIn fault text (place_before rest end)
  pub alike : (others : List Token) (there : Span) → head others ≡ head rest → place_before others there ≡ place_before rest end → reading (text ++ others) there ≡ Err fault
