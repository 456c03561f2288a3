-- A text has one list of tokens.
use Rattle.std.proofs.Common.{◌≡◌, ℕ, List, ◌∷◌, ap, sym, subst, ◌∙◌}
use Rattle.std.specs.Prelude.{Some, slice_range}
use Rattle.qml_ast.specs.declared.span.Span.{Span}
use Rattle.qml_grammar.specs.Lexemes.{Lexeme, Token, mark, integer}
use Rattle.qml_lex.specs.Numbers.{integer_of}
use Rattle.qml_lex.specs.declared.token.Token.{Token as LexedToken}
use Rattle.qml_lex.specs.declared.token.TokenKind.{TokenKind}
use Rattle.qml_lex.specs.declared.token.TokenKind.TheVariants.{Name, Integer, Decimal, Text, Mark}
use Rattle.qml_lex.proofs.OneReading.{a_text_has_one_reading as lexed_once}
use Rattle.qml_tokens.specs.Laws.{HasOneReading}
use Rattle.qml_tokens.specs.Spelled.{Says, IsTokenOf, AreTokensOf, none, more, HasTokens}
use Rattle.qml_tokens.proofs.Marks.{mark_text_injective}

-- the same text says one thing

same_integer : (text : List ℕ) (m n : ℕ) → integer_of text ≡ Some m → integer_of text ≡ Some n → m ≡ n
same_integer text m n h g = cc

says_one : (kind : TokenKind) (text : List ℕ) (a b : Lexeme) → Says kind text a → Says kind text b → a ≡ b
says_one Name text a b h g = h ∙ sym g
says_one Integer text a b h g = h.2 ∙ ap integer (same_integer text h.0 g.0 h.1 g.1) ∙ sym g.2
says_one Decimal text a b h g = h ∙ sym g
says_one Text text a b h g = h ∙ sym g
says_one Mark text a b h g = h.2 ∙ ap mark (mark_text_injective h.0 g.0 (sym h.1 ∙ g.1)) ∙ sym g.2

token_is : (a b : Token) → a.lexeme ≡ b.lexeme → a.span ≡ b.span → a ≡ b
token_is a b e f = ap (λ (l : Lexeme). record { lexeme = l; span = a.span }) e ∙ ap (λ (s : Span). record { lexeme = b.lexeme; span = s }) f

same_token : (bytes : List ℕ) (lexed : LexedToken) (a b : Token) → IsTokenOf bytes lexed a → IsTokenOf bytes lexed b → a ≡ b
same_token bytes lexed a b h g = token_is a b (says_one lexed.kind (slice_range bytes lexed.start lexed.end) a.lexeme b.lexeme h.says g.says) (h.place ∙ sym g.place)

-- the same tokens of the lexer say the same tokens

same_first : (l m : LexedToken) (ls ms lexed : List LexedToken) → lexed ≡ l ∷ ls → lexed ≡ m ∷ ms → m ≡ l
same_first l m ls ms lexed e f = cc

same_rest : (l m : LexedToken) (ls ms lexed : List LexedToken) → lexed ≡ l ∷ ls → lexed ≡ m ∷ ms → ms ≡ ls
same_rest l m ls ms lexed e f = cc

same_told : (bytes : List ℕ) (lexed : List LexedToken) (a b : List Token) → AreTokensOf bytes lexed a → AreTokensOf bytes lexed b → a ≡ b
same_told bytes lexed a b (none e f) (none e' f') = f ∙ sym f'
same_told bytes lexed a b (none e f) (more m ms t' us' e' f' is' are') = cc
same_told bytes lexed a b (more l ls t us e f is are) (none e' f') = cc
same_told bytes lexed a b (more l ls t us e f is are) (more m ms t' us' e' f' is' are') =
    let P : LexedToken → Type 0 = λ k. IsTokenOf bytes k t' in
    let Q : List LexedToken → Type 0 = λ ks. AreTokensOf bytes ks us' in
    let first : t ≡ t' = same_token bytes l t t' is (subst P (same_first l m ls ms lexed e e') is') in
    let rest : us ≡ us' = same_told bytes ls us us' are (subst Q (same_rest l m ls ms lexed e e') are') in
    f ∙ (ap (λ (x : Token). x ∷ us) first ∙ (ap (λ (xs : List Token). t' ∷ xs) rest ∙ sym f'))

pub one_list : (bytes : List ℕ) (a b : List Token) → HasTokens bytes a → HasTokens bytes b → a ≡ b
one_list bytes a b h g =
    let Q : List LexedToken → Type 0 = λ ks. AreTokensOf bytes ks b in
    same_told bytes h.lexed a b h.are (subst Q ((lexed_once bytes).one_list g.lexed h.lexed g.read h.read) g.are)

pub a_text_has_one_reading : (bytes : List ℕ) → HasOneReading bytes
a_text_has_one_reading bytes = record {
  one_list = one_list bytes;
  never_both = λ a fault h is. (lexed_once bytes).never_both h.lexed fault h.read is;
}
