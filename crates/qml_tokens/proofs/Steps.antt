-- From token to token of a text.
use Rattle.std.proofs.Common.{◌≡◌, ℕ, List, [], ◌∷◌, ◌++◌, Option, Some, None, sym, refl, subst, ap, append-nil}
use Rattle.qml_expr.specs.Seen.{token_of, tokens_of}
use Rattle.qml_expr.specs.declared.token.Token.{Token as HeldToken}
use Rattle.qml_grammar.specs.Lexemes.{Token}
use Rattle.qml_lex.specs.Reading.{HasTokens as HasLexed}
use Rattle.qml_lex.specs.Scanning.{IsNext, HasNext}
use Rattle.qml_lex.proofs.Scanning.{StaysBad}
use Rattle.qml_lex.specs.declared.token.Token.{Token as LexedToken}
use Rattle.qml_tokens.specs.Spelled.{IsTokenOf, AreTokensOf, none, more, HasTokens}

told_behind : (told : List HeldToken) (t : HeldToken) (rest : List Token) → tokens_of (told ++ t ∷ []) ++ rest ≡ tokens_of told ++ token_of t ∷ rest
told_behind [] t rest = refl
told_behind (x ∷ told) t rest = ap (λ (ts : List Token). token_of x ∷ ts) (told_behind told t rest)

-- the tokens so far, and then those that stand from an offset on, are those of the text
abbrev pub SoFar : List ℕ → ℕ → List HeldToken → Type 0
SoFar bytes at told = (lexed : List LexedToken) (rest : List Token) → HasLexed bytes at lexed → AreTokensOf bytes lexed rest → HasTokens bytes (tokens_of told ++ rest)

pub told_more : (bytes text : List ℕ) (at stop : ℕ) (told : List HeldToken) (next : Option LexedToken) (token : LexedToken) (t : HeldToken) → text ≡ bytes → HasNext text at stop next → next ≡ Some token → IsTokenOf bytes token (token_of t) → SoFar bytes at told → SoFar bytes stop (told ++ t ∷ [])
told_more bytes text at stop told next token t same found is_some is so_far lexed rest read are =
    let here : IsNext bytes at stop token = rw (same, is_some) at found in
    let P : List Token → Type 0 = λ ts. HasTokens bytes ts in
    subst P (sym (told_behind told t rest)) (so_far (token ∷ lexed) (token_of t ∷ rest) (here.read lexed read) (more token lexed (token_of t) rest refl refl is are))

pub bad_more : (bytes text : List ℕ) (start at stop : ℕ) (next : Option LexedToken) (token : LexedToken) → text ≡ bytes → HasNext text at stop next → next ≡ Some token → StaysBad bytes start at → StaysBad bytes start stop
bad_more bytes text start at stop next token same found is_some bad place is =
    let here : IsNext bytes at stop token = rw (same, is_some) at found in
    bad place (here.bad place is)

pub told_all : (bytes text : List ℕ) (at stop : ℕ) (told : List HeldToken) (next : Option LexedToken) → text ≡ bytes → HasNext text at stop next → next ≡ None → SoFar bytes at told → HasTokens bytes (tokens_of told)
told_all bytes text at stop told next same found is so_far =
    let here : HasLexed bytes at [] = rw (same, is) at found in
    let P : List Token → Type 0 = λ ts. HasTokens bytes ts in
    subst P (append-nil (tokens_of told)) (so_far [] [] here (none refl refl))
