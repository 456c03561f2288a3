-- A text has one reading.
use Rattle.std.proofs.Common.{◌≡◌, ◌≢◌, ℕ, ◌+◌, List, ◌∷◌, sym, refl, ap, ◌∙◌, subst}
use Rattle.qml_lex.specs.Laws.{HasOneReading}
use Rattle.qml_lex.specs.Reading.{token_at, HasTokens, at_end, past_blank, past_lexeme, IsBadAt, here, later_blank, later_lexeme, IsReadAs, IsRefused, first_offset}
use Rattle.qml_lex.specs.declared.token.Token.{Token}
use Rattle.qml_ast.specs.declared.span.Span.{Span}
use Rattle.qml_ast.specs.declared.fault.DocFault.{DocFault}
use Rattle.qml_ast.specs.declared.fault.DocFault.TheVariants.{NotUtf8, BadToken, NoMemory}

-- the two places behind the same piece are one
same_next : (offset m n a b : ℕ) → m ≡ n → a ≡ offset + m → b ≡ offset + n → b ≡ a
same_next offset m n a b e is_a is_b = is_b ∙ (ap (λ k. offset + k) (sym e) ∙ sym is_a)

same_tokens : (bytes : List ℕ) (offset : ℕ) (a b : List Token) → HasTokens bytes offset a → HasTokens bytes offset b → a ≡ b
same_tokens bytes offset a b (at_end _ _ is nil) (at_end _ _ is' nil') = nil ∙ sym nil'
same_tokens bytes offset a b (at_end _ _ is nil) (past_blank _ n next _ is' w e d) = cc
same_tokens bytes offset a b (at_end _ _ is nil) (past_lexeme _ n next kind _ following is' w e t d) = cc
same_tokens bytes offset a b (past_blank _ n next _ is w e d) (at_end _ _ is' nil') = cc
same_tokens bytes offset a b (past_blank _ n next _ is w e d) (past_blank _ n' next' _ is' w' e' d') =
    let P : ℕ → Type 0 = λ i. HasTokens bytes i b in
    same_tokens bytes next a b d (subst P (same_next offset n n' next next' (cc) e e') d')
same_tokens bytes offset a b (past_blank _ n next _ is w e d) (past_lexeme _ n' next' kind _ following is' w' e' t d') = cc
same_tokens bytes offset a b (past_lexeme _ n next kind _ following is w e t d) (at_end _ _ is' nil') = cc
same_tokens bytes offset a b (past_lexeme _ n next kind _ following is w e t d) (past_blank _ n' next' _ is' w' e' d') = cc
same_tokens bytes offset a b (past_lexeme _ n next kind _ following is w e t d) (past_lexeme _ n' next' kind' _ following' is' w' e' t' d') =
    let P : ℕ → Type 0 = λ i. HasTokens bytes i following' in
    let same_n : n ≡ n' = cc in
    let same_kind : kind ≡ kind' = cc in
    let same : following ≡ following' = same_tokens bytes next following following' d (subst P (same_next offset n n' next next' same_n e e') d') in
    t ∙ (ap (λ m. token_at bytes offset kind m ∷ following) same_n ∙ (ap (λ k. token_at bytes offset k n' ∷ following) same_kind ∙ (ap (λ ts. token_at bytes offset kind' n' ∷ ts) same ∙ sym t')))

same_place : (bytes : List ℕ) (offset : ℕ) (a b : Span) → IsBadAt bytes offset a → IsBadAt bytes offset b → a ≡ b
same_place bytes offset a b (here _ _ is p) (here _ _ is' p') = p ∙ sym p'
same_place bytes offset a b (here _ _ is p) (later_blank _ n next _ is' w e d) = cc
same_place bytes offset a b (here _ _ is p) (later_lexeme _ n next kind _ is' w e d) = cc
same_place bytes offset a b (later_blank _ n next _ is w e d) (here _ _ is' p') = cc
same_place bytes offset a b (later_blank _ n next _ is w e d) (later_blank _ n' next' _ is' w' e' d') =
    let P : ℕ → Type 0 = λ i. IsBadAt bytes i b in
    same_place bytes next a b d (subst P (same_next offset n n' next next' (cc) e e') d')
same_place bytes offset a b (later_blank _ n next _ is w e d) (later_lexeme _ n' next' kind _ is' w' e' d') = cc
same_place bytes offset a b (later_lexeme _ n next kind _ is w e d) (here _ _ is' p') = cc
same_place bytes offset a b (later_lexeme _ n next kind _ is w e d) (later_blank _ n' next' _ is' w' e' d') = cc
same_place bytes offset a b (later_lexeme _ n next kind _ is w e d) (later_lexeme _ n' next' kind' _ is' w' e' d') =
    let P : ℕ → Type 0 = λ i. IsBadAt bytes i b in
    same_place bytes next a b d (subst P (same_next offset n n' next next' (cc) e e') d')

not_both : (bytes : List ℕ) (offset : ℕ) (a : List Token) (b : Span) → HasTokens bytes offset a → IsBadAt bytes offset b → ⊥
not_both bytes offset a b (at_end _ _ is nil) (here _ _ is' p') = cc
not_both bytes offset a b (at_end _ _ is nil) (later_blank _ n next _ is' w e d) = cc
not_both bytes offset a b (at_end _ _ is nil) (later_lexeme _ n next kind _ is' w e d) = cc
not_both bytes offset a b (past_blank _ n next _ is w e d) (here _ _ is' p') = cc
not_both bytes offset a b (past_blank _ n next _ is w e d) (later_blank _ n' next' _ is' w' e' d') =
    let P : ℕ → Type 0 = λ i. IsBadAt bytes i b in
    not_both bytes next a b d (subst P (same_next offset n n' next next' (cc) e e') d')
not_both bytes offset a b (past_blank _ n next _ is w e d) (later_lexeme _ n' next' kind _ is' w' e' d') = cc
not_both bytes offset a b (past_lexeme _ n next kind _ following is w e t d) (here _ _ is' p') = cc
not_both bytes offset a b (past_lexeme _ n next kind _ following is w e t d) (later_blank _ n' next' _ is' w' e' d') = cc
not_both bytes offset a b (past_lexeme _ n next kind _ following is w e t d) (later_lexeme _ n' next' kind' _ is' w' e' d') =
    let P : ℕ → Type 0 = λ i. IsBadAt bytes i b in
    not_both bytes next following b d (subst P (same_next offset n n' next next' (cc) e e') d')

-- a fault is one of these three
pub same_fault : (bytes : List ℕ) (a b : DocFault) → IsRefused bytes a → IsRefused bytes b → a ≢ NoMemory → b ≢ NoMemory → a ≡ b
same_fault bytes (NotUtf8 m) (NotUtf8 n) h g x y = ap NotUtf8 (h.1 ∙ sym g.1)
same_fault bytes (NotUtf8 m) (BadToken q) h g x y = absurd (h.0 g.0)
same_fault bytes (BadToken p) (NotUtf8 n) h g x y = absurd (g.0 h.0)
same_fault bytes (BadToken p) (BadToken q) h g x y = ap BadToken (same_place bytes (first_offset bytes) p q h.1 g.1)
same_fault bytes NoMemory b h g x y = absurd (x refl)
same_fault bytes a NoMemory h g x y = absurd (y refl)
same_fault bytes (NotUtf8 m) _ h g x y = absurd g.1
same_fault bytes (BadToken p) _ h g x y = absurd g.1
same_fault bytes _ _ h g x y = absurd h.1

pub fault_or_tokens : (bytes : List ℕ) (a : List Token) (b : DocFault) → IsReadAs bytes a → IsRefused bytes b → b ≡ NoMemory
fault_or_tokens bytes a (NotUtf8 n) h g = absurd (g.0 h.utf8)
fault_or_tokens bytes a (BadToken p) h g = absurd (not_both bytes (first_offset bytes) a p h.tokens_are g.1)
fault_or_tokens bytes a NoMemory h g = refl
fault_or_tokens bytes a _ h g = absurd g.1

pub a_text_has_one_reading : (bytes : List ℕ) → HasOneReading bytes
a_text_has_one_reading bytes = record {
  one_list = λ a b h g. same_tokens bytes (first_offset bytes) a b h.tokens_are g.tokens_are;
  one_fault = same_fault bytes;
  never_both = fault_or_tokens bytes;
}
