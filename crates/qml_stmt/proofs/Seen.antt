-- Tokens that were read, as contracts see them.
use Rattle.std.proofs.Common.{◌≡◌, ℕ, zero, suc, ◌==◌, ◌<◌, ◌-◌, List, [], ◌∷◌, length, take, pred, refl, ap, sym, ◌∙◌, arith}
use Rattle.std.specs.Prelude.{slice_get}
use Rattle.std.proofs.lemmas.List.{length-map, take-map}
use Rattle.std.proofs.lemmas.Option.{slice_get-map}
use Rattle.qml_grammar.specs.Ends.{since}
use Rattle.qml_grammar.specs.Lexemes.{last_of}
use Rattle.qml_grammar.specs.Statements.{are_members}
use Rattle.qml_expr.specs.Seen.{token_of, tokens_of}
use Rattle.qml_expr.specs.declared.token.Token.{Token as HeldToken}
use Rattle.qml_stmt.specs.Seen.{seen}

pred_less : (n : ℕ) → pred n ≡ n - 1
pred_less zero = refl
pred_less (suc n) = omega arith

pub last_seen : (ts : List HeldToken) → seen (slice_get ts (length ts - 1)) ≡ last_of (tokens_of ts)
last_seen ts =
    sym (slice_get-map token_of ts (length ts - 1))
    ∙ ap (λ (k : ℕ). slice_get (tokens_of ts) (k - 1)) (sym (length-map ts token_of))
    ∙ ap (λ (k : ℕ). slice_get (tokens_of ts) k) (sym (pred_less (length (tokens_of ts))))

how_many : (n a b c d : ℕ) → n ≡ a - b → c ≡ a → d ≡ b → n ≡ c - d - 0
how_many n a b c d e f g = omega arith

pub since_seen : (ts us : List HeldToken) (n : ℕ) → n ≡ length ts - length us → tokens_of (take n ts) ≡ since (tokens_of ts) (tokens_of us)
since_seen ts us n e =
    sym (take-map token_of n ts)
    ∙ ap (λ (k : ℕ). take k (tokens_of ts)) (how_many n (length ts) (length us) (length (tokens_of ts)) (length (tokens_of us)) e (length-map ts token_of) (length-map us token_of))

-- the loop over members ends at a token alone, or at none
pub members_end : (ts : List HeldToken) → length ts < 2 → (length ts == 0) ≡ are_members (tokens_of ts)
members_end [] h = refl
members_end (t ∷ []) h = refl
members_end (t ∷ u ∷ ts) h = absurd (omega arith)
