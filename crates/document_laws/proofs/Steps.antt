-- Steps of readings that keep the number of nodes.
use Rattle.std.proofs.Common.{◌≡◌, ℕ, suc, List, ◌∷◌, Option, Some, None, ap, arith}
use Rattle.qml_grammar.specs.Inputs.{Input, ahead, place}
use Rattle.qml_grammar.specs.Lexemes.{Token, head}
use Rattle.grammar_laws.specs.Laws.{Way}
use Rattle.grammar_laws.proofs.Behind.{behind, way_behind}
use Rattle.statement_laws.proofs.Ways.{before, way_before}

-- whatever follows it
abbrev pub Anyhow : {A : Type 0} → (List Token → A → Type 0) → List Token → Option Token → A → Type 0
Anyhow Spells ts next x = Spells ts x

-- where the tokens begin
pub placed : {i j : Input} {n : ℕ} {t : Token} {ts : List Token} → Way i j n (t ∷ ts) → place i ≡ t.span
placed {i = i} w = ap (λ us. elim (head us) [ Some t ↦ t.span | None ↦ i.end ]) w.rest

-- a test of the next token is one of the first of the tokens
pub first_is : {A : Type 0} {i j : Input} {n : ℕ} {t : Token} {ts : List Token} (test : Option Token → A) → Way i j n (t ∷ ts) → test (ahead i) ≡ test (Some t)
first_is test w = ap (λ us. test (head us)) w.rest

pub behind_none : (ts : List Token) (j : Input) → before ts j ≡ behind ts 0 j
behind_none ts j = way_behind (way_before ts j)

-- Levels

pub no_level : (c : ℕ) → 0 ≡ suc c → ⊥
no_level c e = omega arith

pub one_less : (c d : ℕ) → suc d ≡ suc c → c ≡ d
one_less c d e = omega arith
