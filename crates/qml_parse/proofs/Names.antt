-- The last of names with dots between them is that of those behind the first one.
use Rattle.std.proofs.Common.{◌≡◌, ℕ, Bool, true, false, List, [], ◌∷◌, drop, ap, sym, ◌∙◌}
use Rattle.std.specs.Prelude.{Option, None, Some}
use Rattle.qml_expr.specs.Seen.{token_of, tokens_of}
use Rattle.qml_expr.specs.declared.token.Token.{Token as HeldToken}
use Rattle.qml_grammar.specs.Lexemes.{Token, is_mark, name_of}
use Rattle.qml_grammar.specs.Names.{LastName, last_name}
use Rattle.qml_grammar.specs.declared.mark.Mark.TheVariants.{Dot}
use Rattle.qml_parse.specs.Followers.{name_behind_dot}

same_name : (m k : List ℕ) → Some m ≡ Some k → k ≡ m
same_name m k e = cc

behind_dot : (b : Bool) (q : Option (List ℕ)) (n m : List ℕ) (o : Token) (ts : List Token) → ◌≡◌ {A = Option (List ℕ)} (Some m) (elim b [ true ↦ q | false ↦ None ]) → ◌≡◌ {A = LastName} (elim b [ true ↦ elim q [ Some k ↦ last_name k ts | None ↦ record { name = n; next = Some o } ] | false ↦ record { name = n; next = Some o } ]) (last_name m ts)
behind_dot true (Some k) n m o ts e = ap (λ (x : List ℕ). last_name x ts) (same_name m k e)
behind_dot true None n m o ts e = let f : ◌≡◌ {A = Option (List ℕ)} (Some m) None = e in cc
behind_dot false q n m o ts e = let f : ◌≡◌ {A = Option (List ℕ)} (Some m) None = e in cc

at_dot : (n m : List ℕ) (ts : List HeldToken) → Some m ≡ name_behind_dot (tokens_of ts) → last_name n (tokens_of ts) ≡ last_name m (tokens_of (drop 2 ts))
at_dot n m [] e = cc
at_dot n m (o ∷ []) e = cc
at_dot n m (o ∷ t ∷ ts) e = behind_dot (is_mark Dot (Some (token_of o))) (name_of (Some (token_of t))) n m (token_of o) (tokens_of ts) e

pub last_name_on : (n m : List ℕ) (ts us : List HeldToken) → Some m ≡ name_behind_dot (tokens_of ts) → us ≡ drop 2 ts → last_name n (tokens_of ts) ≡ last_name m (tokens_of us)
last_name_on n m ts us e f = at_dot n m ts e ∙ ap (λ (rs : List HeldToken). last_name m (tokens_of rs)) (sym f)
