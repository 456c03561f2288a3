-- Ways between inputs that keep the number of nodes, and readings along them.
use Rattle.std.proofs.Common.{◌≡◌, ℕ, List, [], ◌∷◌, ◌++◌, Option, Some, Result, Ok, refl, sym, ap, subst₂, ◌∙◌, arith, append_assoc, zero-add}
use Rattle.qml_ast.specs.declared.fault.DocFault.{DocFault}
use Rattle.qml_grammar.specs.ExpressionGrammar.{IsMark}
use Rattle.qml_grammar.specs.Inputs.{Input, Parser, ahead, expect, any_name}
use Rattle.qml_grammar.specs.Lexemes.{Token, head, name_of}
use Rattle.qml_grammar.specs.StatementGrammar.{follow}
use Rattle.qml_grammar.specs.declared.mark.Mark.{Mark}
use Rattle.grammar_laws.specs.Laws.{Way}
use Rattle.grammar_laws.proofs.Behind.{same_input_by, if_true, found}
use Rattle.grammar_laws.proofs.Tools.{way_then, same_value, same_input}
use Rattle.statement_laws.specs.Laws.{Covers}

-- What follows

pub head_follow : (es ts : List Token) → head (es ++ ts) ≡ follow es (head ts)
head_follow [] ts = refl
head_follow (e ∷ es) ts = refl

pub follow_both : (us vs : List Token) (next : Option Token) → follow (us ++ vs) next ≡ follow us (follow vs next)
follow_both [] vs next = refl
follow_both (u ∷ us) vs next = refl

pub ahead_follow : {i j : Input} {n : ℕ} {ts : List Token} → Way i j n ts → ahead i ≡ follow ts (ahead j)
ahead_follow {j = j} {ts = ts} w = ap head w.rest ∙ head_follow ts j.rest

-- Inputs with tokens in front

abbrev pub before : List Token → Input → Input
before ts j = record { rest = ts ++ j.rest; end = j.end; nodes = j.nodes }

pub arrived : {i j : Input} {ts : List Token} → Way i j 0 ts → i ≡ before ts j
arrived w = same_input_by w.rest w.end (omega (arith, w.used))

pub way_before : (ts : List Token) (j : Input) → Way (before ts j) j 0 ts
way_before ts j = record { rest = refl; used = sym (zero-add _); end = refl }

pub before_both : (us vs : List Token) (j : Input) → before (us ++ vs) j ≡ before us (before vs j)
before_both us vs j = same_input_by (append_assoc us vs j.rest) refl refl

pub ahead_before : (es : List Token) (j : Input) {next : Option Token} → ahead j ≡ next → ahead (before es j) ≡ follow es next
ahead_before es j h = head_follow es j.rest ∙ ap (follow es) h

pub expect_before : (m : Mark) (t : Token) (ts : List Token) (j : Input) → IsMark t m → expect m (before (t ∷ ts) j) ≡ Ok (tt, before ts j)
expect_before m t ts j h = if_true _ _ h refl

pub name_before : (n : List ℕ) (t : Token) (ts : List Token) (j : Input) → name_of (Some t) ≡ Some n → any_name (before (t ∷ ts) j) ≡ Ok (n, before ts j)
name_before n t ts j h = found _ _ h refl

-- Readings

-- what the parser gives from there is spelled
abbrev pub SoundAt : {A : Type 0} → Parser A → (List Token → Option Token → A → Type 0) → Input → Type 0
SoundAt {A = A} p Spells i = (x : A) (j : Input) → p i ≡ Ok (x, j) → Covers Spells i j x

-- what the parser gives is spelled
abbrev pub Sound : {A : Type 0} → Parser A → (List Token → Option Token → A → Type 0) → Type 0
Sound {A = A} p Spells = (i : Input) (x : A) (j : Input) → p i ≡ Ok (x, j) → Covers Spells i j x

-- the parser gives what is spelled
abbrev pub Complete : {A : Type 0} → Parser A → (List Token → Option Token → A → Type 0) → Type 0
Complete {A = A} p Spells = (ts : List Token) (next : Option Token) (x : A) (j : Input) → ahead j ≡ next → Spells ts next x → p (before ts j) ≡ Ok (x, j)

pub covers_to : {A : Type 0} {Spells : List Token → Option Token → A → Type 0} {i j k : Input} {x y : A} → Covers Spells i j x → ◌≡◌ {A = Result (A × Input) DocFault} (Ok (x, j)) (Ok (y, k)) → Covers Spells i k y
covers_to {Spells = Spells} {i = i} {j = j} {k = k} {x = x} {y = y} c e = subst₂ (λ z l. Covers Spells i l z) (same_value x y j k e) (same_input x y j k e) c

pub covers_as : {A B : Type 0} {Spells : List Token → Option Token → A → Type 0} {Other : List Token → Option Token → B → Type 0} {i j : Input} {x : A} {y : B} → ((ts : List Token) (next : Option Token) → Spells ts next x → Other ts next y) → Covers Spells i j x → Covers Other i j y
covers_as {j = j} one c = record { text = c.text; way = c.way; spelled = one c.text (ahead j) c.spelled }

-- what is spelled behind tokens is spelled with them
pub covers_behind : {A : Type 0} {Spells : List Token → Option Token → A → Type 0} {i k j : Input} {ts : List Token} {x : A} → Way i k 0 ts → Covers (λ us next y. Spells (ts ++ us) next y) k j x → Covers Spells i j x
covers_behind {ts = ts} w c = record { text = ts ++ c.text; way = way_then w c.way; spelled = c.spelled }

-- completeness at the inputs that a cover joins
pub reads_covered : {A : Type 0} (p : Parser A) (Spells : List Token → Option Token → A → Type 0) {i j : Input} {x : A} → Complete p Spells → Covers Spells i j x → p i ≡ Ok (x, j)
reads_covered p Spells {j = j} {x = x} complete c = ap p (arrived c.way) ∙ complete c.text (ahead j) x j refl c.spelled
