-- What is read, and how readings are put together. A reading gives a value and what is left, or the first
-- fault.
use Rattle.std.specs.Prelude.{ℕ, zero, suc, Bool, true, false, if◌then◌else◌, List, length, Option, Some, None, Result, Ok, Err}
use Rattle.qml_ast.specs.declared.fault.DocFault.{DocFault}
use Rattle.qml_ast.specs.declared.fault.DocFault.TheVariants.{Syntax, TooDeep, Unsupported}
use Rattle.qml_ast.specs.declared.span.Span.{Span}
use Rattle.qml_grammar.specs.Lexemes.{Token, head, tail, name_of, is_mark, is_foreign, is_foreign_operand}
use Rattle.qml_grammar.specs.declared.mark.Mark.{Mark}

pub record Input : Type 0 where
  -- the tokens that are left
  pub rest : List Token
  -- the place after the document's last byte
  pub end : Span
  -- how many nodes the expression that is being read may still have
  pub nodes : ℕ

abbrev pub Parser : Type 0 → Type 0
Parser A = Input → Result (A × Input) DocFault

-- the next token
abbrev pub ahead : Input → Option Token
ahead i = head i.rest

-- what is left behind the next token
abbrev pub after : Input → Input
after i = record { rest = tail i.rest; end = i.end; nodes = i.nodes }

-- where the next token begins, or the document ends
abbrev pub place : Input → Span
place i = elim (head i.rest) [ Some t ↦ t.span | None ↦ i.end ]

-- Faults

-- that the next token cannot stand there
abbrev pub refusal : Input → DocFault
refusal i = if is_foreign (ahead i) then Unsupported (place i) else Syntax (place i)

-- that no expression or statement begins with the next token
abbrev pub operand_refusal : Input → DocFault
operand_refusal i = if is_foreign_operand (ahead i) then Unsupported (place i) else Syntax (place i)

abbrev pub refused : {A : Type 0} → Parser A
refused i = Err (refusal i)

abbrev pub too_deep : {A : Type 0} → Parser A
too_deep i = Err (TooDeep (place i))

-- Putting readings together

-- reads nothing
abbrev pub pure : {A : Type 0} → A → Parser A
pure x i = Ok (x, i)

-- reads the one and then what follows it
abbrev pub ◌>>=◌ : {A B : Type 0} → Parser A → (A → Parser B) → Parser B
◌>>=◌ p f i = elim (p i) [ Ok r ↦ f r.0 r.1 | Err e ↦ Err e ]

abbrev pub ◌>>◌ : {A B : Type 0} → Parser A → Parser B → Parser B
◌>>◌ p q i = elim (p i) [ Ok r ↦ q r.1 | Err e ↦ Err e ]

-- reads on from a value while the next token allows it, at most so many times
unfoldable pub repeated : {A : Type 0} → (Option Token → Bool) → (A → Parser A) → ℕ → A → Parser A
repeated test step zero x i = Ok (x, i)
repeated test step (suc n) x i = elim (test (ahead i)) [ true ↦ elim (step x i) [ Ok r ↦ repeated test step n r.0 r.1 | Err e ↦ Err e ] | false ↦ Ok (x, i) ]

-- reads on from a value while the next token allows it. Each time takes a token or more
unfoldable pub while_next : {A : Type 0} → (Option Token → Bool) → (A → Parser A) → A → Parser A
while_next test step x i = repeated test step (length i.rest) x i

-- Single tokens

-- the next token, whatever it is
abbrev pub take_token : Parser (Unit {0})
take_token i = Ok (tt, after i)

-- the next token, which begins a node of the expression
abbrev pub take_node : Parser (Unit {0})
take_node i = elim i.nodes [ zero ↦ Err (TooDeep (place i)) | suc n ↦ Ok (tt, record { rest = tail i.rest; end = i.end; nodes = n }) ]

abbrev pub expect : Mark → Parser (Unit {0})
expect m i = if is_mark m (ahead i) then Ok (tt, after i) else Err (refusal i)

abbrev pub any_name : Parser (List ℕ)
any_name i = elim (name_of (ahead i)) [ Some n ↦ Ok (n, after i) | None ↦ Err (refusal i) ]
