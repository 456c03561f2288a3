-- Outermost expressions, before what follows them.
use Rattle.std.proofs.Common.{◌≡◌, ℕ, Bool, true, List, ◌++◌, Option, sym, ap, subst, ◌∙◌}
use Rattle.qml_ast.specs.declared.expr.Expr.{Expr}
use Rattle.qml_grammar.specs.Expressions.{whole}
use Rattle.qml_grammar.specs.Inputs.{Input, ahead}
use Rattle.qml_grammar.specs.Lexemes.{Token, head}
use Rattle.qml_grammar.specs.StatementGrammar.{IsWhole}
use Rattle.qml_grammar.specs.Statements.{begins_expr}
use Rattle.grammar_laws.proofs.First.{Begins, expr_begins}
use Rattle.grammar_laws.proofs.Reading.{whole_reads, reads_whole}
use Rattle.statement_laws.proofs.Ways.{before, way_before, Sound, Complete}

pub whole_covers : (d : ℕ) → Sound (whole d) (IsWhole 200 d)
whole_covers d i x j h = let r = whole_reads d i j x h in record { text = r.text; way = r.way; spelled = r.spelled }

pub whole_goes : (d : ℕ) → Complete (whole d) (IsWhole 200 d)
whole_goes d ts next x j e p = reads_whole d (before ts j) j x (record { text = ts; way = way_before ts j; spelled = subst (λ n. IsWhole 200 d ts n x) (sym e) p })

pub whole_begins : {d : ℕ} {ts : List Token} {next : Option Token} {x : Expr} → IsWhole 200 d ts next x → Begins begins_expr ts
whole_begins p = expr_begins p.spelled

-- the first token of what is not empty
pub head_begins : {test : Option Token → Bool} {ts : List Token} (b : Begins test ts) (us : List Token) → head (ts ++ us) ≡ head ts
head_begins b us = ap (λ ts. head (ts ++ us)) b.text ∙ sym (ap head b.text)

-- a test on the first token
pub begins_ahead : {test : Option Token → Bool} {ts : List Token} (b : Begins test ts) (j : Input) → test (ahead (before ts j)) ≡ true
begins_ahead {test = test} b j = ap (λ ts. test (head (ts ++ j.rest))) b.text ∙ b.begins
