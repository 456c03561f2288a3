-- What changes a target, behind it.
use Rattle.std.proofs.Common.{◌≡◌, ℕ, ◌≤◌, ◌&&◌, ◌||◌, ◌⊎◌, inl, inr, Bool, true, false, if◌then◌else◌, is_some, List, [], ◌∷◌, ◌++◌, Option, Some, None, Result, Ok, refl, sym, ap, ◌∙◌}
use Rattle.qml_ast.specs.declared.expr.Expr.{Expr}
use Rattle.qml_ast.specs.declared.fault.DocFault.{DocFault}
use Rattle.qml_ast.specs.declared.span.Span.{Span}
use Rattle.qml_ast.specs.declared.stmt.AssignOp.{AssignOp}
use Rattle.qml_ast.specs.declared.stmt.Stmt.{Stmt}
use Rattle.qml_ast.specs.declared.stmt.Stmt.TheVariants.{Assign, Step}
use Rattle.qml_grammar.specs.ExpressionGrammar.{IsOperator}
use Rattle.qml_grammar.specs.Expressions.{whole}
use Rattle.qml_grammar.specs.Inputs.{Input, Parser, ahead, after}
use Rattle.qml_grammar.specs.Lexemes.{Lexeme, mark, Token, head, is_mark, same_line, looked_up, assign_operator, step_operator, last_of}
use Rattle.qml_grammar.specs.Marks.{same_mark, mark_number}
use Rattle.qml_grammar.specs.StatementGrammar.{goes_on, changes_on, IsTarget, IsWhole, IsChange, assign, step}
use Rattle.qml_grammar.specs.Statements.{assigned, stepped, step_or, change_or}
use Rattle.qml_grammar.specs.declared.mark.Mark.{Mark}
use Rattle.qml_grammar.specs.declared.mark.Mark.TheVariants.{Dot, Equal, PlusEqual, MinusEqual, StarEqual, SlashEqual, DoublePlus, DoubleMinus}
use Rattle.grammar_laws.proofs.Behind.{ok_then, if_true, found, missing}
use Rattle.grammar_laws.proofs.Tools.{bind_ok, if_ok, ahead_gives, way_token, way_then}
use Rattle.statement_laws.specs.Laws.{Covers}
use Rattle.statement_laws.proofs.Ways.{before, covers_to}
use Rattle.statement_laws.proofs.Wholes.{whole_covers, whole_goes}

-- No expression and no target goes on with what changes a target

mark_assign_stops : (m : Mark) (s : Span) (op : AssignOp) → assign_operator m ≡ Some op → goes_on (Some (record { lexeme = mark m; span = s })) ≡ false
unfolding same_mark mark_number
mark_assign_stops Equal s op h = refl
mark_assign_stops PlusEqual s op h = refl
mark_assign_stops MinusEqual s op h = refl
mark_assign_stops StarEqual s op h = refl
mark_assign_stops SlashEqual s op h = refl
mark_assign_stops _ s op h = absurd cc

lexeme_assign_stops : (l : Lexeme) (s : Span) (op : AssignOp) → looked_up assign_operator (Some (record { lexeme = l; span = s })) ≡ Some op → goes_on (Some (record { lexeme = l; span = s })) ≡ false
lexeme_assign_stops (mark m) s op h = mark_assign_stops m s op h
lexeme_assign_stops _ s op h = absurd cc

pub assign_stops : (o : Token) (op : AssignOp) → IsOperator assign_operator o op → goes_on (Some o) ≡ false
assign_stops o op h = lexeme_assign_stops o.lexeme o.span op h

mark_step_stops : (m : Mark) (s : Span) (up : Bool) → step_operator m ≡ Some up → goes_on (Some (record { lexeme = mark m; span = s })) ≡ false
unfolding same_mark mark_number
mark_step_stops DoublePlus s up h = refl
mark_step_stops DoubleMinus s up h = refl
mark_step_stops _ s up h = absurd cc

lexeme_step_stops : (l : Lexeme) (s : Span) (up : Bool) → looked_up step_operator (Some (record { lexeme = l; span = s })) ≡ Some up → goes_on (Some (record { lexeme = l; span = s })) ≡ false
lexeme_step_stops (mark m) s up h = mark_step_stops m s up h
lexeme_step_stops _ s up h = absurd cc

pub step_stops : (o : Token) (up : Bool) → IsOperator step_operator o up → goes_on (Some o) ≡ false
step_stops o up h = lexeme_step_stops o.lexeme o.span up h

first_or : (a b c d e f g h i : Bool) → (a || b || c || d || e || f || g || h || i) ≡ false → a ≡ false
first_or true b c d e f g h i p = absurd cc
first_or false b c d e f g h i p = refl

pub no_dot_on : (t : Option Token) → goes_on t ≡ false → is_mark Dot t ≡ false
no_dot_on t h = first_or _ _ _ _ _ _ _ _ _ h

mark_step_no_assign : (m : Mark) (up : Bool) → step_operator m ≡ Some up → assign_operator m ≡ None
mark_step_no_assign DoublePlus up h = refl
mark_step_no_assign DoubleMinus up h = refl
mark_step_no_assign _ up h = absurd cc

lexeme_step_no_assign : (l : Lexeme) (s : Span) (up : Bool) → looked_up step_operator (Some (record { lexeme = l; span = s })) ≡ Some up → looked_up assign_operator (Some (record { lexeme = l; span = s })) ≡ None
lexeme_step_no_assign (mark m) s up h = mark_step_no_assign m up h
lexeme_step_no_assign _ s up h = refl

step_no_assign : (o : Token) (up : Bool) → IsOperator step_operator o up → looked_up assign_operator (Some o) ≡ None
step_no_assign o up h = lexeme_step_no_assign o.lexeme o.span up h

-- What changes is spelled

-- a change, without its target
abbrev pub IsChangeOf : ℕ → List Token → List Token → Option Token → Stmt → Type 0
IsChangeOf d ts us next x = IsChange 200 d (ts ++ us) next x

no_change : (last next : Option Token) → looked_up assign_operator next ≡ None → (is_some (looked_up step_operator next) && same_line last next) ≡ false → changes_on last next ≡ false
no_change last next e f = ap (λ (o : Option AssignOp). is_some o || is_some (looked_up step_operator next) && same_line last next) e ∙ f

no_step : (last next : Option Token) → looked_up step_operator next ≡ None → (is_some (looked_up step_operator next) && same_line last next) ≡ false
no_step last next e = ap (λ (o : Option Bool). is_some o && same_line last next) e

other_line : (last next : Option Token) (up : Bool) → looked_up step_operator next ≡ Some up → same_line last next ≡ false → (is_some (looked_up step_operator next) && same_line last next) ≡ false
other_line last next up e f = ap (λ (o : Option Bool). is_some o && same_line last next) e ∙ f

-- a change of the target was read, or none follows and the other reading was taken
abbrev pub Changed : Parser Stmt → ℕ → List Token → Input → Stmt → Input → Type 0
Changed other d ts i z j = Covers (IsChangeOf d ts) i j z ⊎ ((changes_on (last_of ts) (ahead i) ≡ false) × (other i ≡ Ok (z, j)))

module _ (other : Parser Stmt) (d k : ℕ) (ts : List Token) (x : Expr) (p : IsTarget k ts x) (few : k ≤ 200) where
  assigned_covers : (op : AssignOp) (i : Input) (z : Stmt) (j : Input) → looked_up assign_operator (ahead i) ≡ Some op → assigned d x op i ≡ Ok (z, j) → Covers (IsChangeOf d ts) i j z
  unfolding assigned
  assigned_covers op i z j e h =
      let o = ahead_gives (looked_up assign_operator) refl i op e in
      let a = bind_ok (whole d (after i)) _ _ h in
      let y = whole_covers d (after i) a.value a.at a.first in
      covers_to (record {
        text = o.token ∷ y.text;
        way = way_then (way_token o.token o.rest) y.way;
        spelled = assign k ts o.token y.text x op a.value refl refl p few o.is y.spelled;
      }) a.onward

  stepped_covers : (up : Bool) (i : Input) (z : Stmt) (j : Input) → looked_up step_operator (ahead i) ≡ Some up → same_line (last_of ts) (ahead i) ≡ true → stepped x up i ≡ Ok (z, j) → Covers (IsChangeOf d ts) i j z
  unfolding stepped
  stepped_covers up i z j e line h =
      let o = ahead_gives (looked_up step_operator) refl i up e in
      let same : same_line (last_of ts) (Some o.token) ≡ true = ap (λ t. same_line (last_of ts) t) (sym (ap head o.rest)) ∙ line in
      covers_to (record {
        text = o.token ∷ [];
        way = way_token o.token o.rest;
        spelled = step k ts o.token x up refl refl p few o.is same;
      }) h

  step_or_from : (i : Input) (z : Stmt) (j : Input) (q : Option Bool) → looked_up assign_operator (ahead i) ≡ None → looked_up step_operator (ahead i) ≡ q → ◌≡◌ {A = Result (Stmt × Input) DocFault} (elim q [ Some up ↦ (if same_line (last_of ts) (ahead i) then stepped x up i else other i) | None ↦ other i ]) (Ok (z, j)) → Changed other d ts i z j
  step_or_from i z j None none e h = inr (no_change (last_of ts) (ahead i) none (no_step (last_of ts) (ahead i) e), h)
  step_or_from i z j (Some up) none e h = elim (if_ok (same_line (last_of ts) (ahead i)) _ _ _ h) [
    | inl a ↦ inl (stepped_covers up i z j e a.0 a.1)
    | inr a ↦ inr (no_change (last_of ts) (ahead i) none (other_line (last_of ts) (ahead i) up e a.0), a.1)
  ]

  change_or_from : (i : Input) (z : Stmt) (j : Input) (q : Option AssignOp) → looked_up assign_operator (ahead i) ≡ q → ◌≡◌ {A = Result (Stmt × Input) DocFault} (elim q [ Some op ↦ assigned d x op i | None ↦ step_or other x (last_of ts) i ]) (Ok (z, j)) → Changed other d ts i z j
  unfolding step_or
  change_or_from i z j (Some op) e h = inl (assigned_covers op i z j e h)
  change_or_from i z j None e h = step_or_from i z j (looked_up step_operator (ahead i)) e refl h

  pub change_or_covers : (i : Input) (z : Stmt) (j : Input) → change_or other d x (last_of ts) i ≡ Ok (z, j) → Changed other d ts i z j
  unfolding change_or
  change_or_covers i z j h = change_or_from i z j (looked_up assign_operator (ahead i)) refl h

-- What is spelled changes

pub assigned_goes : (other : Parser Stmt) (d : ℕ) (x : Expr) (last : Option Token) (o : Token) (op : AssignOp) (vs : List Token) (next : Option Token) (y : Expr) (j : Input) → ahead j ≡ next → IsOperator assign_operator o op → IsWhole 200 d vs next y → change_or other d x last (before (o ∷ vs) j) ≡ Ok (Assign x op y, j)
unfolding change_or assigned
assigned_goes other d x last o op vs next y j e is p = found _ _ is (ok_then _ (whole_goes d vs next y j e p) refl)

pub stepped_goes : (other : Parser Stmt) (d : ℕ) (x : Expr) (last : Option Token) (o : Token) (up : Bool) (j : Input) → IsOperator step_operator o up → same_line last (Some o) ≡ true → change_or other d x last (before (o ∷ []) j) ≡ Ok (Step x up, j)
unfolding change_or step_or stepped
stepped_goes other d x last o up j is line = missing _ _ (step_no_assign o up is) (found _ _ is (if_true _ _ line refl))

unchanged_by : (other : Parser Stmt) (d : ℕ) (x : Expr) (i : Input) (q : Option AssignOp) (r : Option Bool) (b : Bool) → (is_some q || is_some r && b) ≡ false → ◌≡◌ {A = Result (Stmt × Input) DocFault} (elim q [ Some op ↦ assigned d x op i | None ↦ elim r [ Some up ↦ (if b then stepped x up i else other i) | None ↦ other i ] ]) (other i)
unchanged_by other d x i (Some op) r b h = absurd cc
unchanged_by other d x i None None b h = refl
unchanged_by other d x i None (Some up) true h = absurd cc
unchanged_by other d x i None (Some up) false h = refl

-- where no change follows, the other reading is taken
pub unchanged : (other : Parser Stmt) (d : ℕ) (x : Expr) (last : Option Token) (i : Input) → changes_on last (ahead i) ≡ false → change_or other d x last i ≡ other i
unfolding change_or step_or
unchanged other d x last i h = unchanged_by other d x i (looked_up assign_operator (ahead i)) (looked_up step_operator (ahead i)) (same_line last (ahead i)) h
