-- The canonical texts of outermost expressions, of targets, and of what changes these.
use Rattle.std.proofs.Common.{◌≡◌, ℕ, ◌+◌, ◌≤◌, Bool, true, false, if◌then◌else◌, List, [], ◌∷◌, ◌++◌, codes, Option, Some, None, refl, sym, ap, subst, ◌∙◌, arith, append-nil}
use Rattle.std.proofs.lemmas.Bool.{le-ltb, eq-eqb}
use Rattle.grammar_laws.proofs.Behind.{if_false}
use Rattle.piece_laws.specs.Pieces.{Piece, token, space, pieces_text, past, past_all, placed, is_mark_piece, AreLawfulTokens, IsLawfulLexeme}
use Rattle.print_laws.proofs.Claims.{Spelling}
use Rattle.print_laws.proofs.Expressions.{expr_spelling, infix_pieces_text, member_text}
use Rattle.print_laws.proofs.Runs.{Run, text_append, placed_append, run_of, touching, spaced_by, last_placed}
use Rattle.print_laws.proofs.Signs.{lawful_left, lawful_right, lawful_as, name_is_text, operand_is_text, operand_no_mark, name_no_mark, touches_mark, no_mark_touches, dot_touches}
use Rattle.print_laws.proofs.Spellings.{token_spelling}
use Rattle.qml_ast.specs.declared.expr.Expr.{Expr}
use Rattle.qml_ast.specs.declared.expr.Expr.TheVariants.{Name, Member}
use Rattle.qml_ast.specs.declared.span.Span.{Span}
use Rattle.qml_ast.specs.declared.stmt.AssignOp.{AssignOp}
use Rattle.qml_ast.specs.declared.stmt.Stmt.{Stmt}
use Rattle.qml_ast.specs.declared.stmt.Stmt.TheVariants.{Assign, Step}
use Rattle.qml_grammar.specs.Canonical.{stmt_lined, short, assign_text}
use Rattle.qml_grammar.specs.CanonicalExpressions.{Printed, printed, bound, expr_text}
use Rattle.qml_grammar.specs.Lexemes.{Lexeme, plain, word, integer, decimal, text, mark, Token, is_mark, name_of_lexeme, operand_name_of_lexeme, assign_operator, step_operator, same_line, last_of}
use Rattle.qml_grammar.specs.Marks.{mark_text, mark_number, same_mark}
use Rattle.qml_grammar.specs.StatementGrammar.{goes_on, changes_on, IsWhole, IsTarget, name, member, IsChange, assign, step}
use Rattle.qml_grammar.specs.declared.mark.Mark.{Mark}
use Rattle.qml_grammar.specs.declared.mark.Mark.TheVariants.{CloseParen, Semicolon, Dot, Equal, PlusEqual, MinusEqual, StarEqual, SlashEqual, DoublePlus, DoubleMinus}
use Rattle.qml_grammar.proofs.LinedForms.{stmt-Assign, stmt-Step}
use Rattle.qml_grammar.proofs.PrintedForms.{printed-Name, printed-Member}

-- Outermost expressions

-- what ends before such a token goes on neither with it nor is changed by it
pub record Stops (next : Option Token) : Type 0 where
  pub goes : goes_on next ≡ false
  pub unset : is_mark Equal next ≡ false
  pub unchanged : (last : Option Token) → changes_on last next ≡ false

pub semicolon_stops : (at : Span) → Stops (Some (record { lexeme = mark Semicolon; span = at }))
unfolding same_mark mark_number
semicolon_stops at = record { goes = refl; unset = refl; unchanged = λ last. refl }

pub paren_stops : (at : Span) → Stops (Some (record { lexeme = mark CloseParen; span = at }))
unfolding same_mark mark_number
paren_stops at = record { goes = refl; unset = refl; unchanged = λ last. refl }

-- the canonical text of an outermost expression spells it before each token that does not go on with it
abbrev pub Whole : ℕ → Expr → Type 0
Whole d x = Spelling (expr_text x) (λ e ts. (next : Option Token) → goes_on next ≡ false → IsWhole 200 e ts next x) d

pub whole_prints : {d : ℕ} {ts : List Token} {next : Option Token} {x : Expr} → IsWhole 200 d ts next x → AreLawfulTokens ts → Whole d x
whole_prints {d = d} {ts = ts} {x = x} w law =
    let p = expr_spelling d w.nodes ts x w.spelled law in
    record {
      pieces = p.pieces;
      first = p.first;
      last = p.last;
      run = p.run;
      opening = p.opening;
      text_is = p.text_is;
      spelled = λ e at le next stops. record { nodes = w.nodes; few = w.few; spelled = p.spelled e at le; longest = stops };
    }

-- Targets

-- a target stands bare everywhere
pub record Target (k : ℕ) (x : Expr) : Type 0 where
  pub strong : 8 ≤ (printed x).strength
  pub text : List ℕ
  pub is : (printed x).text ≡ text
  pub spelling : Spelling text (λ e ts. IsTarget k ts x) 0
  pub no_mark : is_mark_piece spelling.last ≡ false

bare_text : (least : ℕ) (p : Printed) → least ≤ p.strength → bound least p ≡ p.text
bare_text least p h = if_false _ _ (le-ltb p.strength least h) refl

target_as : (k : ℕ) (x : Expr) (p : Printed) → printed x ≡ p → 8 ≤ p.strength → (s : Spelling p.text (λ e ts. IsTarget k ts x) 0) → is_mark_piece s.last ≡ false → Target k x
target_as k x p h strong s no_mark = record {
  strong = subst (λ (q : Printed). 8 ≤ q.strength) (sym h) strong;
  text = p.text;
  is = ap (λ (q : Printed). q.text) h;
  spelling = s;
  no_mark = no_mark;
}

name_target : (l : Lexeme) (n : List ℕ) → IsLawfulLexeme l → operand_name_of_lexeme l ≡ Some n → Target 1 (Name n)
name_target l n law h =
    target_as 1 (Name n) (record { text = n; strength = 9 }) (printed-Name n) (omega arith) (token_spelling 0 l n (λ e ts. IsTarget 1 ts (Name n)) law (operand_no_mark l n h) (operand_is_text l n h) (λ e at. name (record { lexeme = l; span = at }) n refl refl refl h)) (operand_no_mark l n h)

member_target : (i : ℕ) (y : Expr) (l : Lexeme) (n : List ℕ) → Target i y → IsLawfulLexeme l → name_of_lexeme l ≡ Some n → Target (i + 1) (Member y n)
unfolding same_mark mark_number
member_target i y l n t law h =
    let p = t.spelling in
    target_as (i + 1) (Member y n) (record { text = bound 8 (printed y) ++ (codes "." ++ n); strength = 8 }) (printed-Member y n) (omega arith) (record {
      pieces = p.pieces ++ token (mark Dot) ∷ token l ∷ [];
      first = p.first;
      last = l;
      run = touching p.run (touching (run_of (mark Dot) tt) (run_of l law) (dot_touches l n h)) (touches_mark p.last Dot refl);
      opening = p.opening;
      text_is = member_text p.pieces l (bound 8 (printed y)) n (p.text_is ∙ sym t.is ∙ sym (bare_text 8 (printed y) t.strong)) (name_is_text l n h);
      spelled = λ e at le. member i (placed at p.pieces) (record { lexeme = mark Dot; span = past_all at p.pieces }) (record { lexeme = l; span = past (past_all at p.pieces) (token (mark Dot)) }) y n refl (placed_append at p.pieces (token (mark Dot) ∷ token l ∷ [])) refl (p.spelled e at le) refl h;
    }) (name_no_mark l n h)

pub target_prints : {k : ℕ} {ts : List Token} {x : Expr} → IsTarget k ts x → AreLawfulTokens ts → Target k x
target_prints (name t n k_is ts_is x_is is) law = rw (k_is, x_is) (name_target t.lexeme n (lawful_as ts_is law).0 is)
target_prints (member i us o t y n k_is ts_is x_is p dot is) law =
    let laws : AreLawfulTokens (us ++ o ∷ t ∷ []) = lawful_as ts_is law in
    rw (k_is, x_is) (member_target i y t.lexeme n (target_prints p (lawful_left us (o ∷ t ∷ []) laws)) (lawful_right us (o ∷ t ∷ []) laws).1.0 is)

target_text : {k : ℕ} {x : Expr} (t : Target k x) → pieces_text t.spelling.pieces ≡ expr_text x
target_text {x = x} t = t.spelling.text_is ∙ sym t.is ∙ sym (bare_text 0 (printed x) (omega arith))

-- What ends in a `;` of its own

-- the pieces of such a statement, without its `;`, spell it before each token that stops it
pub record Bared (Is : ℕ → List Token → Option Token → Type 0) (d : ℕ) (x : Stmt) : Type 0 where
  pub text : List ℕ
  pub lined : stmt_lined x ≡ short text
  pub pieces : List Piece
  pub first : Lexeme
  pub last : Lexeme
  pub run : Run first last pieces
  pub text_is : pieces_text pieces ≡ text
  pub spelled : (e : ℕ) (at : Span) (next : Option Token) → d ≤ e → Stops next → Is e (placed at pieces) next

pub bared_as : {Is Js : ℕ → List Token → Option Token → Type 0} {d : ℕ} {x : Stmt} → ((e : ℕ) (ts : List Token) (next : Option Token) → Is e ts next → Js e ts next) → Bared Is d x → Bared Js d x
bared_as f b = record {
  text = b.text;
  lined = b.lined;
  pieces = b.pieces;
  first = b.first;
  last = b.last;
  run = b.run;
  text_is = b.text_is;
  spelled = λ e at next le stops. f e (placed at b.pieces) next (b.spelled e at next le stops);
}

-- Changes

IsAssignText : Mark → Option AssignOp → Type 0
IsAssignText m None = Unit {0}
IsAssignText m (Some op) = assign_text op ≡ 32 ∷ mark_text m ++ 32 ∷ []

assigns_written : (m : Mark) → IsAssignText m (assign_operator m)
unfolding mark_text IsAssignText
assigns_written Equal = refl
assigns_written PlusEqual = refl
assigns_written MinusEqual = refl
assigns_written StarEqual = refl
assigns_written SlashEqual = refl
assigns_written _ = tt

-- the mark of an assignment
record Assigning (op : AssignOp) : Type 0 where
  sign : Mark
  is : assign_operator sign ≡ Some op
  written : assign_text op ≡ 32 ∷ mark_text sign ++ 32 ∷ []

assigning : (l : Lexeme) (op : AssignOp) → ◌≡◌ {A = Option AssignOp} (elim l [ mark m ↦ assign_operator m | _ ↦ None ]) (Some op) → Assigning op
unfolding IsAssignText
assigning (mark m) op h = record { sign = m; is = h; written = subst (IsAssignText m) h (assigns_written m) }
assigning (plain n) op h = absurd cc
assigning (word n) op h = absurd cc
assigning (integer n) op h = absurd cc
assigning (decimal n p) op h = absurd cc
assigning (text n) op h = absurd cc

-- the mark of a step
record Stepping (up : Bool) : Type 0 where
  sign : Mark
  is : step_operator sign ≡ Some up
  written : (if up then codes "++" else codes "--") ≡ mark_text sign

stepping : (up : Bool) → Stepping up
unfolding mark_text
stepping true = record { sign = DoublePlus; is = refl; written = refl }
stepping false = record { sign = DoubleMinus; is = refl; written = refl }

-- what a change is
abbrev pub IsChangeTo : Stmt → ℕ → List Token → Option Token → Type 0
IsChangeTo x e ts next = IsChange 200 e ts next x

assign_prints : (d k : ℕ) (y : Expr) (op : AssignOp) (z : Expr) → Target k y → k ≤ 200 → Assigning op → Whole d z → Bared (IsChangeTo (Assign y op z)) d (Assign y op z)
assign_prints d k y op z t few o w =
    let p = t.spelling in
    record {
      text = expr_text y ++ (assign_text op ++ expr_text z);
      lined = stmt-Assign y op z;
      pieces = p.pieces ++ space ∷ token (mark o.sign) ∷ space ∷ w.pieces;
      first = p.first;
      last = w.last;
      run = spaced_by p.run (spaced_by (run_of (mark o.sign) tt) w.run);
      text_is = infix_pieces_text o.sign p.pieces w.pieces (assign_text op) (expr_text y) (expr_text z) o.written (target_text t) w.text_is;
      spelled = λ e at next le stops.
          let there : Span = past (past_all at p.pieces) space in
          let on : Span = past (past there (token (mark o.sign))) space in
          assign k (placed at p.pieces) (record { lexeme = mark o.sign; span = there }) (placed on w.pieces) y op z (placed_append at p.pieces (space ∷ token (mark o.sign) ∷ space ∷ w.pieces)) refl (p.spelled e at (omega arith)) few o.is (w.spelled e on le next stops.goes);
    }

step_line : {a b : Lexeme} {ps : List Piece} (at : Span) (l : Lexeme) → Run a b ps → same_line (last_of (placed at ps)) (Some (record { lexeme = l; span = past_all at ps })) ≡ true
step_line {b = b} {ps = ps} at l r =
    let last = last_placed at r in
    ap (λ t. same_line t (Some (record { lexeme = l; span = past_all at ps }))) last.is ∙ eq-eqb last.place.line (past_all at ps).line (sym last.lined)

step_text : (m : Mark) (ps : List Piece) (t s : List ℕ) → s ≡ mark_text m → pieces_text ps ≡ t → pieces_text (ps ++ token (mark m) ∷ []) ≡ t ++ s
step_text m ps t s w h = text_append ps (token (mark m) ∷ []) ∙ rw (w, h) (ap (λ u. t ++ u) (append-nil (mark_text m)))

step_prints : (d k : ℕ) (y : Expr) (up : Bool) → Target k y → k ≤ 200 → Stepping up → Bared (IsChangeTo (Step y up)) d (Step y up)
step_prints d k y up t few o =
    let p = t.spelling in
    record {
      text = expr_text y ++ (if up then codes "++" else codes "--");
      lined = stmt-Step y up;
      pieces = p.pieces ++ token (mark o.sign) ∷ [];
      first = p.first;
      last = mark o.sign;
      run = touching p.run (run_of (mark o.sign) tt) (no_mark_touches p.last o.sign t.no_mark);
      text_is = step_text o.sign p.pieces (expr_text y) (if up then codes "++" else codes "--") o.written (target_text t);
      spelled = λ e at next le stops. step k (placed at p.pieces) (record { lexeme = mark o.sign; span = past_all at p.pieces }) y up (placed_append at p.pieces (token (mark o.sign) ∷ [])) refl (p.spelled e at (omega arith)) few o.is (step_line at (mark o.sign) p.run);
    }

pub change_prints : {d : ℕ} {ts : List Token} {next : Option Token} {x : Stmt} → IsChange 200 d ts next x → AreLawfulTokens ts → Bared (IsChangeTo x) d x
change_prints {d = d} (assign k us o vs y op z ts_is x_is p few is q) law =
    let laws : AreLawfulTokens (us ++ o ∷ vs) = lawful_as ts_is law in
    rw x_is (assign_prints d k y op z (target_prints p (lawful_left us (o ∷ vs) laws)) few (assigning o.lexeme op is) (whole_prints q (lawful_right us (o ∷ vs) laws).1))
change_prints {d = d} (step k us o y up ts_is x_is p few is line) law =
    rw x_is (step_prints d k y up (target_prints p (lawful_left us (o ∷ []) (lawful_as ts_is law))) few (stepping up))
