-- The canonical texts of statements that end in a `;` of their own, and of what stands in the head of a `for`.
use Rattle.std.proofs.Common.{◌≡◌, ℕ, true, List, [], ◌∷◌, ◌++◌, codes, Option, Some, None, refl, sym, ap, subst, ◌∙◌, append_assoc}
use Rattle.std.proofs.lemmas.Bool.{eq-eqb}
use Rattle.piece_laws.specs.Pieces.{Piece, token, space, pieces_text, lexeme_text, past, past_all, placed, AreLawfulTokens, IsLawfulLexeme}
use Rattle.print_laws.proofs.Changes.{semicolon_stops, Whole, whole_prints, Bared, bared_as, change_prints}
use Rattle.print_laws.proofs.Claims.{StmtSpelling}
use Rattle.print_laws.proofs.Runs.{Run, text_append, placed_append, run_of, touching, spaced_by, head_placed}
use Rattle.print_laws.proofs.Signs.{lawful_as, name_is_text, touches_mark}
use Rattle.qml_ast.specs.declared.expr.Expr.{Expr}
use Rattle.qml_ast.specs.declared.span.Span.{Span}
use Rattle.qml_ast.specs.declared.stmt.LocalWord.{LocalWord}
use Rattle.qml_ast.specs.declared.stmt.LocalWord.TheVariants.{Var as AsVar}
use Rattle.qml_ast.specs.declared.stmt.Stmt.{Stmt}
use Rattle.qml_ast.specs.declared.stmt.Stmt.TheVariants.{Local, Do, Empty, Return}
use Rattle.qml_grammar.specs.Canonical.{stmt_lined, stmt_text, short as in_short, local_word_text}
use Rattle.qml_grammar.specs.CanonicalExpressions.{expr_text}
use Rattle.qml_grammar.specs.Lexemes.{Lexeme, plain, word, integer, decimal, text, mark, Token, head, same_line, name_of_lexeme, local_word_of_word, local_word_of, last_of}
use Rattle.qml_grammar.specs.Marks.{mark_text, mark_number, same_mark}
use Rattle.qml_grammar.specs.StatementGrammar.{semicolon, IsShort, local, local_set, change, act, leave, leave_with, IsSimple, local as simple_local, change as simple_change, short, empty}
use Rattle.qml_grammar.specs.Words.{word_text, word_number, same_word}
use Rattle.qml_grammar.specs.declared.mark.Mark.TheVariants.{Semicolon, Equal}
use Rattle.qml_grammar.specs.declared.word.Word.{Word}
use Rattle.qml_grammar.specs.declared.word.Word.TheVariants as ww
use Rattle.qml_grammar.proofs.LinedForms.{stmt-Local, stmt-Do, stmt-Empty, stmt-Return}

abbrev pub IsShortOf : Stmt → ℕ → List Token → Option Token → Type 0
IsShortOf x e ts next = IsShort 200 e ts next x

-- Locals

IsLocalText : Word → Option LocalWord → Type 0
IsLocalText v None = Unit {0}
IsLocalText v (Some w) = local_word_text w ≡ word_text v ++ 32 ∷ []

locals_written : (v : Word) → IsLocalText v (local_word_of_word v)
unfolding word_text IsLocalText
locals_written ww.Var = refl
locals_written ww.Let = refl
locals_written ww.Const = refl
locals_written _ = tt

local_written : (l : Lexeme) (w : LocalWord) → ◌≡◌ {A = Option LocalWord} (elim l [ word v ↦ local_word_of_word v | _ ↦ None ]) (Some w) → local_word_text w ≡ lexeme_text l ++ 32 ∷ []
unfolding IsLocalText
local_written (word v) w h = subst (IsLocalText v) h (locals_written v)
local_written (plain n) w h = absurd cc
local_written (integer n) w h = absurd cc
local_written (decimal n p) w h = absurd cc
local_written (text n) w h = absurd cc
local_written (mark m) w h = absurd cc

local_text : (l m : Lexeme) (t n : List ℕ) → t ≡ lexeme_text l ++ 32 ∷ [] → lexeme_text m ≡ n → pieces_text (token l ∷ space ∷ token m ∷ []) ≡ t ++ (n ++ [])
local_text l m t n h k = rw (h, k) (sym (append_assoc (lexeme_text l) (32 ∷ []) (n ++ [])))

local_prints : (d : ℕ) (l m : Lexeme) (w : LocalWord) (n : List ℕ) → IsLawfulLexeme l → IsLawfulLexeme m → ((at : Span) → local_word_of (Some (record { lexeme = l; span = at })) ≡ Some w) → name_of_lexeme m ≡ Some n → Bared (IsShortOf (Local w n None)) d (Local w n None)
local_prints d l m w n law_l law_m is name_is = record {
  text = local_word_text w ++ (n ++ []);
  lined = stmt-Local w n None;
  pieces = token l ∷ space ∷ token m ∷ [];
  first = l;
  last = m;
  run = spaced_by (run_of l law_l) (run_of m law_m);
  text_is = local_text l m (local_word_text w) n (local_written l w (is (record { line = 0; col = 0 }))) (name_is_text m n name_is);
  spelled = λ e at next le stops. local (record { lexeme = l; span = at }) (record { lexeme = m; span = past (past at (token l)) space }) w n refl refl (is at) name_is stops.unset;
}

local_set_text : (l m : Lexeme) (ps : List Piece) (t n s : List ℕ) → t ≡ lexeme_text l ++ 32 ∷ [] → lexeme_text m ≡ n → pieces_text ps ≡ s → pieces_text (token l ∷ space ∷ token m ∷ space ∷ token (mark Equal) ∷ space ∷ ps) ≡ t ++ (n ++ (codes " = " ++ s))
unfolding mark_text
local_set_text l m ps t n s h k j = rw (h, k, j) (sym (append_assoc (lexeme_text l) (32 ∷ []) (n ++ 32 ∷ 61 ∷ 32 ∷ s)))

local_set_run : {a b : Lexeme} {ps : List Piece} (l m : Lexeme) → IsLawfulLexeme l → IsLawfulLexeme m → Run a b ps → Run l b (token l ∷ space ∷ token m ∷ space ∷ token (mark Equal) ∷ space ∷ ps)
local_set_run l m law_l law_m r = spaced_by (run_of l law_l) (spaced_by (run_of m law_m) (spaced_by (run_of (mark Equal) tt) r))

local_set_prints : (d : ℕ) (l m : Lexeme) (w : LocalWord) (n : List ℕ) (y : Expr) → IsLawfulLexeme l → IsLawfulLexeme m → ((at : Span) → local_word_of (Some (record { lexeme = l; span = at })) ≡ Some w) →
    name_of_lexeme m ≡ Some n → Whole d y → Bared (IsShortOf (Local w n (Some y))) d (Local w n (Some y))
unfolding same_mark mark_number
local_set_prints d l m w n y law_l law_m is name_is p = record {
  text = local_word_text w ++ (n ++ (codes " = " ++ expr_text y));
  lined = stmt-Local w n (Some y);
  pieces = token l ∷ space ∷ token m ∷ space ∷ token (mark Equal) ∷ space ∷ p.pieces;
  first = l;
  last = p.last;
  run = local_set_run l m law_l law_m p.run;
  text_is = local_set_text l m p.pieces (local_word_text w) n (expr_text y) (local_written l w (is (record { line = 0; col = 0 }))) (name_is_text m n name_is) p.text_is;
  spelled = λ e at next le stops.
      let second : Span = past (past at (token l)) space in
      let third : Span = past (past second (token m)) space in
      let behind : Span = past (past third (token (mark Equal))) space in
      local_set (record { lexeme = l; span = at }) (record { lexeme = m; span = second }) (record { lexeme = mark Equal; span = third }) (placed behind p.pieces) w n y refl refl (is at) name_is refl (p.spelled e behind le next stops.goes);
}

-- Expressions and `return`

act_prints : (d : ℕ) (y : Expr) → Whole d y → Bared (IsShortOf (Do y)) d (Do y)
act_prints d y p = record {
  text = expr_text y;
  lined = stmt-Do y;
  pieces = p.pieces;
  first = p.first;
  last = p.last;
  run = p.run;
  text_is = p.text_is;
  spelled = λ e at next le stops. act y refl (p.spelled e at le next stops.goes) (λ k target. stops.unchanged (last_of (placed at p.pieces)));
}

leave_prints : (d : ℕ) → Bared (IsShortOf (Return None)) d (Return None)
unfolding word_text same_word word_number
leave_prints d = record {
  text = codes "return" ++ [];
  lined = stmt-Return None;
  pieces = token (word ww.Return) ∷ [];
  first = word ww.Return;
  last = word ww.Return;
  run = run_of (word ww.Return) tt;
  text_is = refl;
  spelled = λ e at next le stops. leave (record { lexeme = word ww.Return; span = at }) refl refl refl;
}

return_line : {a b : Lexeme} {ps : List Piece} (at : Span) → Run a b ps → same_line (Some (record { lexeme = word ww.Return; span = at })) (head (placed (past (past at (token (word ww.Return))) space) ps)) ≡ true
return_line at r =
    ap (same_line (Some (record { lexeme = word ww.Return; span = at }))) (head_placed (past (past at (token (word ww.Return))) space) r) ∙ eq-eqb at.line at.line refl

leave_with_text : (ps : List Piece) (t : List ℕ) → pieces_text ps ≡ t → pieces_text (token (word ww.Return) ∷ space ∷ ps) ≡ codes "return" ++ (codes " " ++ t)
unfolding word_text
leave_with_text ps t h = ap (λ s. codes "return " ++ s) h

leave_with_prints : (d : ℕ) (y : Expr) → Whole d y → Bared (IsShortOf (Return (Some y))) d (Return (Some y))
unfolding same_word word_number
leave_with_prints d y p = record {
  text = codes "return" ++ (codes " " ++ expr_text y);
  lined = stmt-Return (Some y);
  pieces = token (word ww.Return) ∷ space ∷ p.pieces;
  first = word ww.Return;
  last = p.last;
  run = spaced_by (run_of (word ww.Return) tt) p.run;
  text_is = leave_with_text p.pieces (expr_text y) p.text_is;
  spelled = λ e at next le stops. leave_with (record { lexeme = word ww.Return; span = at }) (placed (past (past at (token (word ww.Return))) space) p.pieces) y refl refl refl (return_line at p.run) (p.spelled e (past (past at (token (word ww.Return))) space) le next stops.goes);
}

-- All of them

pub short_prints : {d : ℕ} {ts : List Token} {next : Option Token} {x : Stmt} → IsShort 200 d ts next x → AreLawfulTokens ts → Bared (IsShortOf x) d x
short_prints {d = d} (local t p w n ts_is x_is is name_is unset) law =
    let laws : AreLawfulTokens (t ∷ p ∷ []) = lawful_as ts_is law in
    rw x_is (local_prints d t.lexeme p.lexeme w n laws.0 laws.1.0 (λ at. is) name_is)
short_prints {d = d} (local_set t p o us w n y ts_is x_is is name_is equals q) law =
    let laws : AreLawfulTokens (t ∷ p ∷ o ∷ us) = lawful_as ts_is law in
    rw x_is (local_set_prints d t.lexeme p.lexeme w n y laws.0 laws.1.0 (λ at. is) name_is (whole_prints q laws.1.1.1))
short_prints {x = x} (change p) law = bared_as (λ e ts next q. change q) (change_prints p law)
short_prints {d = d} (act y x_is p unchanged) law = rw x_is (act_prints d y (whole_prints p law))
short_prints {d = d} (leave t ts_is x_is is) law = rw x_is (leave_prints d)
short_prints {d = d} (leave_with t us y ts_is x_is is line p) law = rw x_is (leave_with_prints d y (whole_prints p (lawful_as ts_is law).1))

-- with its `;`
semicolon_text : (x : Stmt) (levels : ℕ) (t : List ℕ) (ps : List Piece) → stmt_lined x ≡ in_short t → pieces_text ps ≡ t → pieces_text (ps ++ token (mark Semicolon) ∷ []) ≡ stmt_text x levels
unfolding mark_text
semicolon_text x levels t ps h k = text_append ps (token (mark Semicolon) ∷ []) ∙ (ap (λ s. s ++ 59 ∷ []) k ∙ ap (λ l. l.lined levels) (sym h))

pub short_spelling : (d levels : ℕ) (next : Option Token) (x : Stmt) → Bared (IsShortOf x) d x → StmtSpelling d levels next x
unfolding same_mark mark_number
short_spelling d levels next x b = record {
  pieces = b.pieces ++ token (mark Semicolon) ∷ [];
  first = b.first;
  last = mark Semicolon;
  run = touching b.run (run_of (mark Semicolon) tt) (touches_mark b.last Semicolon refl);
  text_is = semicolon_text x levels b.text b.pieces b.lined b.text_is;
  spelled = λ e at after le same.
      let end : Token = record { lexeme = mark Semicolon; span = past_all at b.pieces } in
      short (placed at b.pieces) (end ∷ []) (placed_append at b.pieces (token (mark Semicolon) ∷ [])) (b.spelled e at (Some end) le (semicolon_stops end.span)) (semicolon end refl refl);
}

-- the statement that is only a `;`
pub empty_spelling : (d levels : ℕ) (next : Option Token) → StmtSpelling d levels next Empty
unfolding same_mark mark_number mark_text
empty_spelling d levels next = record {
  pieces = token (mark Semicolon) ∷ [];
  first = mark Semicolon;
  last = mark Semicolon;
  run = run_of (mark Semicolon) tt;
  text_is = ap (λ l. l.lined levels) (sym stmt-Empty);
  spelled = λ e at after le same. empty (record { lexeme = mark Semicolon; span = at }) refl refl refl;
}

-- In the head of a `for`

abbrev pub IsSimpleOf : Stmt → ℕ → List Token → Option Token → Type 0
IsSimpleOf x e ts next = IsSimple 200 e ts next x

simple_local_text : (ps : List Piece) (m : Lexeme) (n s : List ℕ) → lexeme_text m ≡ n → pieces_text ps ≡ s → pieces_text (token (word ww.Var) ∷ space ∷ token m ∷ space ∷ token (mark Equal) ∷ space ∷ ps) ≡ codes "var " ++ (n ++ (codes " = " ++ s))
unfolding word_text
simple_local_text ps m n s h k = local_set_text (word ww.Var) m ps (codes "var ") n s refl h k

simple_local_prints : (d : ℕ) (m : Lexeme) (n : List ℕ) (y : Expr) → IsLawfulLexeme m → name_of_lexeme m ≡ Some n → Whole d y → Bared (IsSimpleOf (Local AsVar n (Some y))) d (Local AsVar n (Some y))
unfolding same_mark mark_number same_word word_number
simple_local_prints d m n y law name_is p = record {
  text = codes "var " ++ (n ++ (codes " = " ++ expr_text y));
  lined = stmt-Local AsVar n (Some y);
  pieces = token (word ww.Var) ∷ space ∷ token m ∷ space ∷ token (mark Equal) ∷ space ∷ p.pieces;
  first = word ww.Var;
  last = p.last;
  run = local_set_run (word ww.Var) m tt law p.run;
  text_is = simple_local_text p.pieces m n (expr_text y) (name_is_text m n name_is) p.text_is;
  spelled = λ e at next le stops.
      let second : Span = past (past at (token (word ww.Var))) space in
      let third : Span = past (past second (token m)) space in
      let behind : Span = past (past third (token (mark Equal))) space in
      simple_local (record { lexeme = word ww.Var; span = at }) (record { lexeme = m; span = second }) (record { lexeme = mark Equal; span = third }) (placed behind p.pieces) n y refl refl refl name_is refl (p.spelled e behind le next stops.goes);
}

pub simple_prints : {d : ℕ} {ts : List Token} {next : Option Token} {x : Stmt} → IsSimple 200 d ts next x → AreLawfulTokens ts → Bared (IsSimpleOf x) d x
simple_prints {d = d} (simple_local t p o us n y ts_is x_is is name_is equals q) law =
    let laws : AreLawfulTokens (t ∷ p ∷ o ∷ us) = lawful_as ts_is law in
    rw x_is (simple_local_prints d p.lexeme n y laws.1.0 name_is (whole_prints q laws.1.1.1))
simple_prints (simple_change p) law = bared_as (λ e ts next q. simple_change q) (change_prints p law)
