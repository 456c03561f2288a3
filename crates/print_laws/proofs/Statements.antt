-- The canonical text of a statement spells it, with no more levels, before each token that is an `else` where the
-- one behind it was.
use Rattle.std.proofs.Common.{◌≡◌, ℕ, zero, suc, pred, ◌≤◌, true, false, List, [], ◌∷◌, ◌++◌, map, codes, Option, Some, None, refl, sym, ap, subst, ◌∙◌, arith, append_assoc, append-nil}
use Rattle.std.specs.Prelude.{option_map}
use Rattle.piece_laws.specs.Pieces.{Piece, token, space, pieces_text, past, past_all, placed, AreLawfulTokens}
use Rattle.print_laws.proofs.Binding.{no_level, one_less}
use Rattle.print_laws.proofs.Blocks.{lines_text, Ended, Tail, empty_tail, more_tail, braced_text}
use Rattle.print_laws.proofs.Claims.{StmtSpelling}
use Rattle.print_laws.proofs.Heads.{Headed, condition_prints, bare_text, parts_text, parts_print}
use Rattle.print_laws.proofs.Openings.{stmts_no_else}
use Rattle.print_laws.proofs.Runs.{Run, text_append, placed_append, run_of, spaced_by}
use Rattle.print_laws.proofs.Shorts.{short_prints, short_spelling, empty_spelling}
use Rattle.print_laws.proofs.Signs.{lawful_as, lawful_left, lawful_right}
use Rattle.qml_ast.specs.declared.expr.Expr.{Expr}
use Rattle.qml_ast.specs.declared.span.Span.{Span}
use Rattle.qml_ast.specs.declared.stmt.Stmt.{Stmt}
use Rattle.qml_ast.specs.declared.stmt.Stmt.TheVariants.{Block, If, While, For}
use Rattle.qml_grammar.specs.Canonical.{Lined, stmt_lined, stmt_text, braced, for_head, maybe_text}
use Rattle.qml_grammar.specs.CanonicalExpressions.{expr_text}
use Rattle.qml_grammar.specs.ExpressionGrammar.{IsMark}
use Rattle.qml_grammar.specs.Lexemes.{Lexeme, word, mark, Token, is_word}
use Rattle.qml_grammar.specs.Marks.{mark_number, same_mark}
use Rattle.qml_grammar.specs.StatementGrammar.{follow, IsCondition, AreParts, IsStmt, short, block, empty, when, when_else, loop, count, IsBlock, braces, AreStmts, none, more}
use Rattle.qml_grammar.specs.Words.{word_text, word_number, same_word}
use Rattle.qml_grammar.specs.declared.mark.Mark.TheVariants.{OpenBrace, CloseBrace}
use Rattle.qml_grammar.specs.declared.word.Word.TheVariants as ww
use Rattle.qml_grammar.proofs.LinedForms.{lined-Block, lined-If, lined-While, lined-For}

-- Blocks

abbrev pub AreStmtsOf : List Stmt → ℕ → List Token → Option Token → Type 0
AreStmtsOf xs e ts next = AreStmts 200 e ts next xs

-- the lines of statements
abbrev pub StmtsTail : ℕ → ℕ → List Stmt → Type 0
StmtsTail d levels xs = Tail (lines_text levels (map stmt_text xs)) (AreStmtsOf xs) d

-- the statements with so many levels have canonical texts
abbrev pub StmtsPrint : ℕ → Type 0
StmtsPrint d = (ts : List Token) (next : Option Token) (x : Stmt) (levels : ℕ) → IsStmt 200 d ts next x → AreLawfulTokens ts → StmtSpelling d levels next x

more_stmts : (d levels : ℕ) (next : Option Token) (y : Stmt) (ys : List Stmt) → is_word ww.Else next ≡ false → StmtSpelling d (suc levels) next y → StmtsTail d levels ys → StmtsTail d levels (y ∷ ys)
more_stmts d levels next y ys no_else s t =
    more_tail d levels (stmt_text y) (map stmt_text ys) (AreStmtsOf ys) (AreStmtsOf (y ∷ ys)) s.run s.text_is t (λ e at us z place le close_is starts below are.
    more (placed at s.pieces) us y ys refl refl (s.spelled e at (follow us (Some z)) le (stmts_no_else z close_is are ∙ sym no_else)) are)

pub stmts_tail : {d : ℕ} {ts : List Token} {next : Option Token} {xs : List Stmt} (z : Token) (levels : ℕ) → StmtsPrint d → AreStmts 200 d ts next xs → next ≡ Some z → IsMark z CloseBrace → AreLawfulTokens ts → StmtsTail d levels xs
stmts_tail {d = d} z levels prints (none ts_is xs_is) next_is close_is law = rw xs_is (empty_tail d levels (AreStmtsOf []) (λ e after. none refl refl))
stmts_tail {d = d} {next = next} z levels prints (more us vs y ys ts_is xs_is p q) next_is close_is law =
    let laws : AreLawfulTokens (us ++ vs) = lawful_as ts_is law in
    let no_else : is_word ww.Else (follow vs next) ≡ false = ap (λ n. is_word ww.Else (follow vs n)) next_is ∙ stmts_no_else z close_is q in
    rw xs_is (more_stmts d levels (follow vs next) y ys no_else (prints us (follow vs next) y (suc levels) p (lawful_left us vs laws)) (stmts_tail z levels prints q next_is close_is (lawful_right us vs laws)))

-- a block's pieces
pub record BlockSpelling (d levels : ℕ) (xs : List Stmt) : Type 0 where
  pub pieces : List Piece
  pub run : Run (mark OpenBrace) (mark CloseBrace) pieces
  pub text_is : pieces_text pieces ≡ braced (map stmt_text xs) levels
  pub spelled : (e : ℕ) (at : Span) → d ≤ e → IsBlock 200 e (placed at pieces) xs

block_spelled : (c e : ℕ) (at : Span) (ps : List Piece) (first : Lexeme) (xs : List Stmt) → suc c ≤ e → Ended (AreStmtsOf xs (pred e)) first (past at (token (mark OpenBrace))) (placed (past at (token (mark OpenBrace))) ps) → IsBlock 200 e (placed at (token (mark OpenBrace) ∷ ps)) xs
unfolding same_mark mark_number
block_spelled c e at ps first xs le n =
    let o : Token = record { lexeme = mark OpenBrace; span = at } in
    braces (pred e) o n.inside n.close (omega arith) (ap (λ ts. o ∷ ts) n.text) refl n.is n.closes

pub block_of : (c d levels : ℕ) (xs : List Stmt) → d ≡ suc c → StmtsTail c levels xs → BlockSpelling d levels xs
block_of c d levels xs d_is t = record {
  pieces = token (mark OpenBrace) ∷ t.pieces;
  run = t.joins (mark OpenBrace) (mark OpenBrace) (token (mark OpenBrace) ∷ []) (run_of (mark OpenBrace) tt);
  text_is = braced_text levels (map stmt_text xs) t.pieces t.text_is;
  spelled = λ e at le. block_spelled c e at t.pieces t.first xs (omega arith) (t.spelled (pred e) (past at (token (mark OpenBrace))) (omega arith));
}

pub block_prints : {d : ℕ} {ts : List Token} {xs : List Stmt} (levels : ℕ) → ((c : ℕ) → d ≡ suc c → StmtsPrint c) → IsBlock 200 d ts xs → AreLawfulTokens ts → BlockSpelling d levels xs
block_prints {d = d} {xs = xs} levels deeper (braces c o us z d_is ts_is open_is p close_is) law =
    block_of c d levels xs d_is (stmts_tail z levels (deeper c d_is) p refl close_is (lawful_left us (z ∷ []) (lawful_as ts_is law).1))

lined_again : (xs : List Stmt) → map (λ (s : Lined). s.lined) (map stmt_lined xs) ≡ map stmt_text xs
lined_again [] = refl
lined_again (x ∷ xs) = ap (λ fs. stmt_text x ∷ fs) (lined_again xs)

block_text : (xs : List Stmt) (levels : ℕ) → braced (map stmt_text xs) levels ≡ stmt_text (Block xs) levels
block_text xs levels = ap (λ fs. braced fs levels) (sym (lined_again xs)) ∙ sym (lined-Block xs levels)

block_spelling : (d levels : ℕ) (next : Option Token) (xs : List Stmt) → BlockSpelling d levels xs → StmtSpelling d levels next (Block xs)
block_spelling d levels next xs b = record {
  pieces = b.pieces;
  first = mark OpenBrace;
  last = mark CloseBrace;
  run = b.run;
  text_is = b.text_is ∙ block_text xs levels;
  spelled = λ e at after le same. block xs refl (b.spelled e at le);
}

-- `if` and `while`

abbrev pub Condition : ℕ → Expr → Type 0
Condition d x = Headed (codes "(" ++ (expr_text x ++ codes ")")) (λ e us. IsCondition 200 e us x) d

headed_text : (w s : List ℕ) (ps qs : List Piece) (x : List ℕ) → pieces_text ps ≡ 40 ∷ (x ++ 41 ∷ []) → pieces_text qs ≡ s → w ++ 32 ∷ pieces_text (ps ++ space ∷ qs) ≡ w ++ 32 ∷ 40 ∷ (x ++ 41 ∷ 32 ∷ s)
headed_text w s ps qs x k l = ap (λ u. w ++ 32 ∷ u) (text_append ps (space ∷ qs) ∙ rw (k, l) (append_assoc (40 ∷ x) (41 ∷ []) (32 ∷ s)))

when_text : (x : Expr) (z : Stmt) (levels : ℕ) (ps qs : List Piece) → pieces_text ps ≡ codes "(" ++ (expr_text x ++ codes ")") → pieces_text qs ≡ stmt_text z levels → pieces_text (token (word ww.If) ∷ space ∷ (ps ++ space ∷ qs)) ≡ stmt_text (If x z None) levels
unfolding word_text
when_text x z levels ps qs h k =
    headed_text (codes "if") (stmt_text z levels) ps qs (expr_text x) h k ∙ (ap (λ s. codes "if (" ++ (expr_text x ++ (codes ") " ++ s))) (sym (append-nil (stmt_text z levels))) ∙ sym (lined-If x z None levels))

when_spelling : (c d levels : ℕ) (next : Option Token) (x : Expr) (z : Stmt) → d ≡ suc c → is_word ww.Else next ≡ false → Condition d x → StmtSpelling c levels next z → StmtSpelling d levels next (If x z None)
unfolding same_word word_number
when_spelling c d levels next x z d_is alone h s = record {
  pieces = token (word ww.If) ∷ space ∷ (h.pieces ++ space ∷ s.pieces);
  first = word ww.If;
  last = s.last;
  run = spaced_by (run_of (word ww.If) tt) (spaced_by h.run s.run);
  text_is = when_text x z levels h.pieces s.pieces h.text_is s.text_is;
  spelled = λ e at after le same.
      let t : Token = record { lexeme = word ww.If; span = at } in
      let there : Span = past (past at (token (word ww.If))) space in
      let on : Span = past (past_all there h.pieces) space in
      when (pred e) t (placed there h.pieces) (placed on s.pieces) x z (omega arith) (ap (λ ts. t ∷ ts) (placed_append there h.pieces (space ∷ s.pieces))) refl refl (h.spelled e there le) (s.spelled (pred e) on after (omega arith) same) (same ∙ alone);
}

else_text : (s u : List ℕ) (ps qs : List Piece) → pieces_text ps ≡ s → pieces_text qs ≡ u → pieces_text (ps ++ space ∷ token (word ww.Else) ∷ space ∷ qs) ≡ s ++ (codes " else " ++ u)
unfolding word_text
else_text s u ps qs h k = text_append ps (space ∷ token (word ww.Else) ∷ space ∷ qs) ∙ rw (h, k) refl

when_else_text : (x : Expr) (z w : Stmt) (levels : ℕ) (ps qs rs : List Piece) → pieces_text ps ≡ codes "(" ++ (expr_text x ++ codes ")") → pieces_text qs ≡ stmt_text z levels → pieces_text rs ≡ stmt_text w levels →
    pieces_text (token (word ww.If) ∷ space ∷ (ps ++ space ∷ (qs ++ space ∷ token (word ww.Else) ∷ space ∷ rs))) ≡ stmt_text (If x z (Some w)) levels
unfolding word_text
when_else_text x z w levels ps qs rs h k l =
    headed_text (codes "if") (stmt_text z levels ++ (codes " else " ++ stmt_text w levels)) ps (qs ++ space ∷ token (word ww.Else) ∷ space ∷ rs) (expr_text x) h (else_text (stmt_text z levels) (stmt_text w levels) qs rs k l) ∙ sym (lined-If x z (Some w) levels)

when_else_placed : (t : Token) (there on behind : Span) (ps qs rs : List Piece) → on ≡ past (past_all there ps) space → behind ≡ past (past (past (past_all on qs) space) (token (word ww.Else))) space →
    t ∷ placed there (ps ++ space ∷ (qs ++ space ∷ token (word ww.Else) ∷ space ∷ rs)) ≡ t ∷ placed there ps ++ placed on qs ++ record { lexeme = word ww.Else; span = past (past_all on qs) space } ∷ placed behind rs
when_else_placed t there on behind ps qs rs h k =
    let other : Token = record { lexeme = word ww.Else; span = past (past_all on qs) space } in
    let first : placed there (ps ++ space ∷ (qs ++ space ∷ token (word ww.Else) ∷ space ∷ rs)) ≡ placed there ps ++ placed on (qs ++ space ∷ token (word ww.Else) ∷ space ∷ rs) = placed_append there ps (space ∷ (qs ++ space ∷ token (word ww.Else) ∷ space ∷ rs)) ∙ ap (λ s. placed there ps ++ placed s (qs ++ space ∷ token (word ww.Else) ∷ space ∷ rs)) (sym h) in
    let second : placed on (qs ++ space ∷ token (word ww.Else) ∷ space ∷ rs) ≡ placed on qs ++ other ∷ placed behind rs = placed_append on qs (space ∷ token (word ww.Else) ∷ space ∷ rs) ∙ ap (λ s. placed on qs ++ other ∷ placed s rs) (sym k) in
    ap (λ ts. t ∷ ts) (first ∙ (ap (λ ts. placed there ps ++ ts) second ∙ sym (append_assoc (placed there ps) (placed on qs) (other ∷ placed behind rs))))

when_else_spelling : (c d levels : ℕ) (next : Option Token) (o : Token) (x : Expr) (z w : Stmt) → d ≡ suc c → is_word ww.Else (Some o) ≡ true → Condition d x → StmtSpelling c levels (Some o) z → StmtSpelling c levels next w → StmtSpelling d levels next (If x z (Some w))
unfolding same_word word_number
when_else_spelling c d levels next o x z w d_is else_is h s r = record {
  pieces = token (word ww.If) ∷ space ∷ (h.pieces ++ space ∷ (s.pieces ++ space ∷ token (word ww.Else) ∷ space ∷ r.pieces));
  first = word ww.If;
  last = r.last;
  run = spaced_by (run_of (word ww.If) tt) (spaced_by h.run (spaced_by s.run (spaced_by (run_of (word ww.Else) tt) r.run)));
  text_is = when_else_text x z w levels h.pieces s.pieces r.pieces h.text_is s.text_is r.text_is;
  spelled = λ e at after le same.
      let t : Token = record { lexeme = word ww.If; span = at } in
      let there : Span = past (past at (token (word ww.If))) space in
      let on : Span = past (past_all there h.pieces) space in
      let other : Token = record { lexeme = word ww.Else; span = past (past_all on s.pieces) space } in
      let behind : Span = past (past other.span (token (word ww.Else))) space in
      when_else (pred e) t (placed there h.pieces) (placed on s.pieces) other (placed behind r.pieces) x z w (omega arith) (when_else_placed t there on behind h.pieces s.pieces r.pieces refl refl) refl refl (h.spelled e there le) (s.spelled (pred e) on (Some other) (omega arith) (sym else_is)) refl (r.spelled (pred e) behind after (omega arith) same);
}

loop_text : (x : Expr) (z : Stmt) (levels : ℕ) (ps qs : List Piece) → pieces_text ps ≡ codes "(" ++ (expr_text x ++ codes ")") → pieces_text qs ≡ stmt_text z levels → pieces_text (token (word ww.While) ∷ space ∷ (ps ++ space ∷ qs)) ≡ stmt_text (While x z) levels
unfolding word_text
loop_text x z levels ps qs h k = headed_text (codes "while") (stmt_text z levels) ps qs (expr_text x) h k ∙ sym (lined-While x z levels)

loop_spelling : (c d levels : ℕ) (next : Option Token) (x : Expr) (z : Stmt) → d ≡ suc c → Condition d x → StmtSpelling c levels next z → StmtSpelling d levels next (While x z)
unfolding same_word word_number
loop_spelling c d levels next x z d_is h s = record {
  pieces = token (word ww.While) ∷ space ∷ (h.pieces ++ space ∷ s.pieces);
  first = word ww.While;
  last = s.last;
  run = spaced_by (run_of (word ww.While) tt) (spaced_by h.run s.run);
  text_is = loop_text x z levels h.pieces s.pieces h.text_is s.text_is;
  spelled = λ e at after le same.
      let t : Token = record { lexeme = word ww.While; span = at } in
      let there : Span = past (past at (token (word ww.While))) space in
      let on : Span = past (past_all there h.pieces) space in
      loop (pred e) t (placed there h.pieces) (placed on s.pieces) x z (omega arith) (ap (λ ts. t ∷ ts) (placed_append there h.pieces (space ∷ s.pieces))) refl refl (h.spelled e there le) (s.spelled (pred e) on after (omega arith) same);
}

-- `for`

abbrev pub Parts : ℕ → Option Stmt → Option Expr → Option Stmt → Type 0
Parts d a x b = Headed (parts_text a x b) (λ e us. AreParts 200 e us a x b) d

parts_again : (t s u v : List ℕ) → (40 ∷ (t ++ 59 ∷ (s ++ 59 ∷ (u ++ 41 ∷ [])))) ++ 32 ∷ v ≡ (40 ∷ (t ++ 59 ∷ (s ++ 59 ∷ (u ++ 41 ∷ 32 ∷ [])))) ++ v
parts_again t s u v = simp append_assoc

bare_again : (before : List ℕ) (a : Option Stmt) → maybe_text before bare_text a ≡ maybe_text before (λ (s : Lined). s.bare) (option_map stmt_lined a)
bare_again before None = refl
bare_again before (Some y) = refl

count_text : (a : Option Stmt) (x : Option Expr) (b : Option Stmt) (y : Stmt) (levels : ℕ) (ps qs : List Piece) → pieces_text ps ≡ parts_text a x b → pieces_text qs ≡ stmt_text y levels → pieces_text (token (word ww.For) ∷ space ∷ (ps ++ space ∷ qs)) ≡ stmt_text (For a x b y) levels
unfolding word_text
count_text a x b y levels ps qs h k =
    let first : List ℕ = maybe_text [] bare_text a in
    let test : List ℕ = maybe_text (codes " ") expr_text x in
    let last : List ℕ = maybe_text (codes " ") bare_text b in
    let joined : pieces_text (ps ++ space ∷ qs) ≡ parts_text a x b ++ 32 ∷ stmt_text y levels = text_append ps (space ∷ qs) ∙ rw (h, k) refl in
    let head : codes "for " ++ (parts_text a x b ++ 32 ∷ stmt_text y levels) ≡ codes "for (" ++ (first ++ (codes ";" ++ (test ++ (codes ";" ++ (last ++ codes ") "))))) ++ stmt_text y levels = ap (λ s. codes "for " ++ s) (parts_again first test last (stmt_text y levels)) in
    let as_lined : codes "for (" ++ (first ++ (codes ";" ++ (test ++ (codes ";" ++ (last ++ codes ") "))))) ++ stmt_text y levels ≡ for_head (option_map stmt_lined a) x (option_map stmt_lined b) ++ stmt_text y levels = rw (bare_again [] a, bare_again (codes " ") b) refl in
    ap (λ s. codes "for " ++ s) joined ∙ (head ∙ (as_lined ∙ sym (lined-For a x b y levels)))

count_spelling : (c d levels : ℕ) (next : Option Token) (a : Option Stmt) (x : Option Expr) (b : Option Stmt) (y : Stmt) → d ≡ suc c → Parts d a x b → StmtSpelling c levels next y → StmtSpelling d levels next (For a x b y)
unfolding same_word word_number
count_spelling c d levels next a x b y d_is h s = record {
  pieces = token (word ww.For) ∷ space ∷ (h.pieces ++ space ∷ s.pieces);
  first = word ww.For;
  last = s.last;
  run = spaced_by (run_of (word ww.For) tt) (spaced_by h.run s.run);
  text_is = count_text a x b y levels h.pieces s.pieces h.text_is s.text_is;
  spelled = λ e at after le same.
      let t : Token = record { lexeme = word ww.For; span = at } in
      let there : Span = past (past at (token (word ww.For))) space in
      let on : Span = past (past_all there h.pieces) space in
      count (pred e) t (placed there h.pieces) (placed on s.pieces) a x b y (omega arith) (ap (λ ts. t ∷ ts) (placed_append there h.pieces (space ∷ s.pieces))) refl refl (h.spelled e there le) (s.spelled (pred e) on after (omega arith) same);
}

-- All statements

stmt_prints : (d : ℕ) → ((c : ℕ) → d ≡ suc c → StmtsPrint c) → StmtsPrint d
stmt_prints d deeper ts next x levels (short us es ts_is p end) law = short_spelling d levels next x (short_prints p (lawful_left us es (lawful_as ts_is law)))
stmt_prints d deeper ts next x levels (block xs x_is p) law = rw x_is (block_spelling d levels next xs (block_prints levels deeper p law))
stmt_prints d deeper ts next x levels (empty t ts_is x_is is) law = rw x_is (empty_spelling d levels next)
stmt_prints d deeper ts next x levels (when c t us vs y z d_is ts_is x_is is test p alone) law =
    let laws : AreLawfulTokens (us ++ vs) = (lawful_as ts_is law).1 in
    rw x_is (when_spelling c d levels next y z d_is alone (condition_prints test (lawful_left us vs laws)) (deeper c d_is vs next z levels p (lawful_right us vs laws)))
stmt_prints d deeper ts next x levels (when_else c t us vs o ws y z w d_is ts_is x_is is test p else_is q) law =
    let laws : AreLawfulTokens (us ++ vs ++ o ∷ ws) = (lawful_as ts_is law).1 in
    let front : AreLawfulTokens (us ++ vs) = lawful_left (us ++ vs) (o ∷ ws) laws in
    rw x_is (when_else_spelling c d levels next o y z w d_is else_is (condition_prints test (lawful_left us vs front)) (deeper c d_is vs (Some o) z levels p (lawful_right us vs front)) (deeper c d_is ws next w levels q (lawful_right (us ++ vs) (o ∷ ws) laws).1))
stmt_prints d deeper ts next x levels (loop c t us vs y z d_is ts_is x_is is test p) law =
    let laws : AreLawfulTokens (us ++ vs) = (lawful_as ts_is law).1 in
    rw x_is (loop_spelling c d levels next y z d_is (condition_prints test (lawful_left us vs laws)) (deeper c d_is vs next z levels p (lawful_right us vs laws)))
stmt_prints d deeper ts next x levels (count c t us vs a y b z d_is ts_is x_is is p q) law =
    let laws : AreLawfulTokens (us ++ vs) = (lawful_as ts_is law).1 in
    rw x_is (count_spelling c d levels next a y b z d_is (parts_print p (lawful_left us vs laws)) (deeper c d_is vs next z levels q (lawful_right us vs laws)))

-- the canonical text of a statement that tokens of a text spell spells it, with no more levels
pub stmts_print : (d : ℕ) → StmtsPrint d
stmts_print zero = stmt_prints zero (λ c e. absurd (no_level c e))
stmts_print (suc d) = stmt_prints (suc d) (λ c e. subst StmtsPrint (one_less c d e) (stmts_print d))
