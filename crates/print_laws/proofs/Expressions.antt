-- The canonical text of an expression spells it, with no more levels and as many nodes, level by level.
use Rattle.std.proofs.Common.{◌≡◌, ℕ, zero, suc, pred, ◌+◌, inl, inr, true, List, [], ◌∷◌, ◌++◌, map, codes, Option, Some, None, refl, sym, ap, subst, ◌∙◌, arith, append_assoc, append-nil}
use Rattle.std.proofs.lemmas.List.{map-append}
use Rattle.piece_laws.specs.Pieces.{Piece, token, space, pieces_text, lexeme_text, past, past_all, placed, may_touch, IsLawfulLexeme, AreLawfulTokens}
use Rattle.print_laws.proofs.Binding.{no_level, one_less}
use Rattle.print_laws.proofs.Claims.{IsBinding, Bound, Listed, Printable}
use Rattle.print_laws.proofs.Runs.{Run, text_append, placed_append, run_of, touching, spaced_by}
use Rattle.print_laws.proofs.Signs.{lawful_left, lawful_right, lawful_as, name_is_text, operand_is_text, operand_no_mark, value_no_mark, literal_is_text, touches_mark, paren_touches, dot_touches, products_written, sums_written, orders_written, equalities_written, operator_of, Operator, Gap, Sign, sign_of, sign_opens}
use Rattle.print_laws.proofs.Spellings.{token_spelling, printable_as, looser, enclosed, bound_of}
use Rattle.qml_ast.specs.declared.expr.BinOp.{BinOp}
use Rattle.qml_ast.specs.declared.expr.Expr.{Expr}
use Rattle.qml_ast.specs.declared.expr.Expr.TheOpen.{Expr-F}
use Rattle.qml_ast.specs.declared.expr.Expr.TheVariants.{Lit, Name, Member, Call, Unary, Binary, And, Or, Cond}
use Rattle.qml_ast.specs.declared.expr.UnOp.{UnOp}
use Rattle.qml_ast.specs.declared.span.Span.{Span}
use Rattle.qml_ast.specs.declared.value.Value.{Value}
use Rattle.qml_grammar.specs.CanonicalExpressions.{join, printed, bound, literal_text, unary_text, unary_space, binary_text, infix_text, expr_step}
use Rattle.qml_grammar.specs.ExpressionGrammar.{IsPrimary, literal, name, parens as in_parens, IsPostfix, primary as a_primary, member as a_member, call_none, call as a_call, AreArguments, one_argument, more_arguments, IsUnary, operated as an_operated, postfix as a_postfix, IsProduct, unary as a_unary, times, IsSum, product, plus, IsOrder, sum, compare, IsEquality, order, equal, IsConjunction, equality, both, IsDisjunction, conjunction, either, IsExpr, disjunction, conditional as a_conditional}
use Rattle.qml_grammar.specs.Lexemes.{Lexeme, mark, Token, name_of_lexeme, operand_name_of_lexeme, value_of_lexeme, unary_operator, product_operator, sum_operator, order_operator, equality_operator}
use Rattle.qml_grammar.specs.Marks.{mark_text, mark_number, same_mark}
use Rattle.qml_grammar.specs.declared.mark.Mark.{Mark}
use Rattle.qml_grammar.specs.declared.mark.Mark.TheVariants.{OpenParen, CloseParen, Colon, Comma, Dot, Question, DoubleAmpersand, DoubleBar}
use Rattle.qml_grammar.proofs.PrintedForms.{printed-Lit, printed-Name, printed-Member, printed-Call, printed-Unary, printed-Binary, printed-And, printed-Or, printed-Cond}

-- what tokens of expressions one level further in spell has canonical texts
pub record PrintsInside (d : ℕ) : Type 0 where
  pub expr : (c k : ℕ) (ts : List Token) (x : Expr) → d ≡ suc c → IsExpr c k ts x → AreLawfulTokens ts → Printable 0 c k x
  pub unary : (c k : ℕ) (ts : List Token) (x : Expr) → d ≡ suc c → IsUnary c k ts x → AreLawfulTokens ts → Printable 7 c k x

-- Single tokens

literal_prints : (d : ℕ) (l : Lexeme) (v : Value) → IsLawfulLexeme l → value_of_lexeme l ≡ Some v → Printable 9 d 1 (Lit v)
literal_prints d l v law h =
    printable_as 9 d 1 (Lit v) (expr_step (Expr-F.Lit v)) (printed-Lit v) (omega arith) (token_spelling d l (literal_text v) (λ e ts. IsPrimary e 1 ts (Lit v)) law (value_no_mark l v h) (literal_is_text l v h) (λ e at. literal (record { lexeme = l; span = at }) v refl refl refl h))

name_prints : (d : ℕ) (l : Lexeme) (n : List ℕ) → IsLawfulLexeme l → operand_name_of_lexeme l ≡ Some n → value_of_lexeme l ≡ None → Printable 9 d 1 (Name n)
name_prints d l n law h none =
    printable_as 9 d 1 (Name n) (expr_step (Expr-F.Name n)) (printed-Name n) (omega arith) (token_spelling d l n (λ e ts. IsPrimary e 1 ts (Name n)) law (operand_no_mark l n h) (operand_is_text l n h) (λ e at. name (record { lexeme = l; span = at }) n refl refl refl h none))

-- Members and calls

pub member_text : (ps : List Piece) (l : Lexeme) (t n : List ℕ) → pieces_text ps ≡ t → lexeme_text l ≡ n → pieces_text (ps ++ token (mark Dot) ∷ token l ∷ []) ≡ t ++ (codes "." ++ n)
unfolding mark_text
member_text ps l t n h k = text_append ps (token (mark Dot) ∷ token l ∷ []) ∙ (ap (λ s. s ++ 46 ∷ (lexeme_text l ++ [])) h ∙ ap (λ s. t ++ 46 ∷ s) (append-nil (lexeme_text l) ∙ k))

member_prints : (d i : ℕ) (y : Expr) (l : Lexeme) (n : List ℕ) → Bound 8 d i y → IsLawfulLexeme l → name_of_lexeme l ≡ Some n → Printable 8 d (i + 1) (Member y n)
unfolding same_mark mark_number
member_prints d i y l n p law h =
    printable_as 8 d (i + 1) (Member y n) (expr_step (Expr-F.Member (printed y) n)) (printed-Member y n) (omega arith) (record {
      pieces = p.pieces ++ token (mark Dot) ∷ token l ∷ [];
      first = p.first;
      last = l;
      run = touching p.run (touching (run_of (mark Dot) tt) (run_of l law) (dot_touches l n h)) (touches_mark p.last Dot refl);
      opening = p.opening;
      text_is = member_text p.pieces l (bound 8 (printed y)) n p.text_is (name_is_text l n h);
      spelled = λ e at le. a_member i (placed at p.pieces) (record { lexeme = mark Dot; span = past_all at p.pieces }) (record { lexeme = l; span = past (past_all at p.pieces) (token (mark Dot)) }) y n refl (placed_append at p.pieces (token (mark Dot) ∷ token l ∷ [])) refl (p.spelled e at le) refl h;
    })

empty_call_text : (ps : List Piece) (t : List ℕ) → pieces_text ps ≡ t → pieces_text (ps ++ token (mark OpenParen) ∷ token (mark CloseParen) ∷ []) ≡ t ++ (codes "(" ++ ([] ++ codes ")"))
unfolding mark_text
empty_call_text ps t h = text_append ps (token (mark OpenParen) ∷ token (mark CloseParen) ∷ []) ∙ ap (λ s. s ++ 40 ∷ 41 ∷ []) h

empty_call_prints : (c d i : ℕ) (y : Expr) → d ≡ suc c → Bound 8 d i y → Printable 8 d (i + 1) (Call y [])
unfolding same_mark mark_number
empty_call_prints c d i y d_is p =
    printable_as 8 d (i + 1) (Call y []) (expr_step (Expr-F.Call (printed y) [])) (printed-Call y []) (omega arith) (record {
      pieces = p.pieces ++ token (mark OpenParen) ∷ token (mark CloseParen) ∷ [];
      first = p.first;
      last = mark CloseParen;
      run = touching p.run (touching (run_of (mark OpenParen) tt) (run_of (mark CloseParen) tt) (paren_touches (mark CloseParen))) (touches_mark p.last OpenParen refl);
      opening = p.opening;
      text_is = empty_call_text p.pieces (bound 8 (printed y)) p.text_is;
      spelled = λ e at le. call_none (pred e) i (placed at p.pieces) (record { lexeme = mark OpenParen; span = past_all at p.pieces }) (record { lexeme = mark CloseParen; span = past (past_all at p.pieces) (token (mark OpenParen)) }) y (omega arith) refl (placed_append at p.pieces (token (mark OpenParen) ∷ token (mark CloseParen) ∷ [])) refl (p.spelled e at le) refl refl;
    })

call_text : (ps qs : List Piece) (t s : List ℕ) → pieces_text ps ≡ t → pieces_text qs ≡ s → pieces_text (ps ++ token (mark OpenParen) ∷ qs ++ token (mark CloseParen) ∷ []) ≡ t ++ (codes "(" ++ (s ++ codes ")"))
unfolding mark_text
call_text ps qs t s h k =
    text_append (ps ++ token (mark OpenParen) ∷ qs) (token (mark CloseParen) ∷ []) ∙ (ap (λ u. u ++ 41 ∷ []) (text_append ps (token (mark OpenParen) ∷ qs) ∙ rw (h, k) refl) ∙ append_assoc t (40 ∷ s) (41 ∷ []))

call_placed : (at : Span) (ps qs : List Piece) →
    placed at (ps ++ token (mark OpenParen) ∷ qs ++ token (mark CloseParen) ∷ []) ≡ placed at ps ++ record { lexeme = mark OpenParen; span = past_all at ps } ∷ placed (past (past_all at ps) (token (mark OpenParen))) qs ++ record { lexeme = mark CloseParen; span = past_all at (ps ++ token (mark OpenParen) ∷ qs) } ∷ []
call_placed at ps qs =
    placed_append at (ps ++ token (mark OpenParen) ∷ qs) (token (mark CloseParen) ∷ []) ∙ ap (λ ts. ts ++ record { lexeme = mark CloseParen; span = past_all at (ps ++ token (mark OpenParen) ∷ qs) } ∷ []) (placed_append at ps (token (mark OpenParen) ∷ qs))

call_prints : (c d i j : ℕ) (y : Expr) (ys : List Expr) → d ≡ suc c → Bound 8 d i y → Listed c j ys → Printable 8 d (i + 1 + j) (Call y ys)
unfolding same_mark mark_number
call_prints c d i j y ys d_is p q =
    printable_as 8 d (i + 1 + j) (Call y ys) (expr_step (Expr-F.Call (printed y) (map printed ys))) (printed-Call y ys) (omega arith) (record {
      pieces = p.pieces ++ token (mark OpenParen) ∷ q.pieces ++ token (mark CloseParen) ∷ [];
      first = p.first;
      last = mark CloseParen;
      run = touching (touching p.run (touching (run_of (mark OpenParen) tt) q.run (paren_touches q.first)) (touches_mark p.last OpenParen refl)) (run_of (mark CloseParen) tt) (touches_mark q.last CloseParen refl);
      opening = p.opening;
      text_is = call_text p.pieces q.pieces (bound 8 (printed y)) (join (codes ", ") (map (bound 0) (map printed ys))) p.text_is q.text_is;
      spelled = λ e at le.
          let inside : Span = past (past_all at p.pieces) (token (mark OpenParen)) in
          a_call (pred e) i j (placed at p.pieces) (record { lexeme = mark OpenParen; span = past_all at p.pieces }) (placed inside q.pieces) (record { lexeme = mark CloseParen; span = past_all at (p.pieces ++ token (mark OpenParen) ∷ q.pieces) }) y ys (omega arith) refl (call_placed at p.pieces q.pieces) refl (p.spelled e at le) refl (q.spelled (pred e) inside (omega arith)) refl;
    })

-- Arguments

pub join_more : (between x : List ℕ) (xs : List (List ℕ)) (y : List ℕ) → join between (x ∷ xs ++ y ∷ []) ≡ join between (x ∷ xs) ++ (between ++ y)
join_more between x [] y = refl
join_more between x (z ∷ xs) y = ap (λ s. x ++ (between ++ s)) (join_more between z xs y) ∙ (ap (λ s. x ++ s) (sym (append_assoc between (join between (z ∷ xs)) (between ++ y))) ∙ sym (append_assoc x (between ++ join between (z ∷ xs)) (between ++ y)))

join_listed : (w : Expr) (ws : List Expr) (z : Expr) → join (codes ", ") (map (bound 0) (map printed (w ∷ ws ++ z ∷ []))) ≡ join (codes ", ") (map (bound 0) (map printed (w ∷ ws))) ++ (codes ", " ++ bound 0 (printed z))
join_listed w ws z =
    ap (λ ys. join (codes ", ") (bound 0 (printed w) ∷ map (bound 0) ys)) (map-append printed ws (z ∷ [])) ∙ (ap (λ ys. join (codes ", ") (bound 0 (printed w) ∷ ys)) (map-append (bound 0) (map printed ws) (printed z ∷ [])) ∙ join_more (codes ", ") (bound 0 (printed w)) (map (bound 0) (map printed ws)) (bound 0 (printed z)))

arguments_some : {d k : ℕ} {ts : List Token} {xs : List Expr} → AreArguments d k ts xs → (w : Expr) × (ws : List Expr) × (xs ≡ w ∷ ws)
arguments_some (one_argument x xs_is p) = (x, [], xs_is)
arguments_some (more_arguments i j us o vs ys z k_is ts_is xs_is p comma q) =
    let e = arguments_some p in
    (e.0, e.1 ++ z ∷ [], xs_is ∙ ap (λ l. l ++ z ∷ []) e.2)

pub comma_text : (ps qs : List Piece) (t s : List ℕ) → pieces_text ps ≡ t → pieces_text qs ≡ s → pieces_text (ps ++ token (mark Comma) ∷ space ∷ qs) ≡ t ++ (codes ", " ++ s)
unfolding mark_text
comma_text ps qs t s h k = text_append ps (token (mark Comma) ∷ space ∷ qs) ∙ rw (h, k) refl

more_listed : (c i j : ℕ) (ys : List Expr) (w : Expr) (ws : List Expr) (z : Expr) → ys ≡ w ∷ ws → Listed c i ys → Bound 0 c j z → Listed c (i + j) (ys ++ z ∷ [])
unfolding same_mark mark_number
more_listed c i j ys w ws z ys_is p q = record {
  pieces = p.pieces ++ token (mark Comma) ∷ space ∷ q.pieces;
  first = p.first;
  last = q.last;
  run = touching p.run (spaced_by (run_of (mark Comma) tt) q.run) (touches_mark p.last Comma refl);
  opening = p.opening;
  text_is = comma_text p.pieces q.pieces (join (codes ", ") (map (bound 0) (map printed ys))) (bound 0 (printed z)) p.text_is q.text_is ∙ rw ys_is (sym (join_listed w ws z));
  spelled = λ e at le. more_arguments i j (placed at p.pieces) (record { lexeme = mark Comma; span = past_all at p.pieces }) (placed (past (past (past_all at p.pieces) (token (mark Comma))) space) q.pieces) ys z refl (placed_append at p.pieces (token (mark Comma) ∷ space ∷ q.pieces)) refl (p.spelled e at le) refl (q.spelled e (past (past (past_all at p.pieces) (token (mark Comma))) space) le);
}

one_listed : (c k : ℕ) (x : Expr) → Bound 0 c k x → Listed c k (x ∷ [])
one_listed c k x p = record {
  pieces = p.pieces;
  first = p.first;
  last = p.last;
  run = p.run;
  opening = p.opening;
  text_is = p.text_is;
  spelled = λ e at le. one_argument x refl (p.spelled e at le);
}

-- Operators before an operand

gap_text : (m : Mark) (ps : List Piece) (t s : List ℕ) → t ≡ mark_text m → pieces_text ps ≡ s → mark_text m ++ pieces_text ps ≡ t ++ ([] ++ s)
gap_text m ps t s h k = rw (h, k) refl

gap_spaced_text : (m : Mark) (ps : List Piece) (t s : List ℕ) → t ≡ mark_text m → pieces_text ps ≡ s → mark_text m ++ 32 ∷ pieces_text ps ≡ t ++ (32 ∷ [] ++ s)
gap_spaced_text m ps t s h k = rw (h, k) refl

unary_touching : (c d i : ℕ) (op : UnOp) (y : Expr) (m : Mark) → d ≡ suc c → unary_operator m ≡ Some op → unary_text op ≡ mark_text m → (p : Bound 7 c i y) → unary_space op (bound 7 (printed y)) ≡ [] → may_touch (mark m) p.first ≡ true → Printable 7 d (1 + i) (Unary op y)
unary_touching c d i op y m d_is is written p gap touch =
    printable_as 7 d (1 + i) (Unary op y) (expr_step (Expr-F.Unary op (printed y))) (printed-Unary op y) (omega arith) (record {
      pieces = token (mark m) ∷ p.pieces;
      first = mark m;
      last = p.last;
      run = touching (run_of (mark m) tt) p.run touch;
      opening = sign_opens m op is;
      text_is = gap_text m p.pieces (unary_text op) (bound 7 (printed y)) written p.text_is ∙ ap (λ s. unary_text op ++ (s ++ bound 7 (printed y))) (sym gap);
      spelled = λ e at le. an_operated (pred e) i (record { lexeme = mark m; span = at }) (placed (past at (token (mark m))) p.pieces) op y (omega arith) refl refl refl is (p.spelled (pred e) (past at (token (mark m))) (omega arith));
    })

unary_spaced : (c d i : ℕ) (op : UnOp) (y : Expr) (m : Mark) → d ≡ suc c → unary_operator m ≡ Some op → unary_text op ≡ mark_text m → (p : Bound 7 c i y) → unary_space op (bound 7 (printed y)) ≡ 32 ∷ [] → Printable 7 d (1 + i) (Unary op y)
unary_spaced c d i op y m d_is is written p gap =
    printable_as 7 d (1 + i) (Unary op y) (expr_step (Expr-F.Unary op (printed y))) (printed-Unary op y) (omega arith) (record {
      pieces = token (mark m) ∷ space ∷ p.pieces;
      first = mark m;
      last = p.last;
      run = spaced_by (run_of (mark m) tt) p.run;
      opening = sign_opens m op is;
      text_is = gap_spaced_text m p.pieces (unary_text op) (bound 7 (printed y)) written p.text_is ∙ ap (λ s. unary_text op ++ (s ++ bound 7 (printed y))) (sym gap);
      spelled = λ e at le. an_operated (pred e) i (record { lexeme = mark m; span = at }) (placed (past (past at (token (mark m))) space) p.pieces) op y (omega arith) refl refl refl is (p.spelled (pred e) (past (past at (token (mark m))) space) (omega arith));
    })

-- the operand's text begins with its first token's
first_text : {a b : Lexeme} {ps : List Piece} (t : List ℕ) (r : Run a b ps) → pieces_text ps ≡ t → t ≡ lexeme_text a ++ pieces_text r.behind
first_text t r h = sym h ∙ ap pieces_text r.begins

unary_by : (c d i : ℕ) (op : UnOp) (y : Expr) (s : Sign op) → d ≡ suc c → (p : Bound 7 c i y) → Gap op s.sign p.first (bound 7 (printed y)) → Printable 7 d (1 + i) (Unary op y)
unary_by c d i op y s d_is p (inl h) = unary_touching c d i op y s.sign d_is s.is s.written p h.0 h.1
unary_by c d i op y s d_is p (inr h) = unary_spaced c d i op y s.sign d_is s.is s.written p h

unary_of : (c d i : ℕ) (op : UnOp) (y : Expr) → Sign op → d ≡ suc c → Bound 7 c i y → Printable 7 d (1 + i) (Unary op y)
unary_of c d i op y s d_is p =
    unary_by c d i op y s d_is p (subst (Gap op s.sign p.first) (sym (first_text (bound 7 (printed y)) p.run p.text_is)) (s.gap p.first (pieces_text p.run.behind) p.opening))

-- Operators between operands

pub infix_pieces_text : (m : Mark) (ps qs : List Piece) (operator t s : List ℕ) → operator ≡ 32 ∷ mark_text m ++ 32 ∷ [] → pieces_text ps ≡ t → pieces_text qs ≡ s → pieces_text (ps ++ space ∷ token (mark m) ∷ space ∷ qs) ≡ t ++ (operator ++ s)
infix_pieces_text m ps qs operator t s w h k = text_append ps (space ∷ token (mark m) ∷ space ∷ qs) ∙ rw (w, h, k) (ap (λ u. t ++ 32 ∷ u) (sym (append_assoc (mark_text m) (32 ∷ []) s)))

infix_prints : (strength d i j k : ℕ) (x y z : Expr) (m : Mark) (operator : List ℕ) → printed x ≡ infix_text strength operator (printed y) (printed z) → operator ≡ 32 ∷ mark_text m ++ 32 ∷ [] →
    ((e : ℕ) (us : List Token) (at : Span) (vs : List Token) → IsBinding strength e i us y → IsBinding (suc strength) e j vs z → IsBinding strength e k (us ++ record { lexeme = mark m; span = at } ∷ vs) x) →
    Bound strength d i y → Bound (suc strength) d j z → Printable strength d k x
infix_prints strength d i j k x y z m operator x_is written joins p q =
    printable_as strength d k x (infix_text strength operator (printed y) (printed z)) x_is (omega arith) (record {
      pieces = p.pieces ++ space ∷ token (mark m) ∷ space ∷ q.pieces;
      first = p.first;
      last = q.last;
      run = spaced_by p.run (spaced_by (run_of (mark m) tt) q.run);
      opening = p.opening;
      text_is = infix_pieces_text m p.pieces q.pieces operator (bound strength (printed y)) (bound (suc strength) (printed z)) written p.text_is q.text_is;
      spelled = λ e at le.
          let there : Span = past (past_all at p.pieces) space in
          let on : Span = past (past there (token (mark m))) space in
          subst (λ ts. IsBinding strength e k ts x) (sym (placed_append at p.pieces (space ∷ token (mark m) ∷ space ∷ q.pieces))) (joins e (placed at p.pieces) there (placed on q.pieces) (p.spelled e at le) (q.spelled e on le));
    })

-- of the operators in a table
binary_prints : (strength d i j : ℕ) (y z : Expr) (table : Mark → Option BinOp) (op : BinOp) → (o : Operator table strength op) →
    ((e : ℕ) (us : List Token) (at : Span) (vs : List Token) → IsBinding strength e i us y → IsBinding (suc strength) e j vs z → IsBinding strength e (i + 1 + j) (us ++ record { lexeme = mark o.sign; span = at } ∷ vs) (Binary op y z)) →
    Bound strength d i y → Bound (suc strength) d j z → Printable strength d (i + 1 + j) (Binary op y z)
binary_prints strength d i j y z table op o joins p q =
    infix_prints strength d i j (i + 1 + j) (Binary op y z) y z o.sign (binary_text op) (printed-Binary op y z ∙ ap (λ s. infix_text s (binary_text op) (printed y) (printed z)) o.strong) o.written joins p q

-- Conditionals

conditional_text : (ps qs rs : List Piece) (t s u : List ℕ) → pieces_text ps ≡ t → pieces_text qs ≡ s → pieces_text rs ≡ u → pieces_text (ps ++ space ∷ token (mark Question) ∷ space ∷ (qs ++ space ∷ token (mark Colon) ∷ space ∷ rs)) ≡ t ++ (codes " ? " ++ (s ++ (codes " : " ++ u)))
unfolding mark_text
conditional_text ps qs rs t s u h k l =
    text_append ps (space ∷ token (mark Question) ∷ space ∷ (qs ++ space ∷ token (mark Colon) ∷ space ∷ rs)) ∙ (ap (λ v. pieces_text ps ++ 32 ∷ 63 ∷ 32 ∷ v) (text_append qs (space ∷ token (mark Colon) ∷ space ∷ rs)) ∙ rw (h, k, l) refl)

conditional_placed : (at inside behind : Span) (ps qs rs : List Piece) → inside ≡ past (past (past (past_all at ps) space) (token (mark Question))) space →
    behind ≡ past (past (past (past_all inside qs) space) (token (mark Colon))) space →
    placed at (ps ++ space ∷ token (mark Question) ∷ space ∷ (qs ++ space ∷ token (mark Colon) ∷ space ∷ rs)) ≡ placed at ps ++ record { lexeme = mark Question; span = past (past_all at ps) space } ∷ placed inside qs ++ record { lexeme = mark Colon; span = past (past_all inside qs) space } ∷ placed behind rs
conditional_placed at inside behind ps qs rs h k =
    let question : Token = record { lexeme = mark Question; span = past (past_all at ps) space } in
    let colon : Token = record { lexeme = mark Colon; span = past (past_all inside qs) space } in
    let first : placed at (ps ++ space ∷ token (mark Question) ∷ space ∷ (qs ++ space ∷ token (mark Colon) ∷ space ∷ rs)) ≡ placed at ps ++ question ∷ placed inside (qs ++ space ∷ token (mark Colon) ∷ space ∷ rs) = placed_append at ps (space ∷ token (mark Question) ∷ space ∷ (qs ++ space ∷ token (mark Colon) ∷ space ∷ rs)) ∙ ap (λ s. placed at ps ++ question ∷ placed s (qs ++ space ∷ token (mark Colon) ∷ space ∷ rs)) (sym h) in
    let second : placed inside (qs ++ space ∷ token (mark Colon) ∷ space ∷ rs) ≡ placed inside qs ++ colon ∷ placed behind rs = placed_append inside qs (space ∷ token (mark Colon) ∷ space ∷ rs) ∙ ap (λ s. placed inside qs ++ colon ∷ placed s rs) (sym k) in
    first ∙ (ap (λ ts. placed at ps ++ question ∷ ts) second ∙ sym (append_assoc (placed at ps) (question ∷ placed inside qs) (colon ∷ placed behind rs)))

conditional_prints : (c d i j l : ℕ) (y z w : Expr) → d ≡ suc c → Bound 1 d i y → Bound 0 c j z → Bound 0 c l w → Printable 0 d (i + 1 + j + l) (Cond y z w)
unfolding same_mark mark_number
conditional_prints c d i j l y z w d_is p q r =
    printable_as 0 d (i + 1 + j + l) (Cond y z w) (expr_step (Expr-F.Cond (printed y) (printed z) (printed w))) (printed-Cond y z w) (omega arith) (record {
      pieces = p.pieces ++ space ∷ token (mark Question) ∷ space ∷ (q.pieces ++ space ∷ token (mark Colon) ∷ space ∷ r.pieces);
      first = p.first;
      last = r.last;
      run = spaced_by p.run (spaced_by (run_of (mark Question) tt) (spaced_by q.run (spaced_by (run_of (mark Colon) tt) r.run)));
      opening = p.opening;
      text_is = conditional_text p.pieces q.pieces r.pieces (bound 1 (printed y)) (bound 0 (printed z)) (bound 0 (printed w)) p.text_is q.text_is r.text_is;
      spelled = λ e at le.
          let there : Span = past (past_all at p.pieces) space in
          let inside : Span = past (past there (token (mark Question))) space in
          let on : Span = past (past_all inside q.pieces) space in
          let behind : Span = past (past on (token (mark Colon))) space in
          a_conditional (pred e) i j l (placed at p.pieces) (record { lexeme = mark Question; span = there }) (placed inside q.pieces) (record { lexeme = mark Colon; span = on }) (placed behind r.pieces) y z w (omega arith) refl (conditional_placed at inside behind p.pieces q.pieces r.pieces refl refl) refl (p.spelled e at le) refl (q.spelled (pred e) inside (omega arith)) refl (r.spelled (pred e) behind (omega arith));
    })

-- Levels

module _ (d : ℕ) (inside : PrintsInside d) where
  primary_prints : {k : ℕ} {ts : List Token} {x : Expr} → IsPrimary d k ts x → AreLawfulTokens ts → Printable 9 d k x
  primary_prints (literal t v k_is ts_is x_is is) law = rw (k_is, x_is) (literal_prints d t.lexeme v (lawful_as ts_is law).0 is)
  primary_prints (name t n k_is ts_is x_is is none) law = rw (k_is, x_is) (name_prints d t.lexeme n (lawful_as ts_is law).0 is none)
  primary_prints {k = k} {x = x} (in_parens c o us z d_is ts_is open_is p close_is) law =
      enclosed 9 c d k x d_is (inside.expr c k us x d_is p (lawful_left us (z ∷ []) (lawful_as ts_is law).1))

  arguments_print : {c k : ℕ} {ts : List Token} {xs : List Expr} → AreArguments c k ts xs → d ≡ suc c → AreLawfulTokens ts → Listed c k xs
  arguments_print {c = c} {k = k} {ts = ts} (one_argument x xs_is p) d_is law = rw xs_is (one_listed c k x (bound_of (inside.expr c k ts x d_is p law)))
  arguments_print {c = c} (more_arguments i j us o vs ys z k_is ts_is xs_is p comma q) d_is law =
      let laws : AreLawfulTokens (us ++ o ∷ vs) = lawful_as ts_is law in
      let s = arguments_some p in
      rw (k_is, xs_is) (more_listed c i j ys s.0 s.1 z s.2 (arguments_print p d_is (lawful_left us (o ∷ vs) laws)) (bound_of (inside.expr c j vs z d_is q (lawful_right us (o ∷ vs) laws).1)))

  postfix_prints : {k : ℕ} {ts : List Token} {x : Expr} → IsPostfix d k ts x → AreLawfulTokens ts → Printable 8 d k x
  postfix_prints {k = k} {x = x} (a_primary p) law = looser 8 d k x (primary_prints p law)
  postfix_prints (a_member i us o t y n k_is ts_is x_is p dot name_is) law =
      let laws : AreLawfulTokens (us ++ o ∷ t ∷ []) = lawful_as ts_is law in
      rw (k_is, x_is) (member_prints d i y t.lexeme n (bound_of (postfix_prints p (lawful_left us (o ∷ t ∷ []) laws))) (lawful_right us (o ∷ t ∷ []) laws).1.0 name_is)
  postfix_prints (call_none c i us o z y d_is k_is ts_is x_is p open_is close_is) law =
      rw (k_is, x_is) (empty_call_prints c d i y d_is (bound_of (postfix_prints p (lawful_left us (o ∷ z ∷ []) (lawful_as ts_is law)))))
  postfix_prints (a_call c i j us o vs z y ys d_is k_is ts_is x_is p open_is are close_is) law =
      let laws : AreLawfulTokens (us ++ o ∷ vs) = lawful_left (us ++ o ∷ vs) (z ∷ []) (lawful_as ts_is law) in
      rw (k_is, x_is) (call_prints c d i j y ys d_is (bound_of (postfix_prints p (lawful_left us (o ∷ vs) laws))) (arguments_print are d_is (lawful_right us (o ∷ vs) laws).1))

  unary_prints : {k : ℕ} {ts : List Token} {x : Expr} → IsUnary d k ts x → AreLawfulTokens ts → Printable 7 d k x
  unary_prints (an_operated c i o us op y d_is k_is ts_is x_is is p) law =
      rw (k_is, x_is) (unary_of c d i op y (sign_of o op is) d_is (bound_of (inside.unary c i us y d_is p (lawful_as ts_is law).1)))
  unary_prints {k = k} {x = x} (a_postfix p) law = looser 7 d k x (postfix_prints p law)

  product_prints : {k : ℕ} {ts : List Token} {x : Expr} → IsProduct d k ts x → AreLawfulTokens ts → Printable 6 d k x
  product_prints {k = k} {x = x} (a_unary p) law = looser 6 d k x (unary_prints p law)
  product_prints (times i j us o vs op y z k_is ts_is x_is p is q) law =
      let laws : AreLawfulTokens (us ++ o ∷ vs) = lawful_as ts_is law in
      let w = operator_of product_operator 6 products_written o op is in
      rw (k_is, x_is) (binary_prints 6 d i j y z product_operator op w (λ e us at vs a b. times i j us (record { lexeme = mark w.sign; span = at }) vs op y z refl refl refl a w.is b) (bound_of (product_prints p (lawful_left us (o ∷ vs) laws))) (bound_of (unary_prints q (lawful_right us (o ∷ vs) laws).1)))

  sum_prints : {k : ℕ} {ts : List Token} {x : Expr} → IsSum d k ts x → AreLawfulTokens ts → Printable 5 d k x
  sum_prints {k = k} {x = x} (product p) law = looser 5 d k x (product_prints p law)
  sum_prints (plus i j us o vs op y z k_is ts_is x_is p is q) law =
      let laws : AreLawfulTokens (us ++ o ∷ vs) = lawful_as ts_is law in
      let w = operator_of sum_operator 5 sums_written o op is in
      rw (k_is, x_is) (binary_prints 5 d i j y z sum_operator op w (λ e us at vs a b. plus i j us (record { lexeme = mark w.sign; span = at }) vs op y z refl refl refl a w.is b) (bound_of (sum_prints p (lawful_left us (o ∷ vs) laws))) (bound_of (product_prints q (lawful_right us (o ∷ vs) laws).1)))

  order_prints : {k : ℕ} {ts : List Token} {x : Expr} → IsOrder d k ts x → AreLawfulTokens ts → Printable 4 d k x
  order_prints {k = k} {x = x} (sum p) law = looser 4 d k x (sum_prints p law)
  order_prints (compare i j us o vs op y z k_is ts_is x_is p is q) law =
      let laws : AreLawfulTokens (us ++ o ∷ vs) = lawful_as ts_is law in
      let w = operator_of order_operator 4 orders_written o op is in
      rw (k_is, x_is) (binary_prints 4 d i j y z order_operator op w (λ e us at vs a b. compare i j us (record { lexeme = mark w.sign; span = at }) vs op y z refl refl refl a w.is b) (bound_of (order_prints p (lawful_left us (o ∷ vs) laws))) (bound_of (sum_prints q (lawful_right us (o ∷ vs) laws).1)))

  equality_prints : {k : ℕ} {ts : List Token} {x : Expr} → IsEquality d k ts x → AreLawfulTokens ts → Printable 3 d k x
  equality_prints {k = k} {x = x} (order p) law = looser 3 d k x (order_prints p law)
  equality_prints (equal i j us o vs op y z k_is ts_is x_is p is q) law =
      let laws : AreLawfulTokens (us ++ o ∷ vs) = lawful_as ts_is law in
      let w = operator_of equality_operator 3 equalities_written o op is in
      rw (k_is, x_is) (binary_prints 3 d i j y z equality_operator op w (λ e us at vs a b. equal i j us (record { lexeme = mark w.sign; span = at }) vs op y z refl refl refl a w.is b) (bound_of (equality_prints p (lawful_left us (o ∷ vs) laws))) (bound_of (order_prints q (lawful_right us (o ∷ vs) laws).1)))

  conjunction_prints : {k : ℕ} {ts : List Token} {x : Expr} → IsConjunction d k ts x → AreLawfulTokens ts → Printable 2 d k x
  unfolding same_mark mark_number mark_text
  conjunction_prints {k = k} {x = x} (equality p) law = looser 2 d k x (equality_prints p law)
  conjunction_prints (both i j us o vs y z k_is ts_is x_is p is q) law =
      let laws : AreLawfulTokens (us ++ o ∷ vs) = lawful_as ts_is law in
      rw (k_is, x_is) (infix_prints 2 d i j (i + 1 + j) (And y z) y z DoubleAmpersand (codes " && ") (printed-And y z) refl (λ e us at vs a b. both i j us (record { lexeme = mark DoubleAmpersand; span = at }) vs y z refl refl refl a refl b) (bound_of (conjunction_prints p (lawful_left us (o ∷ vs) laws))) (bound_of (equality_prints q (lawful_right us (o ∷ vs) laws).1)))

  disjunction_prints : {k : ℕ} {ts : List Token} {x : Expr} → IsDisjunction d k ts x → AreLawfulTokens ts → Printable 1 d k x
  unfolding same_mark mark_number mark_text
  disjunction_prints {k = k} {x = x} (conjunction p) law = looser 1 d k x (conjunction_prints p law)
  disjunction_prints (either i j us o vs y z k_is ts_is x_is p is q) law =
      let laws : AreLawfulTokens (us ++ o ∷ vs) = lawful_as ts_is law in
      rw (k_is, x_is) (infix_prints 1 d i j (i + 1 + j) (Or y z) y z DoubleBar (codes " || ") (printed-Or y z) refl (λ e us at vs a b. either i j us (record { lexeme = mark DoubleBar; span = at }) vs y z refl refl refl a refl b) (bound_of (disjunction_prints p (lawful_left us (o ∷ vs) laws))) (bound_of (conjunction_prints q (lawful_right us (o ∷ vs) laws).1)))

  expr_prints : {k : ℕ} {ts : List Token} {x : Expr} → IsExpr d k ts x → AreLawfulTokens ts → Printable 0 d k x
  expr_prints {k = k} {x = x} (disjunction p) law = looser 0 d k x (disjunction_prints p law)
  expr_prints (a_conditional c i j l us o vs p ws y z w d_is k_is ts_is x_is test question first colon second) law =
      let laws : AreLawfulTokens (us ++ o ∷ vs ++ p ∷ ws) = lawful_as ts_is law in
      let front : AreLawfulTokens (us ++ o ∷ vs) = lawful_left (us ++ o ∷ vs) (p ∷ ws) laws in
      rw (k_is, x_is) (conditional_prints c d i j l y z w d_is (bound_of (disjunction_prints test (lawful_left us (o ∷ vs) front))) (bound_of (inside.expr c j vs z d_is first (lawful_right us (o ∷ vs) front).1)) (bound_of (inside.expr c l ws w d_is second (lawful_right (us ++ o ∷ vs) (p ∷ ws) laws).1)))

-- All levels

prints_inside : (d : ℕ) → PrintsInside d
prints_inside zero = record {
  expr = λ c k ts x e p law. absurd (no_level c e);
  unary = λ c k ts x e p law. absurd (no_level c e);
}
prints_inside (suc d) = record {
  expr = λ c k ts x e p law. subst (λ n. Printable 0 n k x) (one_less c d e) (expr_prints d (prints_inside d) (subst (λ n. IsExpr n k ts x) (sym (one_less c d e)) p) law);
  unary = λ c k ts x e p law. subst (λ n. Printable 7 n k x) (one_less c d e) (unary_prints d (prints_inside d) (subst (λ n. IsUnary n k ts x) (sym (one_less c d e)) p) law);
}

-- the canonical text of an expression that tokens of a text spell spells it, with no more levels and as many nodes
pub expr_spelling : (d k : ℕ) (ts : List Token) (x : Expr) → IsExpr d k ts x → AreLawfulTokens ts → Bound 0 d k x
expr_spelling d k ts x p law = bound_of (expr_prints d (prints_inside d) p law)
