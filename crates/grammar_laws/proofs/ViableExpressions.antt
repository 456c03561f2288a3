-- Where the reading of an expression fails, the tokens before can still go on, level by level.
use Rattle.std.proofs.Common.{◌≡◌, ℕ, zero, suc, ◌+◌, true, false, is_some, List, [], ◌∷◌, ◌++◌, Option, Some, Result, Ok, Err, pos, codes, refl, sym, ap, subst, ◌∙◌, arith, append_assoc, append-nil}
use Rattle.qml_ast.specs.declared.expr.BinOp.{BinOp}
use Rattle.qml_ast.specs.declared.expr.Expr.{Expr}
use Rattle.qml_ast.specs.declared.expr.Expr.TheVariants.{Lit, Member, Call, Unary, Binary, And, Or, Cond}
use Rattle.qml_ast.specs.declared.expr.UnOp.{UnOp}
use Rattle.qml_ast.specs.declared.fault.DocFault.{DocFault}
use Rattle.qml_ast.specs.declared.value.Value.TheVariants.{Int}
use Rattle.qml_grammar.specs.ExpressionGrammar.{IsMark, IsOperator, IsPrimary, literal, parens as in_parens, IsPostfix, primary as a_primary, member as a_member, AreArguments, one_argument, more_arguments, IsUnary, operated as an_operated, postfix as a_postfix, IsProduct, unary as a_unary, times, IsSum, product, plus, IsOrder, sum, compare, IsEquality, order, equal, IsConjunction, equality, both, IsDisjunction, conjunction, either, IsExpr, disjunction, conditional as a_conditional}
use Rattle.qml_grammar.specs.Expressions.{Inner, parens, atom, primary, member, argument, some_arguments, arguments, call, begins_postfix, postfix, postfixes, operated, unary_in, joined, begins_operator, operator, chain, products, sums, orders, equalities, conjunctions, disjunctions, branches, conditional, expr_in, inner, expr}
use Rattle.qml_grammar.specs.Inputs.{Input, Parser, ahead, after, expect, while_next}
use Rattle.qml_grammar.specs.Lexemes.{plain, integer, mark, Token, tail, is_mark, atom_of, looked_up, unary_operator, product_operator, sum_operator, order_operator, equality_operator}
use Rattle.qml_grammar.specs.Marks.{same_mark, mark_number}
use Rattle.qml_grammar.specs.declared.mark.Mark.{Mark}
use Rattle.qml_grammar.specs.declared.mark.Mark.TheVariants.{OpenParen, CloseParen, Colon, Comma, Dot, Question, DoubleAmpersand, DoubleBar}
use Rattle.grammar_laws.specs.Faults.{CanGoOn}
use Rattle.grammar_laws.specs.Laws.{Way}
use Rattle.grammar_laws.proofs.Complete.{listed}
use Rattle.grammar_laws.proofs.Growing.{Covers, while_covers}
use Rattle.grammar_laws.proofs.Local.{Local, followed, before, onward, bind_err, local_followed}
use Rattle.grammar_laws.proofs.LocalLoops.{local_while}
use Rattle.grammar_laws.proofs.LocalExpressions.{LocalInside, inner_local, joined_local, operator_local, argument_local, argument_shorter, arguments_local, primary_local, postfix_local, unary_local, products_local, sums_local, orders_local, equalities_local, conjunctions_local, disjunctions_local}
use Rattle.grammar_laws.proofs.Sound.{or_else, SoundInside, sound, operator_adds, InCall, given, called, primary_covers, postfix_adds, argument_adds, arguments_cover, unary_covers, products_cover, sums_cover, orders_cover, equalities_cover, conjunctions_cover, disjunctions_cover, mark_adds}
use Rattle.grammar_laws.proofs.Strength.{Tells, tells_product, tells_sum, tells_order, tells_equality, tells_conjunction, tells_disjunction}
use Rattle.grammar_laws.proofs.Tools.{ahead_some, ahead_gives, way_none, bind_ok}
use Rattle.grammar_laws.proofs.Viable.{FailsAt, AtOnce, fails_once, followed_once, operand_refused_once, too_deep_once, retaken, onward_fails, fails_read, fails_node, fails_token, fails_expect, pure_fails, fails_closing, fails_named, regrouped, fails_as, fails_so, fails_branch, fails_choose, GoesOnBehind, behind_any, while_fails}

-- the readings one level further in fail where what was taken can still go on
pub record FailsInside (d : ℕ) (v : Inner) : Type 0 where
  pub enter : (i : Input) (e : DocFault) → v.enter i ≡ Err e → AtOnce v.enter i e
  pub expr : (c : ℕ) → d ≡ suc c → (i : Input) (e : DocFault) → v.expr i ≡ Err e → FailsAt v.expr (CanGoOn (IsExpr c)) i e
  pub unary : (c : ℕ) → d ≡ suc c → (i : Input) (e : DocFault) → v.unary i ≡ Err e → FailsAt v.unary (CanGoOn (IsUnary c)) i e

-- Tokens that go on

abbrev one : Token
one = record { lexeme = integer 1; span = record { line = 1; col = 1 } }

abbrev some_name : Token
some_name = record { lexeme = plain (codes "a"); span = record { line = 1; col = 1 } }

abbrev the_mark : Mark → Token
the_mark m = record { lexeme = mark m; span = record { line = 1; col = 1 } }

close_is : IsMark (the_mark CloseParen) CloseParen
unfolding same_mark mark_number
close_is = refl

colon_is : IsMark (the_mark Colon) Colon
unfolding same_mark mark_number
colon_is = refl

a_literal : (d : ℕ) → IsPrimary d 1 (one ∷ []) (Lit (Int (pos 1)))
a_literal d = literal one (Int (pos 1)) refl refl refl refl

some_primary : (d : ℕ) → CanGoOn (IsPrimary d) []
some_primary d = record { others = one ∷ []; nodes = 1; value = Lit (Int (pos 1)); spelled = a_literal d }

some_unary : (d : ℕ) → IsUnary d 1 (one ∷ []) (Lit (Int (pos 1)))
some_unary d = a_postfix (a_primary (a_literal d))

some_expr : (d : ℕ) → IsExpr d 1 (one ∷ []) (Lit (Int (pos 1)))
some_expr d = disjunction (conjunction (equality (order (sum (product (a_unary (some_unary d)))))))

-- these tokens and others spell it
goes : {A : Type 0} {Spells : ℕ → List Token → A → Type 0} (n : ℕ) (x : A) (ts us : List Token) {ws : List Token} → ws ≡ ts ++ us → Spells n ws x → CanGoOn Spells ts
goes {Spells = Spells} n x ts us e p = record { others = us; nodes = n; value = x; spelled = subst (λ ws. Spells n ws x) e p }

-- what is spelled can go on, with nothing
stays : {A : Type 0} {Spells : ℕ → List Token → A → Type 0} (n : ℕ) (x : A) (ts : List Token) → Spells n ts x → CanGoOn Spells (ts ++ [])
stays n x ts p = goes n x (ts ++ []) [] (sym (append-nil (ts ++ []) ∙ append-nil ts)) p

raised : {A : Type 0} {Operand Spells : ℕ → List Token → A → Type 0} {ts : List Token} → ((n : ℕ) (us : List Token) (x : A) → Operand n us x → Spells n us x) → CanGoOn Operand ts → CanGoOn Spells ts
raised {ts = ts} one w = record { others = w.others; nodes = w.nodes; value = w.value; spelled = one w.nodes (ts ++ w.others) w.value w.spelled }

-- Operators between operands

joined_fails : {Operand Spells : ℕ → List Token → Expr → Type 0} {bound : ℕ} (make : Expr → Expr → Expr) (operand : Parser Expr) (x : Expr) (i : Input) (e : DocFault) (o : Token) → i.rest ≡ o ∷ tail i.rest → Local operand → ((k : Input) (z : Expr) (l : Input) → operand k ≡ Ok (z, l) → Covers Operand bound k l z) → ((k : Input) (f : DocFault) → operand k ≡ Err f → FailsAt operand (CanGoOn Operand) k f) → ((m k n : ℕ) (us vs : List Token) (z : Expr) → m ≡ k + 1 + n → Spells k us x → Operand n vs z → Spells m (us ++ o ∷ vs) (make x z)) → joined make operand x i ≡ Err e → FailsAt (joined make operand x) (GoesOnBehind Spells x) i e
unfolding joined
joined_fails {Spells = Spells} make operand x i e o rest local sound fails join h =
    fails_node _ _ i o rest (behind_any (λ k ts p. stays k x ts p))
    (λ u k f g. fails_read operand _ _ k local (sound k) (fails k)
    (λ us w. behind_any (λ n ts p. goes (n + 1 + w.nodes) (make x w.value) (ts ++ o ∷ us) w.others (sym (append_assoc ts (o ∷ us) w.others)) (join (n + 1 + w.nodes) n w.nodes ts (us ++ w.others) w.value refl p w.spelled)))
    (λ y l c f2 g2. absurd cc) f g) e h

module _ (table : Mark → Option BinOp) (operand : Parser Expr) (level : ℕ) (tells : Tells (begins_operator table) (suc level)) (Operand Spells : ℕ → List Token → Expr → Type 0) (local : Local operand) (sound : (k : Input) (z : Expr) (l : Input) → operand k ≡ Ok (z, l) → Covers Operand (suc level) k l z) (fails : (k : Input) (f : DocFault) → operand k ≡ Err f → FailsAt operand (CanGoOn Operand) k f) (one_of : (n : ℕ) (us : List Token) (x : Expr) → Operand n us x → Spells n us x) (more : (o : Token) (op : BinOp) (x : Expr) → IsOperator table o op → (m k n : ℕ) (us vs : List Token) (z : Expr) → m ≡ k + 1 + n → Spells k us x → Operand n vs z → Spells m (us ++ o ∷ vs) (Binary op x z)) where
  operator_fails : (x : Expr) (i : Input) (e : DocFault) → begins_operator table (ahead i) ≡ true → operator table operand x i ≡ Err e → FailsAt (operator table operand x) (GoesOnBehind Spells x) i e
  unfolding operator
  operator_fails x i e t h = fails_choose (looked_up table) _ _ _ i
      (λ op f is g. let o = ahead_gives (looked_up table) refl i op is in joined_fails (Binary op) operand x i f o.token o.rest local sound fails (more o.token op x o.is) g)
      (λ f not_so g. absurd (let b : begins_operator table (ahead i) ≡ false = ap is_some not_so in let c : false ≡ true = sym b ∙ t in cc)) e h

  chain_fails : (i : Input) (e : DocFault) → chain table operand i ≡ Err e → FailsAt (chain table operand) (CanGoOn Spells) i e
  unfolding chain
  chain_fails i e h = fails_read operand _ _ i local (sound i) (fails i) (λ ts w. raised one_of w)
      (λ x k c f g. while_fails Spells (suc level) (begins_operator table) (operator table operand) refl (operator_local table operand local) (operator_adds table operand level tells Operand Spells sound one_of more) operator_fails x k f c.nodes c.text (one_of c.nodes c.text x c.spelled) g) e h

module _ (m : Mark) (make : Expr → Expr → Expr) (operand : Parser Expr) (level : ℕ) (tells : Tells (is_mark m) (suc level)) (Operand Spells : ℕ → List Token → Expr → Type 0) (local : Local operand) (sound : (k : Input) (z : Expr) (l : Input) → operand k ≡ Ok (z, l) → Covers Operand (suc level) k l z) (fails : (k : Input) (f : DocFault) → operand k ≡ Err f → FailsAt operand (CanGoOn Operand) k f) (one_of : (n : ℕ) (us : List Token) (x : Expr) → Operand n us x → Spells n us x) (more : (o : Token) (x : Expr) → IsMark o m → (n k l : ℕ) (us vs : List Token) (z : Expr) → n ≡ k + 1 + l → Spells k us x → Operand l vs z → Spells n (us ++ o ∷ vs) (make x z)) where
  mark_fails : (x : Expr) (i : Input) (e : DocFault) → is_mark m (ahead i) ≡ true → joined make operand x i ≡ Err e → FailsAt (joined make operand x) (GoesOnBehind Spells x) i e
  mark_fails x i e t h = let o = ahead_some (is_mark m) refl i t in joined_fails make operand x i e o.token o.rest local sound fails (more o.token x o.is) h

  marks_fail : (i : Input) (e : DocFault) → followed operand (while_next (is_mark m) (joined make operand)) i ≡ Err e → FailsAt (followed operand (while_next (is_mark m) (joined make operand))) (CanGoOn Spells) i e
  marks_fail i e h = fails_read operand _ _ i local (sound i) (fails i) (λ ts w. raised one_of w)
      (λ x k c f g. while_fails Spells (suc level) (is_mark m) (joined make operand) refl (λ y. joined_local make operand y local) (mark_adds m make operand level tells Operand Spells sound one_of more) mark_fails x k f c.nodes c.text (one_of c.nodes c.text x c.spelled) g) e h

-- Operands

after_reads : {A : Type 0} (x : A) (i : Input) (e : DocFault) → ◌≡◌ {A = Result (A × Input) DocFault} (Ok (x, after i)) (Err e) → ⊥
after_reads {A = A} x i e h = let g : ◌≡◌ {A = Result (A × Input) DocFault} (Ok (x, after i)) (Err e) = h in cc

module _ (d : ℕ) (v : Inner) (inside : SoundInside d v) (local : LocalInside v) (fails : FailsInside d v) where
  -- behind the test of a level
  fails_entered : {B : Type 0} (f : Unit {0} → Parser B) (V : List Token → Type 0) (i : Input) → V [] → ((c : ℕ) → d ≡ suc c → (u : Unit {0}) (k : Input) → i ≡ k → (e : DocFault) → f u k ≡ Err e → FailsAt (f u) V k e) → (e : DocFault) → followed v.enter f i ≡ Err e → FailsAt (followed v.enter f) V i e
  fails_entered f V i none second e h = elim (bind_err (v.enter i) _ _ h) [
    | before g ↦ fails_once (followed_once f (fails.enter i e g)) none
    | onward u k g g2 ↦ (
        let s = inside.enter i u k g in
        onward_fails v.enter f V i (retaken (local.enter.ok i u k g) (subst (λ l. Way i l 0 []) s.same (way_none i))) (second s.less s.one_less u k s.same e g2))
  ]

  rest_at : {i k : Input} {o : Token} → i ≡ k → i.rest ≡ o ∷ tail i.rest → k.rest ≡ o ∷ tail k.rest
  rest_at {o = o} e h = subst (λ l. l.rest ≡ o ∷ tail l.rest) e h

  parens_go_on : (c : ℕ) (o : Token) (ts : List Token) → d ≡ suc c → IsMark o OpenParen → CanGoOn (IsExpr c) ts → CanGoOn (IsPrimary d) (o ∷ ts)
  parens_go_on c o ts d_is open_is w = goes w.nodes w.value (o ∷ ts) (w.others ++ the_mark CloseParen ∷ []) (ap (λ us. o ∷ us) (append_assoc ts w.others (the_mark CloseParen ∷ []))) (in_parens c o (ts ++ w.others) (the_mark CloseParen) d_is refl open_is w.spelled close_is)

  parens_fail : (i : Input) (e : DocFault) → is_mark OpenParen (ahead i) ≡ true → parens v i ≡ Err e → FailsAt (parens v) (CanGoOn (IsPrimary d)) i e
  unfolding parens
  parens_fail i e t h =
      let o = ahead_some (is_mark OpenParen) refl i t in
      fails_entered _ _ i (some_primary d) (λ c d_is u k same f g.
      fails_token _ _ k o.token (rest_at same o.rest) (λ u2 k2 f2 g2.
      fails_read v.expr _ _ k2 local.expr (inside.expr c d_is k2) (fails.expr c d_is k2) (λ ts w. parens_go_on c o.token ts d_is o.is w)
      (λ x k3 y f3 g3. fails_closing CloseParen x _ k3 (parens_go_on c o.token (y.text ++ []) d_is o.is (stays y.nodes x y.text y.spelled)) f3 g3) f2 g2) f g) e h

  atom_fails : (i : Input) (e : DocFault) → atom i ≡ Err e → FailsAt atom (CanGoOn (IsPrimary d)) i e
  unfolding atom
  atom_fails i e h = fails_choose atom_of _ _ _ i
      (λ x f is g. let o = ahead_gives atom_of refl i x is in fails_node _ _ i o.token o.rest (some_primary d) (λ u k f2 g2. absurd cc) f g)
      (λ f none g. fails_once (operand_refused_once i f g) (some_primary d)) e h

  primary_fails : (i : Input) (e : DocFault) → primary v i ≡ Err e → FailsAt (primary v) (CanGoOn (IsPrimary d)) i e
  unfolding primary
  primary_fails i e h = fails_branch (is_mark OpenParen) (parens v) atom _ i (λ f t g. parens_fail i f t g) (λ f t g. atom_fails i f g) e h

  member_fails : (x : Expr) (i : Input) (e : DocFault) → is_mark Dot (ahead i) ≡ true → member x i ≡ Err e → FailsAt (member x) (GoesOnBehind (IsPostfix d) x) i e
  unfolding member
  member_fails x i e t h =
      let o = ahead_some (is_mark Dot) refl i t in
      fails_node _ _ i o.token o.rest (behind_any (λ k ts p. stays k x ts p)) (λ u k f g.
      fails_named (λ n. Member x n) _ k (behind_any (λ n ts p. goes (n + 1) (Member x (codes "a")) (ts ++ o.token ∷ []) (some_name ∷ []) (sym (append_assoc ts (o.token ∷ []) (some_name ∷ []))) (a_member n ts o.token some_name x (codes "a") refl refl refl p o.is refl))) f g) e h

  argument_fails : (c : ℕ) → d ≡ suc c → (xs : List Expr) (i : Input) (e : DocFault) → is_mark Comma (ahead i) ≡ true → argument v xs i ≡ Err e → FailsAt (argument v xs) (GoesOnBehind (AreArguments c) xs) i e
  unfolding argument
  argument_fails c d_is xs i e t h =
      let o = ahead_some (is_mark Comma) refl i t in
      fails_token _ _ i o.token o.rest (λ u k f g.
      fails_read v.expr _ _ k local.expr (inside.expr c d_is k) (fails.expr c d_is k)
      (λ us w. behind_any (λ n ts p. goes (n + w.nodes) (xs ++ w.value ∷ []) (ts ++ o.token ∷ us) w.others (sym (append_assoc ts (o.token ∷ us) w.others)) (more_arguments n w.nodes ts o.token (us ++ w.others) xs w.value refl refl refl p o.is w.spelled)))
      (λ y l z f2 g2. pure_fails (xs ++ y ∷ []) _ l f2 g2) f g) e h

  -- arguments without what stands around them
  listed_local : Local (listed v)
  listed_local = local_followed local.expr (λ x. local_while (is_mark Comma) (argument v) refl (argument_local v local) (argument_shorter v local) (x ∷ []))

  listed_covers : (c : ℕ) → d ≡ suc c → (i : Input) (xs : List Expr) (j : Input) → listed v i ≡ Ok (xs, j) → Covers (AreArguments c) 0 i j xs
  listed_covers c d_is i xs j h =
      let a = bind_ok (v.expr i) _ _ h in
      let x = inside.expr c d_is i a.value a.at a.first in
      (while_covers (AreArguments c) 0 (is_mark Comma) (argument v) refl (argument_adds d v inside c d_is) i a.at (a.value ∷ []) xs j (record { nodes = x.nodes; text = x.text; way = x.way; spelled = one_argument a.value refl x.spelled; stops = x.stops }) a.onward).covers

  listed_fails : (c : ℕ) → d ≡ suc c → (i : Input) (e : DocFault) → listed v i ≡ Err e → FailsAt (listed v) (CanGoOn (AreArguments c)) i e
  listed_fails c d_is i e h = fails_read v.expr _ _ i local.expr (inside.expr c d_is i) (fails.expr c d_is i)
      (λ ts w. record { others = w.others; nodes = w.nodes; value = w.value ∷ []; spelled = one_argument w.value refl w.spelled })
      (λ x k y f g. while_fails (AreArguments c) 0 (is_mark Comma) (argument v) refl (argument_local v local) (argument_adds d v inside c d_is) (argument_fails c d_is) (x ∷ []) k f y.nodes y.text (one_argument x refl y.spelled) g) e h

  given_go_on : (c : ℕ) (ts : List Token) → CanGoOn (AreArguments c) ts → CanGoOn (InCall c) ts
  given_go_on c ts w = goes w.nodes w.value ts (w.others ++ the_mark CloseParen ∷ []) (append_assoc ts w.others (the_mark CloseParen ∷ [])) (given (ts ++ w.others) (the_mark CloseParen) refl w.spelled close_is)

  some_arguments_fail : (c : ℕ) → d ≡ suc c → (i : Input) (e : DocFault) → some_arguments v i ≡ Err e → FailsAt (some_arguments v) (CanGoOn (InCall c)) i e
  unfolding some_arguments
  some_arguments_fail c d_is i e h =
      let rest : List Expr → Parser (List Expr) = λ xs. followed (expect CloseParen) (λ u l. Ok (xs, l)) in
      let same = regrouped v.expr (λ x. while_next (is_mark Comma) (argument v) (x ∷ [])) rest in
      fails_as (some_arguments v) same
      (fails_read (listed v) rest (CanGoOn (InCall c)) i listed_local (listed_covers c d_is i) (listed_fails c d_is i) (λ ts w. given_go_on c ts w)
      (λ xs k y f g. fails_closing CloseParen xs _ k (given_go_on c (y.text ++ []) (stays y.nodes xs y.text y.spelled)) f g) e (sym (same i) ∙ h))

  arguments_fail : (c : ℕ) → d ≡ suc c → (i : Input) (e : DocFault) → arguments v i ≡ Err e → FailsAt (arguments v) (CanGoOn (InCall c)) i e
  unfolding arguments
  arguments_fail c d_is i e h = fails_branch (is_mark CloseParen) (λ l. Ok ([], after l)) (some_arguments v) _ i (λ f t g. absurd (after_reads {A = List Expr} [] i f g)) (λ f t g. some_arguments_fail c d_is i f g) e h

  call_fails : (x : Expr) (i : Input) (e : DocFault) → is_mark OpenParen (ahead i) ≡ true → call v x i ≡ Err e → FailsAt (call v x) (GoesOnBehind (IsPostfix d) x) i e
  unfolding call
  call_fails x i e t h =
      let o = ahead_some (is_mark OpenParen) refl i t in
      fails_entered _ _ i (behind_any (λ k ts p. stays k x ts p)) (λ c d_is u k same f g.
      fails_node _ _ k o.token (rest_at same o.rest) (behind_any (λ n ts p. stays n x ts p)) (λ u2 k2 f2 g2.
      fails_read (arguments v) _ _ k2 (arguments_local v local) (arguments_cover d v inside c d_is k2) (arguments_fail c d_is k2)
      (λ us w. behind_any (λ n ts p. goes (n + (1 + w.nodes)) (Call x w.value) (ts ++ o.token ∷ us) w.others (sym (append_assoc ts (o.token ∷ us) w.others)) (called d v inside c d_is n ts o.token x o.is p w.nodes (us ++ w.others) w.value w.spelled)))
      (λ xs l y f3 g3. pure_fails (Call x xs) _ l f3 g3) f2 g2) f g) e h

  postfix_fails : (x : Expr) (i : Input) (e : DocFault) → begins_postfix (ahead i) ≡ true → postfix v x i ≡ Err e → FailsAt (postfix v x) (GoesOnBehind (IsPostfix d) x) i e
  unfolding postfix
  postfix_fails x i e t h = fails_branch (is_mark Dot) (member x) (call v x) _ i (λ f s g. member_fails x i f s g) (λ f s g. call_fails x i f (or_else t s) g) e h

  postfixes_fail : (i : Input) (e : DocFault) → postfixes v i ≡ Err e → FailsAt (postfixes v) (CanGoOn (IsPostfix d)) i e
  unfolding postfixes
  postfixes_fail i e h = fails_read (primary v) _ _ i (primary_local v local) (primary_covers d v inside i) (primary_fails i) (λ ts w. raised (λ n us x p. a_primary p) w)
      (λ x k c f g. while_fails (IsPostfix d) 8 begins_postfix (postfix v) refl (postfix_local v local) (postfix_adds d v inside) postfix_fails x k f c.nodes c.text (a_primary c.spelled) g) e h

  operated_fails : (op : UnOp) (i : Input) (e : DocFault) → looked_up unary_operator (ahead i) ≡ Some op → operated v op i ≡ Err e → FailsAt (operated v op) (CanGoOn (IsUnary d)) i e
  unfolding operated
  operated_fails op i e t h =
      let o = ahead_gives (looked_up unary_operator) refl i op t in
      fails_entered _ (CanGoOn (IsUnary d)) i (goes 1 (Lit (Int (pos 1))) [] (one ∷ []) refl (some_unary d)) (λ c d_is u k same f g.
      fails_node _ (CanGoOn (IsUnary d)) k o.token (rest_at same o.rest) (goes 1 (Lit (Int (pos 1))) [] (one ∷ []) refl (some_unary d)) (λ u2 k2 f2 g2.
      fails_read v.unary _ _ k2 local.unary (inside.unary c d_is k2) (fails.unary c d_is k2)
      (λ us w. goes (1 + w.nodes) (Unary op w.value) (o.token ∷ us) w.others refl (an_operated c w.nodes o.token (us ++ w.others) op w.value d_is refl refl refl o.is w.spelled))
      (λ x l y f3 g3. pure_fails (Unary op x) _ l f3 g3) f2 g2) f g) e h

  unary_fails : (i : Input) (e : DocFault) → unary_in v i ≡ Err e → FailsAt (unary_in v) (CanGoOn (IsUnary d)) i e
  unfolding unary_in
  unary_fails i e h = fails_choose (looked_up unary_operator) (operated v) (postfixes v) _ i
      (λ op f t g. operated_fails op i f t g)
      (λ f t g. fails_so (postfixes_fail i f g) (λ ts w. raised (λ n us x p. a_postfix p) w)) e h

  products_fail : (i : Input) (e : DocFault) → products v i ≡ Err e → FailsAt (products v) (CanGoOn (IsProduct d)) i e
  unfolding products
  products_fail = chain_fails product_operator (unary_in v) 6 tells_product (IsUnary d) (IsProduct d) (unary_local v local) (unary_covers d v inside) unary_fails (λ n us x p. a_unary p) (λ o op x t m k n us vs z e p q. times k n us o vs op x z e refl refl p t q)

  sums_fail : (i : Input) (e : DocFault) → sums v i ≡ Err e → FailsAt (sums v) (CanGoOn (IsSum d)) i e
  unfolding sums
  sums_fail = chain_fails sum_operator (products v) 5 tells_sum (IsProduct d) (IsSum d) (products_local v local) (products_cover d v inside) products_fail (λ n us x p. product p) (λ o op x t m k n us vs z e p q. plus k n us o vs op x z e refl refl p t q)

  orders_fail : (i : Input) (e : DocFault) → orders v i ≡ Err e → FailsAt (orders v) (CanGoOn (IsOrder d)) i e
  unfolding orders
  orders_fail = chain_fails order_operator (sums v) 4 tells_order (IsSum d) (IsOrder d) (sums_local v local) (sums_cover d v inside) sums_fail (λ n us x p. sum p) (λ o op x t m k n us vs z e p q. compare k n us o vs op x z e refl refl p t q)

  equalities_fail : (i : Input) (e : DocFault) → equalities v i ≡ Err e → FailsAt (equalities v) (CanGoOn (IsEquality d)) i e
  unfolding equalities
  equalities_fail = chain_fails equality_operator (orders v) 3 tells_equality (IsOrder d) (IsEquality d) (orders_local v local) (orders_cover d v inside) orders_fail (λ n us x p. order p) (λ o op x t m k n us vs z e p q. equal k n us o vs op x z e refl refl p t q)

  conjunctions_fail : (i : Input) (e : DocFault) → conjunctions v i ≡ Err e → FailsAt (conjunctions v) (CanGoOn (IsConjunction d)) i e
  unfolding conjunctions
  conjunctions_fail = marks_fail DoubleAmpersand (λ y z. And y z) (equalities v) 2 tells_conjunction (IsEquality d) (IsConjunction d) (equalities_local v local) (equalities_cover d v inside) equalities_fail (λ n us y p. equality p) (λ o y t m k n us vs z e p q. both k n us o vs y z e refl refl p t q)

  disjunctions_fail : (i : Input) (e : DocFault) → disjunctions v i ≡ Err e → FailsAt (disjunctions v) (CanGoOn (IsDisjunction d)) i e
  unfolding disjunctions
  disjunctions_fail = marks_fail DoubleBar (λ y z. Or y z) (conjunctions v) 1 tells_disjunction (IsConjunction d) (IsDisjunction d) (conjunctions_local v local) (conjunctions_cover d v inside) conjunctions_fail (λ n us y p. conjunction p) (λ o y t m k n us vs z e p q. either k n us o vs y z e refl refl p t q)

  -- a conditional of which this much is there
  conditional_goes : (c n k l : ℕ) (ts : List Token) (q : Token) (us : List Token) (p : Token) (vs : List Token) (x y z : Expr) → d ≡ suc c → IsDisjunction d n ts x → IsMark q Question → IsExpr c k us y → IsMark p Colon → IsExpr c l vs z → IsExpr d (n + 1 + k + l) (ts ++ q ∷ us ++ p ∷ vs) (Cond x y z)
  conditional_goes c n k l ts q us p vs x y z d_is test question first colon second = a_conditional c n k l ts q us p vs x y z d_is refl refl refl test question first colon second

  first_go_on : (c n : ℕ) (ts : List Token) (q : Token) (us : List Token) (x : Expr) → d ≡ suc c → IsDisjunction d n ts x → IsMark q Question → CanGoOn (IsExpr c) us → CanGoOn (IsExpr d) (ts ++ q ∷ us)
  first_go_on c n ts q us x d_is test question w =
      let others : List Token = w.others ++ the_mark Colon ∷ one ∷ [] in
      let e : ts ++ q ∷ (us ++ w.others) ++ the_mark Colon ∷ one ∷ [] ≡ (ts ++ q ∷ us) ++ others = rw (append_assoc, append_assoc, append_assoc) in
      goes (n + 1 + w.nodes + 1) (Cond x w.value (Lit (Int (pos 1)))) (ts ++ q ∷ us) others e (conditional_goes c n w.nodes 1 ts q (us ++ w.others) (the_mark Colon) (one ∷ []) x w.value (Lit (Int (pos 1))) d_is test question w.spelled colon_is (some_expr c))

  second_go_on : (c n k : ℕ) (ts : List Token) (q : Token) (us : List Token) (p : Token) (vs : List Token) (x y : Expr) → d ≡ suc c → IsDisjunction d n ts x → IsMark q Question → IsExpr c k us y → IsMark p Colon → CanGoOn (IsExpr c) vs → CanGoOn (IsExpr d) (ts ++ q ∷ (us ++ p ∷ vs))
  second_go_on c n k ts q us p vs x y d_is test question first colon w =
      let e : ts ++ q ∷ us ++ p ∷ (vs ++ w.others) ≡ (ts ++ q ∷ (us ++ p ∷ vs)) ++ w.others = rw (append_assoc, append_assoc, append_assoc) in
      goes (n + 1 + k + w.nodes) (Cond x y w.value) (ts ++ q ∷ (us ++ p ∷ vs)) w.others e (conditional_goes c n k w.nodes ts q us p (vs ++ w.others) x y w.value d_is test question first colon w.spelled)

  branches_fail : (x : Expr) (i : Input) (e : DocFault) (n : ℕ) (ts : List Token) → IsDisjunction d n ts x → is_mark Question (ahead i) ≡ true → branches v x i ≡ Err e → FailsAt (branches v x) (λ us. CanGoOn (IsExpr d) (ts ++ us)) i e
  unfolding branches
  branches_fail x i e n ts test t h =
      let o = ahead_some (is_mark Question) refl i t in
      fails_entered _ (λ us. CanGoOn (IsExpr d) (ts ++ us)) i (stays n x ts (disjunction test)) (λ c d_is u k same f g.
      fails_node _ (λ us. CanGoOn (IsExpr d) (ts ++ us)) k o.token (rest_at same o.rest) (stays n x ts (disjunction test)) (λ u2 k2 f2 g2.
      fails_read v.expr _ _ k2 local.expr (inside.expr c d_is k2) (fails.expr c d_is k2) (λ us w. first_go_on c n ts o.token us x d_is test o.is w)
      (λ y k3 ys f3 g3. fails_expect Colon _ _ k3 (first_go_on c n ts o.token (ys.text ++ []) x d_is test o.is (stays ys.nodes y ys.text ys.spelled))
      (λ p p_is u4 k4 f4 g4. fails_read v.expr _ _ k4 local.expr (inside.expr c d_is k4) (fails.expr c d_is k4) (λ us w. second_go_on c n ys.nodes ts o.token ys.text p us x y d_is test o.is ys.spelled p_is w)
      (λ z l zs f5 g5. pure_fails (Cond x y z) _ l f5 g5) f4 g4) f3 g3) f2 g2) f g) e h

  conditional_fails : (x : Expr) (i : Input) (e : DocFault) (n : ℕ) (ts : List Token) → IsDisjunction d n ts x → conditional v x i ≡ Err e → FailsAt (conditional v x) (λ us. CanGoOn (IsExpr d) (ts ++ us)) i e
  unfolding conditional
  conditional_fails x i e n ts test h = fails_branch (is_mark Question) (branches v x) (λ l. Ok (x, l)) _ i (λ f t g. branches_fail x i f n ts test t g) (λ f t g. pure_fails x _ i f g) e h

  expr_fails : (i : Input) (e : DocFault) → expr_in v i ≡ Err e → FailsAt (expr_in v) (CanGoOn (IsExpr d)) i e
  unfolding expr_in
  expr_fails i e h = fails_read (disjunctions v) _ _ i (disjunctions_local v local) (disjunctions_cover d v inside i) (disjunctions_fail i) (λ ts w. raised (λ n us x p. disjunction p) w)
      (λ x k c f g. conditional_fails x k f c.nodes c.text c.spelled g) e h

-- All levels

no_level : (c : ℕ) → 0 ≡ suc c → ⊥
no_level c e = omega arith

one_less : (c d : ℕ) → suc d ≡ suc c → d ≡ c
one_less c d e = omega arith

enter_reads : (i : Input) (e : DocFault) → ◌≡◌ {A = Result (Unit {0} × Input) DocFault} (Ok (tt, i)) (Err e) → ⊥
enter_reads i e h = cc

pub inner_fails : (d : ℕ) → FailsInside d (inner d)
unfolding inner
inner_fails zero = record {
  enter = λ i e h. too_deep_once i e h;
  expr = λ c e i f h. absurd (no_level c e);
  unary = λ c e i f h. absurd (no_level c e);
}
inner_fails (suc d) = record {
  enter = λ i e h. absurd (enter_reads i e h);
  expr = λ c e i f h. subst (λ n. FailsAt (expr_in (inner d)) (CanGoOn (IsExpr n)) i f) (one_less c d e) (expr_fails d (inner d) (sound d) (inner_local d) (inner_fails d) i f h);
  unary = λ c e i f h. subst (λ n. FailsAt (unary_in (inner d)) (CanGoOn (IsUnary n)) i f) (one_less c d e) (unary_fails d (inner d) (sound d) (inner_local d) (inner_fails d) i f h);
}

pub expr_viable : (d : ℕ) (i : Input) (e : DocFault) → expr d i ≡ Err e → FailsAt (expr d) (CanGoOn (IsExpr d)) i e
unfolding expr
expr_viable d = expr_fails d (inner d) (sound d) (inner_local d) (inner_fails d)
