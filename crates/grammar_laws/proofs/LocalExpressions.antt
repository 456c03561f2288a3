-- An expression is read by its tokens and the next one alone, level by level.
use Rattle.std.proofs.Common.{◌≡◌, ℕ, zero, suc, ◌<◌, true, List, [], ◌∷◌, ◌++◌, length, Option, Some, None, Result, Ok, Err, inl, inr, refl, sym, subst}
use Rattle.qml_ast.specs.declared.expr.BinOp.{BinOp}
use Rattle.qml_ast.specs.declared.expr.Expr.{Expr}
use Rattle.qml_ast.specs.declared.expr.Expr.TheVariants.{Member, Call, Unary, Binary, And, Or, Cond}
use Rattle.qml_ast.specs.declared.expr.UnOp.{UnOp}
use Rattle.qml_ast.specs.declared.fault.DocFault.{DocFault}
use Rattle.qml_grammar.specs.Expressions.{Inner, parens, atom, primary, member, argument, some_arguments, arguments, call, begins_postfix, postfix, postfixes, operated, unary_in, joined, begins_operator, operator, chain, products, sums, orders, equalities, conjunctions, disjunctions, branches, conditional, expr_in, inner, expr}
use Rattle.qml_grammar.specs.Inputs.{Input, Parser, ahead, refusal, take_node, while_next}
use Rattle.qml_grammar.specs.Lexemes.{Token, tail, is_mark, atom_of, looked_up, unary_operator, product_operator, sum_operator, order_operator, equality_operator}
use Rattle.qml_grammar.specs.declared.mark.Mark.{Mark}
use Rattle.qml_grammar.specs.declared.mark.Mark.TheVariants.{OpenParen, CloseParen, Colon, Comma, Dot, Question, DoubleAmpersand, DoubleBar}
use Rattle.grammar_laws.specs.Laws.{Way}
use Rattle.grammar_laws.proofs.Growing.{shorter}
use Rattle.grammar_laws.proofs.Local.{Local, local_followed, local_branch, local_choose}
use Rattle.grammar_laws.proofs.LocalLoops.{local_while}
use Rattle.grammar_laws.proofs.LocalTokens.{local_refused, local_operand_refused, local_too_deep, local_pure, local_after, local_token, local_expect, local_name, local_node}
use Rattle.grammar_laws.proofs.Tools.{bind_ok, way_then, way_token, way_node, ahead_some, if_ok, same_input}

-- the readings one level further in are local
pub record LocalInside (v : Inner) : Type 0 where
  pub enter : Local v.enter
  pub stays : (i : Input) (u : Unit {0}) (j : Input) → v.enter i ≡ Ok (u, j) → i ≡ j
  pub expr : Local v.expr
  pub unary : Local v.unary

-- a token was taken, and what follows it was read
first_shorter : {A : Type 0} {p : Parser A} {i k : Input} {n : ℕ} {t : Token} → Local p → Way i k n (t ∷ []) → (x : A) (j : Input) → p k ≡ Ok (x, j) → length j.rest < length i.rest
first_shorter {k = k} read w x j h = shorter (way_then w (read.ok k x j h).way)

-- Operators between operands

pub joined_local : (make : Expr → Expr → Expr) (operand : Parser Expr) (x : Expr) → Local operand → Local (joined make operand x)
unfolding joined
joined_local make operand x read = local_followed local_node (λ u. local_followed read (λ y. local_pure (make x y)))

joined_shorter : (make : Expr → Expr → Expr) (operand : Parser Expr) (x : Expr) → Local operand → (i : Input) (y : Expr) (j : Input) (o : Token) → i.rest ≡ o ∷ tail i.rest → joined make operand x i ≡ Ok (y, j) → length j.rest < length i.rest
unfolding joined
joined_shorter make operand x read i y j o rest h =
    let b = bind_ok (take_node i) _ _ h in
    first_shorter (local_followed read (λ z. local_pure (make x z))) (way_node i b.at b.value o rest b.first) y j b.onward

module _ (table : Mark → Option BinOp) (operand : Parser Expr) (read : Local operand) where
  pub operator_local : (x : Expr) → Local (operator table operand x)
  unfolding operator
  operator_local x = local_choose (looked_up table) (λ op. joined_local (Binary op) operand x read) local_refused

  operator_shorter_from : (x : Expr) (i : Input) (y : Expr) (j : Input) (o : Token) (q : Option BinOp) → i.rest ≡ o ∷ tail i.rest → ◌≡◌ {A = Result (Expr × Input) DocFault} (elim q [ Some op ↦ joined (Binary op) operand x i | None ↦ Err (refusal i) ]) (Ok (y, j)) → length j.rest < length i.rest
  operator_shorter_from x i y j o None rest h = absurd cc
  operator_shorter_from x i y j o (Some op) rest h = joined_shorter (Binary op) operand x read i y j o rest h

  pub operator_shorter : (x : Expr) (i : Input) (y : Expr) (j : Input) → begins_operator table (ahead i) ≡ true → operator table operand x i ≡ Ok (y, j) → length j.rest < length i.rest
  unfolding operator
  operator_shorter x i y j t h = let a = ahead_some (begins_operator table) refl i t in operator_shorter_from x i y j a.token (looked_up table (ahead i)) a.rest h

  pub chain_local : Local (chain table operand)
  unfolding chain
  chain_local = local_followed read (local_while (begins_operator table) (operator table operand) refl operator_local operator_shorter)

pub marks_local : (m : Mark) (make : Expr → Expr → Expr) (operand : Parser Expr) → Local operand → (x : Expr) → Local (while_next (is_mark m) (joined make operand) x)
marks_local m make operand read = local_while (is_mark m) (joined make operand) refl (λ x. joined_local make operand x read) (λ x i y j t h. let a = ahead_some (is_mark m) refl i t in joined_shorter make operand x read i y j a.token a.rest h)

-- Operands

pub atom_local : Local atom
unfolding atom
atom_local = local_choose atom_of (λ x. local_followed local_node (λ u. local_pure x)) local_operand_refused

module _ (v : Inner) (inside : LocalInside v) where
  pub parens_local : Local (parens v)
  unfolding parens
  parens_local = local_followed inside.enter (λ u. local_followed local_token (λ w. local_followed inside.expr (λ x. local_followed (local_expect CloseParen) (λ z. local_pure x))))

  pub primary_local : Local (primary v)
  unfolding primary
  primary_local = local_branch (is_mark OpenParen) parens_local atom_local

  pub member_local : (x : Expr) → Local (member x)
  unfolding member
  member_local x = local_followed local_node (λ u. local_followed local_name (λ n. local_pure (Member x n)))

  pub argument_local : (xs : List Expr) → Local (argument v xs)
  unfolding argument
  argument_local xs = local_followed local_token (λ u. local_followed inside.expr (λ x. local_pure (xs ++ x ∷ [])))

  pub argument_shorter : (xs : List Expr) (i : Input) (ys : List Expr) (j : Input) → is_mark Comma (ahead i) ≡ true → argument v xs i ≡ Ok (ys, j) → length j.rest < length i.rest
  unfolding argument
  argument_shorter xs i ys j t h =
      let a = ahead_some (is_mark Comma) refl i t in
      first_shorter (local_followed inside.expr (λ x. local_pure (xs ++ x ∷ []))) (way_token a.token a.rest) ys j h

  pub some_arguments_local : Local (some_arguments v)
  unfolding some_arguments
  some_arguments_local = local_followed inside.expr (λ x. local_followed (local_while (is_mark Comma) (argument v) refl argument_local argument_shorter (x ∷ [])) (λ xs. local_followed (local_expect CloseParen) (λ u. local_pure xs)))

  pub arguments_local : Local (arguments v)
  unfolding arguments
  arguments_local = local_branch (is_mark CloseParen) (local_after []) some_arguments_local

  pub call_local : (x : Expr) → Local (call v x)
  unfolding call
  call_local x = local_followed inside.enter (λ u. local_followed local_node (λ w. local_followed arguments_local (λ xs. local_pure (Call x xs))))

  pub postfix_local : (x : Expr) → Local (postfix v x)
  unfolding postfix
  postfix_local x = local_branch (is_mark Dot) (member_local x) (call_local x)

  pub member_shorter : (x : Expr) (i : Input) (y : Expr) (j : Input) (o : Token) → i.rest ≡ o ∷ tail i.rest → member x i ≡ Ok (y, j) → length j.rest < length i.rest
  unfolding member
  member_shorter x i y j o rest h =
      let b = bind_ok (take_node i) _ _ h in
      first_shorter (local_followed local_name (λ n. local_pure (Member x n))) (way_node i b.at b.value o rest b.first) y j b.onward

  pub call_shorter : (x : Expr) (i : Input) (y : Expr) (j : Input) (o : Token) → i.rest ≡ o ∷ tail i.rest → call v x i ≡ Ok (y, j) → length j.rest < length i.rest
  unfolding call
  call_shorter x i y j o rest h =
      let a = bind_ok (v.enter i) _ _ h in
      let b = bind_ok (take_node a.at) _ _ a.onward in
      let same = inside.stays i a.value a.at a.first in
      let w : Way i b.at 1 (o ∷ []) = way_node i b.at b.value o rest (subst (λ k. take_node k ≡ Ok (b.value, b.at)) (sym same) b.first) in
      first_shorter (local_followed arguments_local (λ xs. local_pure (Call x xs))) w y j b.onward

  pub postfix_shorter : (x : Expr) (i : Input) (y : Expr) (j : Input) → begins_postfix (ahead i) ≡ true → postfix v x i ≡ Ok (y, j) → length j.rest < length i.rest
  unfolding postfix
  postfix_shorter x i y j t h =
      let a = ahead_some begins_postfix refl i t in
      elim (if_ok (is_mark Dot (ahead i)) _ _ _ h) [ inl b ↦ member_shorter x i y j a.token a.rest b.1 | inr b ↦ call_shorter x i y j a.token a.rest b.1 ]

  pub postfixes_local : Local (postfixes v)
  unfolding postfixes
  postfixes_local = local_followed primary_local (local_while begins_postfix (postfix v) refl postfix_local postfix_shorter)

  pub operated_local : (op : UnOp) → Local (operated v op)
  unfolding operated
  operated_local op = local_followed inside.enter (λ u. local_followed local_node (λ w. local_followed inside.unary (λ x. local_pure (Unary op x))))

  pub unary_local : Local (unary_in v)
  unfolding unary_in
  unary_local = local_choose (looked_up unary_operator) operated_local postfixes_local

  pub products_local : Local (products v)
  unfolding products
  products_local = chain_local product_operator (unary_in v) unary_local

  pub sums_local : Local (sums v)
  unfolding sums
  sums_local = chain_local sum_operator (products v) products_local

  pub orders_local : Local (orders v)
  unfolding orders
  orders_local = chain_local order_operator (sums v) sums_local

  pub equalities_local : Local (equalities v)
  unfolding equalities
  equalities_local = chain_local equality_operator (orders v) orders_local

  pub conjunctions_local : Local (conjunctions v)
  unfolding conjunctions
  conjunctions_local = local_followed equalities_local (marks_local DoubleAmpersand (λ y z. And y z) (equalities v) equalities_local)

  pub disjunctions_local : Local (disjunctions v)
  unfolding disjunctions
  disjunctions_local = local_followed conjunctions_local (marks_local DoubleBar (λ y z. Or y z) (conjunctions v) conjunctions_local)

  pub branches_local : (x : Expr) → Local (branches v x)
  unfolding branches
  branches_local x = local_followed inside.enter (λ u. local_followed local_node (λ w. local_followed inside.expr (λ y. local_followed (local_expect Colon) (λ c. local_followed inside.expr (λ z. local_pure (Cond x y z))))))

  pub conditional_local : (x : Expr) → Local (conditional v x)
  unfolding conditional
  conditional_local x = local_branch (is_mark Question) (branches_local x) (local_pure x)

  pub expr_in_local : Local (expr_in v)
  unfolding expr_in
  expr_in_local = local_followed disjunctions_local conditional_local

-- All levels

pub inner_local : (d : ℕ) → LocalInside (inner d)
unfolding inner
inner_local zero = record { enter = local_too_deep; stays = λ i u j h. absurd cc; expr = local_too_deep; unary = local_too_deep }
inner_local (suc d) = record {
  enter = local_pure tt;
  stays = λ i u j h. same_input tt u i j h;
  expr = expr_in_local (inner d) (inner_local d);
  unary = unary_local (inner d) (inner_local d);
}

pub expr_local : (d : ℕ) → Local (expr d)
unfolding expr
expr_local d = expr_in_local (inner d) (inner_local d)
