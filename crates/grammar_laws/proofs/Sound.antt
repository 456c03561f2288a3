-- What is read as an expression is spelled by the productions, level by level.
use Rattle.std.proofs.Common.{◌≡◌, ◌≢◌, ℕ, zero, suc, ◌+◌, ◌≤◌, ◌||◌, Bool, true, false, List, [], ◌∷◌, ◌++◌, Option, Some, None, Result, Ok, Err, inl, inr, refl, sym, ap, subst, ◌∙◌, arith, append_assoc}
use Rattle.std.proofs.lemmas.Bool.{eqb-false}
use Rattle.qml_ast.specs.declared.expr.BinOp.{BinOp}
use Rattle.qml_ast.specs.declared.expr.Expr.{Expr}
use Rattle.qml_ast.specs.declared.expr.Expr.TheVariants.{Lit, Name, Call, Binary, And, Or}
use Rattle.qml_ast.specs.declared.expr.UnOp.{UnOp}
use Rattle.qml_ast.specs.declared.fault.DocFault.{DocFault}
use Rattle.qml_ast.specs.declared.value.Value.{Value}
use Rattle.qml_grammar.specs.ExpressionGrammar.{IsMark, IsOperator, IsPrimary, literal, name, parens as in_parens, IsPostfix, primary as a_primary, member as a_member, call_none, call as a_call, AreArguments, one_argument, more_arguments, IsUnary, operated as an_operated, postfix as a_postfix, IsProduct, unary as a_unary, times, IsSum, product, plus, IsOrder, sum, compare, IsEquality, order, equal, IsConjunction, equality, both, IsDisjunction, conjunction, either, IsExpr, disjunction, conditional as a_conditional}
use Rattle.qml_grammar.specs.Expressions.{Inner, parens, atom, primary, member, argument, some_arguments, arguments, call, begins_postfix, postfix, postfixes, operated, unary_in, joined, begins_operator, operator, chain, products, sums, orders, equalities, conjunctions, disjunctions, branches, conditional, expr_in, inner, expr}
use Rattle.qml_grammar.specs.Inputs.{Input, Parser, ahead, after, refusal, operand_refusal, take_node, expect, any_name, while_next}
use Rattle.qml_grammar.specs.Lexemes.{Token, tail, is_mark, atom_of, value_of, operand_name_of, looked_up, unary_operator, product_operator, sum_operator, order_operator, equality_operator}
use Rattle.qml_grammar.specs.declared.mark.Mark.{Mark}
use Rattle.qml_grammar.specs.declared.mark.Mark.TheVariants.{OpenParen, CloseParen, Colon, Comma, Dot, Question, DoubleAmpersand, DoubleBar}
use Rattle.grammar_laws.specs.Laws.{Way}
use Rattle.grammar_laws.proofs.Growing.{Covers, Adds, covers_to, adds_to, Loops, while_covers}
use Rattle.grammar_laws.proofs.Strength.{strength, Tells, strength_most, tells_postfix, tells_product, tells_sum, tells_order, tells_equality, tells_conjunction, tells_disjunction, tells_question}
use Rattle.grammar_laws.proofs.Tools.{bind_ok, way_then, counted, ahead_some, ahead_gives, way_token, way_node, if_ok, expected, named, same_input}

-- a level was left
pub record Entered (d : ℕ) (i j : Input) : Type 0 where
  pub less : ℕ
  pub one_less : d ≡ suc less
  pub same : i ≡ j

-- the readings one level further in are right
pub record SoundInside (d : ℕ) (v : Inner) : Type 0 where
  pub enter : (i : Input) (u : Unit {0}) (j : Input) → v.enter i ≡ Ok (u, j) → Entered d i j
  pub expr : (c : ℕ) → d ≡ suc c → (i : Input) (x : Expr) (j : Input) → v.expr i ≡ Ok (x, j) → Covers (IsExpr c) 0 i j x
  pub unary : (c : ℕ) → d ≡ suc c → (i : Input) (x : Expr) (j : Input) → v.unary i ≡ Ok (x, j) → Covers (IsUnary c) 7 i j x

-- what ends a loop binds less
below : {test : Option Token → Bool} (t : Option Token) (n : ℕ) → Tells test (suc n) → test t ≡ false → strength t ≤ suc n → strength t ≤ n
below t n tells h most = let ne : strength t ≢ suc n = eqb-false (strength t) (suc n) (sym (tells t) ∙ h) in omega arith

loosened : {Spells : ℕ → List Token → Expr → Type 0} {test : Option Token → Bool} {i j : Input} {x : Expr} (level : ℕ) → Tells test (suc level) → Loops Spells (suc level) test i j x → Covers Spells level i j x
loosened {j = j} level tells w = let c = w.covers in record { nodes = c.nodes; text = c.text; way = c.way; spelled = c.spelled; stops = below (ahead j) level tells w.ends c.stops }

pub lifted : {Operand Spells : ℕ → List Token → Expr → Type 0} {bound : ℕ} {i j : Input} {x : Expr} → ((n : ℕ) (us : List Token) (z : Expr) → Operand n us z → Spells n us z) → Covers Operand bound i j x → Covers Spells bound i j x
lifted {x = x} one c = record { nodes = c.nodes; text = c.text; way = c.way; spelled = one c.nodes c.text x c.spelled; stops = c.stops }

pub or_else : {a b : Bool} → (a || b) ≡ true → a ≡ false → b ≡ true
or_else {a = true} h e = absurd cc
or_else {a = false} h e = h

-- Operators between operands

pub joined_adds : {Spells Operand : ℕ → List Token → Expr → Type 0} {bound : ℕ} (make : Expr → Expr → Expr) (operand : Parser Expr) (x : Expr) (i : Input) (y : Expr) (j : Input) (o : Token) → i.rest ≡ o ∷ tail i.rest → ((k : Input) (z : Expr) (l : Input) → operand k ≡ Ok (z, l) → Covers Operand bound k l z) → ((m k n : ℕ) (us vs : List Token) (z : Expr) → m ≡ k + 1 + n → Spells k us x → Operand n vs z → Spells m (us ++ o ∷ vs) (make x z)) → joined make operand x i ≡ Ok (y, j) → Adds Spells bound x i j y
unfolding joined
joined_adds make operand x i y j o rest sound join h =
    let b = bind_ok (take_node i) _ _ h in
    let c = bind_ok (operand b.at) _ _ b.onward in
    let z = sound b.at c.value c.at c.first in
    adds_to (record {
      nodes = 1 + z.nodes;
      token = o;
      others = z.text;
      way = way_then (way_node i b.at b.value o rest b.first) z.way;
      spelled = λ k us p. join (k + (1 + z.nodes)) k z.nodes us z.text c.value (omega arith) p z.spelled;
      stops = z.stops;
    }) c.onward

module _ (table : Mark → Option BinOp) (operand : Parser Expr) (level : ℕ) (tells : Tells (begins_operator table) (suc level)) (Operand Spells : ℕ → List Token → Expr → Type 0) (sound : (k : Input) (z : Expr) (l : Input) → operand k ≡ Ok (z, l) → Covers Operand (suc level) k l z) (one : (n : ℕ) (us : List Token) (x : Expr) → Operand n us x → Spells n us x) (more : (o : Token) (op : BinOp) (x : Expr) → IsOperator table o op → (m k n : ℕ) (us vs : List Token) (z : Expr) → m ≡ k + 1 + n → Spells k us x → Operand n vs z → Spells m (us ++ o ∷ vs) (Binary op x z)) where
  operator_from : (x : Expr) (i : Input) (y : Expr) (j : Input) (q : Option BinOp) → looked_up table (ahead i) ≡ q → ◌≡◌ {A = Result (Expr × Input) DocFault} (elim q [ Some op ↦ joined (Binary op) operand x i | None ↦ Err (refusal i) ]) (Ok (y, j)) → Adds Spells (suc level) x i j y
  operator_from x i y j None e h = absurd cc
  operator_from x i y j (Some op) e h =
      let t = ahead_gives (looked_up table) refl i op e in
      joined_adds (Binary op) operand x i y j t.token t.rest sound (more t.token op x t.is) h

  pub operator_adds : (x : Expr) (i : Input) (y : Expr) (j : Input) → begins_operator table (ahead i) ≡ true → operator table operand x i ≡ Ok (y, j) → Adds Spells (suc level) x i j y
  unfolding operator
  operator_adds x i y j t h = operator_from x i y j (looked_up table (ahead i)) refl h

  pub chain_covers : (i : Input) (x : Expr) (j : Input) → chain table operand i ≡ Ok (x, j) → Covers Spells level i j x
  unfolding chain
  chain_covers i x j h =
      let b = bind_ok (operand i) _ _ h in
      let c = sound i b.value b.at b.first in
      loosened level tells (while_covers Spells (suc level) (begins_operator table) (operator table operand) refl operator_adds i b.at b.value x j (lifted one c) b.onward)

-- likewise for one mark between operands
module _ (m : Mark) (make : Expr → Expr → Expr) (operand : Parser Expr) (level : ℕ) (tells : Tells (is_mark m) (suc level)) (Operand Spells : ℕ → List Token → Expr → Type 0) (sound : (k : Input) (z : Expr) (l : Input) → operand k ≡ Ok (z, l) → Covers Operand (suc level) k l z) (one : (n : ℕ) (us : List Token) (x : Expr) → Operand n us x → Spells n us x) (more : (o : Token) (x : Expr) → IsMark o m → (m k n : ℕ) (us vs : List Token) (z : Expr) → m ≡ k + 1 + n → Spells k us x → Operand n vs z → Spells m (us ++ o ∷ vs) (make x z)) where
  pub mark_adds : (x : Expr) (i : Input) (y : Expr) (j : Input) → is_mark m (ahead i) ≡ true → joined make operand x i ≡ Ok (y, j) → Adds Spells (suc level) x i j y
  mark_adds x i y j t h = let a = ahead_some (is_mark m) refl i t in joined_adds make operand x i y j a.token a.rest sound (more a.token x a.is) h

  pub marks_cover : (i : Input) (x : Expr) (j k : Input) (y : Expr) → operand i ≡ Ok (y, k) → while_next (is_mark m) (joined make operand) y k ≡ Ok (x, j) → Covers Spells level i j x
  marks_cover i x j k y h g = loosened level tells (while_covers Spells (suc level) (is_mark m) (joined make operand) refl mark_adds i k y x j (lifted one (sound i y k h)) g)

-- Operands

-- what may stand behind "(" in a call, with its ")"
pub data InCall (c : ℕ) (n : ℕ) (ts : List Token) (xs : List Expr) : Type 0 where
  none_given : (z : Token) → n ≡ 0 → ts ≡ z ∷ [] → xs ≡ [] → IsMark z CloseParen → InCall c n ts xs
  given : (vs : List Token) (z : Token) → ts ≡ vs ++ z ∷ [] → AreArguments c n vs xs → IsMark z CloseParen → InCall c n ts xs

module _ (d : ℕ) (v : Inner) (inside : SoundInside d v) where
  pub parens_cover : (i : Input) (x : Expr) (j : Input) → is_mark OpenParen (ahead i) ≡ true → parens v i ≡ Ok (x, j) → Covers (IsPrimary d) 8 i j x
  unfolding parens
  parens_cover i x j t h =
      let o = ahead_some (is_mark OpenParen) refl i t in
      let a = bind_ok (v.enter i) _ _ h in
      let e = inside.enter i a.value a.at a.first in
      let b = bind_ok (v.expr (after a.at)) _ _ a.onward in
      let y = inside.expr e.less e.one_less (after a.at) b.value b.at b.first in
      let c = bind_ok (expect CloseParen b.at) _ _ b.onward in
      let z = expected CloseParen b.at c.at c.value c.first in
      let begin : Way i (after a.at) 0 (o.token ∷ []) = subst (λ k. Way i (after k) 0 (o.token ∷ [])) e.same (way_token o.token o.rest) in
      covers_to (record {
        nodes = y.nodes;
        text = o.token ∷ y.text ++ z.token ∷ [];
        way = counted (omega arith) (way_then begin (way_then y.way z.way));
        spelled = in_parens e.less o.token y.text z.token e.one_less refl o.is y.spelled z.is;
        stops = strength_most (ahead c.at);
      }) c.onward

  literal_or_name : (t : Token) (x : Expr) → atom_of (Some t) ≡ Some x → IsPrimary d 1 (t ∷ []) x
  literal_or_name t x h = by_value (value_of (Some t)) (operand_name_of (Some t)) refl refl h
    where
      by_value : (q : Option Value) (r : Option (List ℕ)) → value_of (Some t) ≡ q → operand_name_of (Some t) ≡ r → ◌≡◌ {A = Option Expr} (elim q [ Some w ↦ Some (Lit w) | None ↦ elim r [ Some n ↦ Some (Name n) | None ↦ None ] ]) (Some x) → IsPrimary d 1 (t ∷ []) x
      by_value (Some w) r e f g = literal t w refl refl (let k : ◌≡◌ {A = Option Expr} (Some x) (Some (Lit w)) = sym g in cc) e
      by_value None (Some n) e f g = name t n refl refl (let k : ◌≡◌ {A = Option Expr} (Some x) (Some (Name n)) = sym g in cc) f e
      by_value None None e f g = absurd cc

  atom_from : (i : Input) (x : Expr) (j : Input) (q : Option Expr) → atom_of (ahead i) ≡ q → ◌≡◌ {A = Result (Expr × Input) DocFault} (elim q [ Some y ↦ elim (take_node i) [ Ok r ↦ Ok (y, r.1) | Err e ↦ Err e ] | None ↦ Err (operand_refusal i) ]) (Ok (x, j)) → Covers (IsPrimary d) 8 i j x
  atom_from i x j None e h = absurd cc
  atom_from i x j (Some y) e h =
      let t = ahead_gives atom_of refl i y e in
      let b = bind_ok (take_node i) _ _ h in
      covers_to (record {
        nodes = 1;
        text = t.token ∷ [];
        way = way_node i b.at b.value t.token t.rest b.first;
        spelled = literal_or_name t.token y t.is;
        stops = strength_most (ahead b.at);
      }) b.onward

  pub atom_covers : (i : Input) (x : Expr) (j : Input) → atom i ≡ Ok (x, j) → Covers (IsPrimary d) 8 i j x
  unfolding atom
  atom_covers i x j h = atom_from i x j (atom_of (ahead i)) refl h

  pub primary_covers : (i : Input) (x : Expr) (j : Input) → primary v i ≡ Ok (x, j) → Covers (IsPrimary d) 8 i j x
  unfolding primary
  primary_covers i x j h = elim (if_ok (is_mark OpenParen (ahead i)) _ _ _ h) [ inl a ↦ parens_cover i x j a.0 a.1 | inr a ↦ atom_covers i x j a.1 ]

  pub member_adds : (x : Expr) (i : Input) (y : Expr) (j : Input) → is_mark Dot (ahead i) ≡ true → member x i ≡ Ok (y, j) → Adds (IsPostfix d) 8 x i j y
  unfolding member
  member_adds x i y j t h =
      let o = ahead_some (is_mark Dot) refl i t in
      let a = bind_ok (take_node i) _ _ h in
      let b = bind_ok (any_name a.at) _ _ a.onward in
      let n = named a.at b.at b.value b.first in
      adds_to (record {
        nodes = 1;
        token = o.token;
        others = n.token ∷ [];
        way = way_then (way_node i a.at a.value o.token o.rest a.first) n.way;
        spelled = λ k us p. a_member k us o.token n.token x b.value (omega arith) refl refl p o.is n.is;
        stops = strength_most (ahead b.at);
      }) b.onward

  pub argument_adds : (c : ℕ) → d ≡ suc c → (xs : List Expr) (i : Input) (ys : List Expr) (j : Input) → is_mark Comma (ahead i) ≡ true → argument v xs i ≡ Ok (ys, j) → Adds (AreArguments c) 0 xs i j ys
  unfolding argument
  argument_adds c e xs i ys j t h =
      let o = ahead_some (is_mark Comma) refl i t in
      let b = bind_ok (v.expr (after i)) _ _ h in
      let y = inside.expr c e (after i) b.value b.at b.first in
      adds_to (record {
        nodes = y.nodes;
        token = o.token;
        others = y.text;
        way = counted (omega arith) (way_then (way_token o.token o.rest) y.way);
        spelled = λ k us p. more_arguments k y.nodes us o.token y.text xs b.value refl refl refl p o.is y.spelled;
        stops = y.stops;
      }) b.onward

  pub some_arguments_cover : (c : ℕ) → d ≡ suc c → (i : Input) (xs : List Expr) (j : Input) → some_arguments v i ≡ Ok (xs, j) → Covers (InCall c) 8 i j xs
  unfolding some_arguments
  some_arguments_cover c e i xs j h =
      let a = bind_ok (v.expr i) _ _ h in
      let x = inside.expr c e i a.value a.at a.first in
      let first : Covers (AreArguments c) 0 i a.at (a.value ∷ []) = record { nodes = x.nodes; text = x.text; way = x.way; spelled = one_argument a.value refl x.spelled; stops = x.stops } in
      let b = bind_ok (while_next (is_mark Comma) (argument v) (a.value ∷ []) a.at) _ _ a.onward in
      let ys = (while_covers (AreArguments c) 0 (is_mark Comma) (argument v) refl (argument_adds c e) i a.at (a.value ∷ []) b.value b.at first b.first).covers in
      let g = bind_ok (expect CloseParen b.at) _ _ b.onward in
      let z = expected CloseParen b.at g.at g.value g.first in
      covers_to (record {
        nodes = ys.nodes;
        text = ys.text ++ z.token ∷ [];
        way = counted (omega arith) (way_then ys.way z.way);
        spelled = given ys.text z.token refl ys.spelled z.is;
        stops = strength_most (ahead g.at);
      }) g.onward

  pub arguments_cover : (c : ℕ) → d ≡ suc c → (i : Input) (xs : List Expr) (j : Input) → arguments v i ≡ Ok (xs, j) → Covers (InCall c) 8 i j xs
  unfolding arguments
  arguments_cover c e i xs j h = elim (if_ok (is_mark CloseParen (ahead i)) _ _ _ h) [
    | inl a ↦ (let z = ahead_some (is_mark CloseParen) refl i a.0 in covers_to (record {
      nodes = 0;
      text = z.token ∷ [];
      way = way_token z.token z.rest;
      spelled = none_given z.token refl refl refl z.is;
      stops = strength_most (ahead (after i));
    }) a.1)
    | inr a ↦ some_arguments_cover c e i xs j a.1
  ]

  pub called : (c : ℕ) → d ≡ suc c → (k : ℕ) (us : List Token) (o : Token) (x : Expr) → IsMark o OpenParen → IsPostfix d k us x → (n : ℕ) (ts : List Token) (xs : List Expr) → InCall c n ts xs → IsPostfix d (k + (1 + n)) (us ++ o ∷ ts) (Call x xs)
  called c e k us o x m p n ts xs (none_given z n_is ts_is xs_is close) = call_none c k us o z x e (omega arith) (ap (λ ws. us ++ o ∷ ws) ts_is) (ap (λ ys. Call x ys) xs_is) p m close
  called c e k us o x m p n ts xs (given vs z ts_is are close) = a_call c k n us o vs z x xs e (omega arith) (rw (ts_is, append_assoc)) refl p m are close

  pub call_adds : (x : Expr) (i : Input) (y : Expr) (j : Input) → is_mark OpenParen (ahead i) ≡ true → call v x i ≡ Ok (y, j) → Adds (IsPostfix d) 8 x i j y
  unfolding call
  call_adds x i y j t h =
      let o = ahead_some (is_mark OpenParen) refl i t in
      let a = bind_ok (v.enter i) _ _ h in
      let e = inside.enter i a.value a.at a.first in
      let b = bind_ok (take_node a.at) _ _ a.onward in
      let c = bind_ok (arguments v b.at) _ _ b.onward in
      let xs = arguments_cover e.less e.one_less b.at c.value c.at c.first in
      let begin : Way i b.at 1 (o.token ∷ []) = way_node i b.at b.value o.token o.rest (subst (λ k. take_node k ≡ Ok (b.value, b.at)) (sym e.same) b.first) in
      adds_to (record {
        nodes = 1 + xs.nodes;
        token = o.token;
        others = xs.text;
        way = way_then begin xs.way;
        spelled = λ k us p. called e.less e.one_less k us o.token x o.is p xs.nodes xs.text c.value xs.spelled;
        stops = strength_most (ahead c.at);
      }) c.onward

  pub postfix_adds : (x : Expr) (i : Input) (y : Expr) (j : Input) → begins_postfix (ahead i) ≡ true → postfix v x i ≡ Ok (y, j) → Adds (IsPostfix d) 8 x i j y
  unfolding postfix
  postfix_adds x i y j t h = elim (if_ok (is_mark Dot (ahead i)) _ _ _ h) [
    | inl a ↦ member_adds x i y j a.0 a.1
    | inr a ↦ call_adds x i y j (or_else t a.0) a.1
  ]

  pub postfixes_cover : (i : Input) (x : Expr) (j : Input) → postfixes v i ≡ Ok (x, j) → Covers (IsPostfix d) 7 i j x
  unfolding postfixes
  postfixes_cover i x j h =
      let b = bind_ok (primary v i) _ _ h in
      let c = primary_covers i b.value b.at b.first in
      loosened 7 tells_postfix (while_covers (IsPostfix d) 8 begins_postfix (postfix v) refl postfix_adds i b.at b.value x j (lifted (λ n us z p. a_primary p) c) b.onward)

  pub operated_covers : (op : UnOp) (i : Input) (x : Expr) (j : Input) → looked_up unary_operator (ahead i) ≡ Some op → operated v op i ≡ Ok (x, j) → Covers (IsUnary d) 7 i j x
  unfolding operated
  operated_covers op i x j t h =
      let o = ahead_gives (looked_up unary_operator) refl i op t in
      let a = bind_ok (v.enter i) _ _ h in
      let e = inside.enter i a.value a.at a.first in
      let b = bind_ok (take_node a.at) _ _ a.onward in
      let c = bind_ok (v.unary b.at) _ _ b.onward in
      let y = inside.unary e.less e.one_less b.at c.value c.at c.first in
      let begin : Way i b.at 1 (o.token ∷ []) = way_node i b.at b.value o.token o.rest (subst (λ k. take_node k ≡ Ok (b.value, b.at)) (sym e.same) b.first) in
      covers_to (record {
        nodes = 1 + y.nodes;
        text = o.token ∷ y.text;
        way = way_then begin y.way;
        spelled = an_operated e.less y.nodes o.token y.text op c.value e.one_less refl refl refl o.is y.spelled;
        stops = y.stops;
      }) c.onward

  unary_from : (i : Input) (x : Expr) (j : Input) (q : Option UnOp) → looked_up unary_operator (ahead i) ≡ q → ◌≡◌ {A = Result (Expr × Input) DocFault} (elim q [ Some op ↦ operated v op i | None ↦ postfixes v i ]) (Ok (x, j)) → Covers (IsUnary d) 7 i j x
  unary_from i x j None e h = lifted (λ n us z p. a_postfix p) (postfixes_cover i x j h)
  unary_from i x j (Some op) e h = operated_covers op i x j e h

  pub unary_covers : (i : Input) (x : Expr) (j : Input) → unary_in v i ≡ Ok (x, j) → Covers (IsUnary d) 7 i j x
  unfolding unary_in
  unary_covers i x j h = unary_from i x j (looked_up unary_operator (ahead i)) refl h

  pub products_cover : (i : Input) (x : Expr) (j : Input) → products v i ≡ Ok (x, j) → Covers (IsProduct d) 6 i j x
  unfolding products
  products_cover = chain_covers product_operator (unary_in v) 6 tells_product (IsUnary d) (IsProduct d) unary_covers (λ n us x p. a_unary p) (λ o op x t m k n us vs z e p q. times k n us o vs op x z e refl refl p t q)

  pub sums_cover : (i : Input) (x : Expr) (j : Input) → sums v i ≡ Ok (x, j) → Covers (IsSum d) 5 i j x
  unfolding sums
  sums_cover = chain_covers sum_operator (products v) 5 tells_sum (IsProduct d) (IsSum d) products_cover (λ n us x p. product p) (λ o op x t m k n us vs z e p q. plus k n us o vs op x z e refl refl p t q)

  pub orders_cover : (i : Input) (x : Expr) (j : Input) → orders v i ≡ Ok (x, j) → Covers (IsOrder d) 4 i j x
  unfolding orders
  orders_cover = chain_covers order_operator (sums v) 4 tells_order (IsSum d) (IsOrder d) sums_cover (λ n us x p. sum p) (λ o op x t m k n us vs z e p q. compare k n us o vs op x z e refl refl p t q)

  pub equalities_cover : (i : Input) (x : Expr) (j : Input) → equalities v i ≡ Ok (x, j) → Covers (IsEquality d) 3 i j x
  unfolding equalities
  equalities_cover = chain_covers equality_operator (orders v) 3 tells_equality (IsOrder d) (IsEquality d) orders_cover (λ n us x p. order p) (λ o op x t m k n us vs z e p q. equal k n us o vs op x z e refl refl p t q)

  pub conjunctions_cover : (i : Input) (x : Expr) (j : Input) → conjunctions v i ≡ Ok (x, j) → Covers (IsConjunction d) 2 i j x
  unfolding conjunctions
  conjunctions_cover i x j h =
      let b = bind_ok (equalities v i) _ _ h in
      marks_cover DoubleAmpersand (λ y z. And y z) (equalities v) 2 tells_conjunction (IsEquality d) (IsConjunction d) equalities_cover (λ n us y p. equality p) (λ o y t m k n us vs z e p q. both k n us o vs y z e refl refl p t q) i x j b.at b.value b.first b.onward

  pub disjunctions_cover : (i : Input) (x : Expr) (j : Input) → disjunctions v i ≡ Ok (x, j) → Covers (IsDisjunction d) 1 i j x
  unfolding disjunctions
  disjunctions_cover i x j h =
      let b = bind_ok (conjunctions v i) _ _ h in
      marks_cover DoubleBar (λ y z. Or y z) (conjunctions v) 1 tells_disjunction (IsConjunction d) (IsDisjunction d) conjunctions_cover (λ n us y p. conjunction p) (λ o y t m k n us vs z e p q. either k n us o vs y z e refl refl p t q) i x j b.at b.value b.first b.onward

  pub branches_cover : (o i : Input) (x : Expr) (y : Expr) (j : Input) → is_mark Question (ahead i) ≡ true → Covers (IsDisjunction d) 1 o i x → branches v x i ≡ Ok (y, j) → Covers (IsExpr d) 0 o j y
  unfolding branches
  branches_cover o i x y j t w h =
      let q = ahead_some (is_mark Question) refl i t in
      let a = bind_ok (v.enter i) _ _ h in
      let e = inside.enter i a.value a.at a.first in
      let b = bind_ok (take_node a.at) _ _ a.onward in
      let c = bind_ok (v.expr b.at) _ _ b.onward in
      let y = inside.expr e.less e.one_less b.at c.value c.at c.first in
      let f = bind_ok (expect Colon c.at) _ _ c.onward in
      let p = expected Colon c.at f.at f.value f.first in
      let g = bind_ok (v.expr f.at) _ _ f.onward in
      let z = inside.expr e.less e.one_less f.at g.value g.at g.first in
      let begin : Way i b.at 1 (q.token ∷ []) = way_node i b.at b.value q.token q.rest (subst (λ k. take_node k ≡ Ok (b.value, b.at)) (sym e.same) b.first) in
      covers_to (record {
        nodes = w.nodes + 1 + y.nodes + z.nodes;
        text = w.text ++ q.token ∷ y.text ++ p.token ∷ z.text;
        way = counted (omega arith) (way_then (way_then w.way (way_then begin y.way)) (way_then p.way z.way));
        spelled = a_conditional e.less w.nodes y.nodes z.nodes w.text q.token y.text p.token z.text x c.value g.value e.one_less refl refl refl w.spelled q.is y.spelled p.is z.spelled;
        stops = z.stops;
      }) g.onward

  pub conditional_covers : (o i : Input) (x : Expr) (y : Expr) (j : Input) → Covers (IsDisjunction d) 1 o i x → conditional v x i ≡ Ok (y, j) → Covers (IsExpr d) 0 o j y
  unfolding conditional
  conditional_covers o i x y j w h = elim (if_ok (is_mark Question (ahead i)) _ _ _ h) [
    | inl a ↦ branches_cover o i x y j a.0 w a.1
    | inr a ↦ covers_to (record {
      nodes = w.nodes;
      text = w.text;
      way = w.way;
      spelled = disjunction w.spelled;
      stops = below (ahead i) 0 tells_question a.0 w.stops;
    }) a.1
  ]

  pub expr_covers : (i : Input) (x : Expr) (j : Input) → expr_in v i ≡ Ok (x, j) → Covers (IsExpr d) 0 i j x
  unfolding expr_in
  expr_covers i x j h =
      let b = bind_ok (disjunctions v i) _ _ h in
      conditional_covers i b.at b.value x j (disjunctions_cover i b.value b.at b.first) b.onward

-- All levels

no_level : (c : ℕ) → 0 ≡ suc c → ⊥
no_level c e = omega arith

enter_same : (d : ℕ) (i : Input) (u : Unit {0}) (j : Input) → ◌≡◌ {A = Result (Unit {0} × Input) DocFault} (Ok (tt, i)) (Ok (u, j)) → Entered (suc d) i j
enter_same d i u j h = record { less = d; one_less = refl; same = same_input tt u i j h }

one_level : (c d : ℕ) → suc d ≡ suc c → d ≡ c
one_level c d e = omega arith

pub sound : (d : ℕ) → SoundInside d (inner d)
unfolding inner
sound zero = record {
  enter = λ i u j h. absurd cc;
  expr = λ c e i x j h. absurd (no_level c e);
  unary = λ c e i x j h. absurd (no_level c e);
}
sound (suc d) = record {
  enter = λ i u j h. enter_same d i u j h;
  expr = λ c e i x j h. subst (λ n. Covers (IsExpr n) 0 i j x) (one_level c d e) (expr_covers d (inner d) (sound d) i x j h);
  unary = λ c e i x j h. subst (λ n. Covers (IsUnary n) 7 i j x) (one_level c d e) (unary_covers d (inner d) (sound d) i x j h);
}

pub expr_sound : (d : ℕ) (i : Input) (x : Expr) (j : Input) → expr d i ≡ Ok (x, j) → Covers (IsExpr d) 0 i j x
unfolding expr
expr_sound d = expr_covers d (inner d) (sound d)
