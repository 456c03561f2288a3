-- What tokens spell an expression: the productions, apart from how they are read. `d` is the number of
-- levels that may still be opened around what is spelled, and `k` the number of its nodes.
use Rattle.std.specs.Prelude.{◌≡◌, ℕ, suc, ◌+◌, true, List, [], ◌∷◌, ◌++◌, Option, Some, None}
use Rattle.qml_ast.specs.declared.expr.BinOp.{BinOp}
use Rattle.qml_ast.specs.declared.expr.Expr.{Expr}
use Rattle.qml_ast.specs.declared.expr.Expr.TheVariants.{Lit, Name, Member, Call, Unary, Binary, And, Or, Cond}
use Rattle.qml_ast.specs.declared.expr.UnOp.{UnOp}
use Rattle.qml_ast.specs.declared.value.Value.{Value}
use Rattle.qml_grammar.specs.Lexemes.{Token, is_mark, name_of, value_of, operand_name_of, looked_up, unary_operator, product_operator, sum_operator, order_operator, equality_operator}
use Rattle.qml_grammar.specs.declared.mark.Mark.{Mark}
use Rattle.qml_grammar.specs.declared.mark.Mark.TheVariants.{OpenParen, CloseParen, Colon, Comma, Dot, Question, DoubleAmpersand, DoubleBar}

-- the token is this mark
abbrev pub IsMark : Token → Mark → Type 0
IsMark t m = is_mark m (Some t) ≡ true

-- the token is the mark of this operator
abbrev pub IsOperator : {A : Type 0} → (Mark → Option A) → Token → A → Type 0
IsOperator table t op = looked_up table (Some t) ≡ Some op

mutual
  -- prim = Integer | Text | Name | "true" | "false" | "null" | "undefined" | "(" expr ")"
  pub data IsPrimary : ℕ → ℕ → List Token → Expr → Type 0 where
    -- Integer | Text | "true" | "false" | "null" | "undefined"
    literal : {d k : ℕ} {ts : List Token} {x : Expr} (t : Token) (v : Value) → k ≡ 1 → ts ≡ t ∷ [] → x ≡ Lit v → value_of (Some t) ≡ Some v → IsPrimary d k ts x
    -- Name
    name : {d k : ℕ} {ts : List Token} {x : Expr} (t : Token) (n : List ℕ) → k ≡ 1 → ts ≡ t ∷ [] → x ≡ Name n → operand_name_of (Some t) ≡ Some n → value_of (Some t) ≡ None → IsPrimary d k ts x
    -- "(" expr ")"
    parens : {d k : ℕ} {ts : List Token} {x : Expr} (c : ℕ) (o : Token) (us : List Token) (z : Token) → d ≡ suc c → ts ≡ o ∷ us ++ z ∷ [] → IsMark o OpenParen → IsExpr c k us x → IsMark z CloseParen → IsPrimary d k ts x

  -- post = prim { "." Name | "(" [ expr { "," expr } ] ")" }
  pub data IsPostfix : ℕ → ℕ → List Token → Expr → Type 0 where
    -- prim
    primary : {d k : ℕ} {ts : List Token} {x : Expr} → IsPrimary d k ts x → IsPostfix d k ts x
    -- post "." Name
    member : {d k : ℕ} {ts : List Token} {x : Expr} (i : ℕ) (us : List Token) (o t : Token) (y : Expr) (n : List ℕ) → k ≡ i + 1 → ts ≡ us ++ o ∷ t ∷ [] → x ≡ Member y n → IsPostfix d i us y → IsMark o Dot → name_of (Some t) ≡ Some n → IsPostfix d k ts x
    -- post "(" ")"
    call_none : {d k : ℕ} {ts : List Token} {x : Expr} (c i : ℕ) (us : List Token) (o z : Token) (y : Expr) → d ≡ suc c → k ≡ i + 1 → ts ≡ us ++ o ∷ z ∷ [] → x ≡ Call y [] → IsPostfix d i us y → IsMark o OpenParen → IsMark z CloseParen → IsPostfix d k ts x
    -- post "(" expr { "," expr } ")"
    call : {d k : ℕ} {ts : List Token} {x : Expr} (c i j : ℕ) (us : List Token) (o : Token) (vs : List Token) (z : Token) (y : Expr) (ys : List Expr) → d ≡ suc c → k ≡ i + 1 + j → ts ≡ us ++ o ∷ vs ++ z ∷ [] → x ≡ Call y ys → IsPostfix d i us y → IsMark o OpenParen → AreArguments c j vs ys → IsMark z CloseParen → IsPostfix d k ts x

  -- expr { "," expr }
  pub data AreArguments : ℕ → ℕ → List Token → List Expr → Type 0 where
    one_argument : {d k : ℕ} {ts : List Token} {xs : List Expr} (x : Expr) → xs ≡ x ∷ [] → IsExpr d k ts x → AreArguments d k ts xs
    more_arguments : {d k : ℕ} {ts : List Token} {xs : List Expr} (i j : ℕ) (us : List Token) (o : Token) (vs : List Token) (ys : List Expr) (z : Expr) → k ≡ i + j → ts ≡ us ++ o ∷ vs → xs ≡ ys ++ z ∷ [] → AreArguments d i us ys → IsMark o Comma → IsExpr d j vs z → AreArguments d k ts xs

  -- un = ( "-" | "+" | "!" ) un | post
  pub data IsUnary : ℕ → ℕ → List Token → Expr → Type 0 where
    operated : {d k : ℕ} {ts : List Token} {x : Expr} (c i : ℕ) (o : Token) (us : List Token) (op : UnOp) (y : Expr) → d ≡ suc c → k ≡ 1 + i → ts ≡ o ∷ us → x ≡ Unary op y → IsOperator unary_operator o op → IsUnary c i us y → IsUnary d k ts x
    postfix : {d k : ℕ} {ts : List Token} {x : Expr} → IsPostfix d k ts x → IsUnary d k ts x

  -- prod = un { ( "*" | "/" | "%" ) un }
  pub data IsProduct : ℕ → ℕ → List Token → Expr → Type 0 where
    unary : {d k : ℕ} {ts : List Token} {x : Expr} → IsUnary d k ts x → IsProduct d k ts x
    times : {d k : ℕ} {ts : List Token} {x : Expr} (i j : ℕ) (us : List Token) (o : Token) (vs : List Token) (op : BinOp) (y z : Expr) → k ≡ i + 1 + j → ts ≡ us ++ o ∷ vs → x ≡ Binary op y z → IsProduct d i us y → IsOperator product_operator o op → IsUnary d j vs z → IsProduct d k ts x

  -- sum = prod { ( "+" | "-" ) prod }
  pub data IsSum : ℕ → ℕ → List Token → Expr → Type 0 where
    product : {d k : ℕ} {ts : List Token} {x : Expr} → IsProduct d k ts x → IsSum d k ts x
    plus : {d k : ℕ} {ts : List Token} {x : Expr} (i j : ℕ) (us : List Token) (o : Token) (vs : List Token) (op : BinOp) (y z : Expr) → k ≡ i + 1 + j → ts ≡ us ++ o ∷ vs → x ≡ Binary op y z → IsSum d i us y → IsOperator sum_operator o op → IsProduct d j vs z → IsSum d k ts x

  -- rel = sum { ( "<" | "<=" | ">" | ">=" ) sum }
  pub data IsOrder : ℕ → ℕ → List Token → Expr → Type 0 where
    sum : {d k : ℕ} {ts : List Token} {x : Expr} → IsSum d k ts x → IsOrder d k ts x
    compare : {d k : ℕ} {ts : List Token} {x : Expr} (i j : ℕ) (us : List Token) (o : Token) (vs : List Token) (op : BinOp) (y z : Expr) → k ≡ i + 1 + j → ts ≡ us ++ o ∷ vs → x ≡ Binary op y z → IsOrder d i us y → IsOperator order_operator o op → IsSum d j vs z → IsOrder d k ts x

  -- eq = rel { ( "==" | "!=" | "===" | "!==" ) rel }
  pub data IsEquality : ℕ → ℕ → List Token → Expr → Type 0 where
    order : {d k : ℕ} {ts : List Token} {x : Expr} → IsOrder d k ts x → IsEquality d k ts x
    equal : {d k : ℕ} {ts : List Token} {x : Expr} (i j : ℕ) (us : List Token) (o : Token) (vs : List Token) (op : BinOp) (y z : Expr) → k ≡ i + 1 + j → ts ≡ us ++ o ∷ vs → x ≡ Binary op y z → IsEquality d i us y → IsOperator equality_operator o op → IsOrder d j vs z → IsEquality d k ts x

  -- and = eq { "&&" eq }
  pub data IsConjunction : ℕ → ℕ → List Token → Expr → Type 0 where
    equality : {d k : ℕ} {ts : List Token} {x : Expr} → IsEquality d k ts x → IsConjunction d k ts x
    both : {d k : ℕ} {ts : List Token} {x : Expr} (i j : ℕ) (us : List Token) (o : Token) (vs : List Token) (y z : Expr) → k ≡ i + 1 + j → ts ≡ us ++ o ∷ vs → x ≡ And y z → IsConjunction d i us y → IsMark o DoubleAmpersand → IsEquality d j vs z → IsConjunction d k ts x

  -- or = and { "||" and }
  pub data IsDisjunction : ℕ → ℕ → List Token → Expr → Type 0 where
    conjunction : {d k : ℕ} {ts : List Token} {x : Expr} → IsConjunction d k ts x → IsDisjunction d k ts x
    either : {d k : ℕ} {ts : List Token} {x : Expr} (i j : ℕ) (us : List Token) (o : Token) (vs : List Token) (y z : Expr) → k ≡ i + 1 + j → ts ≡ us ++ o ∷ vs → x ≡ Or y z → IsDisjunction d i us y → IsMark o DoubleBar → IsConjunction d j vs z → IsDisjunction d k ts x

  -- expr = or [ "?" expr ":" expr ]
  pub data IsExpr : ℕ → ℕ → List Token → Expr → Type 0 where
    disjunction : {d k : ℕ} {ts : List Token} {x : Expr} → IsDisjunction d k ts x → IsExpr d k ts x
    conditional : {d k : ℕ} {ts : List Token} {x : Expr} (c i j l : ℕ) (us : List Token) (o : Token) (vs : List Token) (p : Token) (ws : List Token) (y z w : Expr) → d ≡ suc c → k ≡ i + 1 + j + l → ts ≡ us ++ o ∷ vs ++ p ∷ ws → x ≡ Cond y z w → IsDisjunction d i us y → IsMark o Question → IsExpr c j vs z → IsMark p Colon → IsExpr c l ws w → IsExpr d k ts x
