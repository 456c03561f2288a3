-- The text of each form of expression, by the texts of its parts.
use Rattle.std.proofs.Common.{◌≡◌, ℕ, List, map, ap, sym, ◌∙◌}
use Rattle.qml_ast.specs.declared.expr.BinOp.{BinOp}
use Rattle.qml_ast.specs.declared.expr.Expr.{Expr, fold-roll-Expr}
use Rattle.qml_ast.specs.declared.expr.Expr.TheOpen.{Expr-F}
use Rattle.qml_ast.specs.declared.expr.Expr.TheVariants.{Lit, rolls-Lit, Name, rolls-Name, Member, rolls-Member, Call, rolls-Call, Unary, rolls-Unary, Binary, rolls-Binary, And, rolls-And, Or, rolls-Or, Cond, rolls-Cond}
use Rattle.qml_ast.specs.declared.expr.UnOp.{UnOp}
use Rattle.qml_ast.specs.declared.value.Value.{Value}
use Rattle.qml_grammar.specs.CanonicalExpressions.{Printed, printed, expr_step}

pub printed-Lit : (v : Value) → printed (Lit v) ≡ expr_step (Expr-F.Lit v)
printed-Lit v = ap printed (sym (rolls-Lit v)) ∙ fold-roll-Expr Printed expr_step (Expr-F.Lit v)

pub printed-Name : (n : List ℕ) → printed (Name n) ≡ expr_step (Expr-F.Name n)
printed-Name n = ap printed (sym (rolls-Name n)) ∙ fold-roll-Expr Printed expr_step (Expr-F.Name n)

pub printed-Member : (x : Expr) (n : List ℕ) → printed (Member x n) ≡ expr_step (Expr-F.Member (printed x) n)
printed-Member x n = ap printed (sym (rolls-Member x n)) ∙ fold-roll-Expr Printed expr_step (Expr-F.Member x n)

pub printed-Call : (x : Expr) (ys : List Expr) → printed (Call x ys) ≡ expr_step (Expr-F.Call (printed x) (map printed ys))
printed-Call x ys = ap printed (sym (rolls-Call x ys)) ∙ fold-roll-Expr Printed expr_step (Expr-F.Call x ys)

pub printed-Unary : (op : UnOp) (x : Expr) → printed (Unary op x) ≡ expr_step (Expr-F.Unary op (printed x))
printed-Unary op x = ap printed (sym (rolls-Unary op x)) ∙ fold-roll-Expr Printed expr_step (Expr-F.Unary op x)

pub printed-Binary : (op : BinOp) (x y : Expr) → printed (Binary op x y) ≡ expr_step (Expr-F.Binary op (printed x) (printed y))
printed-Binary op x y = ap printed (sym (rolls-Binary op x y)) ∙ fold-roll-Expr Printed expr_step (Expr-F.Binary op x y)

pub printed-And : (x y : Expr) → printed (And x y) ≡ expr_step (Expr-F.And (printed x) (printed y))
printed-And x y = ap printed (sym (rolls-And x y)) ∙ fold-roll-Expr Printed expr_step (Expr-F.And x y)

pub printed-Or : (x y : Expr) → printed (Or x y) ≡ expr_step (Expr-F.Or (printed x) (printed y))
printed-Or x y = ap printed (sym (rolls-Or x y)) ∙ fold-roll-Expr Printed expr_step (Expr-F.Or x y)

pub printed-Cond : (x y z : Expr) → printed (Cond x y z) ≡ expr_step (Expr-F.Cond (printed x) (printed y) (printed z))
printed-Cond x y z = ap printed (sym (rolls-Cond x y z)) ∙ fold-roll-Expr Printed expr_step (Expr-F.Cond x y z)
