-- The canonical text of expressions, as bytes.
use Rattle.std.specs.Prelude.{ℕ, suc, ◌==◌, nat_lt, Bool, false, if◌then◌else◌, List, [], ◌∷◌, ◌++◌, flat_map, map, codes}
use Rattle.qml_ast.specs.TextForm.{text_of, byte_text}
use Rattle.qml_ast.specs.declared.expr.BinOp.{BinOp}
use Rattle.qml_ast.specs.declared.expr.BinOp.TheVariants.{Add, Sub, Mul, Div, Rem, Lt, Le, Gt, Ge, Eq, Ne, Eq3, Ne3}
use Rattle.qml_ast.specs.declared.expr.Expr.{Expr, fold-Expr}
use Rattle.qml_ast.specs.declared.expr.Expr.TheOpen.{Expr-F}
use Rattle.qml_ast.specs.declared.expr.UnOp.{UnOp}
use Rattle.qml_ast.specs.declared.expr.UnOp.TheVariants.{Neg, Plus, Not}
use Rattle.qml_ast.specs.declared.value.Value.{Value}
use Rattle.qml_ast.specs.declared.value.Value.TheVariants.{Str}

-- texts with another one between each two
abbrev pub join : List ℕ → List (List ℕ) → List ℕ
join between [] = []
join between (x ∷ []) = x
join between (x ∷ y ∷ rest) = x ++ (between ++ join between (y ∷ rest))

-- Texts

-- a byte of a text, between quotes
abbrev pub escaped : ℕ → List ℕ
escaped b =
    if b == 34 then codes "\\\""
    else (if b == 92 then codes "\\\\"
    else (if b == 10 then codes "\\n"
    else (if b == 9 then codes "\\t"
    else (if b == 13 then codes "\\r"
    else (if nat_lt b 32 then codes "\\u00" ++ byte_text b
    else b ∷ [])))))

abbrev pub quoted : List ℕ → List ℕ
quoted s = codes "\"" ++ (flat_map escaped s ++ codes "\"")

-- a literal
abbrev pub literal_text : Value → List ℕ
literal_text (Str s) = quoted s
literal_text v = text_of v

-- Operators

abbrev pub unary_text : UnOp → List ℕ
unary_text Neg = codes "-"
unary_text Plus = codes "+"
unary_text Not = codes "!"

abbrev pub binary_text : BinOp → List ℕ
binary_text Add = codes " + "
binary_text Sub = codes " - "
binary_text Mul = codes " * "
binary_text Div = codes " / "
binary_text Rem = codes " % "
binary_text Lt = codes " < "
binary_text Le = codes " <= "
binary_text Gt = codes " > "
binary_text Ge = codes " >= "
binary_text Eq = codes " == "
binary_text Ne = codes " != "
binary_text Eq3 = codes " === "
binary_text Ne3 = codes " !== "

-- How tightly a form binds: a conditional 0, `||` 1, `&&` 2, equalities 3, orders 4, sums 5, products 6,
-- unary operators 7, members and calls 8, the rest 9
abbrev pub binary_strength : BinOp → ℕ
binary_strength Add = 5
binary_strength Sub = 5
binary_strength Mul = 6
binary_strength Div = 6
binary_strength Rem = 6
binary_strength Lt = 4
binary_strength Le = 4
binary_strength Gt = 4
binary_strength Ge = 4
binary_strength Eq = 3
binary_strength Ne = 3
binary_strength Eq3 = 3
binary_strength Ne3 = 3

-- Expressions

-- an expression's text, and how tightly its outermost form binds
pub record Printed : Type 0 where
  pub text : List ℕ
  pub strength : ℕ

-- as it stands where only what binds as tightly as this may stand bare
abbrev pub bound : ℕ → Printed → List ℕ
bound least x = if nat_lt x.strength least then codes "(" ++ (x.text ++ codes ")") else x.text

abbrev pub begins_with : ℕ → List ℕ → Bool
begins_with b [] = false
begins_with b (c ∷ cs) = b == c

-- what parts an operator from its operand
abbrev pub unary_space : UnOp → List ℕ → List ℕ
unary_space Neg operand = if begins_with 45 operand then codes " " else []
unary_space Plus operand = if begins_with 43 operand then codes " " else []
unary_space Not operand = []

-- an operator between operands, which groups to the left
abbrev pub infix_text : ℕ → List ℕ → Printed → Printed → Printed
infix_text strength operator x y = record { text = bound strength x ++ (operator ++ bound (suc strength) y); strength = strength }

abbrev pub expr_step : Expr-F Printed → Printed
expr_step (Expr-F.Lit v) = record { text = literal_text v; strength = 9 }
expr_step (Expr-F.Name n) = record { text = n; strength = 9 }
expr_step (Expr-F.Member x n) = record { text = bound 8 x ++ (codes "." ++ n); strength = 8 }
expr_step (Expr-F.Call x ys) = record { text = bound 8 x ++ (codes "(" ++ (join (codes ", ") (map (bound 0) ys) ++ codes ")")); strength = 8 }
expr_step (Expr-F.Unary op x) = record { text = unary_text op ++ (unary_space op (bound 7 x) ++ bound 7 x); strength = 7 }
expr_step (Expr-F.Binary op x y) = infix_text (binary_strength op) (binary_text op) x y
expr_step (Expr-F.And x y) = infix_text 2 (codes " && ") x y
expr_step (Expr-F.Or x y) = infix_text 1 (codes " || ") x y
expr_step (Expr-F.Cond x y z) = record { text = bound 1 x ++ (codes " ? " ++ (bound 0 y ++ (codes " : " ++ bound 0 z))); strength = 0 }

abbrev pub printed : Expr → Printed
printed = fold-Expr Printed expr_step

-- an expression where any may stand bare
abbrev pub expr_text : Expr → List ℕ
expr_text x = bound 0 (printed x)
