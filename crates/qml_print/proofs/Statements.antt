-- The text of a statement from the texts of its parts, behind what is written.
use Rattle.std.proofs.Common.{◌≡◌, ◌∙◌, ℕ, List, [], ◌++◌, codes, map, Bool, ◌⊎◌, inl, inr, Option, Result, IfOk, sym, ap, subst}
use Rattle.std.specs.Prelude.{option_map}
use Rattle.std.proofs.lemmas.List.{append_assoc}
use Rattle.qml_ast.specs.declared.expr.Expr.{Expr}
use Rattle.qml_ast.specs.declared.stmt.AssignOp.{AssignOp}
use Rattle.qml_ast.specs.declared.stmt.LocalWord.{LocalWord}
use Rattle.qml_ast.specs.declared.stmt.Stmt.{Stmt}
use Rattle.qml_ast.specs.declared.stmt.Stmt.TheVariants.{Local, Assign, Step, Do, Empty, Return, Block, If, While, For}
use Rattle.qml_grammar.specs.Canonical.{short, stmt_lined, stmt_text, braced, for_head, maybe_text}
use Rattle.qml_grammar.specs.CanonicalExpressions.{expr_text}
use Rattle.qml_grammar.proofs.LinedForms.{stmt-Local, stmt-Assign, stmt-Step, stmt-Do, stmt-Empty, stmt-Return, lined-Block, lined-If, lined-While, lined-For}
use Rattle.qml_print.proofs.Joins.{map_twice}

-- what is written is another text that is the same
pub rewritten : {A E : Type 0} (r : Result A E) (written a b : List ℕ) → a ≡ b → IfOk r (λ _. written ≡ a) → IfOk r (λ _. written ≡ b)
rewritten r written a b e h = subst (λ text. IfOk r (λ _. written ≡ text)) e h

-- four texts one behind another
four : (a b c d w x y z : List ℕ) → b ≡ a ++ w → c ≡ b ++ x → d ≡ c ++ y → d ++ z ≡ a ++ (w ++ (x ++ (y ++ z)))
four a b c d w x y z e f g =
    ap (λ text. text ++ z) (g ∙ ap (λ text. text ++ y) (f ∙ ap (λ text. text ++ x) e))
    ∙ append_assoc ((a ++ w) ++ x) y z
    ∙ append_assoc (a ++ w) x (y ++ z)
    ∙ append_assoc a w (x ++ (y ++ z))

pub block_text : (stmt : Stmt) (xs : List Stmt) (levels : ℕ) (a : List ℕ) → stmt ≡ Block xs → a ++ braced (map stmt_text xs) levels ≡ a ++ stmt_text stmt levels
block_text stmt xs levels a is =
    ap (λ texts. a ++ braced texts levels) (sym (map_twice (λ s. s.lined) stmt_lined xs))
    ∙ ap (λ text. a ++ text) (sym (ap (λ s. stmt_text s levels) is ∙ lined-Block xs levels))

pub if_text : (stmt : Stmt) (x : Expr) (y : Stmt) (z : Option Stmt) (levels : ℕ) (a b c d e : List ℕ) → stmt ≡ If x y z →
    b ≡ a ++ codes "if (" → c ≡ b ++ expr_text x → d ≡ c ++ codes ") " → e ≡ d ++ stmt_text y levels →
    e ++ maybe_text (codes " else ") (λ s. s.lined levels) (option_map stmt_lined z) ≡ a ++ stmt_text stmt levels
if_text stmt x y z levels a b c d e is to_b to_c to_d to_e =
    let rest : List ℕ = maybe_text (codes " else ") (λ s. s.lined levels) (option_map stmt_lined z) in
    ap (λ text. text ++ rest) to_e
    ∙ append_assoc d (stmt_text y levels) rest
    ∙ four a b c d (codes "if (") (expr_text x) (codes ") ") (stmt_text y levels ++ rest) to_b to_c to_d
    ∙ ap (λ text. a ++ text) (sym (ap (λ s. stmt_text s levels) is ∙ lined-If x y z levels))

pub while_text : (stmt : Stmt) (x : Expr) (y : Stmt) (levels : ℕ) (a b c d : List ℕ) → stmt ≡ While x y →
    b ≡ a ++ codes "while (" → c ≡ b ++ expr_text x → d ≡ c ++ codes ") " → d ++ stmt_text y levels ≡ a ++ stmt_text stmt levels
while_text stmt x y levels a b c d is to_b to_c to_d =
    four a b c d (codes "while (") (expr_text x) (codes ") ") (stmt_text y levels) to_b to_c to_d
    ∙ ap (λ text. a ++ text) (sym (ap (λ s. stmt_text s levels) is ∙ lined-While x y levels))

pub for_text : (stmt : Stmt) (first : Option Stmt) (x : Option Expr) (step : Option Stmt) (y : Stmt) (levels : ℕ) (a b : List ℕ) → stmt ≡ For first x step y →
    b ≡ a ++ for_head (option_map stmt_lined first) x (option_map stmt_lined step) → b ++ stmt_text y levels ≡ a ++ stmt_text stmt levels
for_text stmt first x step y levels a b is to_b =
    ap (λ text. text ++ stmt_text y levels) to_b
    ∙ append_assoc a (for_head (option_map stmt_lined first) x (option_map stmt_lined step)) (stmt_text y levels)
    ∙ ap (λ text. a ++ text) (sym (ap (λ s. stmt_text s levels) is ∙ lined-For first x step y levels))

-- the statement is of a form that ends in a `;`
abbrev pub IsSimple : Stmt → Type 0
IsSimple stmt =
    ((w : LocalWord) × (n : List ℕ) × (x : Option Expr) × (stmt ≡ Local w n x))
    ⊎ (((x : Expr) × (op : AssignOp) × (y : Expr) × (stmt ≡ Assign x op y))
    ⊎ (((x : Expr) × (up : Bool) × (stmt ≡ Step x up))
    ⊎ (((x : Expr) × (stmt ≡ Do x))
    ⊎ ((stmt ≡ Empty)
    ⊎ ((x : Option Expr) × (stmt ≡ Return x))))))

abbrev Ends : ℕ → Stmt → Type 0
Ends levels stmt = stmt_text stmt levels ≡ (stmt_lined stmt).bare ++ codes ";"

end_with : (levels : ℕ) (stmt form : Stmt) (text : List ℕ) → stmt ≡ form → stmt_lined form ≡ short text → Ends levels stmt
end_with levels stmt form text is e =
    subst (Ends levels) (sym is) (ap (λ l. l.lined levels) e ∙ ap (λ l. l.bare ++ codes ";") (sym e))

-- such a statement is its text in the head of a `for`, and a `;`
simple_ends : (levels : ℕ) (stmt : Stmt) → IsSimple stmt → Ends levels stmt
simple_ends levels stmt (inl p) = end_with levels stmt (Local p.0 p.1 p.2) _ p.3 (stmt-Local p.0 p.1 p.2)
simple_ends levels stmt (inr (inl p)) = end_with levels stmt (Assign p.0 p.1 p.2) _ p.3 (stmt-Assign p.0 p.1 p.2)
simple_ends levels stmt (inr (inr (inl p))) = end_with levels stmt (Step p.0 p.1) _ p.2 (stmt-Step p.0 p.1)
simple_ends levels stmt (inr (inr (inr (inl p)))) = end_with levels stmt (Do p.0) _ p.1 (stmt-Do p.0)
simple_ends levels stmt (inr (inr (inr (inr (inl is))))) = end_with levels stmt Empty [] is stmt-Empty
simple_ends levels stmt (inr (inr (inr (inr (inr p))))) = end_with levels stmt (Return p.0) _ p.1 (stmt-Return p.0)

pub simple_text : (stmt : Stmt) (levels : ℕ) (a b : List ℕ) → IsSimple stmt → b ≡ a ++ (stmt_lined stmt).bare → b ++ codes ";" ≡ a ++ stmt_text stmt levels
simple_text stmt levels a b simple to_b =
    ap (λ text. text ++ codes ";") to_b
    ∙ append_assoc a (stmt_lined stmt).bare (codes ";")
    ∙ ap (λ text. a ++ text) (sym (simple_ends levels stmt simple))
