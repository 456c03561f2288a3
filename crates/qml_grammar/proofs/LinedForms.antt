-- The text of each form of statement, by the texts of its parts.
use Rattle.std.proofs.Common.{◌≡◌, ℕ, Bool, if◌then◌else◌, List, [], ◌++◌, codes, map, Option, Some, None, ap, sym, ◌∙◌}
use Rattle.std.specs.Prelude.{option_map}
use Rattle.qml_ast.specs.declared.expr.Expr.{Expr}
use Rattle.qml_ast.specs.declared.stmt.AssignOp.{AssignOp}
use Rattle.qml_ast.specs.declared.stmt.LocalWord.{LocalWord}
use Rattle.qml_ast.specs.declared.stmt.Stmt.{Stmt, fold-roll-Stmt}
use Rattle.qml_ast.specs.declared.stmt.Stmt.TheOpen.{Stmt-F}
use Rattle.qml_ast.specs.declared.stmt.Stmt.TheVariants.{Local, rolls-Local, Assign, rolls-Assign, Step, rolls-Step, Do, rolls-Do, Block, rolls-Block, Empty, rolls-Empty, If, rolls-If, While, rolls-While, For, rolls-For, Return, rolls-Return}
use Rattle.qml_grammar.specs.Canonical.{Lined, stmt_lined, stmt_step, local_word_text, assign_text, maybe_text}
use Rattle.qml_grammar.specs.CanonicalExpressions.{expr_text}

pub stmt-Local : (w : LocalWord) (n : List ℕ) (x : Option Expr) → stmt_lined (Local w n x) ≡ stmt_step (Stmt-F.Local w n x)
stmt-Local w n x = ap stmt_lined (sym (rolls-Local w n x)) ∙ fold-roll-Stmt Lined stmt_step (Stmt-F.Local w n x)

pub stmt-Assign : (x : Expr) (op : AssignOp) (y : Expr) → stmt_lined (Assign x op y) ≡ stmt_step (Stmt-F.Assign x op y)
stmt-Assign x op y = ap stmt_lined (sym (rolls-Assign x op y)) ∙ fold-roll-Stmt Lined stmt_step (Stmt-F.Assign x op y)

pub stmt-Step : (x : Expr) (up : Bool) → stmt_lined (Step x up) ≡ stmt_step (Stmt-F.Step x up)
stmt-Step x up = ap stmt_lined (sym (rolls-Step x up)) ∙ fold-roll-Stmt Lined stmt_step (Stmt-F.Step x up)

pub stmt-Do : (x : Expr) → stmt_lined (Do x) ≡ stmt_step (Stmt-F.Do x)
stmt-Do x = ap stmt_lined (sym (rolls-Do x)) ∙ fold-roll-Stmt Lined stmt_step (Stmt-F.Do x)

pub stmt-Block : (xs : List Stmt) → stmt_lined (Block xs) ≡ stmt_step (Stmt-F.Block (map stmt_lined xs))
stmt-Block xs = ap stmt_lined (sym (rolls-Block xs)) ∙ fold-roll-Stmt Lined stmt_step (Stmt-F.Block xs)

pub stmt-Empty : stmt_lined Empty ≡ stmt_step Stmt-F.Empty
stmt-Empty = ap stmt_lined (sym rolls-Empty) ∙ fold-roll-Stmt Lined stmt_step Stmt-F.Empty

pub stmt-If : (x : Expr) (y : Stmt) (z : Option Stmt) → stmt_lined (If x y z) ≡ stmt_step (Stmt-F.If x (stmt_lined y) (option_map stmt_lined z))
stmt-If x y None = ap stmt_lined (sym (rolls-If x y None)) ∙ fold-roll-Stmt Lined stmt_step (Stmt-F.If x y None)
stmt-If x y (Some z) = ap stmt_lined (sym (rolls-If x y (Some z))) ∙ fold-roll-Stmt Lined stmt_step (Stmt-F.If x y (Some z))

pub stmt-While : (x : Expr) (y : Stmt) → stmt_lined (While x y) ≡ stmt_step (Stmt-F.While x (stmt_lined y))
stmt-While x y = ap stmt_lined (sym (rolls-While x y)) ∙ fold-roll-Stmt Lined stmt_step (Stmt-F.While x y)

pub stmt-For : (a : Option Stmt) (x : Option Expr) (b : Option Stmt) (y : Stmt) → stmt_lined (For a x b y) ≡ stmt_step (Stmt-F.For (option_map stmt_lined a) x (option_map stmt_lined b) (stmt_lined y))
stmt-For None x None y = ap stmt_lined (sym (rolls-For None x None y)) ∙ fold-roll-Stmt Lined stmt_step (Stmt-F.For None x None y)
stmt-For None x (Some b) y = ap stmt_lined (sym (rolls-For None x (Some b) y)) ∙ fold-roll-Stmt Lined stmt_step (Stmt-F.For None x (Some b) y)
stmt-For (Some a) x None y = ap stmt_lined (sym (rolls-For (Some a) x None y)) ∙ fold-roll-Stmt Lined stmt_step (Stmt-F.For (Some a) x None y)
stmt-For (Some a) x (Some b) y = ap stmt_lined (sym (rolls-For (Some a) x (Some b) y)) ∙ fold-roll-Stmt Lined stmt_step (Stmt-F.For (Some a) x (Some b) y)

pub stmt-Return : (x : Option Expr) → stmt_lined (Return x) ≡ stmt_step (Stmt-F.Return x)
stmt-Return x = ap stmt_lined (sym (rolls-Return x)) ∙ fold-roll-Stmt Lined stmt_step (Stmt-F.Return x)

pub lined-Local : (w : LocalWord) (n : List ℕ) (x : Option Expr) (levels : ℕ) → (stmt_lined (Local w n x)).lined levels ≡ (local_word_text w ++ (n ++ maybe_text (codes " = ") expr_text x)) ++ codes ";"
lined-Local w n x levels = ap (λ l. l.lined levels) (stmt-Local w n x)

pub bare-Local : (w : LocalWord) (n : List ℕ) (x : Option Expr) → (stmt_lined (Local w n x)).bare ≡ local_word_text w ++ (n ++ maybe_text (codes " = ") expr_text x)
bare-Local w n x = ap (λ l. l.bare) (stmt-Local w n x)

pub lined-Assign : (x : Expr) (op : AssignOp) (y : Expr) (levels : ℕ) → (stmt_lined (Assign x op y)).lined levels ≡ (expr_text x ++ (assign_text op ++ expr_text y)) ++ codes ";"
lined-Assign x op y levels = ap (λ l. l.lined levels) (stmt-Assign x op y)

pub bare-Assign : (x : Expr) (op : AssignOp) (y : Expr) → (stmt_lined (Assign x op y)).bare ≡ expr_text x ++ (assign_text op ++ expr_text y)
bare-Assign x op y = ap (λ l. l.bare) (stmt-Assign x op y)

pub lined-Step : (x : Expr) (up : Bool) (levels : ℕ) → (stmt_lined (Step x up)).lined levels ≡ (expr_text x ++ (if up then codes "++" else codes "--")) ++ codes ";"
lined-Step x up levels = ap (λ l. l.lined levels) (stmt-Step x up)

pub bare-Step : (x : Expr) (up : Bool) → (stmt_lined (Step x up)).bare ≡ expr_text x ++ (if up then codes "++" else codes "--")
bare-Step x up = ap (λ l. l.bare) (stmt-Step x up)

pub lined-Do : (x : Expr) (levels : ℕ) → (stmt_lined (Do x)).lined levels ≡ (expr_text x) ++ codes ";"
lined-Do x levels = ap (λ l. l.lined levels) (stmt-Do x)

pub lined-Block : (xs : List Stmt) (levels : ℕ) → (stmt_lined (Block xs)).lined levels ≡ (stmt_step (Stmt-F.Block (map stmt_lined xs))).lined levels
lined-Block xs levels = ap (λ l. l.lined levels) (stmt-Block xs)

pub lined-Empty : (levels : ℕ) → (stmt_lined Empty).lined levels ≡ ([]) ++ codes ";"
lined-Empty levels = ap (λ l. l.lined levels) (stmt-Empty)

pub lined-If : (x : Expr) (y : Stmt) (z : Option Stmt) (levels : ℕ) → (stmt_lined (If x y z)).lined levels ≡ (stmt_step (Stmt-F.If x (stmt_lined y) (option_map stmt_lined z))).lined levels
lined-If x y z levels = ap (λ l. l.lined levels) (stmt-If x y z)

pub lined-While : (x : Expr) (y : Stmt) (levels : ℕ) → (stmt_lined (While x y)).lined levels ≡ (stmt_step (Stmt-F.While x (stmt_lined y))).lined levels
lined-While x y levels = ap (λ l. l.lined levels) (stmt-While x y)

pub lined-For : (a : Option Stmt) (x : Option Expr) (b : Option Stmt) (y : Stmt) (levels : ℕ) → (stmt_lined (For a x b y)).lined levels ≡ (stmt_step (Stmt-F.For (option_map stmt_lined a) x (option_map stmt_lined b) (stmt_lined y))).lined levels
lined-For a x b y levels = ap (λ l. l.lined levels) (stmt-For a x b y)

pub lined-Return : (x : Option Expr) (levels : ℕ) → (stmt_lined (Return x)).lined levels ≡ (codes "return" ++ maybe_text (codes " ") expr_text x) ++ codes ";"
lined-Return x levels = ap (λ l. l.lined levels) (stmt-Return x)
