-- The canonical text of statements and documents, as bytes. What stands on several lines takes the number of
-- levels by which its lines are indented.
use Rattle.std.specs.Prelude.{ℕ, suc, ◌*◌, if◌then◌else◌, List, [], ◌∷◌, ◌++◌, replicate, flat_map, map, Option, Some, None, codes, decimal}
use Rattle.qml_ast.specs.declared.decl.Decl.{Decl, fold-Decl}
use Rattle.qml_ast.specs.declared.decl.Init.{Init, fold-Init}
use Rattle.qml_ast.specs.declared.decl.Init.TheOpen.{Init-F, Member-F, Decl-F}
use Rattle.qml_ast.specs.declared.decl.Member.{Member, fold-Member}
use Rattle.qml_ast.specs.declared.document.Document.{Document}
use Rattle.qml_ast.specs.declared.document.Import.{Import}
use Rattle.qml_ast.specs.declared.expr.Expr.{Expr}
use Rattle.qml_ast.specs.declared.param.MethodParam.{MethodParam}
use Rattle.qml_ast.specs.declared.param.SignalParam.{SignalParam}
use Rattle.qml_ast.specs.declared.path.Path.{Path}
use Rattle.qml_ast.specs.declared.stmt.AssignOp.{AssignOp}
use Rattle.qml_ast.specs.declared.stmt.AssignOp.TheVariants.{Set, Add, Sub, Mul, Div}
use Rattle.qml_ast.specs.declared.stmt.LocalWord.{LocalWord}
use Rattle.qml_ast.specs.declared.stmt.LocalWord.TheVariants.{Var, Let, Const}
use Rattle.qml_ast.specs.declared.stmt.Stmt.{Stmt, fold-Stmt}
use Rattle.qml_ast.specs.declared.stmt.Stmt.TheOpen.{Stmt-F}
use Rattle.qml_grammar.specs.CanonicalExpressions.{join, expr_text}

-- Lines

abbrev pub indent : ℕ → List ℕ
indent levels = replicate (4 * levels) 32

abbrev pub new_line : List ℕ
new_line = 10 ∷ []

-- each on lines of its own
abbrev pub all_lines : ℕ → List (ℕ → List ℕ) → List ℕ
all_lines levels xs = flat_map (λ x. indent levels ++ (x levels ++ new_line)) xs

-- "{", each on lines of its own one level deeper, "}"
abbrev pub braced : List (ℕ → List ℕ) → ℕ → List ℕ
braced xs levels = codes "{" ++ (new_line ++ (all_lines (suc levels) xs ++ (indent levels ++ codes "}")))

-- Statements

abbrev pub local_word_text : LocalWord → List ℕ
local_word_text Var = codes "var "
local_word_text Let = codes "let "
local_word_text Const = codes "const "

abbrev pub assign_text : AssignOp → List ℕ
assign_text Set = codes " = "
assign_text Add = codes " += "
assign_text Sub = codes " -= "
assign_text Mul = codes " *= "
assign_text Div = codes " /= "

-- what may be missing, and where it isn't a text before it
abbrev pub maybe_text : {A : Type 0} → List ℕ → (A → List ℕ) → Option A → List ℕ
maybe_text before f None = []
maybe_text before f (Some x) = before ++ f x

-- a statement's text
pub record Lined : Type 0 where
  -- without the `;` at its end, of a statement that stands in the head of a `for`
  pub bare : List ℕ
  -- with its own `;`, at so many levels
  pub lined : ℕ → List ℕ

-- what ends in a `;`
abbrev pub short : List ℕ → Lined
short text = record { bare = text; lined = λ levels. text ++ codes ";" }

-- what contains statements, or only ends in a `;`
abbrev pub long : (ℕ → List ℕ) → Lined
long lined = record { bare = []; lined = lined }

abbrev pub for_head : Option Lined → Option Expr → Option Lined → List ℕ
for_head a x b = codes "for (" ++ (maybe_text [] (λ s. s.bare) a ++ (codes ";" ++ (maybe_text (codes " ") expr_text x ++ (codes ";" ++ (maybe_text (codes " ") (λ s. s.bare) b ++ codes ") ")))))

abbrev pub stmt_step : Stmt-F Lined → Lined
stmt_step (Stmt-F.Local w n x) = short (local_word_text w ++ (n ++ maybe_text (codes " = ") expr_text x))
stmt_step (Stmt-F.Assign x op y) = short (expr_text x ++ (assign_text op ++ expr_text y))
stmt_step (Stmt-F.Step x up) = short (expr_text x ++ (if up then codes "++" else codes "--"))
stmt_step (Stmt-F.Do x) = short (expr_text x)
stmt_step (Stmt-F.Block xs) = long (braced (map (λ s. s.lined) xs))
stmt_step Stmt-F.Empty = short []
stmt_step (Stmt-F.If x y z) = long (λ levels. codes "if (" ++ (expr_text x ++ (codes ") " ++ (y.lined levels ++ maybe_text (codes " else ") (λ s. s.lined levels) z))))
stmt_step (Stmt-F.While x y) = long (λ levels. codes "while (" ++ (expr_text x ++ (codes ") " ++ y.lined levels)))
stmt_step (Stmt-F.For a x b y) = long (λ levels. for_head a x b ++ y.lined levels)
stmt_step (Stmt-F.Return x) = short (codes "return" ++ maybe_text (codes " ") expr_text x)

abbrev pub stmt_lined : Stmt → Lined
stmt_lined = fold-Stmt Lined stmt_step

-- a statement at so many levels
abbrev pub stmt_text : Stmt → ℕ → List ℕ
stmt_text x = (stmt_lined x).lined

-- Members

abbrev pub path_text : Path → List ℕ
path_text p = p.first ++ maybe_text (codes ".") (λ n. n) p.second

abbrev pub signal_param_text : SignalParam → List ℕ
signal_param_text p = p.kind ++ (codes " " ++ p.name)

-- what a signal takes, if anything
abbrev pub signal_params_text : List SignalParam → List ℕ
signal_params_text [] = []
signal_params_text (p ∷ ps) = codes "(" ++ (join (codes ", ") (map signal_param_text (p ∷ ps)) ++ codes ")")

abbrev pub method_params_text : List MethodParam → List ℕ
method_params_text ps = codes "(" ++ (join (codes ", ") (map (λ p. p.name) ps) ++ codes ") ")

-- the text at so many levels of what stands in a declaration
abbrev pub Leveled : Type 0
Leveled = ℕ → List ℕ

abbrev pub init_step : Init-F Leveled Leveled Leveled → Leveled
init_step (Init-F.Expr x) = λ levels. expr_text x
init_step (Init-F.Object x) = x

abbrev pub member_step : Member-F Leveled Leveled Leveled → Leveled
member_step (Member-F.Id n span) = λ levels. codes "id: " ++ n
member_step (Member-F.Property fixed kind n init kind_span value_span span) = λ levels. (if fixed then codes "readonly " else []) ++ (codes "property " ++ (kind ++ (codes " " ++ (n ++ maybe_text (codes ": ") (λ x. x levels) init))))
member_step (Member-F.Signal n ps span) = λ levels. codes "signal " ++ (n ++ signal_params_text ps)
member_step (Member-F.Init p init value_span span) = λ levels. path_text p ++ (codes ": " ++ init levels)
member_step (Member-F.Handler p x span) = λ levels. path_text p ++ (codes ": " ++ stmt_text x levels)
member_step (Member-F.Method n ps xs span) = λ levels. codes "function " ++ (n ++ (method_params_text ps ++ braced (map stmt_text xs) levels))
member_step (Member-F.Child x) = x

abbrev pub decl_step : Decl-F Leveled Leveled Leveled → Leveled
decl_step x = λ levels. x.name ++ (codes " " ++ braced x.members levels)

-- a value at so many levels
abbrev pub init_text : Init → Leveled
init_text = fold-Init Leveled Leveled Leveled init_step member_step decl_step

-- a member at so many levels
abbrev pub member_text : Member → Leveled
member_text = fold-Member Leveled Leveled Leveled init_step member_step decl_step

-- a declaration at so many levels
abbrev pub decl_text : Decl → Leveled
decl_text = fold-Decl Leveled Leveled Leveled init_step member_step decl_step

-- Documents

abbrev pub import_text : Import → List ℕ
import_text x = codes "import " ++ (x.«module» ++ (codes " " ++ (decimal x.major ++ (codes "." ++ (decimal x.minor ++ new_line)))))

-- the canonical text of a document
abbrev pub document_text : Document → List ℕ
document_text x = flat_map import_text x.imports ++ (decl_text x.root 0 ++ new_line)
