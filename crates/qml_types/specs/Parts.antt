-- What the rules read of a document: each member of an object, with what stands in it.
use Rattle.std.specs.Prelude.{ℕ, Bool, Option, None, Some, List, [], ◌∷◌, ◌++◌}
use Rattle.qml_ast.specs.declared.expr.Expr.{Expr, out-Expr}
use Rattle.qml_ast.specs.declared.expr.Expr.TheOpen.{Expr-F}
use Rattle.qml_ast.specs.declared.fault.DocFault.{DocFault}
use Rattle.qml_ast.specs.declared.param.MethodParam.{MethodParam}
use Rattle.qml_ast.specs.declared.param.SignalParam.{SignalParam}
use Rattle.qml_ast.specs.declared.path.Path.{Path}
use Rattle.qml_ast.specs.declared.span.Span.{Span}
use Rattle.qml_ast.specs.declared.stmt.Stmt.{Stmt}
use Rattle.qml_ast.specs.declared.value.Value.{Value}
use Rattle.qml_types.specs.declared.component.ObjectDecl.{ObjectDecl}
use Rattle.qml_types.specs.declared.component.Role.{Role}
use Rattle.qml_types.specs.declared.mention.Mention.{Mention}
use Rattle.qml_types.specs.Known.{KnownTypes}

-- a name that may be given once, with the fault of giving it again
pub record Claim : Type 0 where
  pub name : List ℕ
  pub again : DocFault

-- where an object is put: its document's file, the number of the object round it, and its place in that
pub record Stand : Type 0 where
  pub file : List ℕ
  pub owner : Option ℕ
  pub role : Role

-- an object's declaration
pub record Reading : Type 0 where
  -- the type's name, and where it stands
  pub name : List ℕ
  pub at : Span
  -- the types that it names, in the order of the text
  pub types : List Mention
  -- its unlawful declarations, the ids left aside
  pub faults : KnownTypes → List DocFault
  -- the ids that it gives in the component round it, in the order of the text
  pub ids : KnownTypes → List Claim
  -- the objects of a component, with it and what stands in it behind them
  pub placed : KnownTypes → Stand → List ObjectDecl → List ObjectDecl

-- what a property is given
pub data Given : Type 0 where
  expression : Expr → Given
  object : Reading → Given

-- a member of an object
pub data Part : Type 0 where
  -- its id
  identity : List ℕ → Span → Part
  -- a property: whether it is read only, its kind, its name, what it is given; where the kind, that and the name stand
  property : Bool → List ℕ → List ℕ → Option Given → Span → Span → Span → Part
  -- a signal
  signal : List ℕ → List SignalParam → Span → Part
  -- an initialiser: its path, what is given; where that and the path stand
  initialiser : Path → Given → Span → Span → Part
  -- a handler
  handler : Path → Stmt → Span → Part
  -- a function
  method : List ℕ → List MethodParam → List Stmt → Span → Part
  -- a child
  child : Reading → Part

-- the value of an expression that is a literal
abbrev pub literal_step : Expr-F Expr → Option Value
literal_step (Expr-F.Lit value) = Some value
literal_step _ = None

abbrev pub literal_of : Expr → Option Value
literal_of expr = literal_step (out-Expr expr)
