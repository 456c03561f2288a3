-- The tree of what an expression reads, by recursion on the expression. It is the value of an expression told
-- without any values of places: each read is a branch for every value that the place could have.
use Rattle.std.specs.Prelude.{ℕ, zero, suc, ◌+◌, ◌==◌, nat_lt, Bool, false, true, if◌then◌else◌, List, [], ◌∷◌, ◌++◌, length, Option, None, Some, Result, Ok, Err}
use Rattle.qml_ast.specs.Arithmetic.{truth_of}
use Rattle.qml_ast.specs.declared.eval_fault.EvalFault.{EvalFault}
use Rattle.qml_ast.specs.declared.eval_fault.EvalFault.TheVariants.{WrongKind, TooMuch}
use Rattle.qml_ast.specs.declared.expr.BinOp.{BinOp}
use Rattle.qml_ast.specs.declared.expr.UnOp.{UnOp}
use Rattle.qml_ast.specs.declared.expr.Expr.{Expr, fold-Expr}
use Rattle.qml_ast.specs.declared.expr.Expr.TheOpen.{Expr-F}
use Rattle.qml_ast.specs.declared.place.Place.{Place}
use Rattle.qml_ast.specs.declared.value.Value.{Value}
use Rattle.qml_ast.specs.declared.value.Value.TheVariants.{Obj}
use Rattle.expr_eval.specs.Evaluation.{Around, is_same_truth}
use Rattle.expr_eval.specs.Meanings.{Meanings, Function as Callable}
use Rattle.expr_eval.specs.Names.{local_named, bound}
use Rattle.expr_eval.specs.Operators.{binary_of, unary_of, arity, are_taken, applied}
use Rattle.expr_eval.specs.Senses.{meaning, global_member, mouse_member, value_member, held_sense}
use Rattle.expr_eval.specs.declared.found.Frame.{Frame}
use Rattle.expr_eval.specs.declared.functions.Function.{Function as GlobalFunction}
use Rattle.expr_eval.specs.declared.locals.Local.{Local}
use Rattle.expr_eval.specs.declared.locals.NamedLocal.{NamedLocal}
use Rattle.expr_eval.specs.declared.sense.Sense.{Sense}
use Rattle.expr_eval.specs.declared.sense.Sense.TheVariants.{Is, At, Group, Method, Signal, Global, Function, Mouse}
use Rattle.settling.specs.Runs.{Run, faults, asks}
use Rattle.expr_eval.specs.Shapes.{Shape, meanings}

abbrev pub Tree : Type 0
Tree = Run Place Value EvalFault

-- What is left of an evaluation grows from the nodes visited so far, and from what comes of the thing that it gives and the nodes
-- visited then.
abbrev pub Growing : Type 0 → Type 0
Growing A = ℕ → (A → ℕ → Tree) → Tree

abbrev pub pure : {A : Type 0} → A → Growing A
pure x nodes go = go x nodes

abbrev pub fault : {A : Type 0} → EvalFault → Growing A
fault f nodes go = faults f

abbrev pub lifted : {A : Type 0} → Result A EvalFault → Growing A
lifted (Ok x) = pure x
lifted (Err f) = fault f

abbrev pub bind : {A B : Type 0} → Growing A → (A → Growing B) → Growing B
bind first next nodes go = first nodes (λ x visited. next x visited go)

-- a node is visited, of which there are at most 100,000
abbrev pub node : Growing (Unit {0})
node nodes go = if nat_lt nodes 100000 then go tt (nodes + 1) else faults TooMuch

-- what an expression does where it stands, and what a method's body gives with its parameters around it
abbrev pub Visit : Type 0
Visit = Around → Growing Sense

abbrev pub Bodies : Type 0
Bodies = Expr → Around → Growing Value

abbrev pub is_value : Growing Value → Growing Sense
is_value growing = bind growing (λ x. pure (Is x))

module _ (shape : Shape) where
  -- the answers to names, whatever the places hold
  abbrev pub names : Meanings
  names = meanings shape (λ place. Obj 0)

  abbrev pub read : Place → Growing Value
  read place nodes go = asks place (λ v. go (shape.as_read v) nodes)

  -- Where a value is wanted, a place is read, and what is no value is a fault.
  abbrev pub as_value : Sense → Growing Value
  as_value (Is value) = pure value
  as_value (At place) = read place
  as_value (Group serial group) = fault WrongKind
  as_value (Method serial method) = fault WrongKind
  as_value (Signal serial signal) = fault WrongKind
  as_value (Global global) = fault WrongKind
  as_value (Function function) = fault WrongKind
  as_value (Mouse x y) = fault WrongKind

  abbrev pub value : Visit → Around → Growing Value
  value visit around = bind (visit around) as_value

  -- the values of arguments, from left to right, after those that are done
  abbrev pub values : List Value → List Visit → Around → Growing (List Value)
  values done [] around = pure done
  values done (visit ∷ visits) around = bind (value visit around) (λ x. values (done ++ x ∷ []) visits around)

  -- A name is sought among the locals first.
  abbrev pub named : Option Local → Frame → List ℕ → Result Sense EvalFault
  named (Some local) frame name = Ok (held_sense local)
  named None frame name = meaning (shape.look frame name)

  abbrev pub member : List ℕ → Sense → Growing Sense
  member name (Is value) = lifted (value_member names value name)
  member name (At place) = bind (read place) (λ value. lifted (value_member names value name))
  member name (Group serial group) = lifted (meaning (shape.member serial (Some group) name))
  member name (Global global) = lifted (global_member global name)
  member name (Mouse x y) = lifted (mouse_member x y name)
  member name (Method serial method) = fault WrongKind
  member name (Signal serial signal) = fault WrongKind
  member name (Function function) = fault WrongKind

  -- What is called and the number of arguments are tested before the arguments are evaluated, their kinds afterwards.
  abbrev pub function_call : GlobalFunction → List Visit → Around → Growing Value
  function_call function arguments around =
      if are_taken (arity function) (length arguments)
      then bind (values [] arguments around) (λ xs. lifted (applied function xs))
      else fault WrongKind

  -- Only a method whose body is one `return` with an expression is called here.
  abbrev pub method_call : Bodies → Option Callable → List Visit → Around → Growing Value
  method_call bodies None arguments around = fault WrongKind
  method_call bodies (Some method) arguments around =
      if length arguments == length method.params
      then bind (values [] arguments around) (λ xs. bodies method.body (method.frame, bound method.params xs))
      else fault WrongKind

  abbrev pub call : Bodies → List Visit → Around → Sense → Growing Value
  call bodies arguments around (Function function) = function_call function arguments around
  call bodies arguments around (Method serial method) = method_call bodies (shape.method serial method) arguments around
  call bodies arguments around (Is value) = fault WrongKind
  call bodies arguments around (At place) = fault WrongKind
  call bodies arguments around (Group serial group) = fault WrongKind
  call bodies arguments around (Signal serial signal) = fault WrongKind
  call bodies arguments around (Global global) = fault WrongKind
  call bodies arguments around (Mouse x y) = fault WrongKind

  abbrev pub prefixed : UnOp → Visit → Visit
  prefixed operator x around = is_value (bind (value x around) (λ a. lifted (unary_of operator a)))

  -- Both operands are evaluated, the left one first.
  abbrev pub joined : BinOp → Visit → Visit → Visit
  joined operator x y around =
      is_value (bind (value x around) (λ a. bind (value y around) (λ b. lifted (binary_of operator a b))))

  -- The left operand is the value where its truth decides, and otherwise the right one is.
  abbrev pub either : Bool → Visit → Visit → Visit
  either deciding x y around =
      bind (value x around) (λ a. if is_same_truth (truth_of a) deciding then pure (Is a) else is_value (value y around))

  abbrev pub chosen : Visit → Visit → Visit → Visit
  chosen condition x y around =
      bind (value condition around) (λ a. if truth_of a then is_value (value x around) else is_value (value y around))

  abbrev pub visit : Bodies → Expr-F Visit → Visit
  visit bodies (Expr-F.Lit value) around = pure (Is value)
  visit bodies (Expr-F.Name name) around = lifted (named (local_named name around.1) around.0 name)
  visit bodies (Expr-F.Member x name) around = bind (x around) (member name)
  visit bodies (Expr-F.Call callee arguments) around = bind (callee around) (λ sense. is_value (call bodies arguments around sense))
  visit bodies (Expr-F.Unary operator x) around = prefixed operator x around
  visit bodies (Expr-F.Binary operator x y) around = joined operator x y around
  visit bodies (Expr-F.And x y) around = either false x y around
  visit bodies (Expr-F.Or x y) around = either true x y around
  visit bodies (Expr-F.Cond condition x y) around = chosen condition x y around

  -- Each visit of a node counts.
  abbrev pub step : Bodies → Expr-F Visit → Visit
  step bodies e around = bind node (λ _. visit bodies e around)

  -- a method's body, in a call within which so many more can nest, less one
  unfoldable pub body : ℕ → Bodies
  body zero e around = fault TooMuch
  body (suc calls) e around = value (fold-Expr Visit (step (body calls)) e) around

  -- an expression, in which so many calls can nest
  abbrev pub meant : ℕ → Expr → Visit
  meant calls = fold-Expr Visit (step (body calls))

  -- The tree of an expression of that frame with these locals, which goes on with the expression's value. At most 64 calls nest
  -- in each other.
  unfoldable pub tree : Expr → Frame → List NamedLocal → (Value → Tree) → Tree
  tree e frame locals go = value (meant 64 e) (frame, locals) 0 (λ v nodes. go v)
