-- What documents declare of an object that can be run: its handlers, its signals and its methods.
use Rattle.std.specs.Prelude.{ℕ, ◌-◌, Option, None, Some, option_and_then, option_map, List, [], ◌∷◌, length, map, nat_lt, if◌then◌else◌, slice_get}
use Rattle.std.specs.List.{flat_map}
use Rattle.type_table.specs.Names.{signals, signal_args, methods}
use Rattle.type_table.specs.declared.slot.Kind.{Kind}
use Rattle.qml_ast.specs.declared.expr.Expr.{Expr}
use Rattle.qml_ast.specs.declared.path.Path.{Path}
use Rattle.qml_ast.specs.declared.span.Span.{Span}
use Rattle.qml_ast.specs.declared.stmt.Stmt.{Stmt, out-Stmt}
use Rattle.qml_ast.specs.declared.stmt.Stmt.TheOpen.{Stmt-F}
use Rattle.qml_types.specs.declared.component.ComponentType.{ComponentType}
use Rattle.qml_types.specs.declared.component.HandlerDecl.{HandlerDecl}
use Rattle.qml_types.specs.declared.component.MethodDecl.{MethodDecl}
use Rattle.qml_types.specs.declared.component.ObjectDecl.{ObjectDecl, out-ObjectDecl}
use Rattle.qml_types.specs.declared.component.SignalDecl.{SignalDecl}
use Rattle.expr_eval.specs.Meanings.{Function}
use Rattle.expr_eval.specs.declared.found.Frame.{Frame}
use Rattle.object_tree.specs.declared.handlers.Body as lent_body
use Rattle.object_tree.specs.declared.handlers.Handler as lent_handler
use Rattle.object_tree.specs.declared.instance.Instance.{Instance}
use Rattle.object_tree.specs.declared.instance.Layer.{Layer}
use Rattle.object_tree.specs.Layers.{decl_of}
use Rattle.object_tree.specs.Reading.{instance_at}
use Rattle.object_tree.specs.Store.{Store}

-- the frame of what a layer declares of an object
abbrev pub frame_in : ℕ → Layer → Frame
frame_in serial layer = record { context = layer.context; scope = serial }

-- ---- handlers
-- a handler of an object: its path, what runs, where the names in that are looked up, and where the path stands
pub record Handler : Type 0 where
  pub path : Path
  pub body : Stmt
  pub frame : Frame
  pub component : ComponentType
  pub span : Span

-- one that is lent
abbrev pub handler_seen : lent_handler.Handler → Handler
handler_seen handler = record {
  path = handler.path.now;
  body = handler.body.now;
  frame = handler.frame;
  component = handler.component.now;
  span = handler.span;
}

abbrev pub handlers_in : Option ObjectDecl → List HandlerDecl
handlers_in None = []
handlers_in (Some decl) = (out-ObjectDecl decl).handlers

abbrev pub handler_of : ℕ → Layer → HandlerDecl → Handler
handler_of serial layer decl = record {
  path = decl.path;
  body = decl.body;
  frame = frame_in serial layer;
  component = layer.component;
  span = decl.span;
}

abbrev pub layer_handlers : ℕ → Layer → List Handler
layer_handlers serial layer = map (handler_of serial layer) (handlers_in (decl_of layer))

-- the handlers of an object, the innermost document's first, and those of one document as it has them
abbrev pub handlers_under : ℕ → List Layer → List Handler
handlers_under serial layers = flat_map (layer_handlers serial) layers

abbrev pub handlers_of : ℕ → Instance → List Handler
handlers_of serial instance = handlers_under serial instance.layers

-- none where the object is not live
abbrev pub handlers_at : ℕ → Store → List Handler
handlers_at serial store = elim (instance_at serial store) [ None ↦ [] | Some i ↦ handlers_of serial i ]

abbrev pub handler_at : ℕ → ℕ → Store → Option Handler
handler_at serial index store = option_and_then (λ (i : Instance). slice_get (handlers_of serial i) index) (instance_at serial store)

-- ---- signals
abbrev pub signals_in : Option ObjectDecl → List SignalDecl
signals_in None = []
signals_in (Some decl) = (out-ObjectDecl decl).signals

-- the signals that documents declare, the innermost document's first
abbrev pub declared_signals : List Layer → List SignalDecl
declared_signals layers = flat_map (λ l. signals_in (decl_of l)) layers

-- a signal that a document declares; those of the built-in type have the first numbers
abbrev pub signal_decl_of : ℕ → Instance → Option SignalDecl
signal_decl_of number instance =
    if nat_lt number (length (signals instance.built_in)) then None
    else slice_get (declared_signals instance.layers) (number - length (signals instance.built_in))

abbrev pub name_of_signal : SignalDecl → List ℕ
name_of_signal signal = signal.name

abbrev pub params_of_signal : SignalDecl → List (List ℕ × Kind)
params_of_signal signal = signal.params

abbrev pub arity_of_signal : SignalDecl → ℕ
arity_of_signal signal = length signal.params

abbrev pub signal_name_of : ℕ → Instance → Option (List ℕ)
signal_name_of number instance =
    if nat_lt number (length (signals instance.built_in)) then slice_get (signals instance.built_in) number
    else option_map name_of_signal (signal_decl_of number instance)

abbrev pub signal_arity_of : ℕ → Instance → Option ℕ
signal_arity_of number instance =
    if nat_lt number (length (signals instance.built_in)) then Some (signal_args instance.built_in)
    else option_map arity_of_signal (signal_decl_of number instance)

-- none for a signal of the built-in type, and where there is no such signal
abbrev pub signal_decl_at : ℕ → ℕ → Store → Option SignalDecl
signal_decl_at serial number store = option_and_then (signal_decl_of number) (instance_at serial store)

-- the name of a signal
abbrev pub signal_name_at : ℕ → ℕ → Store → Option (List ℕ)
signal_name_at serial number store = option_and_then (signal_name_of number) (instance_at serial store)

-- the parameters of a signal that a document declares
abbrev pub signal_params_at : ℕ → ℕ → Store → Option (List (List ℕ × Kind))
signal_params_at serial number store = option_map params_of_signal (signal_decl_at serial number store)

-- how many arguments a signal has
abbrev pub signal_arity_at : ℕ → ℕ → Store → Option ℕ
signal_arity_at serial number store = option_and_then (signal_arity_of number) (instance_at serial store)

-- ---- methods
-- a method that a document declares of an object: its parameters, its statements, and where the names in them are looked up
pub record Method : Type 0 where
  pub params : List (List ℕ)
  pub body : List Stmt
  pub frame : Frame

-- one that is lent
abbrev pub method_seen : lent_body.Body → Method
method_seen method = record { params = method.params.now; body = method.body.now; frame = method.frame }

abbrev pub methods_in : Option ObjectDecl → List MethodDecl
methods_in None = []
methods_in (Some decl) = (out-ObjectDecl decl).methods

abbrev pub method_in : ℕ → Layer → MethodDecl → Method
method_in serial layer decl = record { params = decl.params; body = decl.body; frame = frame_in serial layer }

abbrev pub layer_methods : ℕ → Layer → List Method
layer_methods serial layer = map (method_in serial layer) (methods_in (decl_of layer))

-- the methods that documents declare, the innermost document's first
abbrev pub declared_methods : ℕ → List Layer → List Method
declared_methods serial layers = flat_map (layer_methods serial) layers

-- those of the built-in type have the first numbers
abbrev pub method_numbered : ℕ → ℕ → Instance → Option Method
method_numbered serial number instance =
    if nat_lt number (length (methods instance.built_in)) then None
    else slice_get (declared_methods serial instance.layers) (number - length (methods instance.built_in))

-- none for a method of the built-in type, and where there is no such method
abbrev pub method_at : ℕ → ℕ → Store → Option Method
method_at serial number store = option_and_then (method_numbered serial number) (instance_at serial store)

abbrev pub arity_of_method : Method → ℕ
arity_of_method method = length method.params

abbrev pub method_arity_of : ℕ → ℕ → Instance → Option ℕ
method_arity_of serial number instance =
    if nat_lt number (length (methods instance.built_in)) then Some 0
    else option_map arity_of_method (method_numbered serial number instance)

-- how many arguments a method has; those of built-in types have none
abbrev pub method_arity_at : ℕ → ℕ → Store → Option ℕ
method_arity_at serial number store = option_and_then (method_arity_of serial number) (instance_at serial store)

-- ---- methods in expressions
abbrev pub returned_by : Stmt-F Stmt → Option Expr
returned_by (Stmt-F.Return value) = value
returned_by _ = None

-- what statements return that are one `return` with an expression
abbrev pub returned : List Stmt → Option Expr
returned (stmt ∷ []) = returned_by (out-Stmt stmt)
returned _ = None

abbrev pub function_of : Method → Option Function
function_of method = option_map (λ (e : Expr). record { frame = method.frame; params = method.params; body = e }) (returned method.body)

-- a method that expressions can call
abbrev pub callable_at : ℕ → ℕ → Store → Option Function
callable_at serial number store = option_and_then function_of (method_at serial number store)
