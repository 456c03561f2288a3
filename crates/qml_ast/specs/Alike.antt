-- Documents apart from the places of their parts.
use Rattle.std.specs.Prelude.{◌≡◌, map}
use Rattle.qml_ast.specs.declared.decl.Decl.{Decl, fold-Decl, roll-Decl}
use Rattle.qml_ast.specs.declared.decl.Init.{Init, fold-Init}
use Rattle.qml_ast.specs.declared.decl.Init.TheOpen.{Init-F, Member-F, Decl-F}
use Rattle.qml_ast.specs.declared.decl.Init.TheVariants as init_of
use Rattle.qml_ast.specs.declared.decl.Member.{Member, fold-Member}
use Rattle.qml_ast.specs.declared.decl.Member.TheVariants as member_of
use Rattle.qml_ast.specs.declared.document.Document.{Document}
use Rattle.qml_ast.specs.declared.document.Import.{Import}
use Rattle.qml_ast.specs.declared.param.MethodParam.{MethodParam}
use Rattle.qml_ast.specs.declared.param.SignalParam.{SignalParam}
use Rattle.qml_ast.specs.declared.span.Span.{Span}

-- the place that stands for each place
abbrev pub nowhere : Span
nowhere = record { line = 0; col = 0 }

-- a signal's parameter, apart from its places
abbrev pub signal_param_apart : SignalParam → SignalParam
signal_param_apart param = record param { kind_span = nowhere; name_span = nowhere }

-- a method's parameter, apart from its place
abbrev pub method_param_apart : MethodParam → MethodParam
method_param_apart param = record param { span = nowhere }

-- one level of an initialiser, whose parts are apart from their places
abbrev pub init_step : Init-F Init Member Decl → Init
init_step (Init-F.Expr expr) = init_of.Expr expr
init_step (Init-F.Object object) = init_of.Object object

-- one level of a member, whose parts are apart from their places
abbrev pub member_step : Member-F Init Member Decl → Member
member_step (Member-F.Id name span) = member_of.Id name nowhere
member_step (Member-F.Property fixed kind name init kind_span value_span span) =
    member_of.Property fixed kind name init nowhere nowhere nowhere
member_step (Member-F.Signal name params span) = member_of.Signal name (map signal_param_apart params) nowhere
member_step (Member-F.Init path init value_span span) = member_of.Init path init nowhere nowhere
member_step (Member-F.Handler path body span) = member_of.Handler path body nowhere
member_step (Member-F.Method name params body span) =
    member_of.Method name (map method_param_apart params) body nowhere
member_step (Member-F.Child child) = member_of.Child child

-- one level of a declaration, whose members are apart from their places
abbrev pub decl_step : Decl-F Init Member Decl → Decl
decl_step decl = roll-Decl (record decl { span = nowhere })

-- an initialiser, apart from the places in it
abbrev pub init_apart : Init → Init
init_apart = fold-Init Init Member Decl init_step member_step decl_step

-- a member, apart from the places in it
abbrev pub member_apart : Member → Member
member_apart = fold-Member Init Member Decl init_step member_step decl_step

-- a declaration, apart from the places in it
abbrev pub decl_apart : Decl → Decl
decl_apart = fold-Decl Init Member Decl init_step member_step decl_step

-- an import, apart from its place
abbrev pub import_apart : Import → Import
import_apart import = record import { span = nowhere }

-- the documents differ in places at most
abbrev pub IsAlike : Document → Document → Type 0
IsAlike document other =
    (map import_apart document.imports ≡ map import_apart other.imports) × (decl_apart document.root ≡ decl_apart other.root)
