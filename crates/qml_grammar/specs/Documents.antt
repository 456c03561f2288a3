-- How a document is read, or its first fault. `d` is the number of levels that may still be opened.
use Rattle.std.specs.Prelude.{ℕ, zero, suc, ◌&&◌, ◌||◌, not, nat_le, ◌==◌, Bool, true, false, is_some, if◌then◌else◌, List, [], ◌∷◌, ◌++◌, Option, Some, None, Result, Ok, Err, codes, bytes_eq}
use Rattle.qml_ast.specs.declared.decl.Decl.{Decl, roll-Decl}
use Rattle.qml_ast.specs.declared.decl.Init.{Init}
use Rattle.qml_ast.specs.declared.decl.Init.TheVariants as ii
use Rattle.qml_ast.specs.declared.decl.Member.{Member}
use Rattle.qml_ast.specs.declared.decl.Member.TheVariants as mm
use Rattle.qml_ast.specs.declared.document.Document.{Document}
use Rattle.qml_ast.specs.declared.document.Import.{Import}
use Rattle.qml_ast.specs.declared.expr.Expr.{Expr, out-Expr}
use Rattle.qml_ast.specs.declared.expr.Expr.TheOpen.{Expr-F}
use Rattle.qml_ast.specs.declared.fault.DocFault.{DocFault}
use Rattle.qml_ast.specs.declared.fault.DocFault.TheVariants.{Unsupported}
use Rattle.qml_ast.specs.declared.param.MethodParam.{MethodParam}
use Rattle.qml_ast.specs.declared.param.SignalParam.{SignalParam}
use Rattle.qml_ast.specs.declared.path.Path.{Path}
use Rattle.qml_ast.specs.declared.span.Span.{Span}
use Rattle.qml_ast.specs.declared.stmt.Stmt.{Stmt}
use Rattle.qml_grammar.specs.Ends.{ended}
use Rattle.qml_grammar.specs.Expressions.{whole}
use Rattle.qml_grammar.specs.Inputs.{Parser, ahead, after, place, refusal, refused, too_deep, pure, ◌>>=◌, ◌>>◌, while_next, take_token, expect, any_name}
use Rattle.qml_grammar.specs.Lexemes.{Lexeme, decimal, text, Token, head, tail, is_mark, is_word, is_name, name_of}
use Rattle.qml_grammar.specs.Names.{upper_first, is_handler_name, is_handler_path, name_is, is_dotted_type, is_dotted_kind, begins_object, begins_group}
use Rattle.qml_grammar.specs.Statements.{bodies, statement, goes_on_inside}
use Rattle.qml_grammar.specs.declared.mark.Mark.TheVariants.{OpenBrace, CloseBrace, OpenParen, CloseParen, Colon, Comma, Dot}
use Rattle.qml_grammar.specs.declared.word.Word.TheVariants as ww

-- that QML has what begins with the next token, and the engine has not
abbrev pub unsupported : {A : Type 0} → Parser A
unsupported i = Err (Unsupported (place i))

-- Places of literals

abbrev pub is_literal_layer : Expr-F Expr → Bool
is_literal_layer (Expr-F.Lit v) = true
is_literal_layer _ = false

-- a literal alone, maybe in parentheses
abbrev pub is_literal : Expr → Bool
is_literal x = is_literal_layer (out-Expr x)

-- the tokens behind the parentheses that they begin with
abbrev pub behind_parens : List Token → List Token
behind_parens [] = []
behind_parens (t ∷ ts) = elim (is_mark OpenParen (Some t)) [ true ↦ behind_parens ts | false ↦ t ∷ ts ]

-- where the first of the tokens begins, or else another place
abbrev pub place_of : List Token → Span → Span
place_of [] end = end
place_of (t ∷ ts) end = t.span

-- the place of an expression that the tokens begin with: of its literal, or else of its first token
abbrev pub value_place : Expr → List Token → Span → Span
value_place x ts end = if is_literal x then place_of (behind_parens ts) end else place_of ts end

-- Values

-- an initialiser's value and its place
pub record Valued : Type 0 where
  pub init : Init
  pub span : Span

-- what stands one level further in
pub record Under : Type 0 where
  -- "{" { member } "}"
  pub members : Parser (List Member)
  -- "{" { Name ":" value end } "}", the group's name given
  pub group : List ℕ → Parser (List Member)

-- "{" { member } "}"
unfoldable pub body : Under → Parser (List Member)
body v i = if is_mark OpenBrace (ahead i) then v.members i else Err (refusal i)

-- object = Name "{" { member } "}", whose name begins with an upper-case letter
unfoldable pub object_in : Under → Parser Decl
object_in v i = elim (name_of (ahead i)) [ Some n ↦ (if upper_first n then (do take_token; xs ← body v; pure (roll-Decl (record { name = n; members = xs; span = place i }))) i else Err (refusal i)) | None ↦ Err (refusal i) ]

unfoldable pub object_value : Under → Parser Valued
object_value v i = (do x ← object_in v; pure (record { init = ii.Object x; span = place i })) i

unfoldable pub expr_value : ℕ → Parser Valued
expr_value d i = (do x ← whole d; pure (record { init = ii.Expr x; span = value_place x i.rest i.end })) i

-- value = expr | object
unfoldable pub value_in : ℕ → Under → Parser Valued
value_in d v i = if begins_object i.rest then object_value v i else (if is_dotted_type (is_mark OpenBrace) i.rest then Err (Unsupported (place i)) else expr_value d i)

-- Members of words

-- "id" ":" Name
unfoldable pub id_member : Parser Member
id_member = do
  take_token
  expect Colon
  λ i. (do n ← any_name; pure (mm.Id n (place i))) i

-- the name of a kind
unfoldable pub kind : Parser (List ℕ)
kind i = if is_dotted_kind i.rest then Err (Unsupported (place i)) else any_name i

unfoldable pub property_kind : Parser (List ℕ)
property_kind i = if is_word ww.Alias (ahead i) then Err (Unsupported (place i)) else kind i

-- [ ":" value ], behind the name of a property
unfoldable pub property_value : ℕ → Under → Bool → List ℕ → Span → List ℕ → Span → Parser Member
property_value d v fixed k at n there i =
    if is_mark Colon (ahead i) then (do take_token; x ← value_in d v; pure (mm.Property fixed k n (Some x.init) at x.span there)) i
    else Ok (mm.Property fixed k n None at there there, i)

-- Name Name [ ":" value ], behind `property`
unfoldable pub kind_and_name : ℕ → Under → Bool → Parser Member
kind_and_name d v fixed i = (do k ← property_kind; λ j. (do n ← any_name; property_value d v fixed k (place i) n (place j)) j) i

-- "property" Name Name [ ":" value ]
unfoldable pub property : ℕ → Under → Bool → Parser Member
property d v fixed = do
  take_token
  kind_and_name d v fixed

-- "readonly" "property" Name Name [ ":" value ]
unfoldable pub fixed_property : ℕ → Under → Parser Member
fixed_property d v = do
  take_token
  λ i. if is_word ww.Property (ahead i) then property d v true i else Err (refusal i)

-- Name Name
unfoldable pub signal_param : Parser SignalParam
signal_param i = (do k ← kind; λ j. (do n ← any_name; pure (record { kind = k; name = n; kind_span = place i; name_span = place j })) j) i

-- one more parameter, behind a comma
unfoldable pub more_signal_params : List SignalParam → Parser (List SignalParam)
more_signal_params xs = do
  take_token
  x ← signal_param
  pure (xs ++ x ∷ [])

unfoldable pub some_signal_params : Parser (List SignalParam)
some_signal_params = do
  x ← signal_param
  xs ← while_next (is_mark Comma) more_signal_params (x ∷ [])
  expect CloseParen
  pure xs

-- [ "(" [ Name Name { "," Name Name } ] ")" ]
unfoldable pub signal_params : Parser (List SignalParam)
signal_params i = if is_mark OpenParen (ahead i) then (do take_token; λ j. if is_mark CloseParen (ahead j) then Ok ([], after j) else some_signal_params j) i else Ok ([], i)

-- "signal" Name [ "(" [ Name Name { "," Name Name } ] ")" ]
unfoldable pub signal_member : Parser Member
signal_member = do
  take_token
  λ i. (do n ← any_name; xs ← signal_params; pure (mm.Signal n xs (place i))) i

unfoldable pub method_param : Parser MethodParam
method_param i = (do n ← any_name; pure (record { name = n; span = place i })) i

-- one more parameter, behind a comma
unfoldable pub more_method_params : List MethodParam → Parser (List MethodParam)
more_method_params xs = do
  take_token
  x ← method_param
  pure (xs ++ x ∷ [])

unfoldable pub some_method_params : Parser (List MethodParam)
some_method_params = do
  x ← method_param
  xs ← while_next (is_mark Comma) more_method_params (x ∷ [])
  expect CloseParen
  pure xs

-- "(" [ Name { "," Name } ] ")"
unfoldable pub method_params : Parser (List MethodParam)
method_params = do
  expect OpenParen
  λ i. if is_mark CloseParen (ahead i) then Ok ([], after i) else some_method_params i

unfoldable pub method_block : ℕ → Parser (List Stmt)
method_block d i = if is_mark OpenBrace (ahead i) then (bodies d).block i else Err (refusal i)

unfoldable pub method_behind : ℕ → List ℕ → Span → Parser Member
method_behind d n at = do
  ps ← method_params
  xs ← method_block d
  pure (mm.Method n ps xs at)

-- "function" Name "(" [ Name { "," Name } ] ")" block
unfoldable pub method : ℕ → Parser Member
method d = do
  take_token
  λ i. (do n ← any_name; method_behind d n (place i)) i

-- Members of paths

-- the second name of a path: a handler's only behind `Component`
unfoldable pub second_name : List ℕ → Parser (List ℕ)
second_name n i = if name_is is_handler_name (ahead i) && not (bytes_eq n (codes "Component")) then Err (refusal i) else any_name i

unfoldable pub path_behind : List ℕ → Parser Path
path_behind n i = if is_mark Dot (ahead i) then (do take_token; m ← second_name n; pure (record { first = n; second = Some m })) i else Ok (record { first = n; second = None }, i)

-- path = Name [ "." Name ]
unfoldable pub path : Parser Path
path = do
  n ← any_name
  path_behind n

-- body = block | statement, of a handler
unfoldable pub handled : ℕ → Path → Span → Parser Member
handled d p at = do
  x ← statement d
  pure (mm.Handler p x at)

unfoldable pub initialised : ℕ → Under → Path → Span → Parser Member
initialised d v p at = do
  x ← value_in d v
  pure (mm.Init p x.init x.span at)

unfoldable pub behind_path : ℕ → Under → Path → Span → Parser Member
behind_path d v p at i = if is_handler_path p then handled d p at i else initialised d v p at i

-- path ":" value | path ":" body
unfoldable pub path_member : ℕ → Under → Parser Member
path_member d v i = (do p ← path; expect Colon; behind_path d v p (place i)) i

-- Groups

-- Name, which is no handler's
unfoldable pub entry_name : Parser (List ℕ)
entry_name i = if name_is is_handler_name (ahead i) then Err (refusal i) else any_name i

-- Name ":" value, in the group of the given name
unfoldable pub entry : ℕ → Under → List ℕ → Parser Member
entry d v n i = (do m ← entry_name; expect Colon; x ← value_in d v; pure (mm.Init (record { first = n; second = Some m }) x.init x.span (place i))) i

-- one more entry, behind others
unfoldable pub one_entry : ℕ → Under → List ℕ → List Member → Parser (List Member)
one_entry d v n xs = do
  x ← ended (entry d v n)
  pure (xs ++ x ∷ [])

-- { Name ":" value end } "}"
unfoldable pub entries : ℕ → Under → List ℕ → Parser (List Member)
entries d v n = do
  xs ← while_next goes_on_inside (one_entry d v n) []
  expect CloseBrace
  pure xs

-- Members

-- a member alone, as a list
unfoldable pub alone : Parser Member → Parser (List Member)
alone p = do
  x ← p
  pure (x ∷ [])

unfoldable pub child : Under → Parser (List Member)
child v = do
  x ← object_in v
  pure (mm.Child x ∷ [])

-- a group behind its name
unfoldable pub grouped : Under → Parser (List Member)
grouped v = do
  n ← any_name
  v.group n

abbrev pub opens_or_on : Option Token → Bool
opens_or_on t = is_mark OpenBrace t || is_word ww.On t

-- `on` behind a type's name
abbrev pub begins_on : List Token → Bool
begins_on ts = name_is upper_first (head ts) && is_word ww.On (head (tail ts))

unfoldable pub named_member : ℕ → Under → Parser (List Member)
named_member d v i =
    if begins_object i.rest then child v i
    else (if begins_on i.rest then unsupported (after i)
    else (if is_dotted_type opens_or_on i.rest then unsupported i
    else (if begins_group i.rest then grouped v i
    else alone (ended (path_member d v)) i)))

abbrev pub is_unsupported_member : Option Token → Bool
is_unsupported_member t = is_word ww.Default t || is_word ww.Enum t || is_word ww.Required t

unfoldable pub other_member : ℕ → Under → Parser (List Member)
other_member d v i =
    if is_word ww.Function (ahead i) then alone (method d) i
    else (if is_unsupported_member (ahead i) then unsupported i
    else (if is_word ww.Else (ahead i) then refused i
    else named_member d v i))

unfoldable pub member_in : ℕ → Under → Parser (List Member)
member_in d v i =
    if is_word ww.Id (ahead i) then alone (ended id_member) i
    else (if is_word ww.Property (ahead i) then alone (ended (property d v false)) i
    else (if is_word ww.ReadOnly (ahead i) then alone (ended (fixed_property d v)) i
    else (if is_word ww.Signal (ahead i) then alone (ended signal_member) i
    else other_member d v i)))

-- one more member, behind others
unfoldable pub one_member : ℕ → Under → List Member → Parser (List Member)
one_member d v xs = do
  ys ← member_in d v
  pure (xs ++ ys)

-- { member } "}"
unfoldable pub members : ℕ → Under → Parser (List Member)
members d v = do
  xs ← while_next goes_on_inside (one_member d v) []
  expect CloseBrace
  pure xs

-- "{" { member } "}"
unfoldable pub member_braces : ℕ → Under → Parser (List Member)
member_braces d v = do
  take_token
  members d v

-- "{" { Name ":" value end } "}"
unfoldable pub group_braces : ℕ → Under → List ℕ → Parser (List Member)
group_braces d v n = do
  take_token
  entries d v n

unfoldable pub under : ℕ → Under
under zero = record { members = too_deep; group = λ n. too_deep }
under (suc d) = record { members = member_braces d (under d); group = group_braces d (under d) }

-- Imports

abbrev pub is_qt_quick : List ℕ → Bool
is_qt_quick n = bytes_eq n (codes "QtQuick")

-- the first name of a module, by which another module than QtQuick shows
unfoldable pub module_name : Parser (Unit {0})
module_name i = if name_is is_qt_quick (ahead i) then Ok (tt, after i) else (if is_name (ahead i) then unsupported i else refused i)

-- behind a dot: with a second name it is another module, whose first name stands at the given place
unfoldable pub second_part : Span → Parser Import
second_part at i = if is_name (ahead i) then Err (Unsupported at) else Err (refusal i)

-- the second part of a lawful version
abbrev pub minor_of_lexeme : Lexeme → Option ℕ
minor_of_lexeme (decimal major minor) = if major == 2 && nat_le minor 15 then Some minor else None
minor_of_lexeme _ = None

abbrev pub is_decimal_lexeme : Lexeme → Bool
is_decimal_lexeme (decimal major minor) = true
is_decimal_lexeme _ = false

abbrev pub is_decimal : Option Token → Bool
is_decimal None = false
is_decimal (Some t) = is_decimal_lexeme t.lexeme

abbrev pub minor_of : Option Token → Option ℕ
minor_of None = None
minor_of (Some t) = minor_of_lexeme t.lexeme

-- the version of a module that begins there; another version is refused there
unfoldable pub version : Span → Parser ℕ
version at i = elim (minor_of (ahead i)) [ Some minor ↦ Ok (minor, after i) | None ↦ (if is_decimal (ahead i) then Err (Unsupported at) else Err (refusal i)) ]

-- no `as` stands there
unfoldable pub unnamed : Parser (Unit {0})
unnamed i = if is_word ww.As (ahead i) then Err (Unsupported (place i)) else Ok (tt, i)

unfoldable pub import_version : Span → Parser Import
import_version at = do
  minor ← version at
  unnamed
  pure (record { «module» = codes "QtQuick"; major = 2; minor = minor; span = at })

-- what stands behind the first name of a module, the place of which is given
unfoldable pub behind_module : Span → Parser Import
behind_module at i = if is_mark Dot (ahead i) then (do take_token; second_part at) i else import_version at i

unfoldable pub import_module : Parser Import
import_module i = (do module_name; behind_module (place i)) i

abbrev pub is_text_lexeme : Lexeme → Bool
is_text_lexeme (text s) = true
is_text_lexeme _ = false

abbrev pub is_text : Option Token → Bool
is_text None = false
is_text (Some t) = is_text_lexeme t.lexeme

-- "import" Name Decimal
unfoldable pub import_in : Parser Import
import_in = do
  take_token
  λ i. if is_text (ahead i) then Err (Unsupported (place i)) else import_module i

-- one more import, behind others
unfoldable pub one_import : List Import → Parser (List Import)
one_import xs = do
  x ← ended import_in
  pure (xs ++ x ∷ [])

unfoldable pub imports : Parser (List Import)
imports = while_next (is_word ww.Import) one_import []

-- Documents

-- an object that is a document's root
unfoldable pub root : Parser Decl
root i = if is_dotted_type (is_mark OpenBrace) i.rest then Err (Unsupported (place i)) else object_in (under 64) i

-- the document's end
unfoldable pub nothing_more : Parser (Unit {0})
nothing_more i = if is_some (ahead i) then Err (refusal i) else Ok (tt, i)

-- document = { import } object
unfoldable pub document : Parser Document
document = do
  xs ← imports
  x ← root
  nothing_more
  pure (record { imports = xs; root = x })

-- what a document's tokens say, or its first fault. `end` is the place behind its last byte
unfoldable pub reading : List Token → Span → Result Document DocFault
reading ts end = elim (document (record { rest = ts; end = end; nodes = 0 })) [ Ok r ↦ Ok r.0 | Err e ↦ Err e ]
