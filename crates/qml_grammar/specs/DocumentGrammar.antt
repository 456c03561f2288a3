-- What tokens spell a document: the productions, apart from how they are read. `most` is how many nodes an
-- expression may have, `d` the number of levels that may still be opened around what is spelled, and `next` the
-- token behind it.
use Rattle.std.specs.Prelude.{◌≡◌, ℕ, suc, ◌≤◌, ◌||◌, ◌⊎◌, Bool, true, false, List, [], ◌∷◌, ◌++◌, Option, Some, None, codes}
use Rattle.qml_ast.specs.declared.decl.Decl.{Decl, roll-Decl}
use Rattle.qml_ast.specs.declared.decl.Init.{Init}
use Rattle.qml_ast.specs.declared.decl.Init.TheVariants as ii
use Rattle.qml_ast.specs.declared.decl.Member.{Member}
use Rattle.qml_ast.specs.declared.decl.Member.TheVariants as mm
use Rattle.qml_ast.specs.declared.document.Document.{Document}
use Rattle.qml_ast.specs.declared.document.Import.{Import}
use Rattle.qml_ast.specs.declared.expr.Expr.{Expr}
use Rattle.qml_ast.specs.declared.param.MethodParam.{MethodParam}
use Rattle.qml_ast.specs.declared.param.SignalParam.{SignalParam}
use Rattle.qml_ast.specs.declared.path.Path.{Path}
use Rattle.qml_ast.specs.declared.span.Span.{Span}
use Rattle.qml_ast.specs.declared.stmt.Stmt.{Stmt}
use Rattle.qml_grammar.specs.Documents.{value_place}
use Rattle.qml_grammar.specs.ExpressionGrammar.{IsMark}
use Rattle.qml_grammar.specs.Lexemes.{decimal, Token, last_of, is_mark, is_word, name_of}
use Rattle.qml_grammar.specs.Names.{upper_first, lower_first, is_handler_name, is_handler_path}
use Rattle.qml_grammar.specs.StatementGrammar.{IsWord, follow, IsEnd, IsWhole, IsStmt, IsBlock}
use Rattle.qml_grammar.specs.declared.mark.Mark.TheVariants.{OpenBrace, CloseBrace, OpenParen, CloseParen, Colon, Comma, Dot}
use Rattle.qml_grammar.specs.declared.word.Word.TheVariants as ww

-- the token is this name
abbrev pub IsName : Token → List ℕ → Type 0
IsName t n = name_of (Some t) ≡ Some n

-- names with dots between them, the first and the last one of which are these
pub data AreNames : List Token → List ℕ → List ℕ → Type 0 where
  one : {ts : List Token} {a z : List ℕ} (t : Token) → ts ≡ t ∷ [] → IsName t a → z ≡ a → AreNames ts a z
  more : {ts : List Token} {a z : List ℕ} (us : List Token) (o t : Token) (y : List ℕ) → ts ≡ us ++ o ∷ t ∷ [] → AreNames us a y → IsMark o Dot → IsName t z → AreNames ts a z

-- the tokens before `next` are no type's name before "{"
abbrev pub IsNoType : List Token → Option Token → Type 0
IsNoType ts next = (a z : List ℕ) → AreNames ts a z → upper_first a ≡ true → upper_first z ≡ true → is_mark OpenBrace next ≡ false

-- a member that begins with this token is not named by it
abbrev pub is_own_word : Option Token → Bool
is_own_word t = is_word ww.Id t || is_word ww.Property t || is_word ww.ReadOnly t || is_word ww.Signal t || is_word ww.Function t || is_word ww.Default t || is_word ww.Enum t || is_word ww.Required t || is_word ww.Else t

-- path = Name [ "." Name ], of a member
pub data IsPath : List Token → Path → Type 0 where
  one : {ts : List Token} {p : Path} (t : Token) (n : List ℕ) → ts ≡ t ∷ [] → p ≡ record { first = n; second = None } → is_own_word (Some t) ≡ false → IsName t n → IsPath ts p
  two : {ts : List Token} {p : Path} (t o u : Token) (n m : List ℕ) → ts ≡ t ∷ o ∷ u ∷ [] → p ≡ record { first = n; second = Some m } → is_own_word (Some t) ≡ false → IsName t n → IsMark o Dot → IsName u m → (is_handler_name m ≡ false) ⊎ (n ≡ codes "Component") → IsPath ts p

-- Name Name
pub data IsSignalParam : List Token → SignalParam → Type 0 where
  param : {ts : List Token} {x : SignalParam} (t u : Token) (k n : List ℕ) → ts ≡ t ∷ u ∷ [] → x ≡ record { kind = k; name = n; kind_span = t.span; name_span = u.span } → IsName t k → IsName u n → IsSignalParam ts x

-- Name Name { "," Name Name }
pub data AreSignalParams : List Token → List SignalParam → Type 0 where
  one : {ts : List Token} {xs : List SignalParam} (x : SignalParam) → xs ≡ x ∷ [] → IsSignalParam ts x → AreSignalParams ts xs
  more : {ts : List Token} {xs : List SignalParam} (us : List Token) (o : Token) (vs : List Token) (ys : List SignalParam) (z : SignalParam) → ts ≡ us ++ o ∷ vs → xs ≡ ys ++ z ∷ [] → AreSignalParams us ys → IsMark o Comma → IsSignalParam vs z → AreSignalParams ts xs

-- Name { "," Name }
pub data AreMethodParams : List Token → List MethodParam → Type 0 where
  one : {ts : List Token} {xs : List MethodParam} (t : Token) (n : List ℕ) → ts ≡ t ∷ [] → xs ≡ record { name = n; span = t.span } ∷ [] → IsName t n → AreMethodParams ts xs
  more : {ts : List Token} {xs : List MethodParam} (us : List Token) (o t : Token) (ys : List MethodParam) (n : List ℕ) → ts ≡ us ++ o ∷ t ∷ [] → xs ≡ ys ++ record { name = n; span = t.span } ∷ [] → AreMethodParams us ys → IsMark o Comma → IsName t n → AreMethodParams ts xs

-- "(" [ Name { "," Name } ] ")"
pub data AreMethodParens : List Token → List MethodParam → Type 0 where
  none : {ts : List Token} {xs : List MethodParam} (o z : Token) → ts ≡ o ∷ z ∷ [] → xs ≡ [] → IsMark o OpenParen → IsMark z CloseParen → AreMethodParens ts xs
  some : {ts : List Token} {xs : List MethodParam} (o : Token) (us : List Token) (z : Token) → ts ≡ o ∷ us ++ z ∷ [] → IsMark o OpenParen → AreMethodParams us xs → IsMark z CloseParen → AreMethodParens ts xs

-- [ "(" [ Name Name { "," Name Name } ] ")" ]
pub data AreSignalParens : List Token → Option Token → List SignalParam → Type 0 where
  nothing : {ts : List Token} {next : Option Token} {xs : List SignalParam} → ts ≡ [] → xs ≡ [] → is_mark OpenParen next ≡ false → AreSignalParens ts next xs
  none : {ts : List Token} {next : Option Token} {xs : List SignalParam} (o z : Token) → ts ≡ o ∷ z ∷ [] → xs ≡ [] → IsMark o OpenParen → IsMark z CloseParen → AreSignalParens ts next xs
  some : {ts : List Token} {next : Option Token} {xs : List SignalParam} (o : Token) (us : List Token) (z : Token) → ts ≡ o ∷ us ++ z ∷ [] → IsMark o OpenParen → AreSignalParams us xs → IsMark z CloseParen → AreSignalParens ts next xs

mutual
  -- object = Name "{" { member } "}"
  pub data IsObject (most : ℕ) : ℕ → List Token → Decl → Type 0 where
    object : {d : ℕ} {ts : List Token} {x : Decl} (c : ℕ) (t o : Token) (us : List Token) (z : Token) (n : List ℕ) (xs : List Member) → d ≡ suc c → ts ≡ t ∷ o ∷ us ++ z ∷ [] → x ≡ roll-Decl (record { name = n; members = xs; span = t.span }) → IsName t n → upper_first n ≡ true → IsMark o OpenBrace → AreMembers most c us (Some z) xs → IsMark z CloseBrace → IsObject most d ts x

  -- value = expr | object, with its place
  pub data IsValue (most : ℕ) : ℕ → List Token → Option Token → Init → Span → Type 0 where
    expr : {d : ℕ} {ts : List Token} {next : Option Token} {x : Init} {at : Span} (t : Token) (us : List Token) (y : Expr) → ts ≡ t ∷ us → x ≡ ii.Expr y → at ≡ value_place y ts t.span → IsWhole most d ts next y → IsNoType ts next → IsValue most d ts next x at
    value_object : {d : ℕ} {ts : List Token} {next : Option Token} {x : Init} {at : Span} (t : Token) (us : List Token) (y : Decl) → ts ≡ t ∷ us → x ≡ ii.Object y → at ≡ t.span → IsObject most d ts y → IsValue most d ts next x at

  -- [ ":" value ], behind the name of a property, whose place is there
  pub data IsMaybeValue (most : ℕ) : ℕ → List Token → Option Token → Option Init → Span → Span → Type 0 where
    no_value : {d : ℕ} {ts : List Token} {next : Option Token} {x : Option Init} {at there : Span} → ts ≡ [] → x ≡ None → at ≡ there → is_mark Colon next ≡ false → IsMaybeValue most d ts next x at there
    a_value : {d : ℕ} {ts : List Token} {next : Option Token} {x : Option Init} {at there : Span} (o : Token) (us : List Token) (y : Init) → ts ≡ o ∷ us → x ≡ Some y → IsMark o Colon → IsValue most d us next y at → IsMaybeValue most d ts next x at there

  -- a member with an end, without it
  pub data IsShortMember (most : ℕ) : ℕ → List Token → Option Token → Member → Type 0 where
    -- "id" ":" Name
    id : {d : ℕ} {ts : List Token} {next : Option Token} {x : Member} (t o u : Token) (n : List ℕ) → ts ≡ t ∷ o ∷ u ∷ [] → x ≡ mm.Id n u.span → IsWord t ww.Id → IsMark o Colon → IsName u n → IsShortMember most d ts next x
    -- "property" Name Name [ ":" value ]
    property : {d : ℕ} {ts : List Token} {next : Option Token} {x : Member} (t u v : Token) (us : List Token) (k n : List ℕ) (y : Option Init) (at : Span) → ts ≡ t ∷ u ∷ v ∷ us → x ≡ mm.Property false k n y u.span at v.span → IsWord t ww.Property → IsName u k → is_word ww.Alias (Some u) ≡ false → IsName v n → IsMaybeValue most d us next y at v.span → IsShortMember most d ts next x
    -- "readonly" "property" Name Name [ ":" value ]
    fixed : {d : ℕ} {ts : List Token} {next : Option Token} {x : Member} (r t u v : Token) (us : List Token) (k n : List ℕ) (y : Option Init) (at : Span) → ts ≡ r ∷ t ∷ u ∷ v ∷ us → x ≡ mm.Property true k n y u.span at v.span → IsWord r ww.ReadOnly → IsWord t ww.Property → IsName u k → is_word ww.Alias (Some u) ≡ false → IsName v n → IsMaybeValue most d us next y at v.span → IsShortMember most d ts next x
    -- "signal" Name [ "(" [ Name Name { "," Name Name } ] ")" ]
    signal : {d : ℕ} {ts : List Token} {next : Option Token} {x : Member} (t u : Token) (us : List Token) (n : List ℕ) (ps : List SignalParam) → ts ≡ t ∷ u ∷ us → x ≡ mm.Signal n ps u.span → IsWord t ww.Signal → IsName u n → AreSignalParens us next ps → IsShortMember most d ts next x
    -- path ":" value
    initialised : {d : ℕ} {ts : List Token} {next : Option Token} {x : Member} (t : Token) (us : List Token) (o : Token) (vs : List Token) (p : Path) (y : Init) (at : Span) → ts ≡ t ∷ us ++ o ∷ vs → x ≡ mm.Init p y at t.span → IsPath (t ∷ us) p → is_handler_path p ≡ false → IsMark o Colon → IsValue most d vs next y at → IsShortMember most d ts next x
    -- path ":" body
    handled : {d : ℕ} {ts : List Token} {next : Option Token} {x : Member} (t : Token) (us : List Token) (o : Token) (vs : List Token) (p : Path) (y : Stmt) → ts ≡ t ∷ us ++ o ∷ vs → x ≡ mm.Handler p y t.span → IsPath (t ∷ us) p → is_handler_path p ≡ true → IsMark o Colon → IsStmt most d vs next y → IsShortMember most d ts next x

  -- a member, or the initialisers of a group
  pub data IsMember (most : ℕ) : ℕ → List Token → Option Token → List Member → Type 0 where
    -- what has an end, and it
    short : {d : ℕ} {ts : List Token} {next : Option Token} {xs : List Member} (us es : List Token) (x : Member) → ts ≡ us ++ es → xs ≡ x ∷ [] → IsShortMember most d us (follow es next) x → IsEnd (last_of us) es next → IsMember most d ts next xs
    -- "function" Name "(" [ Name { "," Name } ] ")" block
    method : {d : ℕ} {ts : List Token} {next : Option Token} {xs : List Member} (t u : Token) (us vs : List Token) (n : List ℕ) (ps : List MethodParam) (ys : List Stmt) → ts ≡ t ∷ u ∷ us ++ vs → xs ≡ mm.Method n ps ys u.span ∷ [] → IsWord t ww.Function → IsName u n → AreMethodParens us ps → IsBlock most d vs ys → IsMember most d ts next xs
    -- Name "{" { Name ":" value end } "}"
    group : {d : ℕ} {ts : List Token} {next : Option Token} {xs : List Member} (c : ℕ) (t o : Token) (us : List Token) (z : Token) (n : List ℕ) → d ≡ suc c → ts ≡ t ∷ o ∷ us ++ z ∷ [] → is_own_word (Some t) ≡ false → IsName t n → lower_first n ≡ true → IsMark o OpenBrace → AreEntries most c n us (Some z) xs → IsMark z CloseBrace → IsMember most d ts next xs
    -- object
    child : {d : ℕ} {ts : List Token} {next : Option Token} {xs : List Member} (y : Decl) → xs ≡ mm.Child y ∷ [] → IsObject most d ts y → IsMember most d ts next xs

  -- { Name ":" value end }, of the group of this name
  pub data AreEntries (most : ℕ) : ℕ → List ℕ → List Token → Option Token → List Member → Type 0 where
    no_entries : {d : ℕ} {n : List ℕ} {ts : List Token} {next : Option Token} {xs : List Member} → ts ≡ [] → xs ≡ [] → AreEntries most d n ts next xs
    more_entries : {d : ℕ} {n : List ℕ} {ts : List Token} {next : Option Token} {xs : List Member} (us es vs : List Token) (y : Member) (ys : List Member) → ts ≡ us ++ es ++ vs → xs ≡ y ∷ ys → IsEntry most d n us (follow es (follow vs next)) y → IsEnd (last_of us) es (follow vs next) → AreEntries most d n vs next ys → AreEntries most d n ts next xs

  -- Name ":" value
  pub data IsEntry (most : ℕ) : ℕ → List ℕ → List Token → Option Token → Member → Type 0 where
    entry : {d : ℕ} {n : List ℕ} {ts : List Token} {next : Option Token} {x : Member} (t o : Token) (us : List Token) (m : List ℕ) (y : Init) (at : Span) → ts ≡ t ∷ o ∷ us → x ≡ mm.Init (record { first = n; second = Some m }) y at t.span → IsName t m → is_handler_name m ≡ false → IsMark o Colon → IsValue most d us next y at → IsEntry most d n ts next x

  -- { member }
  pub data AreMembers (most : ℕ) : ℕ → List Token → Option Token → List Member → Type 0 where
    no_members : {d : ℕ} {ts : List Token} {next : Option Token} {xs : List Member} → ts ≡ [] → xs ≡ [] → AreMembers most d ts next xs
    more_members : {d : ℕ} {ts : List Token} {next : Option Token} {xs : List Member} (us vs : List Token) (ys zs : List Member) → ts ≡ us ++ vs → xs ≡ ys ++ zs → IsMember most d us (follow vs next) ys → AreMembers most d vs next zs → AreMembers most d ts next xs

-- "import" Name Decimal end, which is QtQuick 2.0 to 2.15
pub data IsImport : List Token → Option Token → Import → Type 0 where
  import : {ts : List Token} {next : Option Token} {x : Import} (t u v : Token) (es : List Token) (minor : ℕ) → ts ≡ t ∷ u ∷ v ∷ es → x ≡ record { «module» = codes "QtQuick"; major = 2; minor = minor; span = u.span } → IsWord t ww.Import → IsName u (codes "QtQuick") → v.lexeme ≡ decimal 2 minor → minor ≤ 15 → is_word ww.As (follow es next) ≡ false → IsEnd (Some v) es next → IsImport ts next x

-- { import }
pub data AreImports : List Token → Option Token → List Import → Type 0 where
  none : {ts : List Token} {next : Option Token} {xs : List Import} → ts ≡ [] → xs ≡ [] → AreImports ts next xs
  more : {ts : List Token} {next : Option Token} {xs : List Import} (us vs : List Token) (y : Import) (ys : List Import) → ts ≡ us ++ vs → xs ≡ y ∷ ys → IsImport us (follow vs next) y → AreImports vs next ys → AreImports ts next xs

-- document = { import } object
pub data IsDocumentWithin (most d : ℕ) : List Token → Document → Type 0 where
  document : {ts : List Token} {x : Document} (us vs : List Token) (ys : List Import) (z : Decl) → ts ≡ us ++ vs → x ≡ record { imports = ys; root = z } → AreImports us (follow vs None) ys → IsObject most d vs z → IsDocumentWithin most d ts x

-- a document within this engine's limits
abbrev pub IsDocument : List Token → Document → Type 0
IsDocument ts x = IsDocumentWithin 200 64 ts x
