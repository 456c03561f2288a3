-- Documents that differ in places at most have one canonical text: what is apart from its places has the text that
-- it has with them.
use Rattle.std.proofs.Common.{◌≡◌, ℕ, Bool, List, [], ◌∷◌, ◌++◌, map, flat_map, codes, Option, Some, None, refl, sym, ap, ◌∙◌, subst}
use Rattle.std.specs.Prelude.{option_map}
use Rattle.print_laws.proofs.Apart.{apart-Expr, apart-Object, apart-roll, apart-Id, apart-Property, apart-Signal, apart-Init, apart-Handler, apart-Method, apart-Child}
use Rattle.qml_ast.specs.Alike.{nowhere, signal_param_apart, method_param_apart, init_apart, member_apart, decl_apart, import_apart, IsAlike}
use Rattle.qml_ast.specs.declared.decl.Decl.{Decl, roll-Decl, map-Decl, ind-Decl}
use Rattle.qml_ast.specs.declared.decl.Init.{Init, roll-Init, map-Init}
use Rattle.qml_ast.specs.declared.decl.Init.TheOpen.{Init-F, Member-F, Decl-F}
use Rattle.qml_ast.specs.declared.decl.Init.TheVariants as ii
use Rattle.qml_ast.specs.declared.decl.Member.{Member, roll-Member, map-Member}
use Rattle.qml_ast.specs.declared.decl.Member.TheVariants as mm
use Rattle.qml_ast.specs.declared.document.Document.{Document}
use Rattle.qml_ast.specs.declared.document.Import.{Import}
use Rattle.qml_ast.specs.declared.expr.Expr.{Expr}
use Rattle.qml_ast.specs.declared.param.MethodParam.{MethodParam}
use Rattle.qml_ast.specs.declared.param.SignalParam.{SignalParam}
use Rattle.qml_ast.specs.declared.path.Path.{Path}
use Rattle.qml_ast.specs.declared.span.Span.{Span}
use Rattle.qml_ast.specs.declared.stmt.Stmt.{Stmt}
use Rattle.qml_grammar.specs.Canonical.{new_line, stmt_text, braced, signal_param_text, signal_params_text, method_params_text, member_step, decl_step, init_text, member_text, decl_text, import_text, document_text}
use Rattle.qml_grammar.specs.CanonicalExpressions.{join}
use Rattle.qml_grammar.proofs.MemberForms.{init-Object, decl-roll, member-Id, member-Property, member-Signal, member-Init, member-Handler, member-Method, member-Child}

-- Parameters

signal_param_texts : (ps : List SignalParam) → map signal_param_text (map signal_param_apart ps) ≡ map signal_param_text ps
signal_param_texts [] = refl
signal_param_texts (p ∷ ps) = ap (λ ts. signal_param_text p ∷ ts) (signal_param_texts ps)

signal_params_same : (ps : List SignalParam) → signal_params_text (map signal_param_apart ps) ≡ signal_params_text ps
signal_params_same [] = refl
signal_params_same (p ∷ ps) = ap (λ ts. codes "(" ++ (join (codes ", ") ts ++ codes ")")) (signal_param_texts (p ∷ ps))

method_param_texts : (ps : List MethodParam) → map (λ (p : MethodParam). p.name) (map method_param_apart ps) ≡ map (λ (p : MethodParam). p.name) ps
method_param_texts [] = refl
method_param_texts (p ∷ ps) = ap (λ ts. p.name ∷ ts) (method_param_texts ps)

method_params_same : (ps : List MethodParam) → method_params_text (map method_param_apart ps) ≡ method_params_text ps
method_params_same ps = ap (λ ts. codes "(" ++ (join (codes ", ") ts ++ codes ") ")) (method_param_texts ps)

-- Each form, by its parts

-- apart from its places, the value has the same text
abbrev InitSame : Init → Type 0
InitSame x = init_text (init_apart x) ≡ init_text x

-- likewise the member
abbrev MemberSame : Member → Type 0
MemberSame x = member_text (member_apart x) ≡ member_text x

-- likewise the declaration
abbrev DeclSame : Decl → Type 0
DeclSame x = decl_text (decl_apart x) ≡ decl_text x

same-Expr : (x : Expr) → InitSame (ii.Expr x)
same-Expr x = ap init_text (apart-Expr x)

same-Object : (x : Decl) → DeclSame x → InitSame (ii.Object x)
same-Object x h = ap init_text (apart-Object x) ∙ (init-Object (decl_apart x) ∙ (h ∙ sym (init-Object x)))

same-roll : (n : List ℕ) (xs : List Member) (at : Span) → map member_text (map member_apart xs) ≡ map member_text xs → DeclSame (roll-Decl (record { name = n; members = xs; span = at }))
same-roll n xs at h =
    ap decl_text (apart-roll n xs at) ∙ (decl-roll n (map member_apart xs) nowhere ∙ (ap (λ ts. decl_step (record { name = n; members = ts; span = nowhere })) h ∙ sym (decl-roll n xs at)))

same-Id : (n : List ℕ) (at : Span) → MemberSame (mm.Id n at)
same-Id n at = ap member_text (apart-Id n at) ∙ (member-Id n nowhere ∙ sym (member-Id n at))

same-Property : (fixed : Bool) (k n : List ℕ) (x : Option Init) (a b c : Span) → option_map init_text (option_map init_apart x) ≡ option_map init_text x → MemberSame (mm.Property fixed k n x a b c)
same-Property fixed k n x a b c h =
    ap member_text (apart-Property fixed k n x a b c)
    ∙ (member-Property fixed k n (option_map init_apart x) nowhere nowhere nowhere ∙ (ap (λ t. member_step (Member-F.Property fixed k n t nowhere nowhere nowhere)) h ∙ sym (member-Property fixed k n x a b c)))

same-Signal : (n : List ℕ) (ps : List SignalParam) (at : Span) → MemberSame (mm.Signal n ps at)
same-Signal n ps at =
    ap member_text (apart-Signal n ps at)
    ∙ (member-Signal n (map signal_param_apart ps) nowhere ∙ (ap (λ t levels. codes "signal " ++ (n ++ t)) (signal_params_same ps) ∙ sym (member-Signal n ps at)))

same-Init : (p : Path) (x : Init) (a b : Span) → InitSame x → MemberSame (mm.Init p x a b)
same-Init p x a b h =
    ap member_text (apart-Init p x a b) ∙ (member-Init p (init_apart x) nowhere nowhere ∙ (ap (λ t. member_step (Member-F.Init p t nowhere nowhere)) h ∙ sym (member-Init p x a b)))

same-Handler : (p : Path) (x : Stmt) (at : Span) → MemberSame (mm.Handler p x at)
same-Handler p x at = ap member_text (apart-Handler p x at) ∙ (member-Handler p x nowhere ∙ sym (member-Handler p x at))

same-Method : (n : List ℕ) (ps : List MethodParam) (xs : List Stmt) (at : Span) → MemberSame (mm.Method n ps xs at)
same-Method n ps xs at =
    ap member_text (apart-Method n ps xs at)
    ∙ (member-Method n (map method_param_apart ps) xs nowhere ∙ (ap (λ t levels. codes "function " ++ (n ++ (t ++ braced (map stmt_text xs) levels))) (method_params_same ps) ∙ sym (member-Method n ps xs at)))

same-Child : (x : Decl) → DeclSame x → MemberSame (mm.Child x)
same-Child x h = ap member_text (apart-Child x) ∙ (member-Child (decl_apart x) ∙ (h ∙ sym (member-Child x)))

-- One level, whose parts have the same text apart from their places

module _ (I M D : Type 0) (init : I → Init) (member : M → Member) (decl : D → Decl) (inits : (x : I) → InitSame (init x)) (members : (x : M) → MemberSame (member x)) (decls : (x : D) → DeclSame (decl x)) where
  members_same : (xs : List M) → map member_text (map member_apart (map member xs)) ≡ map member_text (map member xs)
  members_same [] = refl
  members_same (x ∷ xs) = λ i. members x i ∷ members_same xs i

  init_level : (y : Init-F I M D) → InitSame (roll-Init (map-Init I M D Init Member Decl init member decl y))
  init_level (Init-F.Expr x) = subst InitSame (sym (ii.rolls-Expr x)) (same-Expr x)
  init_level (Init-F.Object x) = subst InitSame (sym (ii.rolls-Object (decl x))) (same-Object (decl x) (decls x))

  member_level : (y : Member-F I M D) → MemberSame (roll-Member (map-Member I M D Init Member Decl init member decl y))
  member_level (Member-F.Id n at) = subst MemberSame (sym (mm.rolls-Id n at)) (same-Id n at)
  member_level (Member-F.Property fixed k n None a b c) = subst MemberSame (sym (mm.rolls-Property fixed k n None a b c)) (same-Property fixed k n None a b c refl)
  member_level (Member-F.Property fixed k n (Some x) a b c) =
      subst MemberSame (sym (mm.rolls-Property fixed k n (Some (init x)) a b c)) (same-Property fixed k n (Some (init x)) a b c (ap Some (inits x)))
  member_level (Member-F.Signal n ps at) = subst MemberSame (sym (mm.rolls-Signal n ps at)) (same-Signal n ps at)
  member_level (Member-F.Init p x a b) = subst MemberSame (sym (mm.rolls-Init p (init x) a b)) (same-Init p (init x) a b (inits x))
  member_level (Member-F.Handler p x at) = subst MemberSame (sym (mm.rolls-Handler p x at)) (same-Handler p x at)
  member_level (Member-F.Method n ps xs at) = subst MemberSame (sym (mm.rolls-Method n ps xs at)) (same-Method n ps xs at)
  member_level (Member-F.Child x) = subst MemberSame (sym (mm.rolls-Child (decl x))) (same-Child (decl x) (decls x))

  decl_level : (y : Decl-F I M D) → DeclSame (roll-Decl (map-Decl I M D Init Member Decl init member decl y))
  decl_level y = same-roll y.name (map member y.members) y.span (members_same y.members)

-- All levels

decl_same : (x : Decl) → DeclSame x
decl_same = ind-Decl InitSame MemberSame DeclSame
    (λ x y is. subst (λ l. InitSame (roll-Init l)) is (init_level _ _ _ (λ z. z.0) (λ z. z.0) (λ z. z.0) (λ z. z.1) (λ z. z.1) (λ z. z.1) y))
    (λ x y is. subst (λ l. MemberSame (roll-Member l)) is (member_level _ _ _ (λ z. z.0) (λ z. z.0) (λ z. z.0) (λ z. z.1) (λ z. z.1) (λ z. z.1) y))
    (λ x y is. subst (λ l. DeclSame (roll-Decl l)) is (decl_level _ _ _ (λ z. z.0) (λ z. z.0) (λ z. z.0) (λ z. z.1) (λ z. z.1) (λ z. z.1) y))

decls_have_one_text : (x y : Decl) → decl_apart x ≡ decl_apart y → decl_text x ≡ decl_text y
decls_have_one_text x y h = sym (decl_same x) ∙ (ap decl_text h ∙ decl_same y)

-- Documents

imports_same : (xs : List Import) → flat_map import_text (map import_apart xs) ≡ flat_map import_text xs
imports_same [] = refl
imports_same (x ∷ xs) = ap (λ s. import_text x ++ s) (imports_same xs)

imports_have_one_text : (xs ys : List Import) → map import_apart xs ≡ map import_apart ys → flat_map import_text xs ≡ flat_map import_text ys
imports_have_one_text xs ys h = sym (imports_same xs) ∙ (ap (flat_map import_text) h ∙ imports_same ys)

-- documents that differ in places at most have one canonical text
pub one_text : (d other : Document) → IsAlike d other → document_text d ≡ document_text other
one_text d other alike =
    let imports : flat_map import_text d.imports ≡ flat_map import_text other.imports = imports_have_one_text d.imports other.imports alike.0 in
    let root : decl_text d.root ≡ decl_text other.root = decls_have_one_text d.root other.root alike.1 in
    λ i. imports i ++ (root i 0 ++ new_line)
