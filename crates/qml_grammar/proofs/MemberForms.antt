-- The text of each form of member, value and declaration, by the texts of its parts.
use Rattle.std.proofs.Common.{◌≡◌, ℕ, Bool, List, map, Option, Some, None, ap, sym, ◌∙◌}
use Rattle.std.specs.Prelude.{option_map}
use Rattle.qml_ast.specs.declared.decl.Decl.{Decl, roll-Decl, fold-roll-Decl}
use Rattle.qml_ast.specs.declared.decl.Init.{Init, fold-roll-Init}
use Rattle.qml_ast.specs.declared.decl.Init.TheOpen.{Init-F, Member-F}
use Rattle.qml_ast.specs.declared.decl.Init.TheVariants as ii
use Rattle.qml_ast.specs.declared.decl.Member.{Member, fold-roll-Member}
use Rattle.qml_ast.specs.declared.decl.Member.TheVariants as mm
use Rattle.qml_ast.specs.declared.expr.Expr.{Expr}
use Rattle.qml_ast.specs.declared.param.MethodParam.{MethodParam}
use Rattle.qml_ast.specs.declared.param.SignalParam.{SignalParam}
use Rattle.qml_ast.specs.declared.path.Path.{Path}
use Rattle.qml_ast.specs.declared.span.Span.{Span}
use Rattle.qml_ast.specs.declared.stmt.Stmt.{Stmt}
use Rattle.qml_grammar.specs.Canonical.{Leveled, init_text, member_text, decl_text, init_step, member_step, decl_step}

pub init-Expr : (x : Expr) → init_text (ii.Expr x) ≡ init_step (Init-F.Expr x)
init-Expr x = ap init_text (sym (ii.rolls-Expr x)) ∙ fold-roll-Init Leveled Leveled Leveled init_step member_step decl_step (Init-F.Expr x)

pub init-Object : (x : Decl) → init_text (ii.Object x) ≡ init_step (Init-F.Object (decl_text x))
init-Object x = ap init_text (sym (ii.rolls-Object x)) ∙ fold-roll-Init Leveled Leveled Leveled init_step member_step decl_step (Init-F.Object x)

pub decl-roll : (n : List ℕ) (xs : List Member) (at : Span) → decl_text (roll-Decl (record { name = n; members = xs; span = at })) ≡ decl_step (record { name = n; members = map member_text xs; span = at })
decl-roll n xs at = fold-roll-Decl Leveled Leveled Leveled init_step member_step decl_step (record { name = n; members = xs; span = at })

pub member-Id : (n : List ℕ) (at : Span) → member_text (mm.Id n at) ≡ member_step (Member-F.Id n at)
member-Id n at = ap member_text (sym (mm.rolls-Id n at)) ∙ fold-roll-Member Leveled Leveled Leveled init_step member_step decl_step (Member-F.Id n at)

pub member-Property : (fixed : Bool) (k n : List ℕ) (x : Option Init) (a b c : Span) → member_text (mm.Property fixed k n x a b c) ≡ member_step (Member-F.Property fixed k n (option_map init_text x) a b c)
member-Property fixed k n None a b c = ap member_text (sym (mm.rolls-Property fixed k n None a b c)) ∙ fold-roll-Member Leveled Leveled Leveled init_step member_step decl_step (Member-F.Property fixed k n None a b c)
member-Property fixed k n (Some x) a b c = ap member_text (sym (mm.rolls-Property fixed k n (Some x) a b c)) ∙ fold-roll-Member Leveled Leveled Leveled init_step member_step decl_step (Member-F.Property fixed k n (Some x) a b c)

pub member-Signal : (n : List ℕ) (ps : List SignalParam) (at : Span) → member_text (mm.Signal n ps at) ≡ member_step (Member-F.Signal n ps at)
member-Signal n ps at = ap member_text (sym (mm.rolls-Signal n ps at)) ∙ fold-roll-Member Leveled Leveled Leveled init_step member_step decl_step (Member-F.Signal n ps at)

pub member-Init : (p : Path) (x : Init) (a b : Span) → member_text (mm.Init p x a b) ≡ member_step (Member-F.Init p (init_text x) a b)
member-Init p x a b = ap member_text (sym (mm.rolls-Init p x a b)) ∙ fold-roll-Member Leveled Leveled Leveled init_step member_step decl_step (Member-F.Init p x a b)

pub member-Handler : (p : Path) (x : Stmt) (at : Span) → member_text (mm.Handler p x at) ≡ member_step (Member-F.Handler p x at)
member-Handler p x at = ap member_text (sym (mm.rolls-Handler p x at)) ∙ fold-roll-Member Leveled Leveled Leveled init_step member_step decl_step (Member-F.Handler p x at)

pub member-Method : (n : List ℕ) (ps : List MethodParam) (xs : List Stmt) (at : Span) → member_text (mm.Method n ps xs at) ≡ member_step (Member-F.Method n ps xs at)
member-Method n ps xs at = ap member_text (sym (mm.rolls-Method n ps xs at)) ∙ fold-roll-Member Leveled Leveled Leveled init_step member_step decl_step (Member-F.Method n ps xs at)

pub member-Child : (x : Decl) → member_text (mm.Child x) ≡ member_step (Member-F.Child (decl_text x))
member-Child x = ap member_text (sym (mm.rolls-Child x)) ∙ fold-roll-Member Leveled Leveled Leveled init_step member_step decl_step (Member-F.Child x)

pub init-Expr-lined : (x : Expr) (levels : ℕ) → init_text (ii.Expr x) levels ≡ init_step (Init-F.Expr x) levels
init-Expr-lined x levels = ap (λ l. l levels) (init-Expr x)

pub init-Object-lined : (x : Decl) (levels : ℕ) → init_text (ii.Object x) levels ≡ init_step (Init-F.Object (decl_text x)) levels
init-Object-lined x levels = ap (λ l. l levels) (init-Object x)

pub decl-roll-lined : (n : List ℕ) (xs : List Member) (at : Span) (levels : ℕ) → decl_text (roll-Decl (record { name = n; members = xs; span = at })) levels ≡ decl_step (record { name = n; members = map member_text xs; span = at }) levels
decl-roll-lined n xs at levels = ap (λ l. l levels) (decl-roll n xs at)

pub member-Id-lined : (n : List ℕ) (at : Span) (levels : ℕ) → member_text (mm.Id n at) levels ≡ member_step (Member-F.Id n at) levels
member-Id-lined n at levels = ap (λ l. l levels) (member-Id n at)

pub member-Property-lined : (fixed : Bool) (k n : List ℕ) (x : Option Init) (a b c : Span) (levels : ℕ) → member_text (mm.Property fixed k n x a b c) levels ≡ member_step (Member-F.Property fixed k n (option_map init_text x) a b c) levels
member-Property-lined fixed k n x a b c levels = ap (λ l. l levels) (member-Property fixed k n x a b c)

pub member-Signal-lined : (n : List ℕ) (ps : List SignalParam) (at : Span) (levels : ℕ) → member_text (mm.Signal n ps at) levels ≡ member_step (Member-F.Signal n ps at) levels
member-Signal-lined n ps at levels = ap (λ l. l levels) (member-Signal n ps at)

pub member-Init-lined : (p : Path) (x : Init) (a b : Span) (levels : ℕ) → member_text (mm.Init p x a b) levels ≡ member_step (Member-F.Init p (init_text x) a b) levels
member-Init-lined p x a b levels = ap (λ l. l levels) (member-Init p x a b)

pub member-Handler-lined : (p : Path) (x : Stmt) (at : Span) (levels : ℕ) → member_text (mm.Handler p x at) levels ≡ member_step (Member-F.Handler p x at) levels
member-Handler-lined p x at levels = ap (λ l. l levels) (member-Handler p x at)

pub member-Method-lined : (n : List ℕ) (ps : List MethodParam) (xs : List Stmt) (at : Span) (levels : ℕ) → member_text (mm.Method n ps xs at) levels ≡ member_step (Member-F.Method n ps xs at) levels
member-Method-lined n ps xs at levels = ap (λ l. l levels) (member-Method n ps xs at)

pub member-Child-lined : (x : Decl) (levels : ℕ) → member_text (mm.Child x) levels ≡ member_step (Member-F.Child (decl_text x)) levels
member-Child-lined x levels = ap (λ l. l levels) (member-Child x)
