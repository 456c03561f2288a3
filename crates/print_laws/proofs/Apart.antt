-- Each form of value, member and declaration apart from places, by its parts apart from places.
use Rattle.std.proofs.Common.{◌≡◌, ℕ, Bool, List, map, Option, Some, None, ap, sym, ◌∙◌}
use Rattle.std.specs.Prelude.{option_map}
use Rattle.qml_ast.specs.Alike.{nowhere, signal_param_apart, method_param_apart, init_step, member_step, decl_step, init_apart, member_apart, decl_apart}
use Rattle.qml_ast.specs.declared.decl.Decl.{Decl, roll-Decl, fold-roll-Decl}
use Rattle.qml_ast.specs.declared.decl.Init.{Init, fold-roll-Init}
use Rattle.qml_ast.specs.declared.decl.Init.TheOpen.{Init-F, Member-F}
use Rattle.qml_ast.specs.declared.decl.Init.TheVariants as ii
use Rattle.qml_ast.specs.declared.decl.Member.{Member, fold-roll-Member}
use Rattle.qml_ast.specs.declared.decl.Member.TheVariants as mm
use Rattle.qml_ast.specs.declared.expr.Expr.{Expr}
use Rattle.qml_ast.specs.declared.param.MethodParam.{MethodParam}
use Rattle.qml_ast.specs.declared.param.SignalParam.{SignalParam}
use Rattle.qml_ast.specs.declared.path.Path.{Path}
use Rattle.qml_ast.specs.declared.span.Span.{Span}
use Rattle.qml_ast.specs.declared.stmt.Stmt.{Stmt}

-- another one that differs from this one in places at most, of which this holds
pub record Other {A : Type 0} (apart : A → A) (x : A) (Is : A → Type 0) : Type 0 where
  pub other : A
  pub alike : apart other ≡ apart x
  pub is : Is other

pub apart-Expr : (x : Expr) → init_apart (ii.Expr x) ≡ ii.Expr x
apart-Expr x = ap init_apart (sym (ii.rolls-Expr x)) ∙ fold-roll-Init Init Member Decl init_step member_step decl_step (Init-F.Expr x)

pub apart-Object : (x : Decl) → init_apart (ii.Object x) ≡ ii.Object (decl_apart x)
apart-Object x = ap init_apart (sym (ii.rolls-Object x)) ∙ fold-roll-Init Init Member Decl init_step member_step decl_step (Init-F.Object x)

pub apart-roll : (n : List ℕ) (xs : List Member) (at : Span) → decl_apart (roll-Decl (record { name = n; members = xs; span = at })) ≡ roll-Decl (record { name = n; members = map member_apart xs; span = nowhere })
apart-roll n xs at = fold-roll-Decl Init Member Decl init_step member_step decl_step (record { name = n; members = xs; span = at })

pub apart-Id : (n : List ℕ) (at : Span) → member_apart (mm.Id n at) ≡ mm.Id n nowhere
apart-Id n at = ap member_apart (sym (mm.rolls-Id n at)) ∙ fold-roll-Member Init Member Decl init_step member_step decl_step (Member-F.Id n at)

pub apart-Property : (fixed : Bool) (k n : List ℕ) (x : Option Init) (a b c : Span) → member_apart (mm.Property fixed k n x a b c) ≡ mm.Property fixed k n (option_map init_apart x) nowhere nowhere nowhere
apart-Property fixed k n None a b c = ap member_apart (sym (mm.rolls-Property fixed k n None a b c)) ∙ fold-roll-Member Init Member Decl init_step member_step decl_step (Member-F.Property fixed k n None a b c)
apart-Property fixed k n (Some x) a b c = ap member_apart (sym (mm.rolls-Property fixed k n (Some x) a b c)) ∙ fold-roll-Member Init Member Decl init_step member_step decl_step (Member-F.Property fixed k n (Some x) a b c)

pub apart-Signal : (n : List ℕ) (ps : List SignalParam) (at : Span) → member_apart (mm.Signal n ps at) ≡ mm.Signal n (map signal_param_apart ps) nowhere
apart-Signal n ps at = ap member_apart (sym (mm.rolls-Signal n ps at)) ∙ fold-roll-Member Init Member Decl init_step member_step decl_step (Member-F.Signal n ps at)

pub apart-Init : (p : Path) (x : Init) (a b : Span) → member_apart (mm.Init p x a b) ≡ mm.Init p (init_apart x) nowhere nowhere
apart-Init p x a b = ap member_apart (sym (mm.rolls-Init p x a b)) ∙ fold-roll-Member Init Member Decl init_step member_step decl_step (Member-F.Init p x a b)

pub apart-Handler : (p : Path) (x : Stmt) (at : Span) → member_apart (mm.Handler p x at) ≡ mm.Handler p x nowhere
apart-Handler p x at = ap member_apart (sym (mm.rolls-Handler p x at)) ∙ fold-roll-Member Init Member Decl init_step member_step decl_step (Member-F.Handler p x at)

pub apart-Method : (n : List ℕ) (ps : List MethodParam) (xs : List Stmt) (at : Span) → member_apart (mm.Method n ps xs at) ≡ mm.Method n (map method_param_apart ps) xs nowhere
apart-Method n ps xs at = ap member_apart (sym (mm.rolls-Method n ps xs at)) ∙ fold-roll-Member Init Member Decl init_step member_step decl_step (Member-F.Method n ps xs at)

pub apart-Child : (x : Decl) → member_apart (mm.Child x) ≡ mm.Child (decl_apart x)
apart-Child x = ap member_apart (sym (mm.rolls-Child x)) ∙ fold-roll-Member Init Member Decl init_step member_step decl_step (Member-F.Child x)

-- The same parts in the same form

pub alike-Object : (x y : Decl) → decl_apart x ≡ decl_apart y → init_apart (ii.Object x) ≡ init_apart (ii.Object y)
alike-Object x y h = apart-Object x ∙ (ap ii.Object h ∙ sym (apart-Object y))

pub alike-roll : (n : List ℕ) (xs ys : List Member) (a b : Span) → map member_apart xs ≡ map member_apart ys → decl_apart (roll-Decl (record { name = n; members = xs; span = a })) ≡ decl_apart (roll-Decl (record { name = n; members = ys; span = b }))
alike-roll n xs ys a b h = apart-roll n xs a ∙ (ap (λ zs. roll-Decl (record { name = n; members = zs; span = nowhere })) h ∙ sym (apart-roll n ys b))

pub alike-Id : (n : List ℕ) (a b : Span) → member_apart (mm.Id n a) ≡ member_apart (mm.Id n b)
alike-Id n a b = apart-Id n a ∙ sym (apart-Id n b)

pub alike-Property : (fixed : Bool) (k n : List ℕ) (x y : Option Init) (a b c d e f : Span) → option_map init_apart x ≡ option_map init_apart y → member_apart (mm.Property fixed k n x a b c) ≡ member_apart (mm.Property fixed k n y d e f)
alike-Property fixed k n x y a b c d e f h = apart-Property fixed k n x a b c ∙ (ap (λ z. mm.Property fixed k n z nowhere nowhere nowhere) h ∙ sym (apart-Property fixed k n y d e f))

pub alike-Signal : (n : List ℕ) (ps qs : List SignalParam) (a b : Span) → map signal_param_apart ps ≡ map signal_param_apart qs → member_apart (mm.Signal n ps a) ≡ member_apart (mm.Signal n qs b)
alike-Signal n ps qs a b h = apart-Signal n ps a ∙ (ap (λ rs. mm.Signal n rs nowhere) h ∙ sym (apart-Signal n qs b))

pub alike-Init : (p : Path) (x y : Init) (a b c d : Span) → init_apart x ≡ init_apart y → member_apart (mm.Init p x a b) ≡ member_apart (mm.Init p y c d)
alike-Init p x y a b c d h = apart-Init p x a b ∙ (ap (λ z. mm.Init p z nowhere nowhere) h ∙ sym (apart-Init p y c d))

pub alike-Handler : (p : Path) (x : Stmt) (a b : Span) → member_apart (mm.Handler p x a) ≡ member_apart (mm.Handler p x b)
alike-Handler p x a b = apart-Handler p x a ∙ sym (apart-Handler p x b)

pub alike-Method : (n : List ℕ) (ps qs : List MethodParam) (xs : List Stmt) (a b : Span) → map method_param_apart ps ≡ map method_param_apart qs → member_apart (mm.Method n ps xs a) ≡ member_apart (mm.Method n qs xs b)
alike-Method n ps qs xs a b h = apart-Method n ps xs a ∙ (ap (λ rs. mm.Method n rs xs nowhere) h ∙ sym (apart-Method n qs xs b))

pub alike-Child : (x y : Decl) → decl_apart x ≡ decl_apart y → member_apart (mm.Child x) ≡ member_apart (mm.Child y)
alike-Child x y h = apart-Child x ∙ (ap mm.Child h ∙ sym (apart-Child y))
