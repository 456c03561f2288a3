-- Statements that have begun.
use Rattle.std.proofs.Common.{◌≡◌, ◌∙◌, List, [], sym, ap, subst}
use Rattle.std.specs.Prelude.{Option, None, Some, option_map, Result}
use Rattle.qml_ast.specs.declared.expr.Expr.{Expr, out-Expr, out-roll-Expr}
use Rattle.qml_ast.specs.declared.expr.Expr.TheOpen.{Expr-F}
use Rattle.qml_ast.specs.declared.expr.Expr.TheVariants as ee
use Rattle.qml_ast.specs.declared.stmt.AssignOp.{AssignOp}
use Rattle.qml_ast.specs.declared.stmt.Stmt.{Stmt, fold-roll-Stmt}
use Rattle.qml_ast.specs.declared.stmt.Stmt.TheVariants as ss
use Rattle.qml_ast.specs.declared.stmt.Stmt.TheOpen.{Stmt-F}
use Rattle.expr_eval.specs.Needs.{every}
use Rattle.expr_eval.specs.Statements.{called}
use Rattle.expr_eval.specs.declared.locals.NamedLocal.{NamedLocal}
use Rattle.object_tree.specs.Settled.{meanings, arities}
use Rattle.signals.specs.Endings.{Handle, Doing, Leaves, ended, followed, going, with_value}
use Rattle.signals.specs.Running.{exec, begun, step, visit, chosen, assigned_to, call_done, done_step}
use Rattle.signals.specs.Values.{value_in, holds_in}
use Rattle.signals.specs.declared.ending.Flow.{Flow}
use Rattle.signals.specs.declared.ending.Stop.{Stop}
use Rattle.signals.specs.declared.job.Site.{Site}
use Rattle.signals.specs.declared.world.World.{World}

module _ (h : Handle) (site : Site) (w w1 : World) (locals : List NamedLocal) (r : Result Flow Stop) (new : World) (after : List NamedLocal) where
  pub assigns : (target : Expr) (op : AssignOp) (right : Expr) → begun site w ≡ ended w1 →
      Leaves (assigned_to h site target op (value_in site.frame w1.objects locals right) w1 locals) r new after →
      Leaves (exec h site (ss.Assign target op right) w locals) r new after
  unfolding exec
  assigns target op right b leaves =
      let it : Stmt-F Doing = Stmt-F.Assign target op right in
      let is : exec h site (ss.Assign target op right) ≡ step h site it = ap (exec h site) (sym (ss.rolls-Assign target op right)) ∙ fold-roll-Stmt Doing (step h site) (Stmt-F.Assign target op right) in
      subst (λ (d : Doing). Leaves (d w locals) r new after) (sym is)
      (subst (λ e. Leaves (followed (going e locals) (visit h site it)) r new after) (sym b) leaves)

  if_is : (condition : Expr) (first : Stmt) (otherwise : Option Stmt) → exec h site (ss.If condition first otherwise) ≡ step h site (Stmt-F.If condition (exec h site first) (option_map (exec h site) otherwise))
  unfolding exec
  if_is condition first None = ap (exec h site) (sym (ss.rolls-If condition first None)) ∙ fold-roll-Stmt Doing (step h site) (Stmt-F.If condition first None)
  if_is condition first (Some x) = ap (exec h site) (sym (ss.rolls-If condition first (Some x))) ∙ fold-roll-Stmt Doing (step h site) (Stmt-F.If condition first (Some x))

  pub chooses : (condition : Expr) (first : Stmt) (otherwise : Option Stmt) → begun site w ≡ ended w1 →
      Leaves (with_value (holds_in site.frame w1.objects locals condition) w1 locals (λ holds. chosen holds (exec h site first) (option_map (exec h site) otherwise) w1 locals)) r new after →
      Leaves (exec h site (ss.If condition first otherwise) w locals) r new after
  unfolding exec
  chooses condition first otherwise b leaves =
      let it : Stmt-F Doing = Stmt-F.If condition (exec h site first) (option_map (exec h site) otherwise) in
      subst (λ (d : Doing). Leaves (d w locals) r new after) (sym (if_is condition first otherwise))
      (subst (λ e. Leaves (followed (going e locals) (visit h site it)) r new after) (sym b) leaves)

  pub performs : (e callee : Expr) (args : List Expr) → e ≡ ee.Call callee args →
      Leaves (call_done h site (called every (meanings w.objects) (arities w.objects) callee args site.frame locals []).0 w locals) r new after →
      Leaves (done_step h site e (out-Expr e) w locals) r new after
  performs e callee args is leaves =
      let opened : out-Expr e ≡ Expr-F.Call callee args = ap out-Expr (is ∙ sym (ee.rolls-Call callee args)) ∙ out-roll-Expr (Expr-F.Call callee args) in
      subst (λ o. Leaves (done_step h site e o w locals) r new after) (sym opened) leaves
