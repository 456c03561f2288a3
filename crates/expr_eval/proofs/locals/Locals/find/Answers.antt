use Rattle.std.proofs.Common.{◌≡◌, sym, ◌∙◌, refl}
use Rattle.std.specs.Prelude.{None, Some, find, slice_index_or}
use Rattle.expr_eval.specs.Names.{is_named}
use Rattle.expr_eval.proofs.Named.{find_none, find_at}
use Rattle.expr_eval.proofs.locals.Locals.find.Goals as goal

pub returns-in-None : goal.returns-in-None
returns-in-None c =
    let none : find (is_named c.args.name.now) c.args.self.now ≡ None = find_none c.args.name.now c.args.self.now (sym c.position.ensures.value ∙ c.in-None.is) in
    rw none refl

pub returns-in-Some : goal.returns-in-Some
returns-in-Some c =
    let found : find (is_named c.args.name.now) c.args.self.now ≡ Some (slice_index_or c.args.self.now c.in-Some.at c.index.result.now) = find_at c.args.name.now c.args.self.now c.in-Some.at c.index.result.now (sym c.position.ensures.value ∙ c.in-Some.is) in
    rw (found, ← c.self.view_is, ← c.index.ensures) refl
