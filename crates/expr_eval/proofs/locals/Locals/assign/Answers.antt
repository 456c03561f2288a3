use Rattle.std.proofs.Common.{◌≡◌, sym, ◌∙◌, refl, [], false}
use Rattle.std.specs.Prelude.{None, Some, find, slice_index_or}
use Rattle.expr_eval.specs.Names.{is_named}
use Rattle.expr_eval.specs.declared.locals.Local.TheVariants.{Plain}
use Rattle.expr_eval.specs.declared.locals.NamedLocal.{NamedLocal}
use Rattle.expr_eval.proofs.Named.{find_none, find_at, set_assigned}
use Rattle.expr_eval.proofs.locals.Locals.assign.Goals as goal

pub returns-in-None-clause-answer : goal.returns-in-None-clause-answer
returns-in-None-clause-answer c =
    let none : find (is_named c.args.name.now) c.args.self.now ≡ None = find_none c.args.name.now c.args.self.now (sym c.position.ensures.value ∙ c.in-None.is) in
    rw none refl

pub returns-in-Some-clause-answer : goal.returns-in-Some-clause-answer
returns-in-Some-clause-answer c =
    let d : NamedLocal = record { name = []; held = Plain c.args.value; fixed = false } in
    let found : find (is_named c.args.name.now) c.args.self.now ≡ Some (slice_index_or c.args.self.now c.in-Some.at d) = find_at c.args.name.now c.args.self.now c.in-Some.at d (sym c.position.ensures.value ∙ c.in-Some.is) in
    rw found (c.assign_at.ensures.answer d)

pub returns-in-Some-clause-ok : goal.returns-in-Some-clause-ok
returns-in-Some-clause-ok c =
    let d : NamedLocal = record { name = []; held = Plain c.args.value; fixed = false } in
    let set = set_assigned c.args.name.now c.args.value c.args.self.now c.in-Some.at d (sym c.position.ensures.value ∙ c.in-Some.is) in
    rw (sym set) (c.assign_at.ensures.ok d)
