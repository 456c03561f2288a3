-- An equation is walked part by part.
use Rattle.std.proofs.Common.{◌≡◌, refl}
use Rattle.std.specs.Prelude.{Option, None, Some, Result, Ok, Err}
use Rattle.qml_ast.specs.declared.place.Place.{Place}
use Rattle.qml_ast.specs.declared.value.Value.{Value}
use Rattle.item_equations.specs.Asking.{Asking, gives, overflows, asks, arrive, walk, bind, bind_to}
use Rattle.item_equations.specs.declared.stop.Stop.{Stop}
use Rattle.item_equations.specs.declared.stop.Stop.TheVariants.{Overflow}

pub walk_bind : {A B : Type 0} (see : Place → Option Value) (m : Asking A) (next : A → Asking B) →
    walk see (bind m next) ≡ bind_to (walk see m) (λ x. walk see (next x))
unfolding walk bind bind_to
walk_bind see (gives x) next = refl
walk_bind see overflows next = refl
walk_bind see (asks place rest) next = by (see place) (λ v. walk_bind see (rest v) next)
  where
    by : (o : Option Value) → ((v : Value) → walk see (bind (rest v) next) ≡ bind_to (walk see (rest v)) (λ x. walk see (next x))) →
        arrive o place (λ v. walk see (bind (rest v) next)) ≡ bind_to (arrive o place (λ v. walk see (rest v))) (λ x. walk see (next x))
    by None each = refl
    by (Some v) each = each v

pub bound_ok : {A B : Type 0} (x : A) (next : A → Result B Stop) → bind_to (Ok x) next ≡ next x
unfolding bind_to
bound_ok x next = refl

pub bound_err : {A B : Type 0} (stop : Stop) (next : A → Result B Stop) → bind_to (Err stop) next ≡ Err stop
unfolding bind_to
bound_err stop next = refl

pub walk_gives : {A : Type 0} (see : Place → Option Value) (x : A) → walk see (gives x) ≡ Ok x
unfolding walk
walk_gives see x = refl

pub walk_overflows : {A : Type 0} (see : Place → Option Value) → walk {A = A} see overflows ≡ Err Overflow
unfolding walk
walk_overflows see = refl

pub ruleset steps = (walk_bind, bound_ok, bound_err, walk_gives, walk_overflows)
