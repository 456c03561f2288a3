-- What an evaluation that stops gives to those that would come after it.
use Rattle.std.proofs.Common.{◌≡◌, refl, sym}
use Rattle.std.specs.Prelude.{◌≢◌, Result, Err}
use Rattle.qml_ast.specs.declared.eval_fault.EvalFault.{EvalFault}
use Rattle.qml_ast.specs.declared.eval_fault.EvalFault.TheVariants.{Overflow, ZeroDivisor, WrongKind, UnknownName, NullMember, TooMuch, TextTooLong, ReadOnly, NoMemory as NoMemoryFault}
use Rattle.expr_eval.specs.Progress.{Stop, Evaluation, Gives, pure, bind_to, lifted, halt_of}
use Rattle.qml_ast.specs.declared.value.Value.{Value}
use Rattle.expr_eval.specs.Evaluation.{is_value}
use Rattle.expr_eval.specs.declared.sense.Sense.TheVariants.{Is}
use Rattle.expr_eval.specs.declared.progress.Halt.{Halt}
use Rattle.expr_eval.specs.declared.progress.Halt.TheVariants.{Faulted, Needs, NoMemory}
use Rattle.expr_eval.specs.declared.progress.Progress.{Progress}

-- nothing comes after an evaluation that has stopped
pub stops : {A B : Type 0} (o : Result A Stop × Progress) (next : A → Evaluation B) (e : Halt) (s : Progress) → Gives o (Err e) s → Gives (bind_to o next) (Err e) s
stops o next (Faulted f) s h = rw h refl
stops o next (Needs place) s h = rw h refl
stops o next NoMemory s h = tt

-- a fault of the arithmetic is the evaluation's
pub lifts : {A : Type 0} (expected : Result A EvalFault) (f : EvalFault) (s : Progress) → (◌≢◌ {A = Result A EvalFault} (Err f) (Err NoMemoryFault) → ◌≡◌ {A = Result A EvalFault} (Err f) expected) → Gives (lifted expected s) (Err (halt_of f)) s
lifts expected Overflow s h = rw (sym (h (λ e. cc))) refl
lifts expected ZeroDivisor s h = rw (sym (h (λ e. cc))) refl
lifts expected WrongKind s h = rw (sym (h (λ e. cc))) refl
lifts expected UnknownName s h = rw (sym (h (λ e. cc))) refl
lifts expected NullMember s h = rw (sym (h (λ e. cc))) refl
lifts expected TooMuch s h = rw (sym (h (λ e. cc))) refl
lifts expected TextTooLong s h = rw (sym (h (λ e. cc))) refl
lifts expected ReadOnly s h = rw (sym (h (λ e. cc))) refl
lifts expected NoMemoryFault s h = tt

-- the same where the value is what an expression stands for
pub lifts_value : (expected : Result Value EvalFault) (f : EvalFault) (s : Progress) → (◌≢◌ {A = Result Value EvalFault} (Err f) (Err NoMemoryFault) → ◌≡◌ {A = Result Value EvalFault} (Err f) expected) → Gives (is_value (lifted expected) s) (Err (halt_of f)) s
lifts_value expected f s h = stops (lifted expected s) (λ x. pure (Is x)) (halt_of f) s (lifts expected f s h)
