-- The span from one place to another.
use Rattle.std.proofs.Common.{◌≡◌, ℤ, pos, ◌-ℤ◌, true, false, Result, Ok, Err, FitsSigned, w32, refl, ap, subst, sym, ◌∙◌, arith}
use Rattle.std.proofs.lemmas.Int.{ints}
use Rattle.item_geometry.specs.declared.span.Span1.{Span1}
use Rattle.item_geometry.specs.declared.span.Overflow.{Overflow}
use Rattle.item_geometry.specs.Span.{is_in_range, span_between}

in_range : (value : ℤ) → FitsSigned w32 value → is_in_range value ≡ true
in_range value fits = grind (arith, ints)

out_of_range : (value : ℤ) → ¬ FitsSigned w32 value → is_in_range value ≡ false
out_of_range value leaves = grind (arith, ints)

pub span_fits : (begin end at len : ℤ) → at ≡ begin → len ≡ end -ℤ begin → FitsSigned w32 (end -ℤ begin) → ◌≡◌ {A = Result Span1 Overflow} (Ok (record { at = at; len = len })) (span_between begin end)
span_fits begin end at len at_is len_is fits = rw (in_range (end -ℤ begin) fits) (ap (λ (a : ℤ). Ok (record { at = a; len = len })) at_is ∙ ap (λ (l : ℤ). Ok (record { at = begin; len = l })) len_is)

pub span_leaves : (begin end : ℤ) → ¬ FitsSigned w32 (end -ℤ begin) → ◌≡◌ {A = Result Span1 Overflow} (Err (record {})) (span_between begin end)
span_leaves begin end leaves = rw (out_of_range (end -ℤ begin) leaves)
