-- Lists of slots without one of them, and with one before another.
use Rattle.std.proofs.Common.{◌≡◌, ◌≢◌, ⊎_elim, ℕ, zero, suc, cond, List, [], ◌∷◌, Some, refl, ap, sym, ◌∙◌, arith, eq-eqb}
use Rattle.std.specs.List.{slice_get, insert}
use Rattle.std.proofs.lemmas.Option.{none-some, same_Some}
use Rattle.std.proofs.lemmas.Bool.{cases_eq, ne_eqb}
use Rattle.links.proofs.Lists.{skips, keeps, left}
use Rattle.sg_nodes.specs.Forest.{without, before}

once_first : (x : ℕ) (xs : List ℕ) (s i j t : ℕ) → ((a b : ℕ) → slice_get (x ∷ xs) a ≡ Some t → slice_get (x ∷ xs) b ≡ Some t → a ≡ b)
    → slice_get (x ∷ without s xs) i ≡ Some t → slice_get (x ∷ without s xs) j ≡ Some t
    → ((a b : ℕ) → slice_get (without s xs) a ≡ Some t → slice_get (without s xs) b ≡ Some t → a ≡ b) → i ≡ j
once_first x xs s zero zero t once e f rest = refl
once_first x xs s zero (suc j) t once e f rest =
    let found = left xs s j t f in let no : zero ≡ suc found.0 = once zero (suc found.0) e found.1.0 in absurd (omega arith)
once_first x xs s (suc i) zero t once e f rest =
    let found = left xs s i t e in let no : suc found.0 ≡ zero = once (suc found.0) zero found.1.0 f in absurd (omega arith)
once_first x xs s (suc i) (suc j) t once e f rest = ap suc (rest i j e f)

-- a slot that stands once stands once in what is left
pub left_once : (xs : List ℕ) (s i j t : ℕ) → ((a b : ℕ) → slice_get xs a ≡ Some t → slice_get xs b ≡ Some t → a ≡ b)
    → slice_get (without s xs) i ≡ Some t → slice_get (without s xs) j ≡ Some t → i ≡ j
left_once [] s i j t once e f = absurd (none-some t e)
left_once (x ∷ xs) s i j t once e f =
    ⊎_elim
    (λ (same : x ≡ s).
    left_once xs s i j t (λ a b g h. let next : suc a ≡ suc b = once (suc a) (suc b) g h in omega arith)
    (ap (λ ys. slice_get ys i) (sym (skips x s xs same)) ∙ e) (ap (λ ys. slice_get ys j) (sym (skips x s xs same)) ∙ f))
    (λ (ne : x ≢ s).
    once_first x xs s i j t once (ap (λ ys. slice_get ys i) (sym (keeps x s xs ne)) ∙ e) (ap (λ ys. slice_get ys j) (sym (keeps x s xs ne)) ∙ f)
    (λ a b g h. left_once xs s a b t (λ c d k l. let next : suc c ≡ suc d = once (suc c) (suc d) k l in omega arith) g h))
    (cases_eq x s)

-- a slot that is put right before another one
pub insert-before : (xs : List ℕ) (place slot at : ℕ) → slice_get xs place ≡ Some at → ((j : ℕ) → slice_get xs j ≡ Some at → j ≡ place) → insert xs place slot ≡ before slot at xs
insert-before [] place slot at e only = absurd (none-some at e)
insert-before (x ∷ xs) zero slot at e only = ap (λ b. cond b (slot ∷ (x ∷ xs)) (x ∷ before slot at xs)) (sym (eq-eqb x at (same_Some x at e)))
insert-before (x ∷ xs) (suc place) slot at e only =
    ap (λ ys. x ∷ ys) (insert-before xs place slot at e (λ j f. let next : suc j ≡ suc place = only (suc j) f in omega arith))
    ∙ ap (λ b. cond b (slot ∷ (x ∷ xs)) (x ∷ before slot at xs)) (sym (ne_eqb x at (λ same. let no : zero ≡ suc place = only zero (ap Some same) in absurd (omega arith))))
