-- A slot that is put into a list without it.
use Rattle.std.proofs.Common.{◌≡◌, ◌≢◌, ◌⊎◌, ⊎_elim, inl, inr, ℕ, zero, suc, cond, List, [], ◌∷◌, ◌++◌, Option, Some, None, refl, ap, sym, ◌∙◌, arith, eq-eqb}
use Rattle.std.specs.List.{slice_get}
use Rattle.std.proofs.lemmas.Option.{same_Some}
use Rattle.std.proofs.lemmas.Bool.{cases_eq, ne_eqb}
use Rattle.sg_nodes.specs.Forest.{before, placed_before}

-- where the list begins with the slot that it was to come before, and where it doesn't
before_here : (x slot at : ℕ) (xs : List ℕ) → x ≡ at → before slot at (x ∷ xs) ≡ slot ∷ (x ∷ xs)
before_here x slot at xs e = ap (λ b. cond b (slot ∷ (x ∷ xs)) (x ∷ before slot at xs)) (eq-eqb x at e)

before_later : (x slot at : ℕ) (xs : List ℕ) → x ≢ at → before slot at (x ∷ xs) ≡ x ∷ before slot at xs
before_later x slot at xs ne = ap (λ b. cond b (slot ∷ (x ∷ xs)) (x ∷ before slot at xs)) (ne_eqb x at ne)

-- at the end is right before what isn't there
pub end_before : (xs : List ℕ) (slot : ℕ) → ((place : ℕ) → slice_get xs place ≢ Some slot) → xs ++ slot ∷ [] ≡ before slot slot xs
end_before [] slot gone = refl
end_before (x ∷ xs) slot gone =
    ap (λ ys. x ∷ ys) (end_before xs slot (λ place. gone (suc place))) ∙ sym (before_later x slot slot xs (λ e. gone zero (ap Some e)))

first_there : (xs : List ℕ) (slot i child : ℕ) → slice_get (slot ∷ xs) i ≡ Some child → ((j : ℕ) × (slice_get xs j ≡ Some child)) ⊎ (child ≡ slot)
first_there xs slot zero child e = inr (sym (same_Some slot child e))
first_there xs slot (suc i) child e = inl (i, e)

next_there : (x : ℕ) (xs ys : List ℕ) (slot i child : ℕ) → ((k : ℕ) → slice_get ys k ≡ Some child → ((j : ℕ) × (slice_get xs j ≡ Some child)) ⊎ (child ≡ slot))
    → slice_get (x ∷ ys) i ≡ Some child → ((j : ℕ) × (slice_get (x ∷ xs) j ≡ Some child)) ⊎ (child ≡ slot)
next_there x xs ys slot zero child rest e = inl (zero, e)
next_there x xs ys slot (suc i) child rest e =
    ⊎_elim (λ (there : (j : ℕ) × (slice_get xs j ≡ Some child)). inl (suc there.0, there.1)) (λ (is : child ≡ slot). inr is) (rest i e)

before_there : (xs : List ℕ) (at slot i child : ℕ) → slice_get (before slot at xs) i ≡ Some child → ((j : ℕ) × (slice_get xs j ≡ Some child)) ⊎ (child ≡ slot)
before_there [] at slot i child e = first_there [] slot i child e
before_there (x ∷ xs) at slot i child e =
    ⊎_elim
    (λ (is : x ≡ at). first_there (x ∷ xs) slot i child (ap (λ ys. slice_get ys i) (sym (before_here x slot at xs is)) ∙ e))
    (λ (ne : x ≢ at).
    next_there x xs (before slot at xs) slot i child (λ k f. before_there xs at slot k child f) (ap (λ ys. slice_get ys i) (sym (before_later x slot at xs ne)) ∙ e))
    (cases_eq x at)

first_once : (xs : List ℕ) (slot i j child : ℕ) → ((a b : ℕ) → slice_get xs a ≡ Some child → slice_get xs b ≡ Some child → a ≡ b)
    → ((place : ℕ) → slice_get xs place ≢ Some slot) → slice_get (slot ∷ xs) i ≡ Some child → slice_get (slot ∷ xs) j ≡ Some child → i ≡ j
first_once xs slot zero zero child once gone e f = refl
first_once xs slot zero (suc j) child once gone e f = absurd (gone j (f ∙ sym e))
first_once xs slot (suc i) zero child once gone e f = absurd (gone i (e ∙ sym f))
first_once xs slot (suc i) (suc j) child once gone e f = ap suc (once i j e f)

-- the first stands once, and so does what comes behind it
next_first : (x : ℕ) (xs : List ℕ) (at slot j child : ℕ) → ((a b : ℕ) → slice_get (x ∷ xs) a ≡ Some child → slice_get (x ∷ xs) b ≡ Some child → a ≡ b)
    → ((place : ℕ) → slice_get (x ∷ xs) place ≢ Some slot) → Some x ≡ Some child → slice_get (before slot at xs) j ≡ Some child → ⊥
next_first x xs at slot j child once gone e f =
    ⊎_elim
    (λ (there : (k : ℕ) × (slice_get xs k ≡ Some child)). let no : zero ≡ suc there.0 = once zero (suc there.0) e there.1 in absurd (omega arith))
    (λ (is : child ≡ slot). gone zero (e ∙ ap Some is))
    (before_there xs at slot j child f)

next_once : (x : ℕ) (xs : List ℕ) (at slot i j child : ℕ) → ((a b : ℕ) → slice_get (x ∷ xs) a ≡ Some child → slice_get (x ∷ xs) b ≡ Some child → a ≡ b)
    → ((place : ℕ) → slice_get (x ∷ xs) place ≢ Some slot)
    → ((a b : ℕ) → slice_get (before slot at xs) a ≡ Some child → slice_get (before slot at xs) b ≡ Some child → a ≡ b)
    → slice_get (x ∷ before slot at xs) i ≡ Some child → slice_get (x ∷ before slot at xs) j ≡ Some child → i ≡ j
next_once x xs at slot zero zero child once gone rest e f = refl
next_once x xs at slot zero (suc j) child once gone rest e f = absurd (next_first x xs at slot j child once gone e f)
next_once x xs at slot (suc i) zero child once gone rest e f = absurd (next_first x xs at slot i child once gone f e)
next_once x xs at slot (suc i) (suc j) child once gone rest e f = ap suc (rest i j e f)

before_once : (xs : List ℕ) (at slot i j child : ℕ) → ((a b : ℕ) → slice_get xs a ≡ Some child → slice_get xs b ≡ Some child → a ≡ b)
    → ((place : ℕ) → slice_get xs place ≢ Some slot) → slice_get (before slot at xs) i ≡ Some child → slice_get (before slot at xs) j ≡ Some child → i ≡ j
before_once [] at slot i j child once gone e f = first_once [] slot i j child once gone e f
before_once (x ∷ xs) at slot i j child once gone e f =
    ⊎_elim
    (λ (is : x ≡ at).
    first_once (x ∷ xs) slot i j child once gone (ap (λ ys. slice_get ys i) (sym (before_here x slot at xs is)) ∙ e) (ap (λ ys. slice_get ys j) (sym (before_here x slot at xs is)) ∙ f))
    (λ (ne : x ≢ at).
    next_once x xs at slot i j child once gone
    (λ a b g h. before_once xs at slot a b child (λ c d k l. let next : suc c ≡ suc d = once (suc c) (suc d) k l in omega arith) (λ place. gone (suc place)) g h)
    (ap (λ ys. slice_get ys i) (sym (before_later x slot at xs ne)) ∙ e) (ap (λ ys. slice_get ys j) (sym (before_later x slot at xs ne)) ∙ f))
    (cases_eq x at)

-- the same where it may come at the end
pub placed_there : (xs : List ℕ) (at : Option ℕ) (slot i child : ℕ) → ((place : ℕ) → slice_get xs place ≢ Some slot) → slice_get (placed_before slot at xs) i ≡ Some child
    → ((j : ℕ) × (slice_get xs j ≡ Some child)) ⊎ (child ≡ slot)
placed_there xs None slot i child gone e = before_there xs slot slot i child (ap (λ ys. slice_get ys i) (sym (end_before xs slot gone)) ∙ e)
placed_there xs (Some at) slot i child gone e = before_there xs at slot i child e

pub placed_once : (xs : List ℕ) (at : Option ℕ) (slot i j child : ℕ) → ((a b : ℕ) → slice_get xs a ≡ Some child → slice_get xs b ≡ Some child → a ≡ b)
    → ((place : ℕ) → slice_get xs place ≢ Some slot) → slice_get (placed_before slot at xs) i ≡ Some child → slice_get (placed_before slot at xs) j ≡ Some child → i ≡ j
placed_once xs None slot i j child once gone e f =
    before_once xs slot slot i j child once gone (ap (λ ys. slice_get ys i) (sym (end_before xs slot gone)) ∙ e) (ap (λ ys. slice_get ys j) (sym (end_before xs slot gone)) ∙ f)
placed_once xs (Some at) slot i j child once gone e f = before_once xs at slot i j child once gone e f
