-- Names that begin with `on`, and names that end in `Changed`.
use Rattle.std.proofs.Common.{◌≡◌, ◌≢◌, ◌∙◌, ℕ, ◌+◌, ◌-◌, ◌<◌, ◌≤◌, Bool, true, false, if◌then◌else◌, length, take, drop, get_or, Option, Some, None, List, [], ◌∷◌, ◌++◌, refl, sym, ap, subst, codes, bytes_eq, arith}
use Rattle.std.proofs.lemmas.Grind.{common_steps}
use Rattle.std.proofs.lemmas.List.{take-append-drop}
use Rattle.std.proofs.lemmas.Slice.Eq.{bytes_eq-Decides}
use Rattle.std.proofs.lemmas.Str.{IsCharBoundary-after_ascii}
use Rattle.std.specs.Str.{IsCharBoundary, IsUtf8}
use Rattle.qml_types.specs.Scope.{changing, signals_for, signals_behind, begins_upper, with_lower, is_upper}

-- equal texts pass the test
pub same_bytes : (xs ys : List ℕ) → xs ≡ ys → bytes_eq xs ys ≡ true
same_bytes xs ys same = (bytes_eq-Decides xs ys).1 same

pub bytes_same : (xs ys : List ℕ) → bytes_eq xs ys ≡ true → xs ≡ ys
bytes_same xs ys passes = (bytes_eq-Decides xs ys).0 passes

drop_front : (xs ys : List ℕ) → drop (length xs) (xs ++ ys) ≡ ys
drop_front [] ys = refl
drop_front (x ∷ xs) ys = drop_front xs ys

same_rest : (xs ys zs : List ℕ) → xs ++ ys ≡ xs ++ zs → ys ≡ zs
same_rest xs ys zs e = sym (drop_front xs ys) ∙ ap (drop (length xs)) e ∙ drop_front xs zs

-- ---- `Changed`
ending : (s : List ℕ) (k : ℕ) (end : List ℕ) → s ≡ take k s ++ end → drop k s ≡ end
ending s k end e = same_rest (take k s) (drop k s) end (take-append-drop k s ∙ e)

pub changing_some : (s x : List ℕ) (n : ℕ) → n ≡ length (codes "Changed") → s ≡ take (length s - n) s ++ codes "Changed" → x ≡ take (length s - n) s →
    Some x ≡ changing s
unfolding changing
changing_some s x n seven e is =
    let e7 : s ≡ take (length s - 7) s ++ codes "Changed" = subst (λ m. s ≡ take (length s - m) s ++ codes "Changed") seven e in
    let passes : bytes_eq (drop (length s - 7) s) (codes "Changed") ≡ true = same_bytes _ _ (ending s (length s - 7) (codes "Changed") e7) in
    rw passes (ap (λ m. Some m) (is ∙ ap (λ m. take (length s - m) s) seven))

pub changing_none : (s : List ℕ) → ((front : List ℕ) → s ≢ front ++ codes "Changed") → None ≡ changing s
unfolding changing
changing_none s other = by (bytes_eq (drop (length s - 7) s) (codes "Changed")) refl
  where
    by : (b : Bool) → bytes_eq (drop (length s - 7) s) (codes "Changed") ≡ b →
        None ≡ (if bytes_eq (drop (length s - 7) s) (codes "Changed") then Some (take (length s - 7) s) else None)
    by false is = rw is refl
    by true is = absurd (other (take (length s - 7) s)
        (sym (take-append-drop (length s - 7) s) ∙ ap (λ end. take (length s - 7) s ++ end) (bytes_same _ _ is)))

-- ---- `on`
pub signals_some : (s x lower : List ℕ) (n : ℕ) → n ≡ length (codes "on") → s ≡ codes "on" ++ drop n s → x ≡ drop n s → begins_upper x ≡ true → lower ≡ with_lower x →
    lower ∷ x ∷ [] ≡ signals_for s
unfolding signals_for
signals_some s x lower n two e is upper low =
    let e2 : s ≡ codes "on" ++ drop 2 s = subst (λ m. s ≡ codes "on" ++ drop m s) two e in
    let x2 : x ≡ drop 2 s = is ∙ ap (λ m. drop m s) two in
    let passes : bytes_eq (take 2 s) (codes "on") ≡ true = same_bytes _ _ (ap (take 2) e2) in
    let upper2 : begins_upper (drop 2 s) ≡ true = ap begins_upper (sym x2) ∙ upper in
    rw passes (rw upper2 (ap (λ l. l ∷ x ∷ []) low ∙ ap (λ y. with_lower y ∷ y ∷ []) x2))

no_signals : (s : List ℕ) (b : Bool) → begins_upper (drop 2 s) ≡ false → bytes_eq (take 2 s) (codes "on") ≡ b →
    [] ≡ (if bytes_eq (take 2 s) (codes "on") then signals_behind (drop 2 s) else [])
no_signals s true plain is = rw is (rw plain refl)
no_signals s false plain is = rw is refl

pub signals_plain : (s x : List ℕ) (n : ℕ) → n ≡ length (codes "on") → x ≡ drop n s → begins_upper x ≡ false → [] ≡ signals_for s
unfolding signals_for
signals_plain s x n two is plain =
    no_signals s (bytes_eq (take 2 s) (codes "on")) (ap begins_upper (sym (is ∙ ap (λ m. drop m s) two)) ∙ plain) refl

pub signals_none : (s : List ℕ) → ((rest : List ℕ) → drop 0 s ≢ codes "on" ++ rest) → [] ≡ signals_for s
unfolding signals_for
signals_none s other = by (bytes_eq (take 2 s) (codes "on")) refl
  where
    by : (b : Bool) → bytes_eq (take 2 s) (codes "on") ≡ b → [] ≡ (if bytes_eq (take 2 s) (codes "on") then signals_behind (drop 2 s) else [])
    by false is = rw is refl
    by true is = absurd (other (drop 2 s) (sym (take-append-drop 2 s) ∙ ap (λ front. front ++ drop 2 s) (bytes_same _ _ is)))

-- ---- the first letter
pub upper_first_is : (s : List ℕ) → begins_upper s ≡ true → (0 < length s) × (get_or s 0 0 < 91)
upper_first_is [] upper = absurd cc
upper_first_is (c ∷ rest) upper = (omega arith, grind (arith, common_steps))
