-- Locals by the index of their names.
use Rattle.std.proofs.Common.{◌≡◌, ℕ, zero, suc, ◌<◌, ◌≤◌, drop, Bool, true, false, List, [], ◌∷◌, ◌++◌, length, take, refl, ap, arith}
use Rattle.std.specs.Prelude.{Option, None, Some, option_map, find, slice_index_or, slice_set, slice_get}
use Rattle.qml_ast.specs.declared.value.Value.{Value}
use Rattle.expr_eval.specs.Names.{is_named, index_named, declared, assigned, bound}
use Rattle.expr_eval.specs.declared.locals.Local.{Local}
use Rattle.expr_eval.specs.declared.locals.Local.TheVariants.{Plain}
use Rattle.expr_eval.specs.declared.locals.NamedLocal.{NamedLocal}

one_less : (o : Option ℕ) (i : ℕ) → option_map suc o ≡ Some (suc i) → o ≡ Some i
one_less None i h = absurd cc
one_less (Some j) i h = cc

not_first : (o : Option ℕ) → option_map suc o ≡ Some zero → ⊥
not_first None h = cc
not_first (Some j) h = cc

still_none : (o : Option ℕ) → option_map suc o ≡ None → o ≡ None
still_none None h = refl
still_none (Some j) h = absurd cc

-- the first of the name
pub found_at : (name : List ℕ) (xs : List NamedLocal) (i : ℕ) (d : NamedLocal) → index_named name (take i xs) ≡ None → i < length xs → is_named name (slice_index_or xs i d) ≡ true → index_named name xs ≡ Some i
found_at name [] i d none within holds = absurd (omega arith)
found_at name (x ∷ xs) zero d none within holds = rw holds
found_at name (x ∷ xs) (suc i) d none within holds = step (λ none. found_at name xs i d none (omega arith) holds) (is_named name x) refl
  where
    step : (index_named name (take i xs) ≡ None → index_named name xs ≡ Some i) → (b : Bool) → is_named name x ≡ b → index_named name (x ∷ xs) ≡ Some (suc i)
    step more true is = absurd (let impossible : Some zero ≡ None = rw is at none in cc)
    step more false is = rw is (ap (option_map suc) (more (still_none _ (rw is at none))))

-- one more that has not the name
pub none_more : (name : List ℕ) (xs : List NamedLocal) (i : ℕ) (d : NamedLocal) → index_named name (take i xs) ≡ None → i < length xs → is_named name (slice_index_or xs i d) ≡ false → index_named name (take (suc i) xs) ≡ None
none_more name [] i d none within fails = absurd (omega arith)
none_more name (x ∷ xs) zero d none within fails = rw fails
none_more name (x ∷ xs) (suc i) d none within fails = step (λ none. none_more name xs i d none (omega arith) fails) (is_named name x) refl
  where
    step : (index_named name (take i xs) ≡ None → index_named name (take (suc i) xs) ≡ None) → (b : Bool) → is_named name x ≡ b → index_named name (x ∷ take (suc i) xs) ≡ None
    step more true is = absurd (let impossible : Some zero ≡ None = rw is at none in cc)
    step more false is = rw is (ap (option_map suc) (more (still_none _ (rw is at none))))

pub find_at : (name : List ℕ) (xs : List NamedLocal) (i : ℕ) (d : NamedLocal) → index_named name xs ≡ Some i → find (is_named name) xs ≡ Some (slice_index_or xs i d)
find_at name [] i d at = absurd cc
find_at name (x ∷ xs) i d at = step (λ i. find_at name xs i d) (is_named name x) refl i at
  where
    step : ((i : ℕ) → index_named name xs ≡ Some i → find (is_named name) xs ≡ Some (slice_index_or xs i d)) → (b : Bool) → is_named name x ≡ b → (i : ℕ) → index_named name (x ∷ xs) ≡ Some i → find (is_named name) (x ∷ xs) ≡ Some (slice_index_or (x ∷ xs) i d)
    step more true is zero at = rw is
    step more true is (suc i) at = absurd (let impossible : Some zero ≡ Some (suc i) = rw is at at in cc)
    step more false is zero at = absurd (not_first _ (rw is at at))
    step more false is (suc i) at = rw is (more i (one_less _ i (rw is at at)))

pub find_none : (name : List ℕ) (xs : List NamedLocal) → index_named name xs ≡ None → find (is_named name) xs ≡ None
find_none name [] none = refl
find_none name (x ∷ xs) none = step (find_none name xs) (is_named name x) refl
  where
    step : (index_named name xs ≡ None → find (is_named name) xs ≡ None) → (b : Bool) → is_named name x ≡ b → find (is_named name) (x ∷ xs) ≡ None
    step more true is = absurd (let impossible : Some zero ≡ None = rw is at none in cc)
    step more false is = rw is (more (still_none _ (rw is at none)))

-- in place of the one of the name
pub set_declared : (name : List ℕ) (held : Local) (fixed : Bool) (xs : List NamedLocal) (i : ℕ) → index_named name xs ≡ Some i → slice_set xs i (record { name = name; held = held; fixed = fixed }) ≡ declared name held fixed xs
set_declared name held fixed [] i at = absurd cc
set_declared name held fixed (x ∷ xs) i at = step (λ i. set_declared name held fixed xs i) (is_named name x) refl i at
  where
    step : ((i : ℕ) → index_named name xs ≡ Some i → slice_set xs i (record { name = name; held = held; fixed = fixed }) ≡ declared name held fixed xs) → (b : Bool) → is_named name x ≡ b → (i : ℕ) → index_named name (x ∷ xs) ≡ Some i → slice_set (x ∷ xs) i (record { name = name; held = held; fixed = fixed }) ≡ declared name held fixed (x ∷ xs)
    step more true is zero at = rw is
    step more true is (suc i) at = absurd (let impossible : Some zero ≡ Some (suc i) = rw is at at in cc)
    step more false is zero at = absurd (not_first _ (rw is at at))
    step more false is (suc i) at = rw is (ap (λ ys. x ∷ ys) (more i (one_less _ i (rw is at at))))

-- at the end
pub push_declared : (name : List ℕ) (held : Local) (fixed : Bool) (xs : List NamedLocal) → index_named name xs ≡ None → xs ++ record { name = name; held = held; fixed = fixed } ∷ [] ≡ declared name held fixed xs
push_declared name held fixed [] none = refl
push_declared name held fixed (x ∷ xs) none = step (push_declared name held fixed xs) (is_named name x) refl
  where
    step : (index_named name xs ≡ None → xs ++ record { name = name; held = held; fixed = fixed } ∷ [] ≡ declared name held fixed xs) → (b : Bool) → is_named name x ≡ b → x ∷ (xs ++ record { name = name; held = held; fixed = fixed } ∷ []) ≡ declared name held fixed (x ∷ xs)
    step more true is = absurd (let impossible : Some zero ≡ None = rw is at none in cc)
    step more false is = rw is (ap (λ ys. x ∷ ys) (more (still_none _ (rw is at none))))

pub set_assigned : (name : List ℕ) (value : Value) (xs : List NamedLocal) (i : ℕ) (d : NamedLocal) → index_named name xs ≡ Some i → slice_set xs i (record (slice_index_or xs i d) { held = Plain value }) ≡ assigned name value xs
set_assigned name value [] i d at = absurd cc
set_assigned name value (x ∷ xs) i d at = step (λ i. set_assigned name value xs i d) (is_named name x) refl i at
  where
    step : ((i : ℕ) → index_named name xs ≡ Some i → slice_set xs i (record (slice_index_or xs i d) { held = Plain value }) ≡ assigned name value xs) → (b : Bool) → is_named name x ≡ b → (i : ℕ) → index_named name (x ∷ xs) ≡ Some i → slice_set (x ∷ xs) i (record (slice_index_or (x ∷ xs) i d) { held = Plain value }) ≡ assigned name value (x ∷ xs)
    step more true is zero at = rw is
    step more true is (suc i) at = absurd (let impossible : Some zero ≡ Some (suc i) = rw is at at in cc)
    step more false is zero at = absurd (not_first _ (rw is at at))
    step more false is (suc i) at = rw is (ap (λ ys. x ∷ ys) (more i (one_less _ i (rw is at at))))

-- the next parameter takes the next argument
pub bound_step : (ps : List (List ℕ)) (vs : List Value) (i : ℕ) (p : List ℕ) (v : Value) → i < length ps → p ≡ slice_index_or ps i p → slice_get vs i ≡ Some v → bound (drop i ps) (drop i vs) ≡ record { name = p; held = Plain v; fixed = false } ∷ bound (drop (suc i) ps) (drop (suc i) vs)
bound_step [] vs i p v within is at = absurd (omega arith)
bound_step (q ∷ qs) [] i p v within is at = absurd cc
bound_step (q ∷ qs) (w ∷ ws) zero p v within is at = let same : w ≡ v = cc in rw (is, same) refl
bound_step (q ∷ qs) (w ∷ ws) (suc i) p v within is at = bound_step qs ws i p v (omega arith) is at

-- no parameter is left
pub bound_past_params : (ps : List (List ℕ)) (vs : List Value) (i : ℕ) → length ps ≤ i → bound (drop i ps) vs ≡ []
bound_past_params [] vs zero past = refl
bound_past_params [] vs (suc i) past = refl
bound_past_params (p ∷ ps) vs zero past = absurd (omega arith)
bound_past_params (p ∷ ps) vs (suc i) past = bound_past_params ps vs i (omega arith)

bound_to_none : (ps : List (List ℕ)) → bound ps [] ≡ []
bound_to_none [] = refl
bound_to_none (p ∷ ps) = refl

-- no argument is left
pub bound_past_values : (ps : List (List ℕ)) (vs : List Value) (i : ℕ) → slice_get vs i ≡ None → bound ps (drop i vs) ≡ []
bound_past_values ps [] zero none = bound_to_none ps
bound_past_values ps [] (suc i) none = bound_to_none ps
bound_past_values ps (v ∷ vs) zero none = absurd cc
bound_past_values ps (v ∷ vs) (suc i) none = bound_past_values ps vs i none
