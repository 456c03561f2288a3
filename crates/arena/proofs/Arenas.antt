-- Serials of values that come and go.
use Rattle.std.proofs.Common.{◌≡◌, ℕ, ◌+◌, ◌<◌, List, [], ◌∷◌, ◌++◌, Bool, true, false, cond, refl, sym, ap, subst, arith}
use Rattle.std.specs.Map.{keys_of, remove_entry}
use Rattle.std.specs.BTreeMap.{insert_entry}
use Rattle.std.specs.Ordering.{nat_cmp}
use Rattle.std.specs.Cmp.{nat_cmp_is}
use Rattle.std.specs.declared.cmp.Ordering.TheVariants.{Greater}
use Rattle.arena.specs.Arena.{AreGiven}

module _ {T : Type 0} where
  -- a serial above all goes last
  pub inserted_last : (es : List (ℕ × T)) (last : ℕ) (thing : T) → AreGiven last (keys_of es) → insert_entry nat_cmp es (last + 1) thing ≡ es ++ ((last + 1, thing) ∷ [])
  inserted_last [] last thing given = refl
  inserted_last (e ∷ es) last thing given =
      let above : e.0 < last + 1 = omega (arith, given.1) in
      let after : Greater ≡ nat_cmp (last + 1) e.0 = nat_cmp_is (last + 1) e.0 Greater above in
      rw (sym after) (ap (λ more. e ∷ more) (inserted_last es last thing given.2))

  pub given_next : (es : List (ℕ × T)) (last : ℕ) (thing : T) → AreGiven last (keys_of es) → AreGiven (last + 1) (keys_of (insert_entry nat_cmp es (last + 1) thing))
  given_next es last thing given = rw (inserted_last es last thing given) (grown es given)
    where
      grown : (es : List (ℕ × T)) → AreGiven last (keys_of es) → AreGiven (last + 1) (keys_of (es ++ ((last + 1, thing) ∷ [])))
      grown [] given = (omega arith, omega arith, tt)
      grown (e ∷ es) given = (given.0, omega (arith, given.1), grown es given.2)

  given_rest : (test : ℕ → Bool) (es : List (ℕ × T)) (last : ℕ) → AreGiven last (keys_of es) → AreGiven last (keys_of (remove_entry test es))
  given_rest test [] last given = given
  given_rest test (e ∷ es) last given = by (test e.0) (given_rest test es last given.2)
    where
      by : (b : Bool) → AreGiven last (keys_of (remove_entry test es)) → AreGiven last (keys_of (cond b es (e ∷ remove_entry test es)))
      by true rest = given.2
      by false rest = (given.0, given.1, rest)

  -- so does one that is taken out
  pub given_without : (test : ℕ → Bool) (last : ℕ) (old new : List (ℕ × T)) → new ≡ remove_entry test old → AreGiven last (keys_of old) → AreGiven last (keys_of new)
  given_without test last old new is given = let P : List (ℕ × T) → Type 0 = λ es. AreGiven last (keys_of es) in subst P (sym is) (given_rest test old last given)

  -- a value that is written leaves the serials
  pub written : (last : ℕ) (old new : List (ℕ × T)) → AreGiven last (keys_of old) → keys_of new ≡ keys_of old → AreGiven last (keys_of new)
  written last old new given same = let P : List ℕ → Type 0 = AreGiven last in subst P (sym same) given

  pub kept : (last : ℕ) (old new : List (ℕ × T)) → AreGiven last (keys_of old) → new ≡ old → AreGiven last (keys_of new)
  kept last old new given same = let P : List (ℕ × T) → Type 0 = λ es. AreGiven last (keys_of es) in subst P (sym same) given
