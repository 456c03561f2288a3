-- Serials that are taken back.
use Rattle.std.proofs.Common.{◌≡◌, ◌∙◌, ℕ, ◌<◌, ◌≤◌, List, [], ◌∷◌, length, filter, Bool, true, false, cond, Option, None, Some, refl, sym, ap, subst, arith}
use Rattle.std.specs.Prelude.{nat_le}
use Rattle.std.specs.Map.{keys_of, remove_entry}
use Rattle.std.specs.BTreeMap.{is_at}
use Rattle.std.specs.Ordering.{nat_cmp, is_lt}
use Rattle.std.proofs.lemmas.Bool.Decides.{nat_tests}
use Rattle.arena.specs.Arena.{AreGiven, first_of}
use Rattle.arena.specs.Slots.{things, IsHeld}
use Rattle.arena.proofs.Slots.{keys_things}

same_serial : (n m : ℕ) → is_at (nat_cmp n) m ≡ true → n ≡ m
same_serial n m h = grind (arith, nat_tests)

own_serial : (n : ℕ) → is_at (nat_cmp n) n ≡ true
own_serial n = grind (arith, nat_tests)

later : (last n : ℕ) → last < n → nat_le n last ≡ false
later last n h = grind (arith, nat_tests)

above : (last n : ℕ) → is_lt (nat_cmp last n) ≡ true → last < n
above last n h = grind (arith, nat_tests)

not_above : (last n : ℕ) → is_lt (nat_cmp last n) ≡ false → nat_le n last ≡ true
not_above last n h = grind (arith, nat_tests)

module _ {T : Type 0} where
  same_some : (x y : ℕ × T) → Some x ≡ Some y → x ≡ y
  same_some x y h = cc

  -- a value that is taken out from behind the serial
  pub taken : (last n : ℕ) (es : List (ℕ × T)) → last < n → filter (λ e. nat_le e.0 last) (remove_entry (is_at (nat_cmp n)) es) ≡ filter (λ e. nat_le e.0 last) es
  taken last n [] h = refl
  taken last n (e ∷ es) h = by (is_at (nat_cmp n) e.0) refl (taken last n es h)
    where
      by : (b : Bool) → is_at (nat_cmp n) e.0 ≡ b → filter (λ e. nat_le e.0 last) (remove_entry (is_at (nat_cmp n)) es) ≡ filter (λ e. nat_le e.0 last) es →
          filter (λ e. nat_le e.0 last) (cond b es (e ∷ remove_entry (is_at (nat_cmp n)) es)) ≡ cond (nat_le e.0 last) (e ∷ filter (λ e. nat_le e.0 last) es) (filter (λ e. nat_le e.0 last) es)
      by true is rest = let no : nat_le e.0 last ≡ false = ap (λ k. nat_le k last) (sym (same_serial n e.0 is)) ∙ later last n h in rw no refl
      by false is rest = ap (λ more. cond (nat_le e.0 last) (e ∷ more) more) rest

  -- one is fewer then
  pub fewer : (last : ℕ) (es : List (ℕ × T)) (found : ℕ × T) → first_of (filter (λ e. is_lt (nat_cmp last e.0)) es) ≡ Some found → length (remove_entry (is_at (nat_cmp found.0)) es) < length es
  fewer last [] found is = absurd cc
  fewer last (e ∷ es) found is = by (is_lt (nat_cmp last e.0)) (is_at (nat_cmp found.0) e.0) refl is (fewer last es found)
    where
      by : (b c : Bool) → is_at (nat_cmp found.0) e.0 ≡ c → first_of (cond b (e ∷ filter (λ e. is_lt (nat_cmp last e.0)) es) (filter (λ e. is_lt (nat_cmp last e.0)) es)) ≡ Some found →
          (first_of (filter (λ e. is_lt (nat_cmp last e.0)) es) ≡ Some found → length (remove_entry (is_at (nat_cmp found.0)) es) < length es) → length (cond c es (e ∷ remove_entry (is_at (nat_cmp found.0)) es)) < length (e ∷ es)
      by b true at is rest = omega arith
      by true false at is rest = let own : is_at (nat_cmp found.0) e.0 ≡ true = ap (λ (x : ℕ × T). is_at (nat_cmp found.0) x.0) (same_some e found is) ∙ own_serial found.0 in absurd cc
      by false false at is rest = let less = rest is in omega arith

  pub found_above : (last : ℕ) (es : List (ℕ × T)) (found : ℕ × T) → first_of (filter (λ e. is_lt (nat_cmp last e.0)) es) ≡ Some found → last < found.0
  found_above last [] found is = absurd cc
  found_above last (e ∷ es) found is = by (is_lt (nat_cmp last e.0)) refl is (found_above last es found)
    where
      by : (b : Bool) → is_lt (nat_cmp last e.0) ≡ b → first_of (cond b (e ∷ filter (λ e. is_lt (nat_cmp last e.0)) es) (filter (λ e. is_lt (nat_cmp last e.0)) es)) ≡ Some found →
          (first_of (filter (λ e. is_lt (nat_cmp last e.0)) es) ≡ Some found → last < found.0) → last < found.0
      by true less is rest = subst (λ (x : ℕ × T). last < x.0) (same_some e found is) (above last e.0 less)
      by false less is rest = rest is

  -- where none is above the serial
  pub all_left : (last : ℕ) (es : List (ℕ × T)) → first_of (filter (λ e. is_lt (nat_cmp last e.0)) es) ≡ None → filter (λ e. nat_le e.0 last) es ≡ es
  all_left last [] none = refl
  all_left last (e ∷ es) none = by (is_lt (nat_cmp last e.0)) refl none (all_left last es)
    where
      by : (b : Bool) → is_lt (nat_cmp last e.0) ≡ b → first_of (cond b (e ∷ filter (λ e. is_lt (nat_cmp last e.0)) es) (filter (λ e. is_lt (nat_cmp last e.0)) es)) ≡ None →
          (first_of (filter (λ e. is_lt (nat_cmp last e.0)) es) ≡ None → filter (λ e. nat_le e.0 last) es ≡ es) → filter (λ e. nat_le e.0 last) (e ∷ es) ≡ e ∷ es
      by true less none rest = absurd cc
      by false less none rest = rw (not_above last e.0 less) (ap (λ more. e ∷ more) (rest none))

  -- what is left was given up to the serial
  pub left_given : (n last : ℕ) (es : List (ℕ × T)) → AreGiven n (keys_of (filter (λ e. nat_le e.0 last) es)) → AreGiven last (keys_of (filter (λ e. nat_le e.0 last) es))
  left_given n last [] given = tt
  left_given n last (e ∷ es) given = by (nat_le e.0 last) refl given (left_given n last es)
    where
      up : nat_le e.0 last ≡ true → e.0 ≤ last
      up h = grind (arith, nat_tests)

      by : (b : Bool) → nat_le e.0 last ≡ b → AreGiven n (keys_of (cond b (e ∷ filter (λ e. nat_le e.0 last) es) (filter (λ e. nat_le e.0 last) es))) →
          (AreGiven n (keys_of (filter (λ e. nat_le e.0 last) es)) → AreGiven last (keys_of (filter (λ e. nat_le e.0 last) es))) →
          AreGiven last (keys_of (cond b (e ∷ filter (λ e. nat_le e.0 last) es) (filter (λ e. nat_le e.0 last) es)))
      by true is given rest = (given.0, up is, rest given.2)
      by false is given rest = rest given

  -- an arena whose values are those that are left holds them up to the serial
  pub left_held : (n last : ℕ) (slots : List (Option T)) (es : List (ℕ × ℕ)) (old : List (ℕ × T)) → IsHeld n slots es → things slots es ≡ filter (λ e. nat_le e.0 last) old → IsHeld last slots es
  left_held n last slots es old held is =
      let keys = keys_things slots es held.each in
      let P : ℕ → List ℕ → Type 0 = AreGiven in
      let Q : ℕ → List (ℕ × T) → Type 0 = λ k ts. AreGiven k (keys_of ts) in
      record { given = subst (P last) keys (subst (Q last) (sym is) (left_given n last old (subst (Q n) is (subst (P n) (sym keys) held.given)))); each = held.each }
