-- Values in a slab that come and go.
use Rattle.std.proofs.Common.{zero, suc, ◌≡◌, ◌≢◌, ◌∙◌, ℕ, ◌+◌, List, [], ◌∷◌, ◌++◌, length, filter, Bool, true, false, cond, Option, None, Some, IsSome, refl, sym, ap, subst, arith, get_or-set_other}
use Rattle.std.specs.Prelude.{slice_set}
use Rattle.std.specs.Option.{option_and_then, option_map}
use Rattle.std.specs.Map.{keys_of, lookup, set_value, remove_entry}
use Rattle.std.specs.BTreeMap.{insert_entry}
use Rattle.std.specs.Ordering.{nat_cmp}
use Rattle.arena.specs.Arena.{Arena, first_of}
use Rattle.arena.proofs.Arenas.{inserted_last, given_next, given_without}
use Rattle.arena.specs.Slots.{slot_at, listed, things, Avoids, HasEach, IsHeld}

injected : (a b : ℕ) → Some a ≡ Some b → a ≡ b
injected a b same = cc

-- a key that is found is not one that is avoided
avoided : (test : ℕ → Bool) (es : List (ℕ × ℕ)) (key other : ℕ) → lookup test es ≡ Some key → Avoids other es → other ≢ key
avoided test [] key other is avoids = absurd cc
avoided test (e ∷ es) key other is avoids = by (test e.0) is (λ is. avoided test es key other is avoids.1)
  where
    by : (b : Bool) → cond b (Some e.1) (lookup test es) ≡ Some key → (lookup test es ≡ Some key → other ≢ key) → other ≢ key
    by true is rest = λ same. avoids.0 (injected e.1 key is ∙ sym same)
    by false is rest = rest is

avoids_rest : (test : ℕ → Bool) (key : ℕ) (es : List (ℕ × ℕ)) → Avoids key es → Avoids key (remove_entry test es)
avoids_rest test key [] avoids = avoids
avoids_rest test key (e ∷ es) avoids = by (test e.0) (avoids_rest test key es avoids.1)
  where
    by : (b : Bool) → Avoids key (remove_entry test es) → Avoids key (cond b es (e ∷ remove_entry test es))
    by true rest = avoids.1
    by false rest = (avoids.0, rest)

avoids_more : (key serial other : ℕ) (es : List (ℕ × ℕ)) → other ≢ key → Avoids key es → Avoids key (es ++ ((serial, other) ∷ []))
avoids_more key serial other [] differs avoids = (differs, tt)
avoids_more key serial other (e ∷ es) differs avoids = (avoids.0, avoids_more key serial other es differs avoids.1)

module _ {T : Type 0} where
  -- the value and its key
  there : {o : Option T} → IsSome o → (w : T) × (o ≡ Some w)
  there {o} some = by o some
    where
      by : (o : Option T) → IsSome o → (w : T) × (o ≡ Some w)
      by None some = let no : false ≡ true = some in absurd cc
      by (Some w) some = (w, refl)

  pub keys_things : (slots : List (Option T)) (es : List (ℕ × ℕ)) → HasEach slots es → keys_of (things slots es) ≡ keys_of es
  keys_things slots [] each = refl
  keys_things slots (e ∷ es) each = let w = there each.0 in rw w.1 (ap (λ ks. e.0 ∷ ks) (keys_things slots es each.2))

  pub length_things : (slots : List (Option T)) (es : List (ℕ × ℕ)) → HasEach slots es → length (things slots es) ≡ length es
  length_things slots [] each = refl
  length_things slots (e ∷ es) each = let w = there each.0 in rw w.1 (grind (arith, length_things slots es each.2))

  -- what is found
  pub found : (test : ℕ → Bool) (slots : List (Option T)) (es : List (ℕ × ℕ)) → HasEach slots es → lookup test (things slots es) ≡ option_and_then (slot_at slots) (lookup test es)
  found test slots [] each = refl
  found test slots (e ∷ es) each = let w = there each.0 in rw w.1 (by (test e.0) w.0 w.1 (found test slots es each.2))
    where
      by : (b : Bool) (w : T) → slot_at slots e.1 ≡ Some w → lookup test (things slots es) ≡ option_and_then (slot_at slots) (lookup test es) →
          cond b (Some w) (lookup test (things slots es)) ≡ option_and_then (slot_at slots) (cond b (Some e.1) (lookup test es))
      by true w is rest = sym is
      by false w is rest = rest

  pub got : (test : ℕ → Bool) (slots : List (Option T)) (es : List (ℕ × ℕ)) (key : ℕ) → lookup test es ≡ Some key → HasEach slots es → lookup test (things slots es) ≡ slot_at slots key
  got test slots es key is each = found test slots es each ∙ ap (option_and_then (slot_at slots)) is

  pub got_none : (test : ℕ → Bool) (slots : List (Option T)) (es : List (ℕ × ℕ)) → lookup test es ≡ None → HasEach slots es → lookup test (things slots es) ≡ None
  got_none test slots es is each = found test slots es each ∙ ap (option_and_then (slot_at slots)) is

  -- ---- other slots
  -- only the slot of this key differs
  abbrev pub OnlyAt : List (Option T) → List (Option T) → ℕ → Type 0
  OnlyAt slots now key = (other : ℕ) → other ≢ key → slot_at now other ≡ slot_at slots other

  apart : (slots now : List (Option T)) (key : ℕ) (es : List (ℕ × ℕ)) → OnlyAt slots now key → Avoids key es → things now es ≡ things slots es
  apart slots now key [] only avoids = refl
  apart slots now key (e ∷ es) only avoids = rw (only e.1 avoids.0) (ap (listed e.0 (slot_at slots e.1)) (apart slots now key es only avoids.1))

  each_apart : (slots now : List (Option T)) (key : ℕ) (es : List (ℕ × ℕ)) → OnlyAt slots now key → Avoids key es → HasEach slots es → HasEach now es
  each_apart slots now key [] only avoids each = each
  each_apart slots now key (e ∷ es) only avoids each = (rw (only e.1 avoids.0) each.0, each.1, each_apart slots now key es only avoids.1 each.2)

  each_kept : (slots now : List (Option T)) (es : List (ℕ × ℕ)) → ((key : ℕ) → IsSome (slot_at slots key) → IsSome (slot_at now key)) → HasEach slots es → HasEach now es
  each_kept slots now [] keeps each = each
  each_kept slots now (e ∷ es) keeps each = (keeps e.1 each.0, each.1, each_kept slots now es keeps each.2)

  -- ---- a value that is written
  pub written : (test : ℕ → Bool) (slots now : List (Option T)) (es : List (ℕ × ℕ)) (key : ℕ) (w : T) → lookup test es ≡ Some key → slot_at now key ≡ Some w → OnlyAt slots now key → HasEach slots es →
      things now es ≡ set_value test (things slots es) w
  written test slots now [] key w is put only each = absurd cc
  written test slots now (e ∷ es) key w is put only each =
      let v = there each.0 in
      rw v.1 (by (test e.0) v.0 v.1 is (λ is. written test slots now es key w is put only each.2))
    where
      by : (b : Bool) (v : T) → slot_at slots e.1 ≡ Some v → cond b (Some e.1) (lookup test es) ≡ Some key →
          (lookup test es ≡ Some key → things now es ≡ set_value test (things slots es) w) →
          listed e.0 (slot_at now e.1) (things now es) ≡ cond b ((e.0, w) ∷ things slots es) ((e.0, v) ∷ set_value test (things slots es) w)
      by true v there is rest =
          let same : e.1 ≡ key = injected e.1 key is in
          let P : ℕ → Type 0 = OnlyAt slots now in
          let Q : ℕ → Type 0 = λ k. slot_at now k ≡ Some w in
          rw (subst Q (sym same) put) (ap (λ more. (e.0, w) ∷ more) (apart slots now e.1 es (subst P (sym same) only) each.1))
      by false v there is rest = rw (only e.1 (avoided test es key e.1 is each.1) ∙ there) (ap (λ more. (e.0, v) ∷ more) (rest is))

  -- ---- a value that goes
  pub each_left : (test : ℕ → Bool) (slots now : List (Option T)) (es : List (ℕ × ℕ)) (key : ℕ) → lookup test es ≡ Some key → OnlyAt slots now key → HasEach slots es → HasEach now (remove_entry test es)
  each_left test slots now [] key is only each = each
  each_left test slots now (e ∷ es) key is only each = by (test e.0) is (λ is. each_left test slots now es key is only each.2)
    where
      by : (b : Bool) → cond b (Some e.1) (lookup test es) ≡ Some key → (lookup test es ≡ Some key → HasEach now (remove_entry test es)) → HasEach now (cond b es (e ∷ remove_entry test es))
      by true is rest =
          let P : ℕ → Type 0 = OnlyAt slots now in
          each_apart slots now e.1 es (subst P (sym (injected e.1 key is)) only) each.1 each.2
      by false is rest = (rw (only e.1 (avoided test es key e.1 is each.1)) each.0, avoids_rest test e.1 es each.1, rest is)

  pub left : (test : ℕ → Bool) (slots now : List (Option T)) (es : List (ℕ × ℕ)) (key : ℕ) → lookup test es ≡ Some key → OnlyAt slots now key → HasEach slots es →
      things now (remove_entry test es) ≡ remove_entry test (things slots es)
  left test slots now [] key is only each = refl
  left test slots now (e ∷ es) key is only each =
      let v = there each.0 in
      rw v.1 (by (test e.0) v.0 v.1 is (λ is. left test slots now es key is only each.2))
    where
      by : (b : Bool) (v : T) → slot_at slots e.1 ≡ Some v → cond b (Some e.1) (lookup test es) ≡ Some key →
          (lookup test es ≡ Some key → things now (remove_entry test es) ≡ remove_entry test (things slots es)) →
          things now (cond b es (e ∷ remove_entry test es)) ≡ cond b (things slots es) ((e.0, v) ∷ remove_entry test (things slots es))
      by true v there is rest =
          let P : ℕ → Type 0 = OnlyAt slots now in
          apart slots now e.1 es (subst P (sym (injected e.1 key is)) only) each.1
      by false v there is rest = rw (only e.1 (avoided test es key e.1 is each.1) ∙ there) (ap (λ more. (e.0, v) ∷ more) (rest is))

  pub none_left : (test : ℕ → Bool) (es : List (ℕ × T)) → lookup test es ≡ None → remove_entry test es ≡ es
  none_left test [] is = refl
  none_left test (e ∷ es) is = by (test e.0) is (none_left test es)
    where
      by : (b : Bool) → cond b (Some e.1) (lookup test es) ≡ None → (lookup test es ≡ None → remove_entry test es ≡ es) → cond b es (e ∷ remove_entry test es) ≡ e ∷ es
      by true is rest = absurd cc
      by false is rest = ap (λ more. e ∷ more) (rest is)

  -- ---- a value that comes
  vacant : (slots : List (Option T)) (key : ℕ) (es : List (ℕ × ℕ)) → slot_at slots key ≡ None → HasEach slots es → Avoids key es
  vacant slots key [] none each = tt
  vacant slots key (e ∷ es) none each =
      let v = there each.0 in
      ((λ same. let clash : None ≡ Some v.0 = sym none ∙ ap (slot_at slots) (sym same) ∙ v.1 in absurd cc), vacant slots key es none each.2)

  pub each_more : (slots now : List (Option T)) (es : List (ℕ × ℕ)) (serial key : ℕ) (w : T) → slot_at slots key ≡ None → slot_at now key ≡ Some w → OnlyAt slots now key → HasEach slots es →
      HasEach now (es ++ ((serial, key) ∷ []))
  each_more slots now es serial key w none put only each = go es (vacant slots key es none each) each
    where
      go : (es : List (ℕ × ℕ)) → Avoids key es → HasEach slots es → HasEach now (es ++ ((serial, key) ∷ []))
      go [] avoids each = (rw put refl, tt, tt)
      go (e ∷ es) avoids each =
          (rw (only e.1 avoids.0) each.0, avoids_more e.1 serial key es (λ same. avoids.0 (sym same)) each.1, go es avoids.1 each.2)

  longer : (serial : ℕ) (o p : Option T) (v : T) (xs ys zs : List (ℕ × T)) → o ≡ Some v → p ≡ Some v → xs ≡ ys ++ zs → listed serial o xs ≡ listed serial p ys ++ zs
  longer serial o p v xs ys zs first second rest = rw (first, second) (ap (λ more. (serial, v) ∷ more) rest)

  pub more : (slots now : List (Option T)) (es : List (ℕ × ℕ)) (serial key : ℕ) (w : T) → slot_at slots key ≡ None → slot_at now key ≡ Some w → OnlyAt slots now key → HasEach slots es →
      things now (es ++ ((serial, key) ∷ [])) ≡ things slots es ++ ((serial, w) ∷ [])
  more slots now es serial key w none put only each = go es (vacant slots key es none each) each
    where
      go : (es : List (ℕ × ℕ)) → Avoids key es → HasEach slots es → things now (es ++ ((serial, key) ∷ [])) ≡ things slots es ++ ((serial, w) ∷ [])
      go [] avoids each = rw put refl
      go (e ∷ es) avoids each =
          let v = there each.0 in
          longer e.0 (slot_at now e.1) (slot_at slots e.1) v.0 (things now (es ++ ((serial, key) ∷ []))) (things slots es) ((serial, w) ∷ []) (only e.1 avoids.0 ∙ v.1) v.1 (go es avoids.1 each.2)

  -- ---- the next value
  abbrev pub valued : List (Option T) → Option (ℕ × ℕ) → Option (ℕ × T)
  valued slots None = None
  valued slots (Some e) = option_map (λ w. (e.0, w)) (slot_at slots e.1)

  above : (p : ℕ → Bool) (slots : List (Option T)) (es : List (ℕ × ℕ)) → HasEach slots es → first_of (filter (λ e. p e.0) (things slots es)) ≡ valued slots (first_of (filter (λ e. p e.0) es))
  above p slots [] each = refl
  above p slots (e ∷ es) each = let v = there each.0 in rw v.1 (by (p e.0) v.0 v.1 (above p slots es each.2))
    where
      by : (b : Bool) (v : T) → slot_at slots e.1 ≡ Some v → first_of (filter (λ e. p e.0) (things slots es)) ≡ valued slots (first_of (filter (λ e. p e.0) es)) →
          first_of (cond b ((e.0, v) ∷ filter (λ e. p e.0) (things slots es)) (filter (λ e. p e.0) (things slots es))) ≡ valued slots (first_of (cond b (e ∷ filter (λ e. p e.0) es) (filter (λ e. p e.0) es)))
      by true v there rest = rw there refl
      by false v there rest = rest

  pub none_above : (p : ℕ → Bool) (slots : List (Option T)) (es : List (ℕ × ℕ)) → first_of (filter (λ e. p e.0) es) ≡ None → HasEach slots es → first_of (filter (λ e. p e.0) (things slots es)) ≡ None
  none_above p slots es is each = above p slots es each ∙ ap (valued slots) is

  pub one_above : (p : ℕ → Bool) (slots : List (Option T)) (es : List (ℕ × ℕ)) (serial key : ℕ) (w : T) → first_of (filter (λ e. p e.0) es) ≡ Some (serial, key) → slot_at slots key ≡ Some w → HasEach slots es →
      first_of (filter (λ e. p e.0) (things slots es)) ≡ Some (serial, w)
  one_above p slots es serial key w is there each = above p slots es each ∙ ap (valued slots) is ∙ ap (option_map (λ w. (serial, w))) there

  pub lost_above : (p : ℕ → Bool) (slots : List (Option T)) (es : List (ℕ × ℕ)) (serial key : ℕ) → first_of (filter (λ e. p e.0) es) ≡ Some (serial, key) → slot_at slots key ≡ None → HasEach slots es →
      first_of (filter (λ e. p e.0) (things slots es)) ≡ None
  lost_above p slots es serial key is there each = above p slots es each ∙ ap (valued slots) is ∙ ap (option_map (λ w. (serial, w))) there

  -- ---- whole arenas
  abbrev pub arena : ℕ → List (ℕ × T) → Arena T
  arena last things = record { last = last; things = things }

  -- ---- a key that a serial has
  pub has_key : (test : ℕ → Bool) (slots : List (Option T)) (es : List (ℕ × ℕ)) → HasEach slots es → IsSome (lookup test (things slots es)) → IsSome (lookup test es)
  has_key test slots es each some = by (lookup test es) (subst IsSome (found test slots es each) some)
    where
      by : (o : Option ℕ) → IsSome (option_and_then (slot_at slots) o) → IsSome o
      by None some = some
      by (Some key) some = refl

  pub has_slot : (test : ℕ → Bool) (slots : List (Option T)) (es : List (ℕ × ℕ)) (key : ℕ) → HasEach slots es → IsSome (lookup test (things slots es)) → lookup test es ≡ Some key → IsSome (slot_at slots key)
  has_slot test slots es key each some is = subst IsSome (got test slots es key is each) some

  -- ---- a slot that is set
  pub set_keeps : (slots : List (Option T)) (key other : ℕ) (w : T) → IsSome (slot_at slots other) → IsSome (slot_at (slice_set slots key (Some w)) other)
  set_keeps [] key other w some = some
  set_keeps (x ∷ xs) zero zero w some = refl
  set_keeps (x ∷ xs) zero (suc other) w some = some
  set_keeps (x ∷ xs) (suc key) zero w some = some
  set_keeps (x ∷ xs) (suc key) (suc other) w some = set_keeps xs key other w some

  pub set_same : (slots : List (Option T)) (key : ℕ) (w : T) → IsSome (slot_at slots key) → slot_at (slice_set slots key (Some w)) key ≡ Some w
  set_same [] key w some = let no : false ≡ true = some in absurd cc
  set_same (x ∷ xs) zero w some = refl
  set_same (x ∷ xs) (suc key) w some = set_same xs key w some

  pub set_only : (slots : List (Option T)) (key : ℕ) (w : Option T) → OnlyAt slots (slice_set slots key w) key
  set_only slots key w other differs = get_or-set_other slots key other w None differs

  pub set_held : (last : ℕ) (slots : List (Option T)) (es : List (ℕ × ℕ)) (key : ℕ) (w : T) → IsHeld last slots es → IsHeld last (slice_set slots key (Some w)) es
  set_held last slots es key w held =
      record { given = held.given; each = each_kept slots (slice_set slots key (Some w)) es (λ other some. set_keeps slots key other w some) held.each }

  -- ---- calls
  pub removed_held : (test : ℕ → Bool) (last : ℕ) (slots now : List (Option T)) (es rest : List (ℕ × ℕ)) (key : ℕ) → lookup test es ≡ Some key → rest ≡ remove_entry test es → OnlyAt slots now key → IsHeld last slots es →
      IsHeld last now rest
  removed_held test last slots now es rest key is left only held =
      let P : List (ℕ × ℕ) → Type 0 = HasEach now in
      record { given = given_without test last es rest left held.given; each = subst P (sym left) (each_left test slots now es key is only held.each) }

  pub removed_things : (test : ℕ → Bool) (slots now : List (Option T)) (es rest : List (ℕ × ℕ)) (key : ℕ) → lookup test es ≡ Some key → rest ≡ remove_entry test es → OnlyAt slots now key → HasEach slots es →
      things now rest ≡ remove_entry test (things slots es)
  removed_things test slots now es rest key is gone only each = ap (things now) gone ∙ left test slots now es key is only each

  pub unremoved_things : (test : ℕ → Bool) (slots : List (Option T)) (es rest : List (ℕ × ℕ)) → lookup test es ≡ None → rest ≡ es → HasEach slots es →
      things slots rest ≡ remove_entry test (things slots es)
  unremoved_things test slots es rest is same each = ap (things slots) same ∙ sym (none_left test (things slots es) (got_none test slots es is each))

  pub inserted_held : (last : ℕ) (slots now : List (Option T)) (es more : List (ℕ × ℕ)) (key : ℕ) (w : T) → more ≡ insert_entry nat_cmp es (last + 1) key → slot_at slots key ≡ None → slot_at now key ≡ Some w → OnlyAt slots now key →
      IsHeld last slots es → IsHeld (last + 1) now more
  inserted_held last slots now es all key w is none put only held =
      let P : List (ℕ × ℕ) → Type 0 = IsHeld (last + 1) now in
      subst P (sym is) (record {
        given = given_next es last key held.given;
        each = rw (inserted_last es last key held.given) (each_more slots now es (last + 1) key w none put only held.each);
      })

  pub inserted_things : (last : ℕ) (slots now : List (Option T)) (es all : List (ℕ × ℕ)) (key : ℕ) (w : T) → all ≡ insert_entry nat_cmp es (last + 1) key → slot_at slots key ≡ None → slot_at now key ≡ Some w → OnlyAt slots now key →
      IsHeld last slots es → things now all ≡ things slots es ++ ((last + 1, w) ∷ [])
  inserted_things last slots now es all key w is none put only held =
      ap (things now) (is ∙ inserted_last es last key held.given) ∙ more slots now es (last + 1) key w none put only held.each
