-- Makings that are taken back, and what goes on of them.
use Rattle.std.proofs.Common.{◌≡◌, ◌∙◌, ℕ, zero, suc, ◌+◌, ◌-◌, ◌<◌, ◌≤◌, List, [], ◌∷◌, ◌++◌, length, get_or, take, filter, Bool, true, false, cond, Option, None, Some, inl, inr, refl, sym, ap, subst, arith}
use Rattle.std.specs.Prelude.{◌⊎◌, nat_le, slice_get, slice_set, Result, Ok, Err, OnOk, OnErr}
use Rattle.std.specs.List.{All}
use Rattle.std.specs.Map.{keys_of, lookup, set_value}
use Rattle.std.specs.BTreeMap.{is_at}
use Rattle.std.specs.Ordering.{nat_cmp}
use Rattle.std.proofs.lemmas.Bool.Decides.{nat_tests}
use Rattle.std.proofs.lemmas.List.{length-take, take-append-le, take-set-le, take_all}
use Rattle.std.proofs.lemmas.Option.{slice_get_past, slice_get_within, get_or_from_slice_get}
use Rattle.std.proofs.lemmas.List.Elements.{All-nil, All-push, All-get_or}
use Rattle.std.proofs.lemmas.Map.Steps.{set_value_same}
use Rattle.arena.specs.Arena.{Arena, AreGiven, thing_at, with_thing, with_next, up_to}
use Rattle.object_tree.specs.declared.context.Context.{Context}
use Rattle.object_tree.specs.declared.instance.Instance.{Instance}
use Rattle.object_tree.specs.Growing.{context_at, serials_of, serial_in, with_serial, with_child}
use Rattle.object_tree.specs.Reading.{instance_at, owned_by}
use Rattle.object_tree.specs.Store.{Store}
use Rattle.object_tree.specs.Undoing.{mark_of, with_first_children, undone, IsBegun, IsNew, IsOwner, AreNew}
use Rattle.object_tree.specs.Writing.{with_change, with_instance}

same_serial : (n m : ℕ) → is_at (nat_cmp n) m ≡ true → n ≡ m
same_serial n m h = grind (arith, nat_tests)

later : (last n : ℕ) → last < n → nat_le n last ≡ false
later last n h = grind (arith, nat_tests)

not_later : (last n : ℕ) → n ≤ last → nat_le n last ≡ true
not_later last n h = grind (arith, nat_tests)

early : (last n : ℕ) → nat_le n last ≡ true → n ≤ last
early last n h = grind (arith, nat_tests)

none_of_zero : (n : ℕ) → 1 ≤ n → is_at (nat_cmp 0) n ≡ false
none_of_zero n h = grind (arith, nat_tests)

either : (n m : ℕ) → (n ≤ m) ⊎ (m < n)
either n m = by (nat_le n m) refl
  where
    by : (b : Bool) → nat_le n m ≡ b → (n ≤ m) ⊎ (m < n)
    by true is = inl (early m n is)
    by false is = inr (grind (arith, nat_tests))

-- ---- values under serials
module _ {X : Type 0} where
  abbrev kept : ℕ → List (ℕ × X) → List (ℕ × X)
  kept last es = filter (λ e. nat_le e.0 last) es

  -- a value that is written under a later serial goes
  set_goes : (last n : ℕ) (es : List (ℕ × X)) (w : X) → last < n → kept last (set_value (is_at (nat_cmp n)) es w) ≡ kept last es
  set_goes last n [] w h = refl
  set_goes last n (e ∷ es) w h = by (is_at (nat_cmp n) e.0) refl (set_goes last n es w h)
    where
      by : (b : Bool) → is_at (nat_cmp n) e.0 ≡ b → kept last (set_value (is_at (nat_cmp n)) es w) ≡ kept last es →
          kept last (cond b ((e.0, w) ∷ es) (e ∷ set_value (is_at (nat_cmp n)) es w)) ≡ cond (nat_le e.0 last) (e ∷ kept last es) (kept last es)
      by true is rest = let no : nat_le e.0 last ≡ false = ap (λ k. nat_le k last) (sym (same_serial n e.0 is)) ∙ later last n h in rw no refl
      by false is rest = ap (λ more. cond (nat_le e.0 last) (e ∷ more) more) rest

  -- one that came under a later serial goes
  next_goes : (last n : ℕ) (es : List (ℕ × X)) (w : X) → last < n → kept last (es ++ ((n, w) ∷ [])) ≡ kept last es
  next_goes last n [] w h = let no : nat_le n last ≡ false = later last n h in rw no refl
  next_goes last n (e ∷ es) w h = ap (λ more. cond (nat_le e.0 last) (e ∷ more) more) (next_goes last n es w h)

  -- what is under an earlier serial stays
  found_stays : (last n : ℕ) (es : List (ℕ × X)) → n ≤ last → lookup (is_at (nat_cmp n)) (kept last es) ≡ lookup (is_at (nat_cmp n)) es
  found_stays last n [] h = refl
  found_stays last n (e ∷ es) h = by (nat_le e.0 last) refl (is_at (nat_cmp n) e.0) refl (found_stays last n es h)
    where
      by : (b : Bool) → nat_le e.0 last ≡ b → (c : Bool) → is_at (nat_cmp n) e.0 ≡ c → lookup (is_at (nat_cmp n)) (kept last es) ≡ lookup (is_at (nat_cmp n)) es →
          lookup (is_at (nat_cmp n)) (cond b (e ∷ kept last es) (kept last es)) ≡ lookup (is_at (nat_cmp n)) (e ∷ es)
      by true is c at rest = ap (λ more. cond (is_at (nat_cmp n) e.0) (Some e.1) more) rest
      by false is true at rest =
          let no : nat_le e.0 last ≡ true = not_later last e.0 (subst (λ (k : ℕ). k ≤ last) (same_serial n e.0 at) h) in absurd cc
      by false is false at rest = rw at rest

  -- so does what is written there
  set_stays : (last n : ℕ) (es : List (ℕ × X)) (w : X) → n ≤ last → kept last (set_value (is_at (nat_cmp n)) es w) ≡ set_value (is_at (nat_cmp n)) (kept last es) w
  set_stays last n [] w h = refl
  set_stays last n (e ∷ es) w h = by (nat_le e.0 last) refl (is_at (nat_cmp n) e.0) refl (set_stays last n es w h)
    where
      by : (b : Bool) → nat_le e.0 last ≡ b → (c : Bool) → is_at (nat_cmp n) e.0 ≡ c → kept last (set_value (is_at (nat_cmp n)) es w) ≡ set_value (is_at (nat_cmp n)) (kept last es) w →
          kept last (cond c ((e.0, w) ∷ es) (e ∷ set_value (is_at (nat_cmp n)) es w)) ≡ set_value (is_at (nat_cmp n)) (cond b (e ∷ kept last es) (kept last es)) w
      by true is true at rest = rw (is, at) refl
      by true is false at rest = rw (is, at) (ap (λ more. e ∷ more) rest)
      by false is true at rest =
          let no : nat_le e.0 last ≡ true = not_later last e.0 (subst (λ (k : ℕ). k ≤ last) (same_serial n e.0 at) h) in absurd cc
      by false is false at rest = rw is rest

  -- what was given up to the serial stays
  all_stay : (last : ℕ) (es : List (ℕ × X)) → AreGiven last (keys_of es) → kept last es ≡ es
  all_stay last [] given = refl
  all_stay last (e ∷ es) given = let is : nat_le e.0 last ≡ true = not_later last e.0 given.1 in rw is (ap (λ more. e ∷ more) (all_stay last es given.2))

  no_zero : (last : ℕ) (es : List (ℕ × X)) → AreGiven last (keys_of es) → lookup (is_at (nat_cmp 0)) es ≡ None
  no_zero last [] given = refl
  no_zero last (e ∷ es) given = let is : is_at (nat_cmp 0) e.0 ≡ false = none_of_zero e.0 given.0 in rw is (no_zero last es given.2)

  module _ (test : ℕ → Bool) where
    set_there : (es : List (ℕ × X)) (x y : X) → lookup test es ≡ Some x → lookup test (set_value test es y) ≡ Some y
    set_there [] x y h = absurd cc
    set_there (e ∷ es) x y h = by (test e.0) refl (set_there es x y)
      where
        by : (b : Bool) → test e.0 ≡ b → (lookup test es ≡ Some x → lookup test (set_value test es y) ≡ Some y) → lookup test (cond b ((e.0, y) ∷ es) (e ∷ set_value test es y)) ≡ Some y
        by true is rest = rw is refl
        by false is rest = rw is (rest (rw is at h))

    set_twice : (es : List (ℕ × X)) (x y : X) → set_value test (set_value test es x) y ≡ set_value test es y
    set_twice [] x y = refl
    set_twice (e ∷ es) x y = by (test e.0) refl (set_twice es x y)
      where
        by : (b : Bool) → test e.0 ≡ b → set_value test (set_value test es x) y ≡ set_value test es y →
            set_value test (cond b ((e.0, x) ∷ es) (e ∷ set_value test es x)) y ≡ cond b ((e.0, y) ∷ es) (e ∷ set_value test es y)
        by true is rest = rw is refl
        by false is rest = rw is (ap (λ more. e ∷ more) rest)

    none_before : (other : ℕ → Bool) (es : List (ℕ × X)) (w : X) → lookup test (set_value other es w) ≡ None → lookup test es ≡ None
    none_before other [] w h = refl
    none_before other (e ∷ es) w h = by (test e.0) refl (other e.0) h (none_before other es w)
      where
        by : (b : Bool) → test e.0 ≡ b → (c : Bool) → lookup test (cond c ((e.0, w) ∷ es) (e ∷ set_value other es w)) ≡ None → (lookup test (set_value other es w) ≡ None → lookup test es ≡ None) →
            cond b (Some e.1) (lookup test es) ≡ None
        by true is true h rest = let no : Some w ≡ None = rw is at h in absurd cc
        by true is false h rest = let no : Some e.1 ≡ None = rw is at h in absurd cc
        by false is true h rest = rw is at h
        by false is false h rest = rest (rw is at h)

  -- ---- arenas
  abbrev arena : ℕ → List (ℕ × X) → Arena X
  arena last things = record { last = last; things = things }

  change_there : (f : X → X) (n : ℕ) (a : Arena X) (x : X) → thing_at n a ≡ Some x → with_change f n a ≡ with_thing n a (f x)
  change_there f n a x is = ap (λ (o : Option X). elim o [ None ↦ a | Some x ↦ with_thing n a (f x) ]) is

  change_none : (f : X → X) (n : ℕ) (a : Arena X) → thing_at n a ≡ None → with_change f n a ≡ a
  change_none f n a is = ap (λ (o : Option X). elim o [ None ↦ a | Some x ↦ with_thing n a (f x) ]) is

  write_goes : (last n : ℕ) (a : Arena X) (w : X) → last < n → up_to last (with_thing n a w) ≡ up_to last a
  write_goes last n a w h = ap (arena last) (set_goes last n a.things w h)

  insert_goes : (last : ℕ) (a : Arena X) (w : X) → last ≤ a.last → up_to last (with_next a w) ≡ up_to last a
  insert_goes last a w h = ap (arena last) (next_goes last (a.last + 1) a.things w (omega arith))

  -- nothing is there before a change of what is there
  none_at_first : (f : X → X) (p n : ℕ) (a : Arena X) → thing_at n (with_change f p a) ≡ None → thing_at n a ≡ None
  none_at_first f p n a = by (thing_at p a)
    where
      by : (o : Option X) → thing_at n (elim o [ None ↦ a | Some x ↦ with_thing p a (f x) ]) ≡ None → thing_at n a ≡ None
      by None h = h
      by (Some x) h = none_before (is_at (nat_cmp n)) (is_at (nat_cmp p)) a.things (f x) h

-- ---- the object in which something is made
abbrev children_of : Option Instance → List ℕ
children_of None = []
children_of (Some i) = i.children

module _ (count child : ℕ) where
  cut : (i : Instance) → count ≤ length i.children → with_first_children count (with_child child i) ≡ with_first_children count i
  cut i h = ap (λ children. record i { children = children }) (take-append-le count i.children (child ∷ []) h)

  cut_child : (last p : ℕ) (a : Arena Instance) (i : Instance) → p ≤ last → thing_at p a ≡ Some i → count ≤ length i.children →
      with_change (with_first_children count) p (up_to last (with_thing p a (with_child child i))) ≡ with_change (with_first_children count) p (up_to last a)
  cut_child last p a i early is few =
      let left = up_to last a in
      let there : thing_at p left ≡ Some i = found_stays last p a.things early ∙ is in
      ap (λ es. with_change (with_first_children count) p (arena last es)) (set_stays last p a.things (with_child child i) early)
      ∙ change_there (with_first_children count) p (with_thing p left (with_child child i)) (with_child child i) (set_there (is_at (nat_cmp p)) left.things i (with_child child i) there)
      ∙ ap (arena last) (set_twice (is_at (nat_cmp p)) left.things (with_child child i) (with_first_children count (with_child child i)))
      ∙ ap (λ w. with_thing p left w) (cut i few)
      ∙ sym (change_there (with_first_children count) p left i there)

-- ---- stores
module _ (parent : ℕ) (first store : Store) (begun : IsBegun parent first store) where
  abbrev cuts : Instance → Instance
  cuts = with_first_children (length (owned_by parent first))

  -- other objects, of which the same is left
  others : (a : Arena Instance) → first.objects.last ≤ a.last → with_change cuts parent (up_to first.objects.last a) ≡ with_change cuts parent (up_to first.objects.last store.objects) →
      IsBegun parent first (record store { objects = a })
  others a more same = record {
    goes_back = ap (λ b. record store { objects = b; contexts = take (length first.contexts) store.contexts }) same ∙ begun.goes_back;
    serials = more;
    new_alone = begun.new_alone;
    no_object = begun.no_object;
  }

  pub written : (n : ℕ) (w : Instance) → first.objects.last < n → IsBegun parent first (record store { objects = with_thing n store.objects w })
  written n w h = others (with_thing n store.objects w) begun.serials (ap (with_change cuts parent) (write_goes first.objects.last n store.objects w h))

  pub inserted : (w : Instance) → IsBegun parent first (record store { objects = with_next store.objects w })
  inserted w = others (with_next store.objects w) (omega (arith, begun.serials)) (ap (with_change cuts parent) (insert_goes first.objects.last store.objects w begun.serials))

  pub no_object_there : instance_at 0 store ≡ None
  no_object_there =
      let last = first.objects.last in
      let left = up_to last store.objects in
      let gone : thing_at 0 (with_change cuts parent left) ≡ None = ap (λ (s : Store). instance_at 0 s) begun.goes_back ∙ begun.no_object in
      sym (found_stays last 0 store.objects.things (omega arith)) ∙ none_at_first cuts parent 0 left gone

  pub new_written : (n : ℕ) (i w : Instance) → IsNew n first → instance_at n store ≡ Some i → IsBegun parent first (record store { objects = with_thing n store.objects w })
  new_written n i w (inl h) is = written n w h
  new_written n i w (inr at_zero) is = let no : None ≡ Some i = sym no_object_there ∙ ap (λ k. instance_at k store) (sym at_zero) ∙ is in absurd cc

  pub changed : (f : Instance → Instance) (n : ℕ) → IsNew n first → IsBegun parent first (with_instance f n store)
  changed f n new = by (instance_at n store) refl
    where
      by : (o : Option Instance) → instance_at n store ≡ o → IsBegun parent first (record store { objects = elim o [ None ↦ store.objects | Some x ↦ with_thing n store.objects (f x) ] })
      by None is = begun
      by (Some i) is = new_written n i (f i) new is

  -- the object in which it is made owns no fewer
  few : (i : Instance) → parent ≤ first.objects.last → instance_at parent store ≡ Some i → length (owned_by parent first) ≤ length i.children
  few i early is =
      let last = first.objects.last in
      let left = up_to last store.objects in
      let there : thing_at parent left ≡ Some i = found_stays last parent store.objects.things early ∙ is in
      let found : thing_at parent (with_change cuts parent left) ≡ Some (cuts i) =
      ap (thing_at parent) (change_there cuts parent left i there) ∙ set_there (is_at (nat_cmp parent)) left.things i (cuts i) there in
      let same : owned_by parent first ≡ take (length (owned_by parent first)) i.children =
      ap children_of (ap (λ (s : Store). instance_at parent s) (sym begun.goes_back) ∙ found) in
      omega (arith, ap length same, length-take (length (owned_by parent first)) i.children)

  child_here : (child : ℕ) → IsBegun parent first (with_instance (with_child child) parent store)
  child_here child = by (instance_at parent store) refl (either parent first.objects.last)
    where
      by : (o : Option Instance) → instance_at parent store ≡ o → (parent ≤ first.objects.last) ⊎ (first.objects.last < parent) →
          IsBegun parent first (record store { objects = elim o [ None ↦ store.objects | Some x ↦ with_thing parent store.objects (with_child child x) ] })
      by None is at = begun
      by (Some i) is (inr h) = written parent (with_child child i) h
      by (Some i) is (inl h) =
          others (with_thing parent store.objects (with_child child i)) begun.serials
          (cut_child (length (owned_by parent first)) child first.objects.last parent store.objects i h is (few i h is))

  pub child_added : (child owner : ℕ) → IsOwner owner parent first → IsBegun parent first (with_instance (with_child child) owner store)
  child_added child owner (inl here) = subst (λ (n : ℕ). IsBegun parent first (with_instance (with_child child) n store)) (sym here) (child_here child)
  child_added child owner (inr new) = changed (with_child child) owner new

  -- ---- contexts
  pub old_contexts : length first.contexts ≤ length store.contexts
  old_contexts =
      omega (arith, ap (λ (s : Store). length s.contexts) begun.goes_back, length-take (length first.contexts) store.contexts)

  abbrev NewAlone : Option Context → Type 0
  NewAlone c = All (λ serial. first.objects.last < serial) (serials_of c)

  other_contexts : (cs : List Context) → take (length first.contexts) cs ≡ take (length first.contexts) store.contexts → ((k : ℕ) → NewAlone (slice_get store.contexts k) → NewAlone (slice_get cs k)) →
      IsBegun parent first (record store { contexts = cs })
  other_contexts cs same alone = record {
    goes_back = ap (λ ds. record (undone (mark_of parent first) store) { contexts = ds }) same ∙ begun.goes_back;
    serials = begun.serials;
    new_alone = λ number h. alone (number - 1) (begun.new_alone number h);
    no_object = begun.no_object;
  }

  pub context_added : (c : Context) → c.serials ≡ [] → IsBegun parent first (record store { contexts = store.contexts ++ (c ∷ []) })
  context_added c none =
      other_contexts (store.contexts ++ (c ∷ [])) (take-append-le (length first.contexts) store.contexts (c ∷ []) old_contexts) (λ k h. pushed store.contexts k h)
    where
      nothing : NewAlone None
      nothing = All-nil _

      pushed : (cs : List Context) (k : ℕ) → NewAlone (slice_get cs k) → NewAlone (slice_get (cs ++ (c ∷ [])) k)
      pushed [] zero h = subst (All (λ serial. first.objects.last < serial)) (sym none) nothing
      pushed [] (suc k) h = nothing
      pushed (d ∷ cs) zero h = h
      pushed (d ∷ cs) (suc k) h = pushed cs k h

  pub context_written : (number : ℕ) (c : Context) → length first.contexts < number → NewAlone (Some c) → IsBegun parent first (record store { contexts = slice_set store.contexts (number - 1) c })
  context_written number c h alone =
      other_contexts (slice_set store.contexts (number - 1) c) (take-set-le (length first.contexts) store.contexts (number - 1) c (omega arith)) (λ k rest. set_at store.contexts (number - 1) k rest)
    where
      set_at : (cs : List Context) (i k : ℕ) → NewAlone (slice_get cs k) → NewAlone (slice_get (slice_set cs i c) k)
      set_at [] i k rest = rest
      set_at (d ∷ cs) zero zero rest = alone
      set_at (d ∷ cs) zero (suc k) rest = rest
      set_at (d ∷ cs) (suc i) zero rest = rest
      set_at (d ∷ cs) (suc i) (suc k) rest = set_at cs i k rest

-- ---- where it begins, and where it ends
pub begun : (parent : ℕ) (store : Store) → AreGiven store.objects.last (keys_of store.objects.things) → IsBegun parent store store
begun parent store given = record {
  goes_back =
      ap (λ a. record store { objects = with_change (with_first_children (length (owned_by parent store))) parent a; contexts = take (length store.contexts) store.contexts })
      (ap (arena store.objects.last) (all_stay store.objects.last store.objects.things given))
      ∙ ap (λ a. record store { objects = a; contexts = take (length store.contexts) store.contexts }) (uncut (instance_at parent store) refl)
      ∙ ap (λ cs. record store { contexts = cs }) (take_all (length store.contexts) store.contexts (omega arith));
  serials = omega arith;
  new_alone = λ number h. subst (λ c. All (λ serial. store.objects.last < serial) (serials_of c)) (sym (slice_get_past store.contexts (number - 1) (omega arith))) (All-nil _);
  no_object = no_zero store.objects.last store.objects.things given;
}
  where
    uncut : (o : Option Instance) → instance_at parent store ≡ o →
        elim o [ None ↦ store.objects | Some i ↦ with_thing parent store.objects (with_first_children (length (owned_by parent store)) i) ] ≡ store.objects
    uncut None is = refl
    uncut (Some i) is =
        let all : take (length (owned_by parent store)) i.children ≡ i.children = ap (λ o. take (length (children_of o)) i.children) is ∙ take_all (length i.children) i.children (omega arith) in
        ap (λ children. with_thing parent store.objects (record i { children = children })) all
        ∙ ap (arena store.objects.last) (set_value_same (is_at (nat_cmp parent)) store.objects.things i is)

-- ---- calls that fail or not
module _ {A E : Type 0} (r : Result A E) (parent : ℕ) (first store : Store) (here : IsBegun parent first store) where
  pub child_call : (child owner : ℕ) (i w : Instance) → IsOwner owner parent first → instance_at owner store ≡ Some i → OnOk r (w ≡ with_child child i) → OnErr r (w ≡ i) →
      IsBegun parent first (record store { objects = with_thing owner store.objects w })
  child_call child owner i w there is = by r
    where
      P : Instance → Type 0
      P v = IsBegun parent first (record store { objects = with_thing owner store.objects v })

      by : (r : Result A E) → OnOk r (w ≡ with_child child i) → OnErr r (w ≡ i) → P w
      by (Ok x) ok err =
          let same : with_instance (with_child child) owner store ≡ record store { objects = with_thing owner store.objects (with_child child i) } = ap (λ a. record store { objects = a }) (change_there (with_child child) owner store.objects i is) in
          subst P (sym ok) (subst (IsBegun parent first) same (child_added parent first store here child owner there))
      by (Err e) ok err =
          let same : store ≡ record store { objects = with_thing owner store.objects i } = ap (λ es. record store { objects = arena store.objects.last es }) (sym (set_value_same (is_at (nat_cmp owner)) store.objects.things i is)) in
          subst P (sym err) (subst (IsBegun parent first) same here)

  pub push_call : (c : Context) (cs : List Context) → c.serials ≡ [] → OnOk r (cs ≡ store.contexts ++ (c ∷ [])) → OnErr r (cs ≡ store.contexts) → IsBegun parent first (record store { contexts = cs })
  push_call c cs none = by r
    where
      P : List Context → Type 0
      P ds = IsBegun parent first (record store { contexts = ds })

      by : (r : Result A E) → OnOk r (cs ≡ store.contexts ++ (c ∷ [])) → OnErr r (cs ≡ store.contexts) → P cs
      by (Ok x) ok err = subst P (sym ok) (context_added parent first store here c none)
      by (Err e) ok err = subst P (sym err) here

  pub context_call : (number serial : ℕ) (id : Option (List ℕ)) (c w : Context) → AreNew number serial parent first → context_at number store ≡ Some c →
      OnOk r (w ≡ with_serial serial id c) → OnErr r (w.serials ≡ c.serials) → IsBegun parent first (record store { contexts = slice_set store.contexts (number - 1) w })
  context_call number serial id c w new is ok err = context_written parent first store here number w new.0 (by r ok err)
    where
      P : List ℕ → Type 0
      P serials = All (λ serial. first.objects.last < serial) serials

      before : P c.serials
      before = subst (λ o. P (serials_of o)) is (here.new_alone number new.0)

      more : (id : Option (List ℕ)) → P (with_serial serial id c).serials
      more None = All-push (λ n. first.objects.last < n) c.serials serial before new.1
      more (Some name) = All-push (λ n. first.objects.last < n) c.serials serial before new.1

      by : (r : Result A E) → OnOk r (w ≡ with_serial serial id c) → OnErr r (w.serials ≡ c.serials) → P w.serials
      by (Ok x) ok err = subst (λ (d : Context). P d.serials) (sym ok) (more id)
      by (Err e) ok err = subst P (sym err) before

-- ---- the owner of an object is new, if it has one
module _ (parent : ℕ) (first store : Store) (here : IsBegun parent first store) where
  pub owner_new : (number : ℕ) (owner : Option ℕ) → length first.contexts < number → IsNew (serial_in (serials_of (context_at number store)) owner) first
  owner_new number None h = inr refl
  owner_new number (Some owner) h = by (slice_get (serials_of (context_at number store)) owner) refl
    where
      by : (o : Option ℕ) → slice_get (serials_of (context_at number store)) owner ≡ o → IsNew (elim o [ None ↦ 0 | Some serial ↦ serial ]) first
      by None is = inr refl
      by (Some serial) is =
          let serials = serials_of (context_at number store) in
          let at : get_or serials owner serial ≡ serial = get_or_from_slice_get serials owner serial serial is in
          inl (subst (λ n. first.objects.last < n) at (All-get_or (λ n. first.objects.last < n) serials owner serial (slice_get_within serials owner serial is) (here.new_alone number h)))
