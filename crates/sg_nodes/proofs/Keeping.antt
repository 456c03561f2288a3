-- How nodes are stored after each change, and what forest that is.
use Rattle.std.proofs.Common.{◌≡◌, ◌≢◌, ⊎_elim, ℕ, zero, suc, ◌+◌, ◌-◌, ◌<◌, ◌≤◌, true, false, cond, eqb, List, [], ◌∷◌, set, get_or, Option, Some, None, IsSome, is_some, refl, ap, sym, subst, ◌∙◌, arith, eq-eqb}
use Rattle.std.specs.List.{slice_get, count_by}
use Rattle.std.proofs.lemmas.List.Sums.{sum_by-cons}
use Rattle.std.proofs.lemmas.Bool.{cases_eq, ne_eqb}
use Rattle.slab.specs.Slab.{Slab, slab_len, get, Updates, with_value}
use Rattle.slab.proofs.SlabLemmas.{Updates-with_value}
use Rattle.links.specs.Chains.{Chains, cells_in, AreDisjoint}
use Rattle.sg_nodes.specs.declared.node.Node.{Node}
use Rattle.sg_nodes.specs.Forest.{Forest, IsForest, IsLive, IsChild, IsFrom, put, moved, freed, root_without, without}
use Rattle.sg_nodes.specs.Numbers.{IsFull, KeepsNumbers, SameLists}
use Rattle.sg_nodes.specs.Stored.{forest_of, stored, IsStored}
use Rattle.sg_nodes.proofs.Forests.{same_forest, forest_put, forest_spare, forest_root, forest_freed, forest_moved}

-- a slot gets a node, or loses it
put_here : {A : Type 0} (f : ℕ → A) (at slot : ℕ) (v : A) → slot ≡ at → put f at v slot ≡ v
put_here f at slot v e = ap (λ b. cond b v (f slot)) (eq-eqb slot at e)

put_else : {A : Type 0} (f : ℕ → A) (at slot : ℕ) (v : A) → slot ≢ at → put f at v slot ≡ f slot
put_else f at slot v ne = ap (λ b. cond b v (f slot)) (ne_eqb slot at ne)

updated : (old new : Slab Node) (at : ℕ) (o : Option Node) → Updates old new at o → (slot : ℕ) → get new slot ≡ put (get old) at o slot
updated old new at o up slot =
    ⊎_elim
    (λ (is : slot ≡ at). ap (get new) is ∙ (up.changed ∙ sym (put_here (get old) at slot o is)))
    (λ (ne : slot ≢ at). up.others slot ne ∙ sym (put_else (get old) at slot o ne))
    (cases_eq slot at)

no_elements : (xs : List ℕ) → ((x : ℕ) → slice_get xs 0 ≢ Some x) → xs ≡ []
no_elements [] none = refl
no_elements (x ∷ xs) none = absurd (none x refl)

abbrev one_if : Option Node → ℕ
one_if slot = cond (is_some slot) 1 0

-- as many slots have a node where one gets another
count-set : (slots : List (Option Node)) (at : ℕ) (node : Node) → IsSome (get_or slots at None) → count_by is_some (set slots at (Some node)) ≡ count_by is_some slots
count-set [] at node some = refl
count-set (None ∷ slots) zero node some = let no : false ≡ true = some in cc
count-set (Some other ∷ slots) zero node some = refl
count-set (None ∷ slots) (suc at) node some = count-set slots at node some
count-set (Some other ∷ slots) (suc at) node some =
    sum_by-cons one_if (Some other) (set slots at (Some node)) ∙ (ap (λ n. 1 + n) (count-set slots at node some) ∙ sym (sum_by-cons one_if (Some other) slots))

module _ {nodes : Slab Node} {links : Chains} {root : Option ℕ} {spare count : ℕ} (held : IsStored nodes links root spare count) where
  abbrev f : Forest
  f = forest_of (stored nodes links root spare)

  -- the list of a slot without a node is empty
  pub childless : (slot : ℕ) → get nodes slot ≡ None → cells_in links.lists slot ≡ []
  childless slot none = no_elements (cells_in links.lists slot) (λ x e. let no : false ≡ true = ap is_some (sym none) ∙ held.forest.parent_live slot 0 x e in cc)

  -- a slot without a node is no child, and not the root
  pub no_parent : (slot : ℕ) → get nodes slot ≡ None → (parent : ℕ) → ¬ IsChild f parent slot
  no_parent slot none parent is = let no : false ≡ true = ap is_some (sym none) ∙ held.forest.child_live parent is.0 slot is.1 in cc

  pub not_root : (slot : ℕ) → get nodes slot ≡ None → root ≢ Some slot
  not_root slot none e = let no : false ≡ true = ap is_some (sym none) ∙ held.forest.root_live slot e in cc

  -- a node is made
  made_is : (after : Slab Node) (slot : ℕ) (node : Node) → Updates nodes after slot (Some node)
      → forest_of (stored after links root (spare - 1)) ≡ record f { node = put f.node slot (Some node); spare = spare - 1 }
  made_is after slot node up = same_forest _ _ (updated nodes after slot (Some node) up) (λ q. refl) refl refl

  pub made : (after : Slab Node) (slot : ℕ) (node : Node) → Updates nodes after slot (Some node) → slab_len after ≡ slab_len nodes + 1 → after.capacity ≡ nodes.capacity → slot < after.capacity → 0 < spare
      → (forest_of (stored after links root (spare - 1)) ≡ record f { node = put f.node slot (Some node); spare = spare - 1 }) × IsStored after links root (spare - 1) count
  made after slot node up len capacity in_range more =
      let is = made_is after slot node up in
      let enough = held.keys more in (
        is,
        record {
          forest = subst IsForest (sym is) (forest_put held.forest slot (spare - 1) node);
          full = held.full;
          disjoint = held.disjoint;
          within = λ other some.
              ⊎_elim
              (λ (same : other ≡ slot). let here : slot < count = omega arith in subst (λ s. s < count) (sym same) here)
              (λ (ne : other ≢ slot). held.within other (ap is_some (sym (up.others other ne)) ∙ some))
              (cases_eq other slot);
          room = let room = held.room in omega arith;
          keys = λ still. omega arith;
        },
      )

  -- a node has other facts
  pub changed : (after : Slab Node) (slot : ℕ) (node : Node) → IsSome (get nodes slot) → after ≡ with_value nodes slot node
      → (forest_of (stored after links root spare) ≡ record f { node = put f.node slot (Some node) }) × IsStored after links root spare count
  changed after slot node live e =
      let up : Updates nodes after slot (Some node) = subst (λ (s : Slab Node). Updates nodes s slot (Some node)) (sym e) (Updates-with_value nodes slot node live) in
      let len : slab_len after ≡ slab_len nodes = ap slab_len e ∙ count-set nodes.slots slot node live in
      let capacity : after.capacity ≡ nodes.capacity = ap (λ (s : Slab Node). s.capacity) e in
      let is : forest_of (stored after links root spare) ≡ record f { node = put f.node slot (Some node) } = same_forest _ _ (updated nodes after slot (Some node) up) (λ q. refl) refl refl in (
        is,
        record {
          forest = subst IsForest (sym is) (forest_put held.forest slot spare node);
          full = held.full;
          disjoint = held.disjoint;
          within = λ other some.
              ⊎_elim
              (λ (same : other ≡ slot). subst (λ s. s < count) (sym same) (held.within slot live))
              (λ (ne : other ≢ slot). held.within other (ap is_some (sym (up.others other ne)) ∙ some))
              (cases_eq other slot);
          room = let room = held.room in omega arith;
          keys = λ still. let enough = held.keys still in omega arith;
        },
      )

  -- a node is freed
  pub released : (after : Slab Node) (between now : Chains) (now_root : Option ℕ) (slot : ℕ) → Updates nodes after slot None → slab_len after + 1 ≡ slab_len nodes → after.capacity ≡ nodes.capacity
      → ((list : ℕ) → cells_in between.lists list ≡ without slot (cells_in links.lists list)) → KeepsNumbers links between
      → ((list : ℕ) → cells_in now.lists list ≡ cond (eqb list slot) [] (cells_in between.lists list)) → KeepsNumbers between now → AreDisjoint now → now_root ≡ root_without slot root
      → (forest_of (stored after now now_root spare) ≡ freed f slot) × IsStored after now now_root spare count
  released after between now now_root slot up len capacity loosened some_numbers cleared numbers apart rooted =
      let is : forest_of (stored after now now_root spare) ≡ freed f slot =
      same_forest _ _ (updated nodes after slot None up) (λ q. cleared q ∙ ap (λ xs. cond (eqb q slot) [] xs) (loosened q)) rooted refl in (
        is,
        record {
          forest = subst IsForest (sym is) (forest_freed held.forest slot);
          full = numbers count (some_numbers count held.full);
          disjoint = apart;
          within = λ other some.
              ⊎_elim
              (λ (same : other ≡ slot). let no : false ≡ true = ap is_some (sym (ap (get after) same ∙ up.changed)) ∙ some in cc)
              (λ (ne : other ≢ slot). held.within other (ap is_some (sym (up.others other ne)) ∙ some))
              (cases_eq other slot);
          room = let room = held.room in omega arith;
          keys = λ still. let enough = held.keys still in omega arith;
        },
      )

  -- a node is moved
  pub relinked : (now : Chains) (slot parent : ℕ) (at : Option ℕ) → IsLive f slot → IsLive f parent → root ≢ Some slot → ¬ IsFrom f slot parent
      → ((list : ℕ) → cells_in now.lists list ≡ moved f.children slot parent at list) → KeepsNumbers links now → AreDisjoint now
      → (forest_of (stored nodes now root spare) ≡ record f { children = moved f.children slot parent at }) × IsStored nodes now root spare count
  relinked now slot parent at live live_parent not_root not_above lists numbers apart =
      let is : forest_of (stored nodes now root spare) ≡ record f { children = moved f.children slot parent at } = same_forest _ _ (λ q. refl) lists refl refl in (
        is,
        record {
          forest = subst IsForest (sym is) (forest_moved held.forest slot parent at live live_parent not_root not_above);
          full = numbers count held.full;
          disjoint = apart;
          within = held.within;
          room = held.room;
          keys = held.keys;
        },
      )

  -- another root
  pub rooted : (slot : ℕ) → IsLive f slot → ((parent : ℕ) → ¬ IsChild f parent slot) → IsStored nodes links (Some slot) spare count
  rooted slot live free = record {
    forest = forest_root held.forest slot live free;
    full = held.full;
    disjoint = held.disjoint;
    within = held.within;
    room = held.room;
    keys = held.keys;
  }

  -- more room, and room that is lost
  pub grown : (after : Slab Node) (now : Chains) (n more : ℕ) → after ≡ record nodes { capacity = after.capacity } → slab_len after + n ≤ after.capacity → after.capacity ≤ more → count ≤ more
      → IsFull now more → SameLists links now → AreDisjoint now
      → (forest_of (stored after now root n) ≡ record f { spare = n }) × IsStored after now root n more
  grown after now n more same room enough larger full lists apart =
      let slots : after.slots ≡ nodes.slots = ap (λ (s : Slab Node). s.slots) same in
      let is : forest_of (stored after now root n) ≡ record f { spare = n } = same_forest _ _ (λ q. ap (λ xs. get_or xs q None) slots) lists refl refl in (
        is,
        record {
          forest = subst IsForest (sym is) (forest_spare held.forest n);
          full = full;
          disjoint = apart;
          within = λ slot some.
              let before : slot < count = held.within slot (ap (λ xs. is_some (get_or xs slot None)) (sym slots) ∙ some) in omega arith;
          room = room;
          keys = λ still. enough;
        },
      )

  pub lost : (after : Slab Node) → after ≡ record nodes { capacity = after.capacity } → nodes.capacity ≤ after.capacity
      → (forest_of (stored after links root 0) ≡ record f { spare = 0 }) × IsStored after links root 0 count
  lost after same larger =
      let slots : after.slots ≡ nodes.slots = ap (λ (s : Slab Node). s.slots) same in
      let is : forest_of (stored after links root 0) ≡ record f { spare = 0 } = same_forest _ _ (λ q. ap (λ xs. get_or xs q None) slots) (λ q. refl) refl refl in (
        is,
        record {
          forest = subst IsForest (sym is) (forest_spare held.forest 0);
          full = held.full;
          disjoint = held.disjoint;
          within = λ slot some. held.within slot (ap (λ xs. is_some (get_or xs slot None)) (sym slots) ∙ some);
          room = let room = held.room in let len : slab_len after ≡ slab_len nodes = ap (λ xs. count_by is_some xs) slots in omega arith;
          keys = λ still. absurd (omega arith);
        },
      )
