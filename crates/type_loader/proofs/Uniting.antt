-- A unit has a component type, and why there may be no unit.
use Rattle.std.proofs.Common.{◌≡◌, ◌≢◌, ◌⊎◌, inl, inr, ℕ, ◌<◌, Bool, true, false, nat_eq, ◌||◌, cond, List, [], ◌∷◌, ◌++◌, length, fold, find, slice_get, Option, None, Some, is_some, Result, Ok, Err, IfErr, refl, sym, ap, subst, ◌∙◌, true≢false, arith}
use Rattle.std.specs.Cmp.Lexicographic.{pointwise}
use Rattle.std.specs.Option.{option_map, option_to_list}
use Rattle.std.proofs.lemmas.List.{append_assoc}
use Rattle.outside.specs.Store.{Store}
use Rattle.qml_ast.specs.declared.fault.DocFault.{DocFault}
use Rattle.qml_ast.specs.declared.fault.LoadFault.{LoadFault}
use Rattle.qml_ast.specs.declared.fault.LoadFault.TheVariants as load
use Rattle.qml_types.specs.Compiled.{compiled}
use Rattle.qml_types.specs.declared.component.ComponentType.{ComponentType}
use Rattle.type_loader.specs.Cycles.{HasNoCycle, IsCycle, mentioned_by}
use Rattle.type_loader.specs.Entries.{Entries}
use Rattle.type_loader.specs.Loads.{AreGathered, IsStopped, IsStoppedAt, IsUnlisted, IsUnloaded}
use Rattle.type_loader.specs.Naming.{among, file_of, IsLawful}
use Rattle.type_loader.specs.Order.{component_named, components_of, in_order, known_of, made_by, made_with, post, with_component}
use Rattle.type_loader.specs.Sources.{AreAll, source_named}
use Rattle.type_loader.specs.Units.{IsCyclic, IsNotMade, IsUncompiled}
use Rattle.type_loader.specs.declared.made.Made.{Made}
use Rattle.type_loader.specs.declared.source.Source.{Source}
use Rattle.type_loader.specs.declared.unit.Unit.{Unit as UnitOf}
use Rattle.type_loader.proofs.NameLists.{among_added, name_itself, same_name}

-- NoMemory, or another fault
memory_or_not : (fault : LoadFault) → (fault ≡ load.NoMemory) ⊎ (fault ≢ load.NoMemory)
memory_or_not (load.Missing name) = inr (λ e. cc)
memory_or_not (load.TooLong name) = inr (λ e. cc)
memory_or_not load.TooMany = inr (λ e. cc)
memory_or_not (load.Cycle name) = inr (λ e. cc)
memory_or_not (load.Doc name why) = inr (λ e. cc)
memory_or_not load.Read = inr (λ e. cc)
memory_or_not load.NoMemory = inl refl

pub not_made_by_cycle : (root : List ℕ) (sources : List Source) (fault : LoadFault) → AreAll root sources → (fault ≢ load.NoMemory → IsCycle sources fault) → IsNotMade root sources fault
not_made_by_cycle root sources fault all cycle = by (memory_or_not fault)
  where
    by : (fault ≡ load.NoMemory) ⊎ (fault ≢ load.NoMemory) → IsNotMade root sources fault
    by (inl none) = record { is = inr (inr none) }
    by (inr some) = record { is = inl (record { all = all; cycle = cycle some }) }

pub not_made_by_fault : (root : List ℕ) (sources : List Source) (fault : LoadFault) → AreAll root sources → HasNoCycle sources → (fault ≢ load.NoMemory → made_by sources [] (in_order root sources) ≡ Err fault) → IsNotMade root sources fault
not_made_by_fault root sources fault all no_cycle told = by (memory_or_not fault)
  where
    by : (fault ≡ load.NoMemory) ⊎ (fault ≢ load.NoMemory) → IsNotMade root sources fault
    by (inl none) = record { is = inr (inr none) }
    by (inr some) = record { is = inr (inl (record { all = all; no_cycle = no_cycle; told = told some })) }

pub not_made_by_memory : (root : List ℕ) (sources : List Source) (fault : LoadFault) → fault ≡ load.NoMemory → IsNotMade root sources fault
not_made_by_memory root sources fault none = record { is = inr (inr none) }

-- Why a load fails

pub stopped_by_unit : {F : Type 0} (held : Option Store) (old new : Entries) (before after : F) (reads_before reads_after : ℕ) (root : List ℕ) (sources : List Source) (fault : LoadFault)
    → AreGathered held old new before after root sources → IsNotMade root sources fault → IsStopped held old new before after reads_before reads_after root fault
stopped_by_unit held old new before after reads_before reads_after root sources fault gathered not_made = by not_made.is
  where
    by : IsCyclic root sources fault ⊎ (IsUncompiled root sources fault ⊎ (fault ≡ load.NoMemory)) → IsStopped held old new before after reads_before reads_after root fault
    by (inl cyclic) = record { sources = sources; listed = gathered.listed; why = inl (inl (inr (inr (inl cyclic))), gathered.left) }
    by (inr (inl uncompiled)) = record { sources = sources; listed = gathered.listed; why = inl (inl (inr (inr (inr uncompiled))), gathered.left) }
    by (inr (inr none)) = record { sources = sources; listed = gathered.listed; why = inl (inr none, gathered.left) }

pub unloaded_at : {F : Type 0} (held : Option Store) (old new : Entries) (before after : F) (reads_before reads_after : ℕ) (file root : List ℕ) (fault : LoadFault)
    → file ≡ file_of root → IsLawful file → IsStopped held old new before after reads_before reads_after root fault → IsUnloaded held old new before after reads_before reads_after file fault
unloaded_at held old new before after reads_before reads_after file root fault named lawful stopped = record { is = inr (record { root = root; named = named; lawful = lawful; stopped = stopped }) }

pub if_unloaded : {F : Type 0} (held : Option Store) (old new : Entries) (before after : F) (reads_before reads_after : ℕ) (file root other : List ℕ) (sources listed : List Source) (result : Result UnitOf LoadFault)
    → file ≡ file_of root → IsLawful file → other ≡ root → listed ≡ sources → AreGathered held old new before after other sources → IfErr result (IsNotMade root listed)
    → IfErr result (IsUnloaded held old new before after reads_before reads_after file)
if_unloaded held old new before after reads_before reads_after file root other sources listed (Ok unit) named lawful same same_list gathered not_made = tt
if_unloaded held old new before after reads_before reads_after file root other sources listed (Err fault) named lawful same same_list gathered not_made =
    unloaded_at held old new before after reads_before reads_after file root fault named lawful
    (stopped_by_unit held old new before after reads_before reads_after root sources fault
    (subst (λ r. AreGathered held old new before after r sources) same gathered) (subst (λ ss. IsNotMade root ss fault) same_list not_made))

-- What is made stays made

in_front : (made rest : List Made) (name : List ℕ) → is_some (component_named made name) ≡ true → is_some (component_named (made ++ rest) name) ≡ true
in_front [] rest name h = absurd (true≢false (sym h))
in_front (m ∷ made) rest name h =
    elim (pointwise nat_eq name m.name) as (λ b. is_some (option_map (λ m. m.component) (cond b (Some m) (find (λ m. pointwise nat_eq name m.name) made))) ≡ true
    → is_some (option_map (λ m. m.component) (cond b (Some m) (find (λ m. pointwise nat_eq name m.name) (made ++ rest)))) ≡ true)
    [ true ↦ λ _. refl | false ↦ λ k. in_front made rest name k ] h

at_end : (made : List Made) (m : Made) → is_some (component_named (made ++ m ∷ []) m.name) ≡ true
at_end [] m = rw (name_itself m.name) refl
at_end (n ∷ made) m =
    elim (pointwise nat_eq m.name n.name) as (λ b. is_some (option_map (λ m. m.component) (cond b (Some n) (find (λ k. pointwise nat_eq m.name k.name) (made ++ m ∷ [])))) ≡ true)
    [ true ↦ refl | false ↦ at_end made m ]

with_keeps : (made all : List Made) (o : Option Source) (name : List ℕ) → made_with made o ≡ Ok all → is_some (component_named made name) ≡ true → is_some (component_named all name) ≡ true
with_keeps made all None name is h =
    let same : made ≡ all = cc in
    subst (λ ms. is_some (component_named ms name) ≡ true) same h
with_keeps made all (Some s) name is h = by (component_named made s.name) (compiled s.file s.document (known_of made)) is
  where
    by : (o : Option ComponentType) (r : Result ComponentType DocFault) → ◌≡◌ {A = Result (List Made) LoadFault} (elim o [ None ↦ with_component made s r | Some component ↦ Ok made ]) (Ok all) → is_some (component_named all name) ≡ true
    by (Some c) r e =
        let same : made ≡ all = cc in
        subst (λ ms. is_some (component_named ms name) ≡ true) same h
    by None (Ok c) e =
        let same : made ++ record { name = s.name; component = c } ∷ [] ≡ all = cc in
        subst (λ ms. is_some (component_named ms name) ≡ true) same (in_front made (record { name = s.name; component = c } ∷ []) name h)
    by None (Err f) e = absurd cc

with_has : (made all : List Made) (s : Source) → made_with made (Some s) ≡ Ok all → is_some (component_named all s.name) ≡ true
with_has made all s is = by (component_named made s.name) (compiled s.file s.document (known_of made)) refl is
  where
    by : (o : Option ComponentType) (r : Result ComponentType DocFault) → component_named made s.name ≡ o → ◌≡◌ {A = Result (List Made) LoadFault} (elim o [ None ↦ with_component made s r | Some component ↦ Ok made ]) (Ok all) → is_some (component_named all s.name) ≡ true
    by (Some c) r had e =
        let same : made ≡ all = cc in
        subst (λ ms. is_some (component_named ms s.name) ≡ true) same (ap is_some had)
    by None (Ok c) had e =
        let same : made ++ record { name = s.name; component = c } ∷ [] ≡ all = cc in
        subst (λ ms. is_some (component_named ms s.name) ≡ true) same (at_end made (record { name = s.name; component = c }))
    by None (Err f) had e = absurd cc

by_keeps : (sources : List Source) (made all : List Made) (names : List (List ℕ)) (name : List ℕ) → made_by sources made names ≡ Ok all → is_some (component_named made name) ≡ true → is_some (component_named all name) ≡ true
by_keeps sources made all [] name is h =
    let same : made ≡ all = cc in
    subst (λ ms. is_some (component_named ms name) ≡ true) same h
by_keeps sources made all (n ∷ names) name is h = by (made_with made (source_named sources n)) refl is (λ now e. by_keeps sources now all names name e)
  where
    by : (r : Result (List Made) LoadFault) → made_with made (source_named sources n) ≡ r → ◌≡◌ {A = Result (List Made) LoadFault} (elim r [ Ok now ↦ made_by sources now names | Err fault ↦ Err fault ]) (Ok all)
        → ((now : List Made) → made_by sources now names ≡ Ok all → is_some (component_named now name) ≡ true → is_some (component_named all name) ≡ true) → is_some (component_named all name) ≡ true
    by (Ok now) e is rest = rest now is (with_keeps made now (source_named sources n) name e h)
    by (Err f) e is rest = absurd cc

by_has : (sources : List Source) (made all : List Made) (names : List (List ℕ)) (s : Source) → made_by sources made names ≡ Ok all → source_named sources s.name ≡ Some s → among names s.name ≡ true → is_some (component_named all s.name) ≡ true
by_has sources made all [] s is stands h = absurd (true≢false (sym h))
by_has sources made all (n ∷ names) s is stands h = by (pointwise nat_eq s.name n) refl h (made_with made (source_named sources n)) refl is (λ now e k. by_has sources now all names s e stands k)
  where
    by : (b : Bool) → pointwise nat_eq s.name n ≡ b → (b || among names s.name) ≡ true → (r : Result (List Made) LoadFault) → made_with made (source_named sources n) ≡ r
        → ◌≡◌ {A = Result (List Made) LoadFault} (elim r [ Ok now ↦ made_by sources now names | Err fault ↦ Err fault ]) (Ok all)
        → ((now : List Made) → made_by sources now names ≡ Ok all → among names s.name ≡ true → is_some (component_named all s.name) ≡ true) → is_some (component_named all s.name) ≡ true
    by b same h (Err f) e is rest = absurd cc
    by false same h (Ok now) e is rest = rest now is h
    by true same h (Ok now) e is rest =
        let named : source_named sources n ≡ Some s = subst (λ k. source_named sources k ≡ Some s) (same_name s.name n same) stands in
        by_keeps sources now all names s.name is (with_has made now s (ap (made_with made) (sym named) ∙ e))

one_more_component : (made : List Made) (s : Source) (rest : List Source) (o : Option ComponentType) → component_named made s.name ≡ o → is_some o ≡ true → 0 < length (components_of made (s ∷ rest))
one_more_component made s rest None is h = absurd (true≢false (sym h))
one_more_component made s rest (Some c) is h = rw is (omega arith)

-- a unit has the component type of its first document
pub some_component : (root : List ℕ) (sources : List Source) (made : List Made) → AreAll root sources → made_by sources [] (in_order root sources) ≡ Ok made → 0 < length (components_of made sources)
some_component root [] made all is = absurd cc
some_component root (s ∷ sources) made all is =
    let same : root ≡ s.name = cc in
    let stands : source_named (s ∷ sources) s.name ≡ Some s = rw (name_itself s.name) refl in
    let last : among (in_order root (s ∷ sources)) root ≡ true = among_added (fold (post (s ∷ sources) (length sources)) [] (mentioned_by (s ∷ sources) root)) root in
    one_more_component made s sources (component_named made s.name) refl
    (by_has (s ∷ sources) [] made (in_order root (s ∷ sources)) s is stands (subst (λ n. among (in_order root (s ∷ sources)) n ≡ true) same last))

-- the component types with one more
pub one_component : (made : List Made) (s : Source) (rest : List Source) (done : List ComponentType) → (done ++ option_to_list (component_named made s.name)) ++ components_of made rest ≡ done ++ components_of made (s ∷ rest)
one_component made s rest done = append_assoc done (option_to_list (component_named made s.name)) (components_of made rest) ∙ ap (λ l. done ++ l) (by (component_named made s.name) refl)
  where
    by : (o : Option ComponentType) → component_named made s.name ≡ o → option_to_list (component_named made s.name) ++ components_of made rest ≡ components_of made (s ∷ rest)
    by None e = rw e refl
    by (Some c) e = rw e refl
