-- Told files determine the list of documents, and its unit or its fault.
use Rattle.std.proofs.Common.{◌≡◌, ◌≢◌, ◌⊎◌, inl, inr, ℕ, zero, suc, ◌+◌, ◌<◌, ◌≤◌, List, [], ◌∷◌, ◌++◌, length, fold, slice_get, codes, Option, None, Some, Result, Ok, Err, refl, sym, ap, subst, ◌∙◌, arith, append-nil, length-append}
use Rattle.std.specs.FinMap.{get}
use Rattle.std.proofs.lemmas.Bool.{cases_order}
use Rattle.std.proofs.lemmas.Option.{slice_get_past, slice_get_within}
use Rattle.outside.specs.Store.{Store}
use Rattle.qml_ast.specs.declared.document.Document.{Document}
use Rattle.qml_ast.specs.declared.fault.DocFault.{DocFault}
use Rattle.qml_ast.specs.declared.fault.DocFault.TheVariants as doc
use Rattle.qml_ast.specs.declared.fault.LoadFault.{LoadFault}
use Rattle.qml_ast.specs.declared.fault.LoadFault.TheVariants as load
use Rattle.qml_tokens.specs.Spelled.{Spells, HasFault}
use Rattle.qml_types.specs.Mentions.{mentions_of}
use Rattle.qml_types.specs.declared.component.ComponentType.{ComponentType}
use Rattle.type_loader.specs.Cycles.{HasNoCycle, IsCycle, IsFirstOnCycle, Reaches}
use Rattle.type_loader.specs.Faults.{HasFlaw, fault_of}
use Rattle.type_loader.specs.Naming.{file_of, IsLawful}
use Rattle.type_loader.specs.Order.{components_of, in_order, made_by}
use Rattle.type_loader.specs.Sources.{AreAll, AreFirst, AreNext, AreRead, HasDocument, IsNext, list_limit, names_of, next_name, with_mentions}
use Rattle.type_loader.specs.Units.{AreMadeTo, AreTooMany, HasListFault, HasUnit, HasUnitFault, IsAwaited, IsCyclic, IsFlawed, IsNoFile, IsUncompiled, IsUnlawful, ShowsFault}
use Rattle.type_loader.specs.declared.flaw.Flaw.{Flaw}
use Rattle.type_loader.specs.declared.flaw.Flaw.TheVariants as flaw
use Rattle.type_loader.specs.declared.made.Made.{Made}
use Rattle.type_loader.specs.declared.source.Source.{Source}
use Rattle.type_loader.specs.declared.unit.Unit.{Unit as UnitOf}
use Rattle.type_loader.proofs.Closing.{ended}
use Rattle.type_loader.proofs.NameLists.{IsFrontOf}

cancelled : (xs ys zs : List ℕ) → xs ++ zs ≡ ys ++ zs → xs ≡ ys
cancelled [] [] zs e = refl
cancelled [] (y ∷ ys) zs e = absurd (omega (arith, ap length e, length-append ys zs))
cancelled (x ∷ xs) [] zs e = absurd (omega (arith, ap length e, length-append xs zs))
cancelled (x ∷ xs) (y ∷ ys) zs e =
    let head : x ≡ y = cc in
    let rest : xs ++ zs ≡ ys ++ zs = cc in
    let tail : xs ≡ ys = cancelled xs ys zs rest in
    cc

-- a file is one type's
one_type : (a b : List ℕ) → file_of a ≡ file_of b → a ≡ b
one_type a b e = cancelled a b (codes ".qml") e

-- what stands behind some documents is next
next_behind : (names : List (List ℕ)) (place : ℕ) (sources : List Source) (s : Source) (rest : List Source) → AreNext names place (sources ++ s ∷ rest) → IsNext (fold with_mentions names sources) (place + length sources) s
next_behind names place [] s rest each =
    let e : place ≡ place + length {A = Source} [] = omega arith in
    subst (λ p. IsNext names p s) e each.0
next_behind names place (t ∷ sources) s rest each =
    let e : place + 1 + length sources ≡ place + length (t ∷ sources) = omega arith in
    subst (λ p. IsNext (fold with_mentions (with_mentions names t) sources) p s) e (next_behind (with_mentions names t) (place + 1) sources s rest each.1)

read_behind : (files : Store) (sources : List Source) (s : Source) (rest : List Source) → AreRead files (sources ++ s ∷ rest) → HasDocument (get files s.file) s.document
read_behind files [] s rest read = read.0
read_behind files (t ∷ sources) s rest read = read_behind files sources s rest read.1

-- the next name, with the document that stands there
next_is : (root : List ℕ) (sources : List Source) (s : Source) (rest : List Source) → AreFirst root (sources ++ s ∷ rest) → IsNext (names_of root sources) (length sources) s
next_is root sources s rest first =
    let e : 0 + length sources ≡ length sources = omega arith in
    subst (λ p. IsNext (names_of root sources) p s) e (next_behind (root ∷ []) 0 sources s rest first.each)

-- the documents are read, and the list cannot be longer
record IsEnd (files : Store) (root : List ℕ) (sources : List Source) : Type 0 where
  first : AreFirst root sources
  read : AreRead files sources
  no_longer : (s : Source) (rest : List Source) → AreFirst root (sources ++ s ∷ rest) → AreRead files (sources ++ s ∷ rest) → ⊥

end_of_all : (files : Store) (root : List ℕ) (sources : List Source) → AreRead files sources → AreAll root sources → IsEnd files root sources
end_of_all files root sources read all = record { first = all.first; read = read; no_longer = longer }
  where
    longer : (s : Source) (rest : List Source) → AreFirst root (sources ++ s ∷ rest) → AreRead files (sources ++ s ∷ rest) → ⊥
    longer s rest first more =
        let named : slice_get (names_of root sources) (length sources) ≡ Some s.name = (next_is root sources s rest first).named in
        let none : slice_get (names_of root sources) (length sources) ≡ None = all.no_more in
        cc

end_of_full : (files : Store) (root : List ℕ) (sources : List Source) → AreRead files sources → AreFirst root sources → length sources ≡ 256 → IsEnd files root sources
end_of_full files root sources read first full = record { first = first; read = read; no_longer = λ s rest longer more. absurd (omega (arith, longer.few, length-append sources (s ∷ rest), full)) }

end_of_unlawful : (files : Store) (root : List ℕ) (sources : List Source) (name : List ℕ) → AreRead files sources → IsAwaited root sources name → (IsLawful (file_of name) → ⊥) → IsEnd files root sources
end_of_unlawful files root sources name read awaited unlawful = record { first = awaited.first; read = read; no_longer = longer }
  where
    longer : (s : Source) (rest : List Source) → AreFirst root (sources ++ s ∷ rest) → AreRead files (sources ++ s ∷ rest) → ⊥
    longer s rest first more =
        let next = next_is root sources s rest first in
        let named : slice_get (names_of root sources) (length sources) ≡ Some s.name = next.named in
        let at : slice_get (names_of root sources) (length sources) ≡ Some name = awaited.next in
        let same : s.name ≡ name = cc in
        unlawful (subst (λ f. IsLawful f) (next.file ∙ ap file_of same) next.lawful)

module _ (documents : (bytes : List ℕ) (a b : Document) → Spells bytes a → Spells bytes b → a ≡ b)
    (text_faults : (bytes : List ℕ) (e f : DocFault) → HasFault bytes e → HasFault bytes f → e ≢ doc.NoMemory → f ≢ doc.NoMemory → e ≡ f)
    (apart : (bytes : List ℕ) (d : Document) (e : DocFault) → Spells bytes d → HasFault bytes e → e ≡ doc.NoMemory) where
  same_document : (file : Option (List ℕ)) (a b : Document) → HasDocument file a → HasDocument file b → a ≡ b
  same_document None a b h k = absurd h
  same_document (Some bytes) a b h k = documents bytes a b h.1 k.1

  same_flaw : (file : Option (List ℕ)) (a b : Flaw) → HasFlaw file a → HasFlaw file b → a ≡ b
  same_flaw None flaw.Missing flaw.Missing h k = refl
  same_flaw None flaw.Missing _ h k = absurd k
  same_flaw None _ b h k = absurd h
  same_flaw (Some bytes) flaw.TooLong flaw.TooLong h k = refl
  same_flaw (Some bytes) flaw.TooLong (flaw.Doc f) h k = absurd (omega (arith, h, k.0))
  same_flaw (Some bytes) flaw.TooLong _ h k = absurd k
  same_flaw (Some bytes) (flaw.Doc e) flaw.TooLong h k = absurd (omega (arith, h.0, k))
  same_flaw (Some bytes) (flaw.Doc e) (flaw.Doc f) h k = ap (λ x. flaw.Doc x) (text_faults bytes e f h.2 k.2 h.1 k.1)
  same_flaw (Some bytes) (flaw.Doc e) _ h k = absurd k
  same_flaw (Some bytes) _ b h k = absurd h

  no_document : (file : Option (List ℕ)) (d : Document) (why : Flaw) → HasDocument file d → HasFlaw file why → ⊥
  no_document None d why h k = h
  no_document (Some bytes) d flaw.TooLong h k = absurd (omega (arith, h.0, k))
  no_document (Some bytes) d (flaw.Doc f) h k = k.1 (apart bytes d f h.1 k.2)
  no_document (Some bytes) d _ h k = k

  end_of_flawed : (files : Store) (root : List ℕ) (sources : List Source) (name : List ℕ) (why : Flaw) → AreRead files sources → IsAwaited root sources name → HasFlaw (get files (file_of name)) why → IsEnd files root sources
  end_of_flawed files root sources name why read awaited has = record { first = awaited.first; read = read; no_longer = longer }
    where
      longer : (s : Source) (rest : List Source) → AreFirst root (sources ++ s ∷ rest) → AreRead files (sources ++ s ∷ rest) → ⊥
      longer s rest first more =
          let next = next_is root sources s rest first in
          let named : slice_get (names_of root sources) (length sources) ≡ Some s.name = next.named in
          let at : slice_get (names_of root sources) (length sources) ≡ Some name = awaited.next in
          let same : s.name ≡ name = cc in
          no_document (get files (file_of name)) s.document why (subst (λ f. HasDocument (get files f) s.document) (next.file ∙ ap file_of same) (read_behind files sources s rest more)) has

  same_source : (files : Store) (names : List (List ℕ)) (place : ℕ) (a b : Source) → IsNext names place a → IsNext names place b → HasDocument (get files a.file) a.document → HasDocument (get files b.file) b.document → a ≡ b
  same_source files names place a b x y h k =
      let at_a : slice_get names place ≡ Some a.name = x.named in
      let at_b : slice_get names place ≡ Some b.name = y.named in
      let name : a.name ≡ b.name = cc in
      let file : a.file ≡ b.file = x.file ∙ (ap file_of name ∙ sym y.file) in
      let document : a.document ≡ b.document = same_document (get files b.file) a.document b.document (subst (λ f. HasDocument (get files f) a.document) file h) k in
      let mentions : a.mentions ≡ b.mentions = x.mentions ∙ (ap mentions_of document ∙ sym y.mentions) in
      λ i. record { name = name i; file = file i; document = document i; mentions = mentions i }

  -- of two lists that are read, one is the front of the other
  fronts : (files : Store) (names : List (List ℕ)) (place : ℕ) (us vs : List Source) → AreNext names place us → AreNext names place vs → AreRead files us → AreRead files vs → IsFrontOf us vs ⊎ IsFrontOf vs us
  fronts files names place [] vs nu nv ru rv = inl (record { rest = vs; is = refl })
  fronts files names place (u ∷ us) [] nu nv ru rv = inr (record { rest = u ∷ us; is = refl })
  fronts files names place (u ∷ us) (v ∷ vs) nu nv ru rv =
      by (same_source files names place u v nu.0 nv.0 ru.0 rv.0) (λ same. fronts files (with_mentions names u) (place + 1) us vs nu.1 (subst (λ s. AreNext (with_mentions names s) (place + 1) vs) (sym same) nv.1) ru.1 rv.1)
    where
      both : u ≡ v → IsFrontOf us vs ⊎ IsFrontOf vs us → IsFrontOf (u ∷ us) (v ∷ vs) ⊎ IsFrontOf (v ∷ vs) (u ∷ us)
      both same (inl f) = inl (record { rest = f.rest; is = ap (λ s. s ∷ vs) (sym same) ∙ ap (λ l. u ∷ l) f.is })
      both same (inr f) = inr (record { rest = f.rest; is = ap (λ s. s ∷ us) same ∙ ap (λ l. v ∷ l) f.is })

      by : u ≡ v → (u ≡ v → IsFrontOf us vs ⊎ IsFrontOf vs us) → IsFrontOf (u ∷ us) (v ∷ vs) ⊎ IsFrontOf (v ∷ vs) (u ∷ us)
      by same later = both same (later same)

  not_longer : (files : Store) (root : List ℕ) (us vs rest : List Source) → IsEnd files root us → IsEnd files root vs → vs ≡ us ++ rest → us ≡ vs
  not_longer files root us vs [] x y is = sym (append-nil us) ∙ sym is
  not_longer files root us vs (s ∷ rest) x y is = absurd (x.no_longer s rest (subst (λ l. AreFirst root l) is y.first) (subst (λ l. AreRead files l) is y.read))

  -- two lists that cannot be longer are one
  one_end : (files : Store) (root : List ℕ) (us vs : List Source) → IsEnd files root us → IsEnd files root vs → us ≡ vs
  one_end files root us vs x y = by (fronts files (root ∷ []) 0 us vs x.first.each y.first.each x.read y.read)
    where
      by : IsFrontOf us vs ⊎ IsFrontOf vs us → us ≡ vs
      by (inl f) = not_longer files root us vs f.rest x y f.is
      by (inr f) = sym (not_longer files root vs us f.rest y x f.is)

  -- Two answers over one list

  one_cycle_file : (sources : List Source) (a b : List ℕ) → IsFirstOnCycle sources a → IsFirstOnCycle sources b → a ≡ b
  one_cycle_file sources a b x y = by (cases_order x.place y.place)
    where
      by : (x.place ≡ y.place) ⊎ ((x.place < y.place) ⊎ (y.place < x.place)) → a ≡ b
      by (inr (inl less)) = absurd (y.none_before x.place x.source less x.stands x.reaches)
      by (inr (inr less)) = absurd (x.none_before y.place y.source less y.stands y.reaches)
      by (inl same) =
          let at : slice_get sources x.place ≡ Some y.source = subst (λ p. slice_get sources p ≡ Some y.source) (sym same) y.stands in
          let stands : slice_get sources x.place ≡ Some x.source = x.stands in
          let source : x.source ≡ y.source = cc in
          x.is ∙ (ap (λ s. s.file) source ∙ sym y.is)

  full_awaited : (root : List ℕ) (sources : List Source) (e : LoadFault) (name : List ℕ) → AreTooMany root sources e → IsAwaited root sources name → ⊥
  full_awaited root sources e name x y = omega (arith, x.full, y.few)

  full_all : (root : List ℕ) (sources : List Source) (e : LoadFault) → AreTooMany root sources e → AreAll root sources → ⊥
  full_all root sources e x y = omega (arith, x.full, x.more, ended (names_of root sources) (length sources) y.no_more)

  awaited_all : (root : List ℕ) (sources : List Source) (name : List ℕ) → IsAwaited root sources name → AreAll root sources → ⊥
  awaited_all root sources name x y =
      let at : slice_get (names_of root sources) (length sources) ≡ Some name = x.next in
      let none : slice_get (names_of root sources) (length sources) ≡ None = y.no_more in
      cc

  one_name : (root : List ℕ) (sources : List Source) (a b : List ℕ) → IsAwaited root sources a → IsAwaited root sources b → a ≡ b
  one_name root sources a b x y =
      let at : slice_get (names_of root sources) (length sources) ≡ Some a = x.next in
      let too : slice_get (names_of root sources) (length sources) ≡ Some b = y.next in
      cc

  not_both_ways : (root : List ℕ) (sources : List Source) (e : LoadFault) → IsCyclic root sources e → HasNoCycle sources → ⊥
  not_both_ways root sources e x none = none x.cycle.is.place x.cycle.is.source x.cycle.is.stands x.cycle.is.reaches

  not_lawful_too : (files : Store) (root : List ℕ) (sources : List Source) (e f : LoadFault) → IsUnlawful root sources e → IsFlawed files root sources f → ⊥
  not_lawful_too files root sources e f x y = x.unlawful (subst (λ n. IsLawful (file_of n)) (one_name root sources y.name x.name y.awaited x.awaited) y.lawful)

  one_fault : (files : Store) (root : List ℕ) (sources : List Source) (e f : LoadFault)
      → ShowsFault root sources e ⊎ IsFlawed files root sources e → ShowsFault root sources f ⊎ IsFlawed files root sources f → e ≡ f
  one_fault files root sources e f (inl (inl x)) (inl (inl y)) = x.told ∙ sym y.told
  one_fault files root sources e f (inl (inl x)) (inl (inr (inl y))) = absurd (full_awaited root sources e y.name x y.awaited)
  one_fault files root sources e f (inl (inl x)) (inl (inr (inr (inl y)))) = absurd (full_all root sources e x y.all)
  one_fault files root sources e f (inl (inl x)) (inl (inr (inr (inr y)))) = absurd (full_all root sources e x y.all)
  one_fault files root sources e f (inl (inl x)) (inr y) = absurd (full_awaited root sources e y.name x y.awaited)
  one_fault files root sources e f (inl (inr (inl x))) (inl (inl y)) = absurd (full_awaited root sources f x.name y x.awaited)
  one_fault files root sources e f (inl (inr (inl x))) (inl (inr (inl y))) = x.told ∙ (ap (λ n. fault_of sources n flaw.Missing) (one_name root sources x.name y.name x.awaited y.awaited) ∙ sym y.told)
  one_fault files root sources e f (inl (inr (inl x))) (inl (inr (inr (inl y)))) = absurd (awaited_all root sources x.name x.awaited y.all)
  one_fault files root sources e f (inl (inr (inl x))) (inl (inr (inr (inr y)))) = absurd (awaited_all root sources x.name x.awaited y.all)
  one_fault files root sources e f (inl (inr (inl x))) (inr y) = absurd (not_lawful_too files root sources e f x y)
  one_fault files root sources e f (inl (inr (inr (inl x)))) (inl (inl y)) = absurd (full_all root sources f y x.all)
  one_fault files root sources e f (inl (inr (inr (inl x)))) (inl (inr (inl y))) = absurd (awaited_all root sources y.name y.awaited x.all)
  one_fault files root sources e f (inl (inr (inr (inl x)))) (inl (inr (inr (inl y)))) =
      x.cycle.told ∙ (ap (λ n. load.Cycle n) (one_cycle_file sources x.cycle.file y.cycle.file x.cycle.is y.cycle.is) ∙ sym y.cycle.told)
  one_fault files root sources e f (inl (inr (inr (inl x)))) (inl (inr (inr (inr y)))) = absurd (not_both_ways root sources e x y.no_cycle)
  one_fault files root sources e f (inl (inr (inr (inl x)))) (inr y) = absurd (awaited_all root sources y.name y.awaited x.all)
  one_fault files root sources e f (inl (inr (inr (inr x)))) (inl (inl y)) = absurd (full_all root sources f y x.all)
  one_fault files root sources e f (inl (inr (inr (inr x)))) (inl (inr (inl y))) = absurd (awaited_all root sources y.name y.awaited x.all)
  one_fault files root sources e f (inl (inr (inr (inr x)))) (inl (inr (inr (inl y)))) = absurd (not_both_ways root sources f y x.no_cycle)
  one_fault files root sources e f (inl (inr (inr (inr x)))) (inl (inr (inr (inr y)))) =
      let a : made_by sources [] (in_order root sources) ≡ Err e = x.told in
      let b : made_by sources [] (in_order root sources) ≡ Err f = y.told in
      cc
  one_fault files root sources e f (inl (inr (inr (inr x)))) (inr y) = absurd (awaited_all root sources y.name y.awaited x.all)
  one_fault files root sources e f (inr x) (inl (inl y)) = absurd (full_awaited root sources f x.name y x.awaited)
  one_fault files root sources e f (inr x) (inl (inr (inl y))) = absurd (not_lawful_too files root sources f e y x)
  one_fault files root sources e f (inr x) (inl (inr (inr (inl y)))) = absurd (awaited_all root sources x.name x.awaited y.all)
  one_fault files root sources e f (inr x) (inl (inr (inr (inr y)))) = absurd (awaited_all root sources x.name x.awaited y.all)
  one_fault files root sources e f (inr x) (inr y) =
      let name : x.name ≡ y.name = one_name root sources x.name y.name x.awaited y.awaited in
      let why : x.flaw ≡ y.flaw = same_flaw (get files (file_of y.name)) x.flaw y.flaw (subst (λ n. HasFlaw (get files (file_of n)) x.flaw) name x.has) y.has in
      x.told ∙ (ap (λ n. fault_of sources n x.flaw) name ∙ (ap (λ w. fault_of sources y.name w) why ∙ sym y.told))

  end_of_fault : (files : Store) (root : List ℕ) (sources : List Source) (fault : LoadFault) → AreRead files sources → ShowsFault root sources fault ⊎ IsFlawed files root sources fault → IsEnd files root sources
  end_of_fault files root sources fault read (inl (inl x)) = end_of_full files root sources read x.first x.full
  end_of_fault files root sources fault read (inl (inr (inl x))) = end_of_unlawful files root sources x.name read x.awaited x.unlawful
  end_of_fault files root sources fault read (inl (inr (inr (inl x)))) = end_of_all files root sources read x.all
  end_of_fault files root sources fault read (inl (inr (inr (inr x)))) = end_of_all files root sources read x.all
  end_of_fault files root sources fault read (inr x) = end_of_flawed files root sources x.name x.flaw read x.awaited x.has

  list_faults : (files : Store) (file : List ℕ) (e f : LoadFault) → HasListFault files file e → HasListFault files file f → e ≡ f
  list_faults files file e f x y =
      let root : x.root ≡ y.root = one_type x.root y.root (sym x.named ∙ y.named) in
      let end_x : IsEnd files y.root x.sources = subst (λ r. IsEnd files r x.sources) root (end_of_fault files x.root x.sources e x.read x.why) in
      let sources : x.sources ≡ y.sources = one_end files y.root x.sources y.sources end_x (end_of_fault files y.root y.sources f y.read y.why) in
      one_fault files y.root y.sources e f
      (subst (λ ss. ShowsFault y.root ss e ⊎ IsFlawed files y.root ss e) sources (subst (λ r. ShowsFault r x.sources e ⊎ IsFlawed files r x.sources e) root x.why)) y.why

  -- a file has one fault at most
  pub faults_once : (files : Store) (file : List ℕ) (e f : LoadFault) → HasUnitFault files file e → HasUnitFault files file f → e ≡ f
  faults_once files file e f (inl x) (inl y) = x.told ∙ sym y.told
  faults_once files file e f (inl x) (inr y) = absurd (x.unlawful y.lawful)
  faults_once files file e f (inr x) (inl y) = absurd (y.unlawful x.lawful)
  faults_once files file e f (inr x) (inr y) = list_faults files file e f x y

  no_fault_over : (files : Store) (root : List ℕ) (sources : List Source) (unit : UnitOf) (fault : LoadFault) → AreMadeTo root sources unit → ShowsFault root sources fault ⊎ IsFlawed files root sources fault → ⊥
  no_fault_over files root sources unit fault x (inl (inl y)) = full_all root sources fault y x.all
  no_fault_over files root sources unit fault x (inl (inr (inl y))) = awaited_all root sources y.name y.awaited x.all
  no_fault_over files root sources unit fault x (inl (inr (inr (inl y)))) = not_both_ways root sources fault y x.no_cycle
  no_fault_over files root sources unit fault x (inl (inr (inr (inr y)))) =
      let a : made_by sources [] (in_order root sources) ≡ Ok x.made = x.are in
      let b : made_by sources [] (in_order root sources) ≡ Err fault = y.told in
      absurd cc
  no_fault_over files root sources unit fault x (inr y) = awaited_all root sources y.name y.awaited x.all

  -- and none beside a unit
  pub never_both : (files : Store) (file : List ℕ) (unit : UnitOf) (fault : LoadFault) → HasUnit files file unit → HasUnitFault files file fault → ⊥
  never_both files file unit fault x (inl y) = y.unlawful x.lawful
  never_both files file unit fault x (inr y) =
      let root : x.root ≡ y.root = one_type x.root y.root (sym x.named ∙ y.named) in
      let made : AreMadeTo y.root x.sources unit = subst (λ r. AreMadeTo r x.sources unit) root x.made in
      let sources : x.sources ≡ y.sources = one_end files y.root x.sources y.sources (end_of_all files y.root x.sources x.read made.all) (end_of_fault files y.root y.sources fault y.read y.why) in
      no_fault_over files y.root y.sources unit fault (subst (λ ss. AreMadeTo y.root ss unit) sources made) y.why

  units_over : (root : List ℕ) (sources : List Source) (a b : UnitOf) → AreMadeTo root sources a → AreMadeTo root sources b → (a.name ≡ b.name) × (a.components ≡ b.components)
  units_over root sources a b x y =
      let p : made_by sources [] (in_order root sources) ≡ Ok x.made = x.are in
      let q : made_by sources [] (in_order root sources) ≡ Ok y.made = y.are in
      let made : x.made ≡ y.made = cc in
      (x.name ∙ sym y.name, x.components ∙ (ap (λ m. components_of m sources) made ∙ sym y.components))

  -- a file has one unit at most
  pub units_once : (files : Store) (file : List ℕ) (a b : UnitOf) → HasUnit files file a → HasUnit files file b → (a.name ≡ b.name) × (a.components ≡ b.components)
  units_once files file a b x y =
      let root : x.root ≡ y.root = one_type x.root y.root (sym x.named ∙ y.named) in
      let made : AreMadeTo y.root x.sources a = subst (λ r. AreMadeTo r x.sources a) root x.made in
      let sources : x.sources ≡ y.sources = one_end files y.root x.sources y.sources (end_of_all files y.root x.sources x.read made.all) (end_of_all files y.root y.sources y.read y.made.all) in
      units_over y.root y.sources a b (subst (λ ss. AreMadeTo y.root ss a) sources made) y.made
