-- Paths of members, and names of entries of a group.
use Rattle.std.proofs.Common.{◌≡◌, ℕ, ◌&&◌, ◌⊎◌, not, Bool, false, List, [], ◌∷◌, Some, None, Ok, inl, inr, refl, sym, ap, subst, ◌∙◌, codes, bytes_eq}
use Rattle.std.proofs.lemmas.Bool.{and_cases, and_left, and_right, not-false}
use Rattle.std.proofs.lemmas.Slice.Eq.{bytes_eq-Decides}
use Rattle.qml_ast.specs.declared.path.Path.{Path}
use Rattle.qml_grammar.specs.DocumentGrammar.{IsName, is_own_word, IsPath, one, two}
use Rattle.qml_grammar.specs.Documents.{second_name, path_behind, path, entry_name}
use Rattle.qml_grammar.specs.Inputs.{Input, ahead, after, any_name}
use Rattle.qml_grammar.specs.Lexemes.{Token, is_mark}
use Rattle.qml_grammar.specs.Names.{name_is, is_handler_name}
use Rattle.qml_grammar.specs.declared.mark.Mark.TheVariants.{Dot}
use Rattle.grammar_laws.specs.Laws.{Way}
use Rattle.grammar_laws.proofs.Behind.{ok_then, if_true, if_false}
use Rattle.grammar_laws.proofs.Tools.{bind_ok, if_ok, ahead_some, way_token, way_then, Named, named, same_value, same_input}
use Rattle.statement_laws.proofs.Ways.{before, name_before}
use Rattle.document_laws.proofs.Steps.{first_is}

-- a path that was read
pub record PathRead (i j : Input) (p : Path) : Type 0 where
  pub token : Token
  pub others : List Token
  pub way : Way i j 0 (token ∷ others)
  pub spelled : IsPath (token ∷ others) p

path_to : {i j k : Input} {p q : Path} → PathRead i j p → p ≡ q → j ≡ k → PathRead i k q
path_to {i = i} {j = j} {k = k} {p = p} {q = q} r e f = subst (λ l. PathRead i l q) f (subst (λ o. PathRead i j o) e r)

-- the second name may be a handler's behind `Component` only
may_handle : (n m : List ℕ) → (is_handler_name m && not (bytes_eq n (codes "Component"))) ≡ false → (is_handler_name m ≡ false) ⊎ (n ≡ codes "Component")
may_handle n m h = elim (and_cases (is_handler_name m) (not (bytes_eq n (codes "Component"))) h) [
  | inl e ↦ inl e
  | inr e ↦ inr ((bytes_eq-Decides n (codes "Component")).0 (not-false (bytes_eq n (codes "Component")) e))
]

handles : (n m : List ℕ) → (is_handler_name m ≡ false) ⊎ (n ≡ codes "Component") → (is_handler_name m && not (bytes_eq n (codes "Component"))) ≡ false
handles n m (inl e) = and_left (is_handler_name m) _ e
handles n m (inr e) = and_right (is_handler_name m) _ (ap not ((bytes_eq-Decides n (codes "Component")).1 e))

name_is_at : (test : List ℕ → Bool) (t : Token) (n : List ℕ) → IsName t n → name_is test (Some t) ≡ test n
name_is_at test t n is = rw (name_is, is) refl

path_from : (i k : Input) (n : List ℕ) (p : Path) (j : Input) → is_own_word (ahead i) ≡ false → Named n i k → path_behind n k ≡ Ok (p, j) → PathRead i j p
unfolding path_behind second_name
path_from i k n p j free t h = elim (if_ok (is_mark Dot (ahead k)) _ _ _ h) [
  | inl a ↦ (
      let o = ahead_some (is_mark Dot) refl k a.0 in
      let b = bind_ok (second_name n (after k)) _ _ a.1 in
      elim (if_ok (name_is is_handler_name (ahead (after k)) && not (bytes_eq n (codes "Component"))) _ _ _ b.first) [
        | inl c ↦ absurd (let e = c.1 in cc)
        | inr c ↦ (
            let u = named (after k) b.at b.value c.1 in
            let m = first_is (name_is is_handler_name) u.way ∙ name_is_at is_handler_name u.token b.value u.is in
            let may = may_handle n b.value (ap (λ q. q && not (bytes_eq n (codes "Component"))) (sym m) ∙ c.0) in
            let own = sym (first_is is_own_word t.way) ∙ free in
            let read : PathRead i b.at (record { first = n; second = Some b.value }) = record {
              token = t.token;
              others = o.token ∷ u.token ∷ [];
              way = way_then t.way (way_then (way_token o.token o.rest) u.way);
              spelled = two t.token o.token u.token n b.value refl refl own t.is o.is u.is may;
            } in
            path_to read (same_value _ p b.at j b.onward) (same_input _ p b.at j b.onward))
      ])
  | inr a ↦ (
      let own = sym (first_is is_own_word t.way) ∙ free in
      let read : PathRead i k (record { first = n; second = None }) = record { token = t.token; others = []; way = t.way; spelled = one t.token n refl refl own t.is } in
      path_to read (same_value _ p k j a.1) (same_input _ p k j a.1))
]

pub path_read : (i : Input) (p : Path) (j : Input) → is_own_word (ahead i) ≡ false → path i ≡ Ok (p, j) → PathRead i j p
unfolding path
path_read i p j free h =
    let a = bind_ok (any_name i) _ _ h in
    path_from i a.at a.value p j free (named i a.at a.value a.first) a.onward

second_goes : (n m : List ℕ) (u : Token) (j : Input) → IsName u m → (is_handler_name m ≡ false) ⊎ (n ≡ codes "Component") → second_name n (before (u ∷ []) j) ≡ Ok (m, j)
unfolding second_name
second_goes n m u j is may = if_false _ _ (ap (λ q. q && not (bytes_eq n (codes "Component"))) (name_is_at is_handler_name u m is) ∙ handles n m may) (name_before m u [] j is)

pub path_goes : {ts : List Token} {p : Path} (j : Input) → IsPath ts p → is_mark Dot (ahead j) ≡ false → path (before ts j) ≡ Ok (p, j)
unfolding path path_behind
path_goes j (one t n ts_is p_is own is) no_dot = rw (ts_is, p_is) (ok_then _ (name_before n t [] j is) (if_false _ _ no_dot refl))
path_goes j (two t o u n m ts_is p_is own first dot second may) no_dot =
    rw (ts_is, p_is) (ok_then _ (name_before n t (o ∷ u ∷ []) j first) (if_true _ _ dot (ok_then _ (second_goes n m u j second may) refl)))

-- Names of entries

pub entry_name_read : (i : Input) (m : List ℕ) (j : Input) → entry_name i ≡ Ok (m, j) → Named m i j × (is_handler_name m ≡ false)
unfolding entry_name
entry_name_read i m j h = elim (if_ok (name_is is_handler_name (ahead i)) _ _ _ h) [
  | inl a ↦ absurd (let e = a.1 in cc)
  | inr a ↦ (let t = named i j m a.1 in (t, sym (first_is (name_is is_handler_name) t.way ∙ name_is_at is_handler_name t.token m t.is) ∙ a.0))
]

pub entry_name_goes : (m : List ℕ) (t : Token) (ts : List Token) (j : Input) → IsName t m → is_handler_name m ≡ false → entry_name (before (t ∷ ts) j) ≡ Ok (m, before ts j)
unfolding entry_name
entry_name_goes m t ts j is plain = if_false _ _ (name_is_at is_handler_name t m is ∙ plain) (name_before m t ts j is)
