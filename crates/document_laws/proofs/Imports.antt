-- Imports: what is read as them is spelled, and what is spelled is read.
use Rattle.std.proofs.Common.{◌≡◌, ℕ, ◌==◌, ◌&&◌, ◌≤◌, nat_le, Bool, true, false, if◌then◌else◌, List, [], ◌∷◌, ◌++◌, Option, Some, None, Result, Ok, Err, inl, inr, refl, sym, ap, subst, ◌∙◌, codes}
use Rattle.std.proofs.lemmas.Bool.{eqb-true, leb-true, le-leb, and_parts}
use Rattle.std.proofs.lemmas.Slice.Eq.{bytes_eq-Decides}
use Rattle.qml_ast.specs.declared.document.Import.{Import}
use Rattle.qml_ast.specs.declared.fault.DocFault.{DocFault}
use Rattle.qml_ast.specs.declared.span.Span.{Span}
use Rattle.qml_grammar.specs.DocumentGrammar.{IsName, IsImport, import as an_import, AreImports, none, more}
use Rattle.qml_grammar.specs.Documents.{is_qt_quick, module_name, second_part, minor_of, minor_of_lexeme, version, unnamed, import_version, behind_module, import_module, is_text, is_text_lexeme, import_in, one_import, imports}
use Rattle.qml_grammar.specs.Ends.{ended}
use Rattle.qml_grammar.specs.Inputs.{Input, ahead, after, place}
use Rattle.qml_grammar.specs.Lexemes.{Lexeme, decimal, text, Token, last_of, is_mark, is_mark_lexeme, is_word, is_name, name_of, name_of_lexeme}
use Rattle.qml_grammar.specs.Names.{name_is}
use Rattle.qml_grammar.specs.StatementGrammar.{IsWord, follow, IsEnd}
use Rattle.qml_grammar.specs.declared.mark.Mark.TheVariants.{Dot}
use Rattle.qml_grammar.specs.declared.word.Word.TheVariants as ww
use Rattle.grammar_laws.specs.Laws.{Way}
use Rattle.grammar_laws.proofs.Behind.{ok_then, if_true, if_false, found}
use Rattle.grammar_laws.proofs.First.{Begins}
use Rattle.grammar_laws.proofs.Tools.{bind_ok, if_ok, ahead_some, ahead_gives, way_token, way_then, Named, same_value, same_input}
use Rattle.statement_laws.specs.Laws.{Covers}
use Rattle.statement_laws.proofs.Ends.{ended_covers, ended_goes}
use Rattle.statement_laws.proofs.Loops.{Items, no_item, an_item, Added, while_lists, while_goes}
use Rattle.statement_laws.proofs.Ways.{before, arrived, ahead_before, covers_to, covers_as}
use Rattle.document_laws.proofs.Steps.{placed}

-- The name of the module

quick_of : (o : Option (List ℕ)) → elim o [ Some n ↦ is_qt_quick n | None ↦ false ] ≡ true → o ≡ Some (codes "QtQuick")
quick_of None h = absurd cc
quick_of (Some n) h = ap Some ((bytes_eq-Decides n (codes "QtQuick")).0 h)

pub quick_is : (u : Token) → IsName u (codes "QtQuick") → name_is is_qt_quick (Some u) ≡ true
quick_is u is = rw (name_is, is) ((bytes_eq-Decides (codes "QtQuick") (codes "QtQuick")).1 refl)

pub module_is : (i : Input) (u : Unit {0}) (j : Input) → module_name i ≡ Ok (u, j) → Named (codes "QtQuick") i j
unfolding module_name
module_is i u j h = elim (if_ok (name_is is_qt_quick (ahead i)) _ _ _ h) [
  | inl a ↦ (
      let t = ahead_some (name_is is_qt_quick) refl i a.0 in
      record { token = t.token; way = subst (λ k. Way i k 0 (t.token ∷ [])) (same_input tt u (after i) j a.1) (way_token t.token t.rest); is = quick_of (name_of (Some t.token)) t.is })
  | inr a ↦ elim (if_ok (is_name (ahead i)) _ _ _ a.1) [ inl b ↦ absurd (let e = b.1 in cc) | inr b ↦ absurd (let e = b.1 in cc) ]
]

module_goes : (u : Token) (us : List Token) (j : Input) → IsName u (codes "QtQuick") → module_name (before (u ∷ us) j) ≡ Ok (tt, before us j)
unfolding module_name
module_goes u us j is = if_true _ _ (quick_is u is) refl

pub no_second : (at : Span) (i : Input) (x : Import) (j : Input) → second_part at i ≡ Ok (x, j) → ⊥
unfolding second_part
no_second at i x j h = elim (if_ok (is_name (ahead i)) _ _ _ h) [ inl a ↦ absurd (let e = a.1 in cc) | inr a ↦ absurd (let e = a.1 in cc) ]

-- The version

minor_from : (b : Bool) (major minor m : ℕ) → (major == 2 && nat_le minor 15) ≡ b → ◌≡◌ {A = Option ℕ} (if b then Some minor else None) (Some m) → (decimal major minor ≡ decimal 2 m) × (m ≤ 15)
minor_from false major minor m e h = absurd cc
minor_from true major minor m e h =
    let p = and_parts (major == 2) (nat_le minor 15) e in
    let major_is = eqb-true major 2 p.0 in
    let few = leb-true minor 15 p.1 in
    let same : minor ≡ m = cc in
    (rw (major_is, same) refl, subst (λ n. n ≤ 15) same few)

minor_is : (l : Lexeme) (m : ℕ) → minor_of_lexeme l ≡ Some m → (l ≡ decimal 2 m) × (m ≤ 15)
minor_is (decimal major minor) m h = minor_from (major == 2 && nat_le minor 15) major minor m refl h
minor_is _ m h = absurd cc

-- a lawful version that was taken
pub record Versioned (m : ℕ) (i j : Input) : Type 0 where
  pub token : Token
  pub way : Way i j 0 (token ∷ [])
  pub is : token.lexeme ≡ decimal 2 m
  pub few : m ≤ 15

version_from : (o : Option ℕ) (i j : Input) (m : ℕ) (b : Bool) (f g : DocFault) → minor_of (ahead i) ≡ o → ◌≡◌ {A = Result (ℕ × Input) DocFault} (elim o [ Some minor ↦ Ok (minor, after i) | None ↦ (if b then Err f else Err g) ]) (Ok (m, j)) → Versioned m i j
version_from None i j m true f g e h = absurd cc
version_from None i j m false f g e h = absurd cc
version_from (Some n) i j m b f g e h =
    let same : n ≡ m = same_value n m (after i) j h in
    let t = ahead_gives minor_of refl i m (e ∙ ap Some same) in
    let p = minor_is t.token.lexeme m t.is in
    record { token = t.token; way = subst (λ k. Way i k 0 (t.token ∷ [])) (same_input n m (after i) j h) (way_token t.token t.rest); is = p.0; few = p.1 }

pub version_is : (at : Span) (i j : Input) (m : ℕ) → version at i ≡ Ok (m, j) → Versioned m i j
unfolding version
version_is at i j m h = version_from (minor_of (ahead i)) i j m _ _ _ refl h

version_goes : (at : Span) (v : Token) (m : ℕ) (j : Input) → v.lexeme ≡ decimal 2 m → m ≤ 15 → version at (before (v ∷ []) j) ≡ Ok (m, j)
unfolding version
version_goes at v m j is few = found _ _ (ap minor_of_lexeme is ∙ rw (minor_of_lexeme, le-leb m 15 few) refl) refl

-- Imports without their end

-- "import" Name Decimal, which is QtQuick 2.0 to 2.15
pub data IsBare : List Token → Option Token → Import → Type 0 where
  bare : {ts : List Token} {next : Option Token} {x : Import} (t u v : Token) (minor : ℕ) → ts ≡ t ∷ u ∷ v ∷ [] → x ≡ record { «module» = codes "QtQuick"; major = 2; minor = minor; span = u.span } → IsWord t ww.Import → IsName u (codes "QtQuick") → v.lexeme ≡ decimal 2 minor → minor ≤ 15 → is_word ww.As next ≡ false → IsBare ts next x

unnamed_is : (i : Input) (u : Unit {0}) (j : Input) → unnamed i ≡ Ok (u, j) → (is_word ww.As (ahead i) ≡ false) × (i ≡ j)
unfolding unnamed
unnamed_is i u j h = elim (if_ok (is_word ww.As (ahead i)) _ _ _ h) [
  | inl a ↦ absurd (let e = a.1 in cc)
  | inr a ↦ (a.0, same_input tt u i j a.1)
]

version_covers : (t u : Token) (i k : Input) (x : Import) (j : Input) → IsWord t ww.Import → IsName u (codes "QtQuick") → Way i k 0 (t ∷ u ∷ []) → import_version u.span k ≡ Ok (x, j) → Covers IsBare i j x
unfolding import_version
version_covers t u i k x j word_is name_is w h =
    let a = bind_ok (version u.span k) _ _ h in
    let v = version_is u.span k a.at a.value a.first in
    let b = bind_ok (unnamed a.at) _ _ a.onward in
    let n = unnamed_is a.at b.value b.at b.first in
    covers_to (record {
      text = t ∷ u ∷ v.token ∷ [];
      way = subst (λ l. Way i l 0 (t ∷ u ∷ v.token ∷ [])) n.1 (way_then w v.way);
      spelled = bare t u v.token a.value refl refl word_is name_is v.is v.few (ap (λ (l : Input). is_word ww.As (ahead l)) (sym n.1) ∙ n.0);
    }) b.onward

pub bare_covers : (i : Input) → is_word ww.Import (ahead i) ≡ true → (x : Import) (j : Input) → import_in i ≡ Ok (x, j) → Covers IsBare i j x
unfolding import_in import_module behind_module
bare_covers i t x j h = elim (if_ok (is_text (ahead (after i))) _ _ _ h) [
  | inl a ↦ absurd (let e = a.1 in cc)
  | inr a ↦ (let b = bind_ok (module_name (after i)) _ _ a.1 in elim (if_ok (is_mark Dot (ahead b.at)) _ _ _ b.onward) [
    | inl c ↦ absurd (no_second (place (after i)) (after b.at) x j c.1)
    | inr c ↦ (
        let o = ahead_some (is_word ww.Import) refl i t in
        let u = module_is (after i) b.value b.at b.first in
        let read = ap (λ s. import_version s b.at) (sym (placed u.way)) ∙ c.1 in
        version_covers o.token u.token i b.at x j o.is u.is (way_then (way_token o.token o.rest) u.way) read)
  ])
]

lexeme_name_no_text : (l : Lexeme) (n : List ℕ) → name_of_lexeme l ≡ Some n → is_text_lexeme l ≡ false
lexeme_name_no_text (text s) n h = absurd cc
lexeme_name_no_text _ n h = refl

decimal_no_dot : (v : Token) (m : ℕ) → v.lexeme ≡ decimal 2 m → is_mark Dot (Some v) ≡ false
decimal_no_dot v m h = ap (is_mark_lexeme Dot) h

version_read : (v : Token) (m : ℕ) (at : Span) (j : Input) → v.lexeme ≡ decimal 2 m → m ≤ 15 → is_word ww.As (ahead j) ≡ false → import_version at (before (v ∷ []) j) ≡ Ok (record { «module» = codes "QtQuick"; major = 2; minor = m; span = at }, j)
unfolding import_version unnamed
version_read v m at j is few free = ok_then _ (version_goes at v m j is few) (ok_then _ (if_false _ _ free refl) refl)

bare_read : (t u v : Token) (m : ℕ) (j : Input) → IsName u (codes "QtQuick") → v.lexeme ≡ decimal 2 m → m ≤ 15 → is_word ww.As (ahead j) ≡ false → import_in (before (t ∷ u ∷ v ∷ []) j) ≡ Ok (record { «module» = codes "QtQuick"; major = 2; minor = m; span = u.span }, j)
unfolding import_in import_module behind_module
bare_read t u v m j name_is is few free =
    if_false _ _ (lexeme_name_no_text u.lexeme (codes "QtQuick") name_is) (ok_then _ (module_goes u (v ∷ []) j name_is) (if_false _ _ (decimal_no_dot v m is) (version_read v m u.span j is few free)))

bare_goes : {ts : List Token} {next : Option Token} {x : Import} (j : Input) → ahead j ≡ next → IsBare ts next x → import_in (before ts j) ≡ Ok (x, j)
bare_goes j e (bare t u v m ts_is x_is word_is name_is is few free) = rw (ts_is, x_is) (bare_read t u v m j name_is is few (ap (is_word ww.As) e ∙ free))

-- Imports with their end

import_of : {ts : List Token} {next : Option Token} {x : Import} (es : List Token) → IsBare ts (follow es next) x → IsEnd (last_of ts) es next → IsImport (ts ++ es) next x
import_of {next = next} es (bare t u v m ts_is x_is word_is name_is is few free) e =
    an_import t u v es m (ap (λ us. us ++ es) ts_is) x_is word_is name_is is few free (subst (λ us. IsEnd (last_of us) es next) ts_is e)

pub import_covers : (i : Input) → is_word ww.Import (ahead i) ≡ true → (x : Import) (j : Input) → ended import_in i ≡ Ok (x, j) → Covers IsImport i j x
import_covers i t x j h =
    let c = ended_covers import_in IsBare i (bare_covers i t) x j h in
    let s = c.spelled in
    record { text = c.text; way = c.way; spelled = subst (λ us. IsImport us (ahead j) x) (sym s.both) (import_of s.end s.spelled s.ends) }

import_goes : {ts : List Token} {next : Option Token} {x : Import} (j : Input) → ahead j ≡ next → IsImport ts next x → ended import_in (before ts j) ≡ Ok (x, j)
import_goes {next = next} {x = x} j e (an_import t u v es m ts_is x_is word_is name_is is few free ends) =
    let l : Input = before es j in
    let spelled : IsBare (t ∷ u ∷ v ∷ []) (ahead l) x = bare t u v m refl x_is word_is name_is is few (ap (is_word ww.As) (ahead_before es j e) ∙ free) in
    ap (λ us. ended import_in (before us j)) ts_is ∙ ended_goes import_in (t ∷ u ∷ v ∷ []) es next x j e (bare_goes l refl spelled) ends

-- Lists of imports

-- an import alone, as a list
data AnImport : List Token → Option Token → List Import → Type 0 where
  one : {ts : List Token} {next : Option Token} {xs : List Import} (y : Import) → xs ≡ y ∷ [] → IsImport ts next y → AnImport ts next xs

import_begins : (ts : List Token) (next : Option Token) (y : Import) → IsImport ts next y → Begins (is_word ww.Import) ts
import_begins ts next y (an_import t u v es m ts_is x_is word_is name_is is few free ends) = record { token = t; others = u ∷ v ∷ es; text = ts_is; begins = word_is }

item_begins : (ts : List Token) (next : Option Token) (xs : List Import) → AnImport ts next xs → Begins (is_word ww.Import) ts
item_begins ts next xs (one y xs_is p) = import_begins ts next y p

items_imports : {ts : List Token} {next : Option Token} {xs : List Import} → Items AnImport ts next xs → AreImports ts next xs
items_imports (no_item ts_is xs_is) = none ts_is xs_is
items_imports {next = next} (an_item us vs ys zs ts_is xs_is p ps) = item_more us vs ys zs ts_is xs_is p (items_imports ps)
  where
    item_more : {ts : List Token} {xs : List Import} (us vs : List Token) (ys zs : List Import) → ts ≡ us ++ vs → xs ≡ ys ++ zs → AnImport us (follow vs next) ys → AreImports vs next zs → AreImports ts next xs
    item_more us vs ys zs ts_is xs_is (one y ys_is p) ps = more us vs y zs ts_is (xs_is ∙ ap (λ ws. ws ++ zs) ys_is) p ps

imports_items : {ts : List Token} {next : Option Token} {xs : List Import} → AreImports ts next xs → Items AnImport ts next xs
imports_items (none ts_is xs_is) = no_item ts_is xs_is
imports_items (more us vs y ys ts_is xs_is p ps) = an_item us vs (y ∷ []) ys ts_is xs_is (one y refl p) (imports_items ps)

one_added : (xs : List Import) (i : Input) (ys : List Import) (j : Input) → is_word ww.Import (ahead i) ≡ true → one_import xs i ≡ Ok (ys, j) → Added AnImport xs i ys j
unfolding one_import
one_added xs i ys j t h =
    let a = bind_ok (ended import_in i) _ _ h in
    let c = import_covers i t a.value a.at a.first in
    let same = same_input (xs ++ a.value ∷ []) ys a.at j a.onward in
    record {
      values = a.value ∷ [];
      both = sym (same_value (xs ++ a.value ∷ []) ys a.at j a.onward);
      covers = subst (λ k. Covers AnImport i k (a.value ∷ [])) same (covers_as (λ ts next p. one a.value refl p) c);
    }

one_goes : (us : List Token) (next : Option Token) (ys xs : List Import) (j : Input) → ahead j ≡ next → AnImport us next ys → one_import xs (before us j) ≡ Ok (xs ++ ys, j)
unfolding one_import
one_goes us next ys xs j e (one y ys_is p) = rw ys_is (ok_then _ (import_goes j e p) refl)

pub imports_cover : (i j : Input) (xs : List Import) → imports i ≡ Ok (xs, j) → Covers AreImports i j xs × (is_word ww.Import (ahead j) ≡ false)
unfolding imports
imports_cover i j xs h =
    let l = while_lists AnImport (is_word ww.Import) one_import item_begins refl one_added [] i xs j h in
    let c = l.covers in
    (record { text = c.text; way = c.way; spelled = items_imports (subst (λ ys. Items AnImport c.text (ahead j) ys) (sym l.both) c.spelled) }, l.ends)

pub imports_go : (ts : List Token) (next : Option Token) (xs : List Import) (j : Input) → ahead j ≡ next → AreImports ts next xs → is_word ww.Import next ≡ false → imports (before ts j) ≡ Ok (xs, j)
unfolding imports
imports_go ts next xs j e p t = while_goes AnImport (is_word ww.Import) one_import item_begins one_goes (imports_items p) [] j e t

pub imports_read : (i j : Input) (xs : List Import) → Covers AreImports i j xs → is_word ww.Import (ahead j) ≡ false → imports i ≡ Ok (xs, j)
imports_read i j xs c t = ap imports (arrived c.way) ∙ imports_go c.text (ahead j) xs j refl c.spelled t
