-- What stands before the first fault of a document can go on, but where it ends with a dot behind a module's name.
use Rattle.std.proofs.Common.{◌≡◌, ℕ, suc, ◌+◌, ◌≤◌, ◌<◌, ◌==◌, ◌||◌, ◌⊎◌, not, Bool, true, false, is_some, List, [], ◌∷◌, ◌++◌, Option, Some, None, Result, Ok, Err, inl, inr, refl, sym, ap, subst, subst₂, ◌∙◌, arith, append_assoc, append-nil}
use Rattle.qml_ast.specs.declared.decl.Decl.{Decl, roll-Decl}
use Rattle.qml_ast.specs.declared.document.Document.{Document}
use Rattle.qml_ast.specs.declared.document.Import.{Import}
use Rattle.qml_ast.specs.declared.fault.DocFault.{DocFault}
use Rattle.qml_ast.specs.declared.span.Span.{Span}
use Rattle.qml_grammar.specs.DocumentGrammar.{IsObject, object, no_members, IsImport, import as an_import, AreImports, none, more, document as a_document}
use Rattle.qml_grammar.specs.Documents.{object_in, under, import_in, one_import, imports, root, nothing_more, document, reading}
use Rattle.qml_grammar.specs.Ends.{may_end, ended}
use Rattle.qml_grammar.specs.Inputs.{Input, ahead, place}
use Rattle.qml_grammar.specs.Lexemes.{plain, Token, head, is_mark, is_word, same_line}
use Rattle.qml_grammar.specs.Names.{is_dotted_type}
use Rattle.qml_grammar.specs.StatementGrammar.{follow, semicolon, nothing}
use Rattle.qml_grammar.specs.declared.mark.Mark.TheVariants.{OpenBrace, CloseBrace, Semicolon}
use Rattle.qml_grammar.specs.declared.word.Word.TheVariants as ww
use Rattle.grammar_laws.specs.Faults.{IsFaultAt}
use Rattle.grammar_laws.specs.Laws.{Way}
use Rattle.grammar_laws.proofs.Local.{before, onward, bind_err}
use Rattle.grammar_laws.proofs.Tools.{bind_ok, if_ok, same_value, same_input}
use Rattle.statement_laws.proofs.Ways.{ahead_follow, follow_both}
use Rattle.document_laws.proofs.Imports.{import_covers, imports_cover}
use Rattle.document_laws.proofs.Sound.{object_covers, under_sound}
use Rattle.fault_laws.specs.Faults.{place_before}
use Rattle.prefix_laws.specs.Prefixes.{IsDocumentPrefix, EndsInModule, PrefixBeforeFault}
use Rattle.prefix_laws.proofs.DocumentSteps.{refused_place, unsupported_place, never, Adding, while_halts, Becoming}
use Rattle.prefix_laws.proofs.DocumentTokens.{upper_name, in_braces, upper_is, upper_is_upper}
use Rattle.prefix_laws.proofs.Going.{HaltsOn, Halts, halts_here, halts_by, halts_behind, made_err, the_mark, mark_is}
use Rattle.prefix_laws.proofs.ImportPrefixes.{AnyImport, IsImportPrefix, ended_import_halts}
use Rattle.prefix_laws.proofs.LevelPrefixes.{prefixes_under}
use Rattle.prefix_laws.proofs.MovedDocuments.{moved_object}
use Rattle.prefix_laws.proofs.ValuePrefixes.{IsObjectPrefix, object_halts}

-- Imports before an object on a later line

-- a type's name on such a line
abbrev later_name : ℕ → Token
later_name line = record { lexeme = plain upper_name; span = record { line = line; col = 1 } }

-- from some line on an import may stand before a type's name
record ImportBefore (ts : List Token) (x : Import) : Type 0 where
  low : ℕ
  is : (line : ℕ) → low ≤ line → IsImport ts (Some (later_name line)) x

record ImportsBefore (ts : List Token) (xs : List Import) : Type 0 where
  low : ℕ
  are : (line : ℕ) → low ≤ line → AreImports ts (Some (later_name line)) xs

third_of : (a b c d e : Bool) → c ≡ true → (a || b || c || d || e) ≡ true
third_of true b c d e h = refl
third_of false true c d e h = refl
third_of false false true d e h = refl
third_of false false false d e h = absurd cc

other_line : (a b : ℕ) → a < b → (a == b) ≡ false
other_line a b h = grind arith

ends_line : (v : Token) (line : ℕ) → v.span.line < line → may_end (Some v) (Some (later_name line)) ≡ true
ends_line v line h =
    let t = later_name line in
    third_of false (is_mark CloseBrace (Some t)) (not (same_line (Some v) (Some t))) (is_mark CloseBrace (Some v)) (is_mark Semicolon (Some v)) (ap not (other_line v.span.line line h))

import_before : {ts : List Token} {next : Option Token} {x : Import} → IsImport ts next x → ImportBefore ts x
import_before {next = next} (an_import t u v es minor ts_is x_is word_is name_is v_is few free (semicolon s es_is is)) = record {
  low = 0;
  is = λ line h. an_import t u v es minor ts_is x_is word_is name_is v_is few (ap (λ ws. is_word ww.As (follow ws (Some (later_name line)))) es_is ∙ (sym (ap (λ ws. is_word ww.As (follow ws next)) es_is) ∙ free)) (semicolon s es_is is);
}
import_before (an_import t u v es minor ts_is x_is word_is name_is v_is few free (nothing es_is other may)) = record {
  low = suc v.span.line;
  is = λ line h. an_import t u v es minor ts_is x_is word_is name_is v_is few (ap (λ ws. is_word ww.As (follow ws (Some (later_name line)))) es_is) (nothing es_is refl (ends_line v line (omega arith)));
}

more_before : (us vs : List Token) (next : Option Token) (y : Import) (ys : List Import) → IsImport us (follow vs next) y → ImportsBefore vs ys → ImportsBefore (us ++ vs) (y ∷ ys)
more_before us [] next y ys p b =
    let a = import_before p in
    record { low = a.low + b.low; are = λ line h. more us [] y ys refl refl (a.is line (omega arith)) (b.are line (omega arith)) }
more_before us (v ∷ vs) next y ys p b = record { low = b.low; are = λ line h. more us (v ∷ vs) y ys refl refl p (b.are line h) }

imports_before : {ts : List Token} {next : Option Token} {xs : List Import} → AreImports ts next xs → ImportsBefore ts xs
imports_before (none ts_is xs_is) = record { low = 0; are = λ line h. none ts_is xs_is }
imports_before {next = next} (more us vs y ys ts_is xs_is p ps) = subst₂ ImportsBefore (sym ts_is) (sym xs_is) (more_before us vs next y ys p (imports_before ps))

-- an object on such a line
later_object : (line : ℕ) → IsObject 200 65 (later_name line ∷ in_braces []) (roll-Decl (record { name = upper_name; members = []; span = (later_name line).span }))
later_object line = object 64 (later_name line) (the_mark OpenBrace) [] (the_mark CloseBrace) upper_name [] refl refl refl upper_is upper_is_upper (mark_is OpenBrace) (no_members refl refl) (mark_is CloseBrace)

-- imports can go on with it
imports_end : {us : List Token} {next : Option Token} {xs : List Import} → AreImports us next xs → IsDocumentPrefix us
imports_end {us = us} {xs = xs} p =
    let b = imports_before p in
    record {
      others = later_name b.low ∷ in_braces [];
      most = 200;
      value = record { imports = xs; root = _ };
      spelled = a_document us (later_name b.low ∷ in_braces []) xs _ refl refl (b.are b.low (omega arith)) (later_object b.low);
    }

-- Imports in a row

imports_append : {us : List Token} {there : Option Token} {xs : List Import} (vs : List Token) (next : Option Token) (ys : List Import) → there ≡ follow vs next → AreImports us there xs → AreImports vs next ys → AreImports (us ++ vs) next (xs ++ ys)
imports_append vs next ys e (none us_is xs_is) q = subst₂ (λ ws zs. AreImports (ws ++ vs) next (zs ++ ys)) (sym us_is) (sym xs_is) q
imports_append vs next ys e (more ws ts y zs us_is xs_is p ps) q =
    let first : IsImport ws (follow (ts ++ vs) next) y = subst (λ n. IsImport ws n y) (ap (follow ts) e ∙ sym (follow_both ts vs next)) p in
    more ws (ts ++ vs) y (zs ++ ys) (ap (λ rs. rs ++ vs) us_is ∙ append_assoc ws ts vs) (ap (λ rs. rs ++ ys) xs_is) first (imports_append vs next ys e ps q)

one_import_alone : (ts : List Token) (next : Option Token) (x : Import) → IsImport ts next x → AreImports ts next (x ∷ [])
one_import_alone ts next x p = more ts [] x [] (sym (append-nil ts)) refl p (none refl refl)

-- what stands before a fault of a document
abbrev pub CanBegin : List Token → Type 0
CanBegin ts = IsDocumentPrefix ts ⊎ EndsInModule ts

import_begun : (us : List Token) (next : Option Token) (xs : List Import) (t : Token) (ts : List Token) → AreImports us next xs → next ≡ Some t → Becoming AnyImport (t ∷ ts) → IsDocumentPrefix (us ++ t ∷ ts)
import_begun us next xs t ts p e g =
    let an_object : List Token = later_name 1 ∷ in_braces [] in
    let there : Option Token = Some (later_name 1) in
    let all = imports_append ((t ∷ ts) ++ g.others) there (g.value ∷ []) e p (one_import_alone ((t ∷ ts) ++ g.others) there g.value (g.spelled there)) in
    record {
      others = g.others ++ an_object;
      most = 200;
      value = record { imports = xs ++ g.value ∷ []; root = _ };
      spelled = a_document (us ++ ((t ∷ ts) ++ g.others)) an_object (xs ++ g.value ∷ []) _ (simp append_assoc refl) refl all (later_object 1);
    }

import_on : (us : List Token) (next : Option Token) (xs : List Import) (vs : List Token) (w : IsImportPrefix vs) → AreImports us next xs → next ≡ Some w.token → CanBegin (us ++ vs)
import_on us next xs vs w p e = elim w.going [
  | inl g ↦ inl (subst (λ ts. IsDocumentPrefix (us ++ ts)) (sym w.text) (import_begun us next xs w.token w.more p e (subst (Becoming AnyImport) w.text g)))
  | inr m ↦ inr (record {
    before = us;
    word = m.word;
    name = m.name;
    dot = m.dot;
    is = ap (λ ts. us ++ ts) m.is;
    is_import = m.is_import;
    is_name = m.is_name;
    is_dot = m.is_dot;
    viable = import_begun us next xs m.word (m.name ∷ []) p (e ∙ (sym (ap head w.text) ∙ ap head m.is)) m.going;
  })
]

one_import_halts : (us : List Token) (xs : List Import) (i : Input) (e : DocFault) → AreImports us (ahead i) xs → is_word ww.Import (ahead i) ≡ true → one_import xs i ≡ Err e → HaltsOn CanBegin us i e
unfolding one_import
one_import_halts us xs i e p t h = halts_by (λ vs n j w g. import_on us (ahead i) xs vs g p (ap head w.rest ∙ ap (λ ts. head (ts ++ j.rest)) g.text)) (ended_import_halts i e t (made_err (ended import_in) _ i e h))

one_import_adds : (xs : List Import) (i : Input) (ys : List Import) (j : Input) → is_word ww.Import (ahead i) ≡ true → one_import xs i ≡ Ok (ys, j) → Adding AreImports xs i ys j
unfolding one_import
one_import_adds xs i ys j t h =
    let a = bind_ok (ended import_in i) _ _ h in
    let c = import_covers i t a.value a.at a.first in
    let there = same_input (xs ++ a.value ∷ []) ys a.at j a.onward in
    record {
      text = c.text;
      way = subst (λ k. Way i k 0 c.text) there c.way;
      spelled = λ us p. subst (λ zs. AreImports (us ++ c.text) (ahead j) zs) (same_value (xs ++ a.value ∷ []) ys a.at j a.onward) (subst (λ k. AreImports (us ++ c.text) (ahead k) (xs ++ a.value ∷ [])) there
          (imports_append c.text (ahead a.at) (a.value ∷ []) (ahead_follow c.way) p (one_import_alone c.text (ahead a.at) a.value c.spelled)));
    }

imports_halt : (i : Input) (e : DocFault) → imports i ≡ Err e → Halts CanBegin i e
unfolding imports
imports_halt i e h = while_halts AreImports (is_word ww.Import) one_import one_import_adds CanBegin one_import_halts [] [] i e (none refl refl) h

-- The root

object_after : (us : List Token) (next : Option Token) (xs : List Import) → AreImports us next xs → (vs : List Token) → IsObjectPrefix 64 vs → (rest : List Token) → next ≡ head (vs ++ rest) → IsDocumentPrefix (us ++ vs)
object_after us next xs p [] g rest e = subst IsDocumentPrefix (sym (append-nil us)) (imports_end p)
object_after us next xs p (v ∷ vs) g rest e = record {
  others = g.others;
  most = g.most;
  value = record { imports = xs; root = g.value };
  spelled = a_document us (v ∷ vs ++ g.others) xs g.value (append_assoc us (v ∷ vs) g.others) refl (subst (λ n. AreImports us n xs) e p) g.spelled;
}

root_halts : (us : List Token) (xs : List Import) (i : Input) (e : DocFault) → AreImports us (ahead i) xs → root i ≡ Err e → HaltsOn CanBegin us i e
unfolding root
root_halts us xs i e p h = elim (if_ok (is_dotted_type (is_mark OpenBrace) i.rest) _ _ _ h) [
  | inl a ↦ halts_here (unsupported_place {A = Decl} i e a.1) (inl (imports_end p))
  | inr a ↦ halts_by (λ vs n j w g. inl (object_after us (ahead i) xs p vs g j.rest (ap head w.rest))) (object_halts 64 (under 64) (prefixes_under 64) i e a.1)
]

root_is : (i : Input) (x : Decl) (j : Input) → root i ≡ Ok (x, j) → object_in (under 64) i ≡ Ok (x, j)
unfolding root
root_is i x j h = elim (if_ok (is_dotted_type (is_mark OpenBrace) i.rest) _ _ _ h) [
  | inl a ↦ absurd (let e = a.1 in cc)
  | inr a ↦ a.1
]

-- The document's end

object_follow : {most d : ℕ} {ts : List Token} {x : Decl} (a b : Option Token) → IsObject most d ts x → follow ts a ≡ follow ts b
object_follow a b (object c t o us z n xs d_is ts_is x_is is up opens members closes) = ap (λ ws. follow ws a) ts_is ∙ sym (ap (λ ws. follow ws b) ts_is)

whole_document : (us vs : List Token) (next after : Option Token) (xs : List Import) (z : Decl) → AreImports us next xs → next ≡ follow vs after → IsObject 200 64 vs z → IsDocumentPrefix (us ++ vs)
whole_document us vs next after xs z p e q = record {
  others = [];
  most = 200;
  value = record { imports = xs; root = z };
  spelled = a_document us vs xs z (append-nil (us ++ vs)) refl (subst (λ n. AreImports us n xs) (e ∙ object_follow after None q) p) (moved_object (omega arith) q);
}

nothing_place : (i : Input) (e : DocFault) → nothing_more i ≡ Err e → IsFaultAt e (place i)
unfolding nothing_more
nothing_place i e h = elim (if_ok (is_some (ahead i)) _ _ _ h) [
  | inl a ↦ refused_place {A = Unit {0}} i e a.1
  | inr a ↦ never tt i e a.1
]

document_halts : (i : Input) (e : DocFault) → document i ≡ Err e → Halts CanBegin i e
unfolding document
document_halts i e h = elim (bind_err (imports i) _ _ h) [
  | before g ↦ imports_halt i e g
  | onward xs k g g2 ↦ (
      let c = (imports_cover i k xs g).0 in
      halts_behind c.way (elim (bind_err (root k) _ _ g2) [
        | before f ↦ root_halts c.text xs k e c.spelled f
        | onward z l f f2 ↦ (
            let o = object_covers 64 (under 64) (under_sound 64) k z l (root_is k z l f) in
            halts_behind o.way (halts_here (nothing_place l e (made_err nothing_more _ l e f2)) (inl (whole_document c.text o.text (ahead k) (ahead l) xs z c.spelled (ahead_follow o.way) o.spelled))))
      ]))
]

-- as it is told

value_failed : (r : Result (Document × Input) DocFault) (e : DocFault) → ◌≡◌ {A = Result Document DocFault} (elim r [ Ok p ↦ Ok p.0 | Err g ↦ Err g ]) (Err e) → r ≡ Err e
value_failed (Ok p) e h = absurd cc
value_failed (Err g) e h = let f : ◌≡◌ {A = Result Document DocFault} (Err g) (Err e) = h in cc

pub document_prefix : (ts : List Token) (end : Span) (e : DocFault) → reading ts end ≡ Err e → PrefixBeforeFault ts end e
unfolding reading
document_prefix ts end e h =
    let i : Input = record { rest = ts; end = end; nodes = 0 } in
    let c = document_halts i e (value_failed (document i) e h) in
    record {
      text = c.text;
      rest = c.at.rest;
      whole = (c.way).rest;
      place = subst (λ s. IsFaultAt e (place_before c.at.rest s)) (sym (c.way).end) c.place;
      viable = c.viable;
    }
