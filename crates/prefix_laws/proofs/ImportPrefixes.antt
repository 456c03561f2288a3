-- What stands before the first fault of an import can go on, or it ends with a dot behind the name of its module.
use Rattle.std.proofs.Common.{◌≡◌, ℕ, ◌≤◌, ◌⊎◌, true, List, [], ◌∷◌, ◌++◌, Option, Err, inl, inr, refl, sym, subst, arith, codes}
use Rattle.qml_ast.specs.declared.document.Import.{Import}
use Rattle.qml_ast.specs.declared.fault.DocFault.{DocFault}
use Rattle.qml_ast.specs.declared.fault.DocFault.TheVariants.{Unsupported}
use Rattle.qml_ast.specs.declared.span.Span.{Span}
use Rattle.qml_grammar.specs.DocumentGrammar.{IsName, IsImport, import as an_import}
use Rattle.qml_grammar.specs.Documents.{is_qt_quick, module_name, second_part, minor_of, is_decimal, version, unnamed, import_version, behind_module, import_module, is_text, import_in}
use Rattle.qml_grammar.specs.Ends.{ended}
use Rattle.qml_grammar.specs.ExpressionGrammar.{IsMark}
use Rattle.qml_grammar.specs.Inputs.{Input, ahead, after, place}
use Rattle.qml_grammar.specs.Lexemes.{plain, decimal, Token, tail, is_mark, is_word, is_name}
use Rattle.qml_grammar.specs.Names.{name_is}
use Rattle.qml_grammar.specs.StatementGrammar.{IsWord, semicolon}
use Rattle.qml_grammar.specs.declared.mark.Mark.TheVariants.{Semicolon, Dot}
use Rattle.qml_grammar.specs.declared.word.Word.TheVariants as ww
use Rattle.grammar_laws.specs.Faults.{IsFaultAt, unsupported}
use Rattle.grammar_laws.specs.Laws.{Way}
use Rattle.grammar_laws.proofs.Local.{before, onward, bind_err, chosen, not_chosen, chosen_in}
use Rattle.grammar_laws.proofs.Tools.{if_ok, ahead_some, way_token}
use Rattle.document_laws.proofs.Imports.{module_is, version_is, IsBare, bare, bare_covers}
use Rattle.prefix_laws.proofs.DocumentSteps.{refused_place, unsupported_place, never, Becoming}
use Rattle.prefix_laws.proofs.Going.{HaltsOn, Halts, halts_here, halts_behind, made_err, halts_ended, fills, put, the_mark, mark_is}

-- Imports that are made

-- an import with its end, whatever follows
abbrev pub AnyImport : List Token → Import → Type 0
AnyImport ts x = (next : Option Token) → IsImport ts next x

abbrev quick : Token
quick = put (plain (codes "QtQuick"))

abbrev two_zero : Token
two_zero = put (decimal 2 0)

import_with : (ts us : List Token) (t u v : Token) (minor : ℕ) → t ∷ u ∷ v ∷ the_mark Semicolon ∷ [] ≡ ts ++ us → IsWord t ww.Import → IsName u (codes "QtQuick") → v.lexeme ≡ decimal 2 minor → minor ≤ 15 → Becoming AnyImport ts
import_with ts us t u v minor e word_is name_is v_is few =
    fills us 200 (record { «module» = codes "QtQuick"; major = 2; minor = minor; span = u.span }) (omega arith) e (λ next. an_import t u v (the_mark Semicolon ∷ []) minor refl refl word_is name_is v_is few refl (semicolon (the_mark Semicolon) refl (mark_is Semicolon)))

-- an import that ends with a dot behind the name of its module; without the dot it goes on to an import
pub record InModule (ts : List Token) : Type 0 where
  pub word : Token
  pub name : Token
  pub dot : Token
  pub is : ts ≡ word ∷ name ∷ dot ∷ []
  pub is_import : IsWord word ww.Import
  pub is_name : IsName name (codes "QtQuick")
  pub is_dot : IsMark dot Dot
  pub going : Becoming AnyImport (word ∷ name ∷ [])

-- what stands before a fault of an import
pub record IsImportPrefix (ts : List Token) : Type 0 where
  pub token : Token
  pub more : List Token
  pub text : ts ≡ token ∷ more
  pub going : Becoming AnyImport ts ⊎ InModule ts

-- it goes on to an import
going_with : (t : Token) (ts us : List Token) (u v : Token) (minor : ℕ) → t ∷ u ∷ v ∷ the_mark Semicolon ∷ [] ≡ t ∷ ts ++ us → IsWord t ww.Import → IsName u (codes "QtQuick") → v.lexeme ≡ decimal 2 minor → minor ≤ 15 → IsImportPrefix (t ∷ ts)
going_with t ts us u v minor e word_is name_is v_is few = record { token = t; more = ts; text = refl; going = inl (import_with (t ∷ ts) us t u v minor e word_is name_is v_is few) }

word_only : (t : Token) → IsWord t ww.Import → IsImportPrefix (t ∷ [])
word_only t is = going_with t [] (quick ∷ two_zero ∷ the_mark Semicolon ∷ []) quick two_zero 0 refl is refl refl (omega arith)

in_module : (t u o : Token) → IsWord t ww.Import → IsName u (codes "QtQuick") → IsMark o Dot → IsImportPrefix (t ∷ u ∷ o ∷ [])
in_module t u o is u_is o_is = record {
  token = t;
  more = u ∷ o ∷ [];
  text = refl;
  going = inr (record { word = t; name = u; dot = o; is = refl; is_import = is; is_name = u_is; is_dot = o_is; going = import_with (t ∷ u ∷ []) (two_zero ∷ the_mark Semicolon ∷ []) t u two_zero 0 refl is u_is refl (omega arith) });
}

-- Modules

module_place : (i : Input) (e : DocFault) → module_name i ≡ Err e → IsFaultAt e (place i)
unfolding module_name
module_place i e h = elim (if_ok (name_is is_qt_quick (ahead i)) _ _ _ h) [
  | inl a ↦ never tt (after i) e a.1
  | inr a ↦ elim (if_ok (is_name (ahead i)) _ _ _ a.1) [
    | inl b ↦ unsupported_place {A = Unit {0}} i e b.1
    | inr b ↦ refused_place {A = Unit {0}} i e b.1
  ]
]

-- Versions

-- where a version is refused: at the module or at the next token
version_place : (at : Span) (i : Input) (e : DocFault) → version at i ≡ Err e → (e ≡ Unsupported at) ⊎ IsFaultAt e (place i)
unfolding version
version_place at i e h = elim (chosen_in (minor_of (ahead i)) _ _ _ h) [
  | chosen n o g ↦ absurd cc
  | not_chosen o g ↦ elim (if_ok (is_decimal (ahead i)) _ _ _ g) [
    | inl a ↦ inl (let f = a.1 in cc)
    | inr a ↦ inr (refused_place {A = ℕ} i e a.1)
  ]
]

unnamed_place : (i : Input) (e : DocFault) → unnamed i ≡ Err e → IsFaultAt e (place i)
unfolding unnamed
unnamed_place i e h = elim (if_ok (is_word ww.As (ahead i)) _ _ _ h) [
  | inl a ↦ unsupported_place {A = Unit {0}} i e a.1
  | inr a ↦ never tt i e a.1
]

version_halts : (t u : Token) (i k : Input) (e : DocFault) → IsWord t ww.Import → IsName u (codes "QtQuick") → Way i k 0 (u ∷ []) → import_version (place i) k ≡ Err e → HaltsOn IsImportPrefix (t ∷ []) i e
unfolding import_version
version_halts t u i k e is u_is w h = elim (bind_err (version (place i) k) _ _ h) [
  | before g ↦ elim (version_place (place i) k e g) [
    | inl f ↦ halts_here (unsupported f) (word_only t is)
    | inr f ↦ halts_behind w (halts_here f (going_with t (u ∷ []) (two_zero ∷ the_mark Semicolon ∷ []) u two_zero 0 refl is u_is refl (omega arith)))
  ]
  | onward m l g g2 ↦ (
      let v = version_is (place i) k l m g in
      halts_behind w (halts_behind v.way (halts_here (unnamed_place l e (made_err unnamed _ l e g2)) (going_with t (u ∷ v.token ∷ []) (the_mark Semicolon ∷ []) u v.token m refl is u_is v.is v.few))))
]

second_halts : (t u o : Token) (i k : Input) (e : DocFault) → IsWord t ww.Import → IsName u (codes "QtQuick") → IsMark o Dot → Way i k 0 (u ∷ []) → k.rest ≡ o ∷ tail k.rest → second_part (place i) (after k) ≡ Err e → HaltsOn IsImportPrefix (t ∷ []) i e
unfolding second_part
second_halts t u o i k e is u_is o_is w next h = elim (if_ok (is_name (ahead (after k))) _ _ _ h) [
  | inl a ↦ halts_here (unsupported (let f = a.1 in cc)) (word_only t is)
  | inr a ↦ halts_behind w (halts_behind (way_token o next) (halts_here (refused_place {A = Import} (after k) e a.1) (in_module t u o is u_is o_is)))
]

behind_halts : (t u : Token) (i k : Input) (e : DocFault) → IsWord t ww.Import → IsName u (codes "QtQuick") → Way i k 0 (u ∷ []) → behind_module (place i) k ≡ Err e → HaltsOn IsImportPrefix (t ∷ []) i e
unfolding behind_module
behind_halts t u i k e is u_is w h = elim (if_ok (is_mark Dot (ahead k)) _ _ _ h) [
  | inl a ↦ (let o = ahead_some (is_mark Dot) refl k a.0 in second_halts t u o.token i k e is u_is o.is w o.rest a.1)
  | inr a ↦ version_halts t u i k e is u_is w a.1
]

import_module_halts : (t : Token) (i : Input) (e : DocFault) → IsWord t ww.Import → import_module i ≡ Err e → HaltsOn IsImportPrefix (t ∷ []) i e
unfolding import_module
import_module_halts t i e is h = elim (bind_err (module_name i) _ _ h) [
  | before g ↦ halts_here (module_place i e g) (word_only t is)
  | onward v k g g2 ↦ (let u = module_is i v k g in behind_halts t u.token i k e is u.is u.way g2)
]

import_halts : (i : Input) (e : DocFault) → is_word ww.Import (ahead i) ≡ true → import_in i ≡ Err e → Halts IsImportPrefix i e
unfolding import_in
import_halts i e t h =
    let w = ahead_some (is_word ww.Import) refl i t in
    halts_behind (way_token w.token w.rest) (elim (if_ok (is_text (ahead (after i))) _ _ _ h) [
      | inl a ↦ halts_here (unsupported_place {A = Import} (after i) e a.1) (word_only w.token w.is)
      | inr a ↦ import_module_halts w.token (after i) e w.is a.1
    ])

-- With an end

bare_prefix : {ts : List Token} {next : Option Token} {x : Import} → IsBare ts next x → IsImportPrefix ts
bare_prefix (bare t u v minor ts_is x_is word_is name_is v_is few free) = subst IsImportPrefix (sym ts_is) (going_with t (u ∷ v ∷ []) (the_mark Semicolon ∷ []) u v minor refl word_is name_is v_is few)

pub ended_import_halts : (i : Input) (e : DocFault) → is_word ww.Import (ahead i) ≡ true → ended import_in i ≡ Err e → Halts IsImportPrefix i e
ended_import_halts i e t h = halts_ended import_in i (λ f g. import_halts i f t g) (λ x k g. let c = bare_covers i t x k g in record { nodes = 0; text = c.text; way = c.way; viable = bare_prefix c.spelled }) e h
