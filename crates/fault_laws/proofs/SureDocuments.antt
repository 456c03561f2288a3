-- Imports and a whole document are read, or refused, by the tokens up to the next one alone, and by those of a name
-- with dots, or of a module.
use Rattle.std.proofs.Common.{◌≡◌, ℕ, ◌+◌, ◌<◌, true, false, is_some, List, [], ◌∷◌, ◌++◌, length, Option, Some, None, Result, Ok, Err, inl, inr, refl, sym, ap, ◌∙◌, arith, codes}
use Rattle.qml_ast.specs.declared.decl.Decl.{Decl}
use Rattle.qml_ast.specs.declared.document.Import.{Import}
use Rattle.qml_ast.specs.declared.fault.DocFault.{DocFault}
use Rattle.qml_ast.specs.declared.fault.DocFault.TheVariants.{Unsupported}
use Rattle.qml_ast.specs.declared.span.Span.{Span}
use Rattle.qml_grammar.specs.Documents.{body, object_in, under, is_qt_quick, module_name, second_part, minor_of, is_decimal, version, unnamed, import_version, behind_module, import_module, is_text, import_in, one_import, imports, root, nothing_more, document}
use Rattle.qml_grammar.specs.Ends.{ended}
use Rattle.qml_grammar.specs.Inputs.{Input, Parser, ahead, after, place, refusal, take_token}
use Rattle.qml_grammar.specs.Lexemes.{Token, head, tail, name_of, is_name, is_mark, is_word}
use Rattle.qml_grammar.specs.Names.{upper_first, name_is, is_dotted_type}
use Rattle.qml_grammar.specs.declared.mark.Mark.TheVariants.{OpenBrace, Dot}
use Rattle.qml_grammar.specs.declared.word.Word.TheVariants as ww
use Rattle.grammar_laws.specs.Laws.{Way}
use Rattle.grammar_laws.proofs.Behind.{behind, behind_both, last_behind, ok_then, if_true, if_false, missing}
use Rattle.grammar_laws.proofs.Local.{Local, ahead_again, like_again, followed, chosen, not_chosen, chosen_in, before, onward, bind_err, err_then, local_followed, local_branch, local_choose}
use Rattle.grammar_laws.proofs.LocalTokens.{local_failing}
use Rattle.grammar_laws.proofs.Tools.{bind_ok, way_none, way_then, way_token, ahead_some, if_ok}
use Rattle.grammar_laws.proofs.Viable.{same_fault, same_text, refused_once}
use Rattle.document_laws.proofs.Imports.{module_is, no_second}
use Rattle.fault_laws.specs.Faults.{are_dotted, refused as is_refused}
use Rattle.fault_laws.proofs.Dotted.{both_true, no_upper_type, seen_type, some_of}
use Rattle.fault_laws.proofs.Firm.{Firm, firm_unless, sure_split, place_at}
use Rattle.fault_laws.proofs.Grows.{Grows, grows_followed, grows_behind, grows_ended}
use Rattle.fault_laws.proofs.Sure.{at_next, early, Fails, fails_first, fails_onward, fails_if, fails_else, sure_while}
use Rattle.fault_laws.proofs.SureLevels.{no_dot_same, brace_no_dot, under_well}
use Rattle.fault_laws.proofs.SureMembers.{then_well, branch_well, pure_well, after_well, refused_well, unsupported_well, token_well, ended_well}
use Rattle.fault_laws.proofs.SureTokens.{local_placed, place_by}
use Rattle.fault_laws.proofs.SureValues.{Well, upper_name, object_well, object_firm}

word_some : (o : Option Token) → is_word ww.Import o ≡ true → is_some o ≡ true
word_some None h = absurd cc
word_some (Some t) h = refl

-- Modules

module_well : Well module_name
unfolding module_name
module_well = branch_well (name_is is_qt_quick) (after_well tt) (branch_well is_name unsupported_well refused_well)

module_some : (i : Input) (u : Unit {0}) (j : Input) → module_name i ≡ Ok (u, j) → is_some (ahead i) ≡ true
module_some i u j h = let m = module_is i u j h in ap (λ ts. is_some (head ts)) (m.way).rest

-- Versions

version_local : (s : Span) → Local (version s)
unfolding version
version_local s = local_choose minor_of (λ m. (after_well m).local) (local_branch is_decimal (local_failing (λ i. Unsupported s)) refused_well.local)

version_keeps : (s : Span) (i : Input) (m : ℕ) (j : Input) → version s i ≡ Ok (m, j) → i.nodes ≡ j.nodes
unfolding version
version_keeps s i m j h = elim (chosen_in (minor_of (ahead i)) _ _ _ h) [
  | chosen n e g ↦ (after_well n).keeps tt i m j g
  | not_chosen e g ↦ elim (if_ok (is_decimal (ahead i)) _ _ _ g) [ inl a ↦ absurd (let f = a.1 in cc) | inr a ↦ absurd (let f = a.1 in cc) ]
]

unnamed_well : Well unnamed
unfolding unnamed
unnamed_well = branch_well (is_word ww.As) unsupported_well (pure_well tt)

abbrev unnamed_import : Span → ℕ → Parser Import
unnamed_import s m = followed unnamed (λ u l. Ok (record { «module» = codes "QtQuick"; major = 2; minor = m; span = s }, l))

unnamed_import_well : (s : Span) (m : ℕ) → Well (unnamed_import s m)
unnamed_import_well s m = then_well unnamed_well (λ u. pure_well _)

version_import_local : (s : Span) → Local (import_version s)
unfolding import_version
version_import_local s = local_followed (version_local s) (λ m. (unnamed_import_well s m).local)

-- how a version is refused
data Refused (s : Span) (k : Input) (e : DocFault) : Type 0 where
  -- the version is of no use, and the module is refused
  of_module : ((l : Input) → ahead l ≡ ahead k → version s l ≡ Err e) → e ≡ Unsupported s → Refused s k e
  -- the next token is no version
  at_token : ((l : Input) → ahead l ≡ ahead k → version s l ≡ Err (refusal l)) → refusal k ≡ e → Refused s k e

version_refused : (s : Span) (k : Input) (e : DocFault) → version s k ≡ Err e → Refused s k e
unfolding version
version_refused s k e h = elim (chosen_in (minor_of (ahead k)) _ _ _ h) [
  | chosen n o g ↦ absurd cc
  | not_chosen o g ↦ elim (if_ok (is_decimal (ahead k)) _ _ _ g) [
    | inl a ↦ (
        let fault : Unsupported s ≡ e = same_fault {A = ℕ} (Unsupported s) e a.1 in
        of_module (λ l q. missing _ _ (ap minor_of q ∙ o) (if_true _ _ (ap is_decimal q ∙ a.0) (ap Err fault))) (sym fault))
    | inr a ↦ at_token (λ l q. missing _ _ (ap minor_of q ∙ o) (if_false _ _ (ap is_decimal q ∙ a.0) refl)) (same_fault {A = ℕ} (refusal k) e a.1)
  ]
]

import_version_keeps : (s : Span) (i : Input) (x : Import) (j : Input) → import_version s i ≡ Ok (x, j) → i.nodes ≡ j.nodes
unfolding import_version
import_version_keeps s i x j h =
    let b = bind_ok (version s i) _ _ h in
    version_keeps s i b.value b.at b.first ∙ (unnamed_import_well s b.value).keeps tt b.at x j b.onward

version_at_once : (s : Span) (k : Input) (e : DocFault) → ((l : Input) → ahead l ≡ ahead k → version s l ≡ Err (refusal l)) → refusal k ≡ e → Fails (Unit {0}) (Unit {0}) (import_version s) k e
unfolding import_version
version_at_once s k e again fault =
    let once = refused_once {A = ℕ} k e (ap Err fault) in
    record {
      nodes = 0;
      text = [];
      at = k;
      way = way_none k;
      keeps = λ z. refl;
      place = at_next once.place;
      again = λ l q. ap (followed (version s) (unnamed_import s)) (last_behind l) ∙ err_then _ (again l q.ahead ∙ once.alike l q);
    }

version_onward : (s : Span) (k m : Input) (n : ℕ) (e : DocFault) → version s k ≡ Ok (n, m) → unnamed_import s n m ≡ Err e → Fails (Unit {0}) (Unit {0}) (import_version s) k e
unfolding import_version
version_onward s k m n e h g = fails_onward (Unit {0}) (Unit {0}) (version s) (unnamed_import s) k m n e ((version_local s).ok k n m h) (λ z. version_keeps s k n m h) ((unnamed_import_well s n).fails m e g)

version_err : (s : Span) (l : Input) (e : DocFault) → version s l ≡ Err e → import_version s l ≡ Err e
unfolding import_version
version_err s l e h = err_then _ h

-- Second names

second_local : (s : Span) → Local (second_part s)
unfolding second_part
second_local s = local_branch is_name (local_failing (λ i. Unsupported s)) refused_well.local

second_fails : (s : Span) (k : Input) (e : DocFault) → is_name (ahead k) ≡ false → ◌≡◌ {A = Result (Import × Input) DocFault} (Err (refusal k)) (Err e) → Fails (Unit {0}) (Unit {0}) (second_part s) k e
unfolding second_part
second_fails s k e t h = fails_else (Unit {0}) (Unit {0}) is_name (λ i. Err (Unsupported s)) (λ i. Err (refusal i)) k e t (refused_well.fails k e h)

second_err : (s : Span) (l : Input) → is_name (ahead l) ≡ true → second_part s l ≡ Err (Unsupported s)
unfolding second_part
second_err s l t = if_true _ _ t refl

-- What stands behind the first name of a module

abbrev dotted_at : Span → Parser Import
dotted_at s = followed take_token (λ u. second_part s)

behind_local : (s : Span) → Local (behind_module s)
unfolding behind_module
behind_local s = local_branch (is_mark Dot) (local_followed token_well.local (λ u. second_local s)) (version_import_local s)

behind_keeps : (s : Span) (i : Input) (x : Import) (j : Input) → behind_module s i ≡ Ok (x, j) → i.nodes ≡ j.nodes
unfolding behind_module
behind_keeps s i x j h = elim (if_ok (is_mark Dot (ahead i)) _ _ _ h) [
  | inl a ↦ absurd (no_second s (after i) x j a.1)
  | inr a ↦ import_version_keeps s i x j a.1
]

-- the tokens with which, and with the next one, it shows that the module is another one, or has another version
record Shown (p : Parser Import) (k : Input) (e : DocFault) : Type 0 where
  text : List Token
  at : Input
  way : Way k at 0 text
  dotted : are_dotted text ≡ true
  again : (l : Input) → ahead l ≡ ahead at → p (behind text 0 l) ≡ Err e

-- how what stands there is refused
data Behind (s : Span) (k : Input) (e : DocFault) : Type 0 where
  module_refused : Shown (behind_module s) k e → e ≡ Unsupported s → Behind s k e
  token_refused : Fails (Unit {0}) (Unit {0}) (behind_module s) k e → Behind s k e

by_second : (s : Span) (k : Input) (e : DocFault) → is_mark Dot (ahead k) ≡ true → second_part s (after k) ≡ Err e → Behind s k e
unfolding behind_module second_part
by_second s k e t h = elim (if_ok (is_name (ahead (after k))) _ _ _ h) [
  | inl a ↦ (
      let o = ahead_some (is_mark Dot) refl k t in
      let fault : Unsupported s ≡ e = same_fault {A = Import} (Unsupported s) e a.1 in
      module_refused (record {
        text = o.token ∷ [];
        at = after k;
        way = way_token o.token o.rest;
        dotted = o.is;
        again = λ l q. if_true _ _ o.is (second_err s (behind [] 0 l) (ap is_name q ∙ a.0) ∙ ap Err fault);
      }) (sym fault))
  | inr a ↦ token_refused (fails_if (Unit {0}) (Unit {0}) (is_mark Dot) (dotted_at s) (import_version s) k e t
      (fails_onward (Unit {0}) (Unit {0}) take_token (λ u. second_part s) k (after k) tt e (token_well.local.ok k tt (after k) refl) (λ z. refl) (second_fails s (after k) e a.0 a.1)))
]

by_version : (s : Span) (k : Input) (e : DocFault) → is_mark Dot (ahead k) ≡ false → Refused s k e → Behind s k e
unfolding behind_module
by_version s k e t (of_module again fault) = module_refused (record {
  text = [];
  at = k;
  way = way_none k;
  dotted = refl;
  again = λ l q. ap (behind_module s) (last_behind l) ∙ if_false _ _ (ap (is_mark Dot) q ∙ t) (version_err s l e (again l q));
}) fault
by_version s k e t (at_token again fault) = token_refused (fails_else (Unit {0}) (Unit {0}) (is_mark Dot) (dotted_at s) (import_version s) k e t (version_at_once s k e again fault))

behind_fails : (s : Span) (k : Input) (e : DocFault) → behind_module s k ≡ Err e → Behind s k e
unfolding behind_module import_version
behind_fails s k e h = elim (if_ok (is_mark Dot (ahead k)) _ _ _ h) [
  | inl a ↦ by_second s k e a.0 a.1
  | inr a ↦ elim (bind_err (version s k) _ _ a.1) [
    | before f ↦ by_version s k e a.0 (version_refused s k e f)
    | onward n m f f2 ↦ token_refused (fails_else (Unit {0}) (Unit {0}) (is_mark Dot) (dotted_at s) (import_version s) k e a.0 (version_onward s k m n e f f2))
  ]
]

-- The import of a module

abbrev module_at : Span → Parser Import
module_at s = followed module_name (λ u. behind_module s)

import_local : Local import_module
unfolding import_module
import_local = local_placed (Unit {0}) (Unit {0}) module_at (λ s. local_followed module_well.local (λ u. behind_local s)) (λ i x j h. let b = bind_ok (module_name i) _ _ h in module_some i b.value b.at b.first)

import_keeps : (i : Input) (x : Import) (j : Input) → import_module i ≡ Ok (x, j) → i.nodes ≡ j.nodes
unfolding import_module
import_keeps i x j h =
    let b = bind_ok (module_name i) _ _ h in
    module_well.keeps tt i b.value b.at b.first ∙ behind_keeps (place i) b.at x j b.onward

module _ (i : Input) (u : Unit {0}) (k : Input) (g : module_name i ≡ Ok (u, k)) (e : DocFault) where
  -- at the module's first name
  refused_first : Shown (behind_module (place i)) k e → e ≡ Unsupported (place i) → Fails (Unit {0}) (Unit {0}) import_module i e
  unfolding import_module
  refused_first c stands =
      let m = module_is i u k g in
      let a = module_well.local.ok i u k g in
      let text : a.text ≡ m.token ∷ [] = same_text a.way m.way in
      let there : place i ≡ m.token.span = place_at i m.token k.rest (m.way).rest in
      record {
        nodes = a.nodes + 0;
        text = a.text ++ c.text;
        at = c.at;
        way = way_then a.way c.way;
        keeps = λ z. module_well.keeps tt i u k g ∙ omega (arith, (c.way).used);
        place = early tt (is_refused [] m.token c.text (ap (λ ts. ts ++ c.text) text) (both_true (ap is_some m.is) c.dotted) (stands ∙ ap Unsupported there));
        again = λ l s.
            let next : ahead (behind c.text 0 l) ≡ ahead k = ahead_again l c.way s.ahead in
            let same : place (behind a.text a.nodes (behind c.text 0 l)) ≡ place i = place_by (Unit {0}) (Unit {0}) (behind a.text a.nodes (behind c.text 0 l)) i (ahead_again (behind c.text 0 l) a.way next) (module_some i u k g) in
            ap import_module (behind_both a.text c.text a.nodes 0 l refl refl) ∙ ok_then _ (a.again (behind c.text 0 l) next) (ap (λ z. behind_module z (behind c.text 0 l)) same ∙ c.again l s.ahead);
      }

  -- behind it
  refused_behind : Fails (Unit {0}) (Unit {0}) (behind_module (place i)) k e → Fails (Unit {0}) (Unit {0}) import_module i e
  unfolding import_module
  refused_behind c =
      let a = fails_onward (Unit {0}) (Unit {0}) module_name (λ v. behind_module (place i)) i k u e (module_well.local.ok i u k g) (λ z. module_well.keeps tt i u k g) c in
      record {
        nodes = a.nodes;
        text = a.text;
        at = a.at;
        way = a.way;
        keeps = a.keeps;
        place = a.place;
        again = λ l s. ap (λ z. module_at z (behind a.text a.nodes l)) (like_again l a.way s).place ∙ a.again l s;
      }

  refused_by : Behind (place i) k e → Fails (Unit {0}) (Unit {0}) import_module i e
  refused_by (module_refused c fault) = refused_first c fault
  refused_by (token_refused c) = refused_behind c

import_fails : (i : Input) (e : DocFault) → import_module i ≡ Err e → Fails (Unit {0}) (Unit {0}) import_module i e
unfolding import_module
import_fails i e h = elim (bind_err (module_name i) _ _ h) [
  | before g ↦ (
      let a = fails_first (Unit {0}) (Unit {0}) module_name (λ u. behind_module (place i)) i e (module_well.fails i e g) in
      record { nodes = a.nodes; text = a.text; at = a.at; way = a.way; keeps = a.keeps; place = a.place; again = λ l s. ap (λ z. module_at z (behind a.text a.nodes l)) (like_again l a.way s).place ∙ a.again l s })
  | onward u k g g2 ↦ refused_by i u k g e (behind_fails (place i) k e g2)
]

import_module_well : Well import_module
import_module_well = record { local = import_local; keeps = λ z. import_keeps; fails = import_fails }

-- Imports

import_well : Well import_in
unfolding import_in
import_well = then_well token_well (λ u. branch_well is_text unsupported_well import_module_well)

import_grows : Grows import_in
unfolding import_in
import_grows = grows_behind _ (λ u. (branch_well is_text unsupported_well import_module_well).local)

one_import_well : (xs : List Import) → Well (one_import xs)
unfolding one_import
one_import_well xs = then_well (ended_well import_in import_well) (λ x. pure_well (xs ++ x ∷ []))

one_import_less : (xs : List Import) (i : Input) (ys : List Import) (j : Input) → is_word ww.Import (ahead i) ≡ true → one_import xs i ≡ Ok (ys, j) → length j.rest < length i.rest
unfolding one_import
one_import_less xs i ys j t h = grows_followed (ended import_in) _ (grows_ended import_in import_grows) (λ x. (pure_well (xs ++ x ∷ [])).local) i ys j (word_some (ahead i) t) h

pub imports_well : Well imports
unfolding imports
imports_well = sure_while (Unit {0}) (Unit {0}) (is_word ww.Import) one_import refl one_import_well one_import_less []

-- Documents

root_object : Well (object_in (under 64))
root_object = object_well (under 64) (under_well 64).members

-- behind the name of an object stands its brace
object_brace : (i : Input) (x : Decl) (j : Input) → object_in (under 64) i ≡ Ok (x, j) → is_mark OpenBrace (head (tail i.rest)) ≡ true
unfolding object_in body
object_brace i x j h = elim (chosen_in (name_of (ahead i)) _ _ _ h) [
  | chosen n e g ↦ elim (if_ok (upper_first n) _ _ _ g) [
    | inl a ↦ (
        let b = bind_ok (body (under 64) (after i)) _ _ a.1 in
        elim (if_ok (is_mark OpenBrace (ahead (after i))) _ _ _ b.first) [ inl c ↦ c.0 | inr c ↦ absurd (let f = c.1 in cc) ])
    | inr a ↦ absurd (let f = a.1 in cc)
  ]
  | not_chosen e g ↦ absurd cc
]

root_settles : (t : Token) (i : Input) (x : Decl) (j : Input) (n : ℕ) (us r : List Token) → object_in (under 64) i ≡ Ok (x, j) → Way i j n (t ∷ us) → head r ≡ head j.rest → is_dotted_type (is_mark OpenBrace) (t ∷ (us ++ r)) ≡ is_dotted_type (is_mark OpenBrace) (t ∷ (us ++ j.rest))
root_settles t i x j n us r h w same =
    let off : is_mark Dot (head (us ++ j.rest)) ≡ false = sym (ap (λ ts. is_mark Dot (head (tail ts))) w.rest) ∙ brace_no_dot (head (tail i.rest)) (object_brace i x j h) in
    no_dot_same (is_mark OpenBrace) t us r j.rest off same

root_firm : (t : Token) (i : Input) → i.rest ≡ t ∷ tail i.rest → name_is upper_first (Some t) ≡ true → Firm t root i
unfolding root
root_firm t i first upper =
    let n = some_of (name_of (Some t)) (upper_name t upper) in
    firm_unless t (is_dotted_type (is_mark OpenBrace)) (object_in (under 64)) i first (seen_type (is_mark OpenBrace) t (tail i.rest) n.0 n.1) (upper_name t upper) upper
    (object_firm (under 64) (under_well 64).members t i first upper) (root_settles t i)

root_other : (i : Input) → name_is upper_first (ahead i) ≡ false → root i ≡ object_in (under 64) i
unfolding root
root_other i h = if_false _ _ (no_upper_type (is_mark OpenBrace) i.rest h) refl

root_well : Well root
root_well = sure_split (name_is upper_first) refl root (object_in (under 64)) root_firm root_object root_other

nothing_well : Well nothing_more
unfolding nothing_more
nothing_well = branch_well is_some refused_well (pure_well tt)

pub document_well : Well document
unfolding document
document_well = then_well imports_well (λ xs. then_well root_well (λ x. then_well nothing_well (λ u. pure_well _)))
