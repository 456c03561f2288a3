-- The first fault depends on the tokens up to it alone: the laws as they are told.
use Rattle.std.proofs.Common.{◌≡◌, ℕ, ◌++◌, List, Result, Ok, Err, refl, sym, subst, ◌∙◌, ap, arith}
use Rattle.qml_ast.specs.declared.fault.DocFault.{DocFault}
use Rattle.qml_ast.specs.declared.span.Span.{Span}
use Rattle.qml_grammar.specs.Documents.{under, value_in, object_in, member_in, imports, document, reading}
use Rattle.qml_grammar.specs.Inputs.{Input, Parser, place}
use Rattle.qml_grammar.specs.Lexemes.{Token}
use Rattle.qml_grammar.specs.Statements.{statement}
use Rattle.grammar_laws.specs.Faults.{IsFaultAt, IsLike}
use Rattle.grammar_laws.specs.Laws.{Way}
use Rattle.grammar_laws.proofs.Behind.{behind, way_behind, same_input_by}
use Rattle.grammar_laws.proofs.Tools.{counted}
use Rattle.fault_laws.specs.Faults.{FaultsNext, StandsIn, behind as is_behind, FaultsWithin, place_before, FirstFault}
use Rattle.fault_laws.proofs.Sure.{Stands, at_next, early, Fails, Sure}
use Rattle.fault_laws.proofs.SureDocuments.{imports_well, document_well}
use Rattle.fault_laws.proofs.SureLevels.{under_well, member_well}
use Rattle.fault_laws.proofs.SureStatements.{sure_statement}
use Rattle.fault_laws.proofs.SureValues.{object_well, value_well}

no_nodes : {Early : Type 0} {A : Type 0} {p : Parser A} {i : Input} {e : DocFault} (a : Fails (Unit {0}) Early p i e) → a.nodes ≡ 0
no_nodes a = omega (arith, (a.way).used, a.keeps tt)

same_again : {Early : Type 0} {A : Type 0} {p : Parser A} {i : Input} {e : DocFault} (a : Fails (Unit {0}) Early p i e) (k l : Input) → Way k l 0 a.text → IsLike l a.at → p k ≡ Err e
same_again {p = p} {e = e} a k l w s = ap p (way_behind w) ∙ subst (λ n. p (behind a.text n l) ≡ Err e) (no_nodes a) (a.again l s)

never_early : (e : DocFault) (text : List Token) (s : Span) → Stands ⊥ e text s → IsFaultAt e s
never_early e text s (at_next h) = h
never_early e text s (early z h) = absurd z

maybe_early : (e : DocFault) (text : List Token) (s : Span) → Stands (Unit {0}) e text s → StandsIn e text s
maybe_early e text s (at_next h) = is_behind h
maybe_early e text s (early z h) = h

err_then_value : {A : Type 0} {r : Result (A × Input) DocFault} {e : DocFault} → r ≡ Err e → ◌≡◌ {A = Result A DocFault} (elim r [ Ok p ↦ Ok p.0 | Err g ↦ Err g ]) (Err e)
err_then_value h = rw h

value_failed : {A : Type 0} (r : Result (A × Input) DocFault) (e : DocFault) → ◌≡◌ {A = Result A DocFault} (elim r [ Ok p ↦ Ok p.0 | Err g ↦ Err g ]) (Err e) → r ≡ Err e
value_failed (Ok p) e h = absurd cc
value_failed {A = A} (Err g) e h = let f : ◌≡◌ {A = Result A DocFault} (Err g) (Err e) = h in cc

pub faults_next : {A : Type 0} (p : Parser A) → Sure (Unit {0}) ⊥ p → (i : Input) (e : DocFault) → p i ≡ Err e → FaultsNext p i e
faults_next p sure i e h =
    let a = sure.fails i e h in
    record { text = a.text; at = a.at; way = counted (no_nodes a) a.way; place = never_early e a.text (place a.at) a.place; alike = same_again a }

pub faults_within : {A : Type 0} (p : Parser A) → Sure (Unit {0}) (Unit {0}) p → (i : Input) (e : DocFault) → p i ≡ Err e → FaultsWithin p i e
faults_within p sure i e h =
    let a = sure.fails i e h in
    record { text = a.text; at = a.at; way = counted (no_nodes a) a.way; place = maybe_early e a.text (place a.at) a.place; alike = same_again a }

-- Documents

at_end : (i : Input) (s : Span) → i.end ≡ s → place i ≡ place_before i.rest s
at_end i s h = ap (λ z. place_before i.rest z) h

first_from : (ts : List Token) (end : Span) (e : DocFault) → Fails (Unit {0}) (Unit {0}) document (record { rest = ts; end = end; nodes = 0 }) e → FirstFault ts end e
unfolding reading
first_from ts end e a =
    let none : a.nodes ≡ 0 = no_nodes a in
    let left : a.at.nodes ≡ 0 = omega (arith, (a.way).used) in
    record {
      text = a.text;
      rest = a.at.rest;
      whole = (a.way).rest;
      place = subst (λ s. StandsIn e a.text s) (at_end a.at end (sym (a.way).end)) (maybe_early e a.text (place a.at) a.place);
      alike = λ others there h s.
          let l : Input = record { rest = others; end = there; nodes = a.at.nodes } in
          let like : IsLike l a.at = record { ahead = h; place = s ∙ sym (at_end a.at end (sym (a.way).end)); nodes = refl } in
          let same : record { rest = a.text ++ others; end = there; nodes = 0 } ≡ behind a.text a.nodes l = same_input_by refl refl (omega (arith, none, left)) in
          err_then_value (ap document same ∙ a.again l like);
    }

reading_failed : (ts : List Token) (end : Span) (e : DocFault) → reading ts end ≡ Err e → document (record { rest = ts; end = end; nodes = 0 }) ≡ Err e
unfolding reading
reading_failed ts end e h = value_failed (document (record { rest = ts; end = end; nodes = 0 })) e h

pub document_fault : (ts : List Token) (end : Span) (e : DocFault) → reading ts end ≡ Err e → FirstFault ts end e
document_fault ts end e h = first_from ts end e (document_well.fails (record { rest = ts; end = end; nodes = 0 }) e (reading_failed ts end e h))

pub value_fault : (d : ℕ) (i : Input) (e : DocFault) → value_in d (under d) i ≡ Err e → FaultsWithin (value_in d (under d)) i e
value_fault d = faults_within (value_in d (under d)) (value_well (under d) (under_well d).members d)

pub object_fault : (d : ℕ) (i : Input) (e : DocFault) → object_in (under d) i ≡ Err e → FaultsWithin (object_in (under d)) i e
object_fault d = faults_within (object_in (under d)) (object_well (under d) (under_well d).members)

pub member_fault : (d : ℕ) (i : Input) (e : DocFault) → member_in d (under d) i ≡ Err e → FaultsWithin (member_in d (under d)) i e
member_fault d = faults_within (member_in d (under d)) (member_well (under d) (under_well d).members (under_well d).group d)

pub import_fault : (i : Input) (e : DocFault) → imports i ≡ Err e → FaultsWithin imports i e
import_fault = faults_within imports imports_well

-- Statements

pub statement_fault : (d : ℕ) (i : Input) (e : DocFault) → statement d i ≡ Err e → FaultsNext (statement d) i e
statement_fault d = faults_next (statement d) (sure_statement ⊥ d)
