-- Members, groups and objects are read, or refused, by the tokens up to the next one alone, and by those of a name
-- with dots, level by level.
use Rattle.std.proofs.Common.{◌≡◌, ℕ, zero, suc, ◌<◌, ◌&&◌, not, Bool, true, false, is_some, List, [], ◌∷◌, ◌++◌, length, Option, Some, None, Result, Ok, Err, inl, inr, refl, sym, ap, subst, ◌∙◌, append_assoc}
use Rattle.std.proofs.lemmas.List.{append_cancel_right}
use Rattle.qml_ast.specs.declared.decl.Member.{Member}
use Rattle.qml_ast.specs.declared.decl.Member.TheVariants as mm
use Rattle.qml_ast.specs.declared.fault.DocFault.{DocFault}
use Rattle.qml_ast.specs.declared.fault.DocFault.TheVariants.{Unsupported}
use Rattle.qml_ast.specs.declared.span.Span.{Span}
use Rattle.qml_grammar.specs.Documents.{Under, object_in, value_in, id_member, property, fixed_property, signal_member, method, path, path_member, entry_name, entry, one_entry, entries, alone, child, grouped, opens_or_on, named_member, is_unsupported_member, other_member, member_in, one_member, members, member_braces, group_braces, under}
use Rattle.qml_grammar.specs.Ends.{since, end_behind, ended}
use Rattle.qml_grammar.specs.Inputs.{Input, Parser, ahead, after, place, refused, expect, any_name}
use Rattle.qml_grammar.specs.Lexemes.{Token, head, tail, last_of, name_of, is_name, is_mark, is_word}
use Rattle.qml_grammar.specs.Marks.{same_mark, mark_number}
use Rattle.qml_grammar.specs.Names.{upper_first, lower_first, is_handler_name, name_is, is_dotted_type}
use Rattle.qml_grammar.specs.Statements.{goes_on_inside}
use Rattle.qml_grammar.specs.declared.mark.Mark.TheVariants.{OpenBrace, CloseBrace, Colon, Dot}
use Rattle.qml_grammar.specs.declared.word.Word.TheVariants as ww
use Rattle.grammar_laws.specs.Faults.{unsupported as is_unsupported}
use Rattle.grammar_laws.specs.Laws.{Way}
use Rattle.grammar_laws.proofs.Behind.{if_false}
use Rattle.grammar_laws.proofs.Local.{followed}
use Rattle.grammar_laws.proofs.Tools.{bind_ok, way_then, way_token, expected, if_ok, same_input}
use Rattle.grammar_laws.proofs.Viable.{same_fault}
use Rattle.fault_laws.proofs.Dotted.{first_true, first_false, second_true, head_same, no_upper_type, no_dot_type, seen_type, settled, type_same, some_of}
use Rattle.fault_laws.proofs.Firm.{FirmFails, Firm, firm_of, firm_followed, firm_ended, firm_named, by_two, firm_two, unless, firm_never, firm_unless, sure_split}
use Rattle.fault_laws.proofs.Grows.{Grows, grows_followed, grows_branch, grows_ended, grows_name, grows_refused, grows_when}
use Rattle.fault_laws.proofs.Spelled.{lexeme_no_dot}
use Rattle.fault_laws.proofs.Sure.{at_next, sure_while}
use Rattle.fault_laws.proofs.SureMembers.{then_well, branch_well, pure_well, refused_well, unsupported_well, token_well, expect_well, name_well, placed_well, ended_well, named_some, no_name, id_well, id_grows, signal_well, signal_grows, method_well, method_grows, path_text, property_well, property_grows, fixed_well, fixed_grows, path_member_well, path_member_grows, path_member_firm_fails, behind_path_well}
use Rattle.fault_laws.proofs.SureStatements.{inside_some}
use Rattle.fault_laws.proofs.SureTokens.{sure_too_deep, end_sure}
use Rattle.fault_laws.proofs.SureValues.{Well, object_well, object_grows, object_firm_fails, value_well}

pub brace_no_dot : (o : Option Token) → is_mark OpenBrace o ≡ true → is_mark Dot o ≡ false
unfolding same_mark mark_number
brace_no_dot None h = absurd cc
brace_no_dot (Some t) h = lexeme_no_dot OpenBrace refl t.lexeme h

colon_no_dot : (c : Token) → is_mark Colon (Some c) ≡ true → is_mark Dot (Some c) ≡ false
unfolding same_mark mark_number
colon_no_dot c h = lexeme_no_dot Colon refl c.lexeme h

-- no dot stands behind the first token, whatever stands behind the text
pub no_dot_same : (follows : Option Token → Bool) (t : Token) (us r s : List Token) → is_mark Dot (head (us ++ s)) ≡ false → head r ≡ head s → is_dotted_type follows (t ∷ (us ++ r)) ≡ is_dotted_type follows (t ∷ (us ++ s))
no_dot_same follows t us r s h e = no_dot_type follows t (us ++ r) (ap (is_mark Dot) (head_same us s r e) ∙ h) ∙ sym (no_dot_type follows t (us ++ s) h)

alone_well : (p : Parser Member) → Well p → Well (alone p)
unfolding alone
alone_well p good = then_well good (λ x. pure_well (x ∷ []))

alone_grows : (p : Parser Member) → Grows p → Grows (alone p)
unfolding alone
alone_grows p grows = grows_followed p _ grows (λ x. (pure_well (x ∷ [])).local)

-- the token behind the next one is refused
module _ {A : Type 0} (t : Token) (i : Input) (first : i.rest ≡ t ∷ tail i.rest) where
  after_fails : (e : DocFault) → ◌≡◌ {A = Result (A × Input) DocFault} (Err (Unsupported (place (after i)))) (Err e) → FirmFails t {A = A} (λ k. Err (Unsupported (place (after k)))) i e
  after_fails e h =
      let fault : Unsupported (place (after i)) ≡ e = same_fault {A = A} (Unsupported (place (after i))) e h in
      record {
        nodes = 0;
        others = [];
        at = after i;
        way = way_token t first;
        keeps = refl;
        place = at_next (is_unsupported (sym fault));
        again = λ l s. ap Err (ap Unsupported s.place ∙ fault);
      }

  after_firm : Firm t {A = A} (λ k. Err (Unsupported (place (after k)))) i
  after_firm = record { ok = λ x j h. absurd cc; fails = after_fails }

module _ (v : Under) (inside : Well v.members) (groups : (n : List ℕ) → Well (v.group n)) (d : ℕ) where
  child_well : Well (child v)
  unfolding child
  child_well = then_well (object_well v inside) (λ x. pure_well (mm.Child x ∷ []))

  child_grows : Grows (child v)
  unfolding child
  child_grows = grows_followed (object_in v) _ (object_grows v inside) (λ x. (pure_well (mm.Child x ∷ [])).local)

  child_firm : (t : Token) (i : Input) → i.rest ≡ t ∷ tail i.rest → name_is upper_first (Some t) ≡ true → Firm t (child v) i
  unfolding child
  child_firm t i first upper = firm_of t (child v) i first child_well child_grows (firm_followed t (object_in v) i first (object_well v inside) (object_grows v inside) _ (λ x. pure_well (mm.Child x ∷ [])) (object_firm_fails v inside t i first upper))

  grouped_well : Well (grouped v)
  unfolding grouped
  grouped_well = then_well name_well groups

  grouped_grows : Grows (grouped v)
  unfolding grouped
  grouped_grows = grows_followed any_name v.group grows_name (λ n. (groups n).local)

  grouped_firm : (t : Token) (i : Input) → i.rest ≡ t ∷ tail i.rest → is_name (Some t) ≡ true → Firm t (grouped v) i
  unfolding grouped
  grouped_firm t i first is = firm_of t (grouped v) i first grouped_well grouped_grows (firm_named t v.group i first is groups)

  -- Members with a path

  abbrev by_path : Parser (List Member)
  by_path = alone (ended (path_member d v))

  member_at_well : Well (path_member d v)
  member_at_well = path_member_well v inside d

  by_path_well : Well by_path
  by_path_well = alone_well (ended (path_member d v)) (ended_well (path_member d v) member_at_well)

  ended_path_grows : Grows (ended (path_member d v))
  ended_path_grows = grows_ended (path_member d v) (path_member_grows v inside d)

  by_path_grows : Grows by_path
  by_path_grows = alone_grows (ended (path_member d v)) ended_path_grows

  by_path_firm : (t : Token) (i : Input) → i.rest ≡ t ∷ tail i.rest → is_name (Some t) ≡ true → Firm t by_path i
  unfolding alone
  by_path_firm t i first is = firm_of t by_path i first by_path_well by_path_grows
      (firm_followed t (ended (path_member d v)) i first (ended_well (path_member d v) member_at_well) ended_path_grows _ (λ x. pure_well (x ∷ []))
      (firm_ended t (path_member d v) i first member_at_well (path_member_grows v inside d) (path_member_firm_fails v inside d t i first is)))

  -- the tokens of a path and ":", before others
  record PathFirst (i j : Input) : Type 0 where
    token : Token
    more : List Token
    colon : Token
    others : List Token
    rest : i.rest ≡ (token ∷ (more ++ colon ∷ others)) ++ j.rest
    settles : (b : Bool) (zs : List Token) → settled b (more ++ colon ∷ zs) ≡ true

  member_first : (i : Input) (x : Member) (j : Input) → path_member d v i ≡ Ok (x, j) → PathFirst i j
  unfolding path_member
  member_first i x j h =
      let a = bind_ok (path i) _ _ h in
      let b = bind_ok (expect Colon a.at) _ _ a.onward in
      let p = path_text i a.value a.at a.first in
      let c = expected Colon a.at b.at b.value b.first in
      let r = (behind_path_well v inside d a.value (place i)).local.ok b.at x j b.onward in
      record {
        token = p.token;
        more = p.others;
        colon = c.token;
        others = r.text;
        rest = (way_then p.way (way_then c.way r.way)).rest;
        settles = λ q zs. p.settles q c.token zs (colon_no_dot c.token c.is);
      }

  longer_first : (i k j : Input) → PathFirst i k → (ts : List Token) → k.rest ≡ ts ++ j.rest → PathFirst i j
  longer_first i k j p ts h = record {
    token = p.token;
    more = p.more;
    colon = p.colon;
    others = p.others ++ ts;
    rest = p.rest ∙ (ap (λ us. (p.token ∷ (p.more ++ p.colon ∷ p.others)) ++ us) h ∙ (sym (append_assoc (p.token ∷ (p.more ++ p.colon ∷ p.others)) ts j.rest) ∙ ap (λ us. (p.token ∷ us) ++ j.rest) (append_assoc p.more (p.colon ∷ p.others) ts)));
    settles = p.settles;
  }

  ended_first : (i : Input) (x : Member) (j : Input) → ended (path_member d v) i ≡ Ok (x, j) → PathFirst i j
  unfolding ended
  ended_first i x j h =
      let a = bind_ok (path_member d v i) _ _ h in
      let last = last_of (since i.rest a.at.rest) in
      let b = bind_ok (end_behind last a.at) _ _ a.onward in
      let r = (end_sure (Unit {0}) (Unit {0}) last).local.ok a.at b.value b.at b.first in
      let same = same_input a.value x b.at j b.onward in
      longer_first i a.at j (member_first i a.value a.at a.first) r.text (subst (λ (k : Input). a.at.rest ≡ r.text ++ k.rest) same (r.way).rest)

  by_path_first : (i : Input) (xs : List Member) (j : Input) → by_path i ≡ Ok (xs, j) → PathFirst i j
  unfolding alone
  by_path_first i xs j h =
      let a = bind_ok (ended (path_member d v) i) _ _ h in
      subst (λ k. PathFirst i k) (same_input (a.value ∷ []) xs a.at j a.onward) (ended_first i a.value a.at a.first)

  path_settles : (t : Token) (i : Input) (xs : List Member) (j : Input) (n : ℕ) (us r : List Token) → by_path i ≡ Ok (xs, j) → Way i j n (t ∷ us) → head r ≡ head j.rest → is_dotted_type opens_or_on (t ∷ (us ++ r)) ≡ is_dotted_type opens_or_on (t ∷ (us ++ j.rest))
  path_settles t i xs j n us r h w same =
      let p = by_path_first i xs j h in
      let text : t ∷ us ≡ p.token ∷ (p.more ++ p.colon ∷ p.others) = append_cancel_right (t ∷ us) (p.token ∷ (p.more ++ p.colon ∷ p.others)) j.rest (sym w.rest ∙ p.rest) in
      let others : us ≡ p.more ++ p.colon ∷ p.others = ap tail text in
      type_same opens_or_on t us j.rest r (λ is. ap (settled (not (is_mark Dot (head j.rest)))) others ∙ p.settles (not (is_mark Dot (head j.rest))) p.others) same

  -- Members by their first tokens

  abbrev group_or_path : Parser (List Member)
  group_or_path = by_two (name_is lower_first) (is_mark OpenBrace) (grouped v) by_path

  group_settles : (t : Token) (i : Input) (xs : List Member) (j : Input) (n : ℕ) (us r : List Token) → group_or_path i ≡ Ok (xs, j) → Way i j n (t ∷ us) → head r ≡ head j.rest → is_dotted_type opens_or_on (t ∷ (us ++ r)) ≡ is_dotted_type opens_or_on (t ∷ (us ++ j.rest))
  group_settles t i xs j n us r h w same = elim (if_ok (name_is lower_first (head i.rest) && is_mark OpenBrace (head (tail i.rest))) _ _ _ h) [
    | inl a ↦ (
        let brace : is_mark OpenBrace (head (tail i.rest)) ≡ true = second_true (name_is lower_first (head i.rest)) (is_mark OpenBrace (head (tail i.rest))) a.0 in
        let off : is_mark Dot (head (us ++ j.rest)) ≡ false = sym (ap (λ ts. is_mark Dot (head (tail ts))) w.rest) ∙ brace_no_dot (head (tail i.rest)) brace in
        no_dot_same opens_or_on t us r j.rest off same)
    | inr a ↦ path_settles t i xs j n us r a.1 w same
  ]

  group_firm : (t : Token) (i : Input) → i.rest ≡ t ∷ tail i.rest → is_name (Some t) ≡ true → Firm t group_or_path i
  group_firm t i first is = firm_two t (name_is lower_first) (is_mark OpenBrace) (grouped v) by_path i (λ h. grouped_firm t i first is) (λ h. by_path_firm t i first is)

  dotted_firm_by : (t : Token) (i : Input) → i.rest ≡ t ∷ tail i.rest → is_name (Some t) ≡ true → (b : Bool) → name_is upper_first (Some t) ≡ b → Firm t (unless (is_dotted_type opens_or_on) group_or_path) i
  dotted_firm_by t i first is false h = firm_never t (is_dotted_type opens_or_on) group_or_path i first (λ us. no_upper_type opens_or_on (t ∷ us) h) (group_firm t i first is)
  dotted_firm_by t i first is true h =
      let n = some_of (name_of (Some t)) is in
      firm_unless t (is_dotted_type opens_or_on) group_or_path i first (seen_type opens_or_on t (tail i.rest) n.0 n.1) is h (group_firm t i first is) (group_settles t i)

  upper_at : (t : Token) (i : Input) (b : Bool) → i.rest ≡ t ∷ tail i.rest → (name_is upper_first (head i.rest) && b) ≡ true → name_is upper_first (Some t) ≡ true
  upper_at t i b first h = sym (ap (λ ts. name_is upper_first (head ts)) first) ∙ first_true (name_is upper_first (head i.rest)) b h

  named_firm : (t : Token) (i : Input) → i.rest ≡ t ∷ tail i.rest → is_name (Some t) ≡ true → Firm t (named_member d v) i
  unfolding named_member
  named_firm t i first is =
      firm_two t (name_is upper_first) (is_mark OpenBrace) (child v) (by_two (name_is upper_first) (is_word ww.On) (λ k. Err (Unsupported (place (after k)))) (unless (is_dotted_type opens_or_on) group_or_path)) i
      (λ h. child_firm t i first (upper_at t i (is_mark OpenBrace (head (tail i.rest))) first h))
      (λ h. firm_two t (name_is upper_first) (is_word ww.On) (λ k. Err (Unsupported (place (after k)))) (unless (is_dotted_type opens_or_on) group_or_path) i
      (λ g. after_firm t i first)
      (λ g. dotted_firm_by t i first is (name_is upper_first (Some t)) refl))

  named_other : (i : Input) → is_name (ahead i) ≡ false → named_member d v i ≡ by_path i
  unfolding named_member
  named_other i h =
      let upper : name_is upper_first (ahead i) ≡ false = no_name upper_first (ahead i) h in
      if_false _ _ (first_false (is_mark OpenBrace (head (tail i.rest))) upper)
      (if_false _ _ (first_false (is_word ww.On (head (tail i.rest))) upper)
      (if_false _ _ (no_upper_type opens_or_on i.rest upper)
      (if_false _ _ (first_false (is_mark OpenBrace (head (tail i.rest))) (no_name lower_first (ahead i) h)) refl)))

  named_well : Well (named_member d v)
  named_well = sure_split is_name refl (named_member d v) by_path named_firm by_path_well named_other

  named_grows : Grows (named_member d v)
  unfolding named_member
  named_grows =
      grows_when (λ i. name_is upper_first (head i.rest) && is_mark OpenBrace (head (tail i.rest))) (child v) _ child_grows
      (grows_when (λ i. name_is upper_first (head i.rest) && is_word ww.On (head (tail i.rest))) (λ k. Err (Unsupported (place (after k)))) _ (λ i x j t h. absurd cc)
      (grows_when (λ i. is_dotted_type opens_or_on i.rest) (λ k. Err (Unsupported (place k))) _ (λ i x j t h. absurd cc)
      (grows_when (λ i. name_is lower_first (head i.rest) && is_mark OpenBrace (head (tail i.rest))) (grouped v) by_path grouped_grows by_path_grows)))

  other_well : Well (other_member d v)
  unfolding other_member
  other_well = branch_well (is_word ww.Function) (alone_well (method d) (method_well d)) (branch_well is_unsupported_member unsupported_well (branch_well (is_word ww.Else) refused_well named_well))

  other_grows : Grows (other_member d v)
  unfolding other_member
  other_grows = grows_branch (is_word ww.Function) _ _ (alone_grows (method d) (method_grows d)) (grows_branch is_unsupported_member (λ k. Err (Unsupported (place k))) _ (λ i x j t h. absurd cc) (grows_branch (is_word ww.Else) refused _ grows_refused named_grows))

  pub member_well : Well (member_in d v)
  unfolding member_in
  member_well =
      branch_well (is_word ww.Id) (alone_well (ended id_member) (ended_well id_member id_well))
      (branch_well (is_word ww.Property) (alone_well (ended (property d v false)) (ended_well (property d v false) (property_well v inside d false)))
      (branch_well (is_word ww.ReadOnly) (alone_well (ended (fixed_property d v)) (ended_well (fixed_property d v) (fixed_well v inside d)))
      (branch_well (is_word ww.Signal) (alone_well (ended signal_member) (ended_well signal_member signal_well)) other_well)))

  member_grows : Grows (member_in d v)
  unfolding member_in
  member_grows =
      grows_branch (is_word ww.Id) _ _ (alone_grows (ended id_member) (grows_ended id_member id_grows))
      (grows_branch (is_word ww.Property) _ _ (alone_grows (ended (property d v false)) (grows_ended (property d v false) (property_grows v inside d false)))
      (grows_branch (is_word ww.ReadOnly) _ _ (alone_grows (ended (fixed_property d v)) (grows_ended (fixed_property d v) (fixed_grows v inside d)))
      (grows_branch (is_word ww.Signal) _ _ (alone_grows (ended signal_member) (grows_ended signal_member signal_grows)) other_grows)))

  one_member_well : (xs : List Member) → Well (one_member d v xs)
  unfolding one_member
  one_member_well xs = then_well member_well (λ ys. pure_well (xs ++ ys))

  one_member_less : (xs : List Member) (i : Input) (ys : List Member) (j : Input) → goes_on_inside (ahead i) ≡ true → one_member d v xs i ≡ Ok (ys, j) → length j.rest < length i.rest
  unfolding one_member
  one_member_less xs i ys j t h = grows_followed (member_in d v) _ member_grows (λ zs. (pure_well (xs ++ zs)).local) i ys j (inside_some (ahead i) t) h

  members_well : Well (members d v)
  unfolding members
  members_well = then_well (sure_while (Unit {0}) (Unit {0}) goes_on_inside (one_member d v) refl one_member_well one_member_less []) (λ xs. then_well (expect_well CloseBrace) (λ u. pure_well xs))

  pub braces_well : Well (member_braces d v)
  unfolding member_braces
  braces_well = then_well token_well (λ u. members_well)

  -- Groups

  entry_name_well : Well entry_name
  unfolding entry_name
  entry_name_well = branch_well (name_is is_handler_name) refused_well name_well

  entry_name_some : (i : Input) (n : List ℕ) (j : Input) → entry_name i ≡ Ok (n, j) → is_some (ahead i) ≡ true
  unfolding entry_name
  entry_name_some i n j h = elim (if_ok (name_is is_handler_name (ahead i)) _ _ _ h) [ inl a ↦ absurd (let e = a.1 in cc) | inr a ↦ named_some i n j a.1 ]

  entry_name_grows : Grows entry_name
  unfolding entry_name
  entry_name_grows = grows_branch (name_is is_handler_name) refused any_name grows_refused grows_name

  abbrev entry_at : List ℕ → Span → Parser Member
  entry_at n s = followed entry_name (λ m. followed (expect Colon) (λ u. followed (value_in d v) (λ x l. Ok (mm.Init (record { first = n; second = Some m }) x.init x.span s, l))))

  entry_behind : (n m : List ℕ) (s : Span) → Well (followed (expect Colon) (λ u. followed (value_in d v) (λ x l. Ok (mm.Init (record { first = n; second = Some m }) x.init x.span s, l))))
  entry_behind n m s = then_well (expect_well Colon) (λ u. then_well (value_well v inside d) (λ x. pure_well _))

  entry_well : (n : List ℕ) → Well (entry d v n)
  unfolding entry
  entry_well n = placed_well (entry_at n) (λ s. then_well entry_name_well (λ m. entry_behind n m s)) (λ i x j h. let b = bind_ok (entry_name i) _ _ h in entry_name_some i b.value b.at b.first)

  entry_grows : (n : List ℕ) → Grows (entry d v n)
  unfolding entry
  entry_grows n i x j t h = grows_followed entry_name _ entry_name_grows (λ m. (entry_behind n m (place i)).local) i x j t h

  one_entry_well : (n : List ℕ) (xs : List Member) → Well (one_entry d v n xs)
  unfolding one_entry
  one_entry_well n xs = then_well (ended_well (entry d v n) (entry_well n)) (λ x. pure_well (xs ++ x ∷ []))

  one_entry_less : (n : List ℕ) (xs : List Member) (i : Input) (ys : List Member) (j : Input) → goes_on_inside (ahead i) ≡ true → one_entry d v n xs i ≡ Ok (ys, j) → length j.rest < length i.rest
  unfolding one_entry
  one_entry_less n xs i ys j t h = grows_followed (ended (entry d v n)) _ (grows_ended (entry d v n) (entry_grows n)) (λ x. (pure_well (xs ++ x ∷ [])).local) i ys j (inside_some (ahead i) t) h

  entries_well : (n : List ℕ) → Well (entries d v n)
  unfolding entries
  entries_well n = then_well (sure_while (Unit {0}) (Unit {0}) goes_on_inside (one_entry d v n) refl (one_entry_well n) (one_entry_less n) []) (λ xs. then_well (expect_well CloseBrace) (λ u. pure_well xs))

  pub group_braces_well : (n : List ℕ) → Well (group_braces d v n)
  unfolding group_braces
  group_braces_well n = then_well token_well (λ u. entries_well n)

-- All levels

pub record WellUnder (v : Under) : Type 0 where
  pub members : Well v.members
  pub group : (n : List ℕ) → Well (v.group n)

pub under_well : (d : ℕ) → WellUnder (under d)
unfolding under
under_well zero = record { members = sure_too_deep (Unit {0}) (Unit {0}); group = λ n. sure_too_deep (Unit {0}) (Unit {0}) }
under_well (suc d) =
    let v = under_well d in
    record { members = braces_well (under d) v.members v.group d; group = group_braces_well (under d) v.members v.group d }
