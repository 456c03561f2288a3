-- What stands before the first fault in the body of an object or a group can go on, level by level.
use Rattle.std.proofs.Common.{◌≡◌, ℕ, zero, suc, ◌≤◌, true, List, [], ◌∷◌, ◌++◌, Option, Some, Ok, Err, refl, sym, ap, ◌∙◌, arith, append_assoc, append-nil}
use Rattle.qml_ast.specs.declared.decl.Member.{Member}
use Rattle.qml_ast.specs.declared.fault.DocFault.{DocFault}
use Rattle.qml_grammar.specs.DocumentGrammar.{IsMember, AreEntries, no_entries, more_entries, IsEntry, AreMembers, no_members, more_members}
use Rattle.qml_grammar.specs.Documents.{Under, entry, one_entry, entries, member_in, one_member, members, member_braces, group_braces, under}
use Rattle.qml_grammar.specs.Ends.{ended}
use Rattle.qml_grammar.specs.ExpressionGrammar.{IsMark}
use Rattle.qml_grammar.specs.Inputs.{Input, ahead, after, expect, while_next}
use Rattle.qml_grammar.specs.Lexemes.{Token, head, is_mark}
use Rattle.qml_grammar.specs.StatementGrammar.{follow}
use Rattle.qml_grammar.specs.Statements.{goes_on_inside}
use Rattle.qml_grammar.specs.declared.mark.Mark.TheVariants.{OpenBrace, CloseBrace}
use Rattle.grammar_laws.specs.Laws.{Way}
use Rattle.grammar_laws.proofs.Local.{before, onward, bind_err}
use Rattle.grammar_laws.proofs.Tools.{ahead_some, way_token}
use Rattle.grammar_laws.proofs.Viable.{too_deep_once}
use Rattle.statement_laws.proofs.Ends.{IsEnded}
use Rattle.statement_laws.proofs.Loops.{while_lists}
use Rattle.document_laws.proofs.Lists.{member_begins, items_members, AnEntry, ended_entry, entry_begins, items_entries}
use Rattle.document_laws.proofs.Sound.{SoundUnder, entry_covers, member_added, entry_added, under_sound}
use Rattle.prefix_laws.proofs.DocumentSteps.{Onward}
use Rattle.prefix_laws.proofs.Going.{Halts, halts_here, halts_as, halts_by, halts_behind, expect_place, made_err, halts_while, completes, fills, the_mark, mark_is}
use Rattle.prefix_laws.proofs.MemberPrefixes.{ended_halts, entry_halts, member_halts}
use Rattle.prefix_laws.proofs.Moved.{Becomes, same, brace, follow_becomes, moved_end}
use Rattle.prefix_laws.proofs.MovedDocuments.{moved_member, moved_entry, moved_entries, moved_members}
use Rattle.prefix_laws.proofs.ValuePrefixes.{IsBodyPrefix, IsGroupPrefix, PrefixesUnder, empty_body, empty_group}
use Rattle.prefix_laws.proofs.WordPrefixes.{IsMemberPrefix}

-- Members in a row

-- with others behind them the tokens are members, before a `}`
abbrev pub AreMembersPrefix : ℕ → List Token → Type 0
AreMembersPrefix d = Onward (λ most. AreMembers most (suc d))

one_goes_on : (d : ℕ) (us : List Token) → IsMemberPrefix d us → AreMembersPrefix d us
one_goes_on d us w = completes w.others w.most w.value w.enough refl (λ next b. more_members (us ++ w.others) [] w.value [] (sym (append-nil (us ++ w.others))) (sym (append-nil w.value)) (w.spelled next b) (no_members refl refl))

-- behind a member, whose next token is the first one of the others, if there is one
more_go_on : (d : ℕ) (ts us : List Token) (xs : List Member) (k : Input) (n : ℕ) (j : Input) → IsMember 200 d ts (ahead k) xs → Way k j n us → AreMembersPrefix d us → AreMembersPrefix d (ts ++ us)
more_go_on d ts [] xs k n j p w g = completes [] 200 (xs ++ []) (omega arith) (sym (append-nil (ts ++ []))) (λ next b. more_members ts [] xs [] refl refl (moved_member (omega arith) (brace b) p) (no_members refl refl))
more_go_on d ts (u ∷ us) xs k n j p w g = completes g.others g.most (xs ++ g.value) g.enough (sym (append_assoc ts (u ∷ us) g.others)) (λ next b. more_members ts (u ∷ us ++ g.others) xs g.value refl refl (moved_member g.enough (same (ap head w.rest)) p) (g.spelled next b))

body_goes_on : (d : ℕ) (o : Token) (us : List Token) → IsMark o OpenBrace → AreMembersPrefix d us → IsBodyPrefix (suc d) (o ∷ us)
body_goes_on d o us is w = fills (w.others ++ the_mark CloseBrace ∷ []) w.most w.value w.enough (append_assoc (o ∷ us) w.others (the_mark CloseBrace ∷ [])) (record {
  less = suc d;
  one_less = refl;
  begin = o;
  text = us ++ w.others;
  close = the_mark CloseBrace;
  is = refl;
  begins = is;
  spelled = w.spelled (Some (the_mark CloseBrace)) (mark_is CloseBrace);
  closes = mark_is CloseBrace;
})

body_closes : (d : ℕ) (o : Token) (ts : List Token) (next : Option Token) (xs : List Member) → IsMark o OpenBrace → AreMembers 200 d ts next xs → IsBodyPrefix (suc d) (o ∷ ts)
body_closes d o ts next xs is p = body_goes_on d o ts is (completes [] 200 xs (omega arith) (sym (append-nil ts)) (λ there b. moved_members (omega arith) (brace b) p))

-- Entries in a row

-- with others behind them the tokens are entries of the group of this name, before a `}`
abbrev AreEntriesPrefix : ℕ → List ℕ → List Token → Type 0
AreEntriesPrefix d n = Onward (λ most. AreEntries most (suc d) n)

entry_goes_on : (d : ℕ) (n : List ℕ) (us : List Token) → Onward (λ most. IsEnded (IsEntry most (suc d) n)) us → AreEntriesPrefix d n us
entry_goes_on d n us w = completes w.others w.most (w.value ∷ []) w.enough refl (λ next b. let p = w.spelled next b in more_entries p.text p.end [] w.value [] (p.both ∙ sym (append-nil (p.text ++ p.end))) refl p.spelled p.ends (no_entries refl refl))

-- an entry before others
entry_first : {most d : ℕ} {n : List ℕ} {ts : List Token} {next next' : Option Token} {xs : List Member} (vs : List Token) (ys : List Member) → 200 ≤ most → Becomes next (follow vs next') → AnEntry d n ts next xs → AreEntries most (suc d) n vs next' ys → AreEntries most (suc d) n (ts ++ vs) next' (xs ++ ys)
entry_first vs ys enough w (ended_entry us es y ts_is xs_is p e) ps =
    more_entries us es vs y ys (ap (λ ts. ts ++ vs) ts_is) (ap (λ xs. xs ++ ys) xs_is) (moved_entry enough (follow_becomes es w) p) (moved_end w e) ps

more_entries_go_on : (d : ℕ) (n : List ℕ) (ts us : List Token) (xs : List Member) (k : Input) (m : ℕ) (j : Input) → AnEntry d n ts (ahead k) xs → Way k j m us → AreEntriesPrefix d n us → AreEntriesPrefix d n (ts ++ us)
more_entries_go_on d n ts [] xs k m j p w g = completes [] 200 (xs ++ []) (omega arith) (sym (append-nil (ts ++ []))) (λ next b. entry_first [] [] (omega arith) (brace b) p (no_entries refl refl))
more_entries_go_on d n ts (u ∷ us) xs k m j p w g = completes g.others g.most (xs ++ g.value) g.enough (sym (append_assoc ts (u ∷ us) g.others)) (λ next b. entry_first (u ∷ us ++ g.others) g.value g.enough (same (ap head w.rest)) p (g.spelled next b))

group_goes_on : (d : ℕ) (n : List ℕ) (o : Token) (us : List Token) → IsMark o OpenBrace → AreEntriesPrefix d n us → IsGroupPrefix (suc d) n (o ∷ us)
group_goes_on d n o us is w = fills (w.others ++ the_mark CloseBrace ∷ []) w.most w.value w.enough (append_assoc (o ∷ us) w.others (the_mark CloseBrace ∷ [])) (record {
  less = suc d;
  one_less = refl;
  begin = o;
  text = us ++ w.others;
  close = the_mark CloseBrace;
  is = refl;
  begins = is;
  spelled = w.spelled (Some (the_mark CloseBrace)) (mark_is CloseBrace);
  closes = mark_is CloseBrace;
})

group_closes : (d : ℕ) (n : List ℕ) (o : Token) (ts : List Token) (next : Option Token) (xs : List Member) → IsMark o OpenBrace → AreEntries 200 d n ts next xs → IsGroupPrefix (suc d) n (o ∷ ts)
group_closes d n o ts next xs is p = group_goes_on d n o ts is (completes [] 200 xs (omega arith) (sym (append-nil ts)) (λ there b. moved_entries (omega arith) (brace b) p))

module _ (d : ℕ) (v : Under) (sound : SoundUnder d v) (inside : PrefixesUnder d v) where
  -- Bodies of objects

  one_member_halts : (xs : List Member) (i : Input) (e : DocFault) → goes_on_inside (ahead i) ≡ true → one_member d v xs i ≡ Err e → Halts (AreMembersPrefix d) i e
  unfolding one_member
  one_member_halts xs i e t h = halts_as (one_goes_on d) (member_halts d v sound inside i e (made_err (member_in d v) _ i e h))

  later_member_halts : (xs : List Member) (i : Input) (ys : List Member) (k : Input) (e : DocFault) → goes_on_inside (ahead i) ≡ true → one_member d v xs i ≡ Ok (ys, k) → Halts (AreMembersPrefix d) k e → Halts (AreMembersPrefix d) i e
  later_member_halts xs i ys k e t h later =
      let a = member_added d v sound xs i ys k t h in
      let c = a.covers in
      halts_behind c.way (halts_by (λ us n j w g. more_go_on d c.text us a.values k n j c.spelled w g) later)

  pub body_halts : (i : Input) (e : DocFault) → is_mark OpenBrace (ahead i) ≡ true → member_braces d v i ≡ Err e → Halts (IsBodyPrefix (suc d)) i e
  unfolding member_braces members
  body_halts i e t h =
      let o = ahead_some (is_mark OpenBrace) refl i t in
      halts_behind (way_token o.token o.rest) (elim (bind_err (while_next goes_on_inside (one_member d v) [] (after i)) _ _ h) [
        | before g ↦ halts_as (λ us w. body_goes_on d o.token us o.is w) (halts_while (AreMembersPrefix d) goes_on_inside (one_member d v) one_member_halts later_member_halts [] (after i) e g)
        | onward xs k g g2 ↦ (
            let l = while_lists (IsMember 200 d) goes_on_inside (one_member d v) (member_begins d) refl (member_added d v sound) [] (after i) xs k g in
            let c = l.covers in
            halts_behind c.way (halts_here (expect_place CloseBrace k e (made_err (expect CloseBrace) _ k e g2)) (body_closes d o.token c.text (ahead k) l.values o.is (items_members c.spelled))))
      ])

  -- Bodies of groups

  one_entry_halts : (n : List ℕ) (xs : List Member) (i : Input) (e : DocFault) → goes_on_inside (ahead i) ≡ true → one_entry d v n xs i ≡ Err e → Halts (AreEntriesPrefix d n) i e
  unfolding one_entry
  one_entry_halts n xs i e t h = halts_as (entry_goes_on d n) (ended_halts (λ most. IsEntry most (suc d) n) (entry d v n) (IsEntry 200 d n) i (entry_covers d v sound n i) (λ ts next next' x w s. moved_entry (omega arith) w s) (λ f g. entry_halts d v sound inside n i f g) e (made_err (ended (entry d v n)) _ i e h))

  later_entry_halts : (n : List ℕ) (xs : List Member) (i : Input) (ys : List Member) (k : Input) (e : DocFault) → goes_on_inside (ahead i) ≡ true → one_entry d v n xs i ≡ Ok (ys, k) → Halts (AreEntriesPrefix d n) k e → Halts (AreEntriesPrefix d n) i e
  later_entry_halts n xs i ys k e t h later =
      let a = entry_added d v sound n xs i ys k t h in
      let c = a.covers in
      halts_behind c.way (halts_by (λ us m j w g. more_entries_go_on d n c.text us a.values k m j c.spelled w g) later)

  pub group_halts : (n : List ℕ) (i : Input) (e : DocFault) → is_mark OpenBrace (ahead i) ≡ true → group_braces d v n i ≡ Err e → Halts (IsGroupPrefix (suc d) n) i e
  unfolding group_braces entries
  group_halts n i e t h =
      let o = ahead_some (is_mark OpenBrace) refl i t in
      halts_behind (way_token o.token o.rest) (elim (bind_err (while_next goes_on_inside (one_entry d v n) [] (after i)) _ _ h) [
        | before g ↦ halts_as (λ us w. group_goes_on d n o.token us o.is w) (halts_while (AreEntriesPrefix d n) goes_on_inside (one_entry d v n) (one_entry_halts n) (later_entry_halts n) [] (after i) e g)
        | onward xs k g g2 ↦ (
            let l = while_lists (AnEntry d n) goes_on_inside (one_entry d v n) (entry_begins d n) refl (entry_added d v sound n) [] (after i) xs k g in
            let c = l.covers in
            halts_behind c.way (halts_here (expect_place CloseBrace k e (made_err (expect CloseBrace) _ k e g2)) (group_closes d n o.token c.text (ahead k) l.values o.is (items_entries c.spelled))))
      ])

-- All levels

pub prefixes_under : (d : ℕ) → PrefixesUnder d (under d)
unfolding under
prefixes_under zero = record {
  members = λ i e t h. halts_here (too_deep_once {A = List Member} i e h).place (empty_body 0);
  group = λ n i e t h. halts_here (too_deep_once {A = List Member} i e h).place (empty_group 0 n);
}
prefixes_under (suc d) = record {
  members = body_halts d (under d) (under_sound d) (prefixes_under d);
  group = group_halts d (under d) (under_sound d) (prefixes_under d);
}
