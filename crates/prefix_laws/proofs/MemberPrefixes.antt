-- What stands before the first fault of a member or of an entry of a group can go on.
use Rattle.std.proofs.Common.{◌≡◌, ℕ, suc, ◌&&◌, not, Bool, true, false, List, [], ◌∷◌, ◌++◌, Option, Some, None, Result, Err, inl, inr, refl, sym, ap, ◌∙◌, arith, append_assoc, append-nil, codes, bytes_eq}
use Rattle.std.proofs.lemmas.Bool.{and_parts}
use Rattle.qml_ast.specs.declared.decl.Member.{Member}
use Rattle.qml_ast.specs.declared.decl.Member.TheVariants as mm
use Rattle.qml_ast.specs.declared.fault.DocFault.{DocFault}
use Rattle.qml_ast.specs.declared.fault.DocFault.TheVariants.{Unsupported}
use Rattle.qml_ast.specs.declared.path.Path.{Path}
use Rattle.qml_ast.specs.declared.stmt.Stmt.TheVariants.{Empty}
use Rattle.qml_grammar.specs.DocumentGrammar.{IsName, is_own_word, IsPath, one, two, IsShortMember, initialised as an_initialised, handled as a_handled, short, group as a_group, child as a_child, IsEntry, entry as an_entry}
use Rattle.qml_grammar.specs.Documents.{Under, object_in, value_in, id_member, property, fixed_property, signal_member, method, second_name, path_behind, path, handled, initialised, behind_path, path_member, entry_name, entry, alone, child, grouped, begins_on, opens_or_on, is_unsupported_member, named_member, other_member, member_in}
use Rattle.qml_grammar.specs.Ends.{ended}
use Rattle.qml_grammar.specs.ExpressionGrammar.{IsMark}
use Rattle.qml_grammar.specs.Inputs.{Input, Parser, ahead, after, place}
use Rattle.qml_grammar.specs.Lexemes.{Token, head, tail, is_mark, is_word, name_of, last_of}
use Rattle.qml_grammar.specs.Names.{upper_first, lower_first, name_is, is_handler_name, is_handler_path, is_dotted_type, begins_object, begins_group}
use Rattle.qml_grammar.specs.StatementGrammar.{IsEnd, nothing, empty}
use Rattle.qml_grammar.specs.Statements.{statement}
use Rattle.qml_grammar.specs.declared.mark.Mark.TheVariants.{OpenBrace, Semicolon, Colon, Dot}
use Rattle.qml_grammar.specs.declared.word.Word.TheVariants as ww
use Rattle.grammar_laws.specs.Faults.{IsFaultAt}
use Rattle.grammar_laws.proofs.Local.{before, onward, bind_err}
use Rattle.grammar_laws.proofs.Tools.{if_ok, ahead_some, way_token}
use Rattle.grammar_laws.proofs.Viable.{name_once}
use Rattle.statement_laws.proofs.Ends.{IsEnded}
use Rattle.statement_laws.proofs.Ways.{SoundAt}
use Rattle.document_laws.proofs.Names.{name_test}
use Rattle.document_laws.proofs.Paths.{path_read, entry_name_read}
use Rattle.document_laws.proofs.Sound.{SoundUnder, id_covers, property_covers, fixed_covers, signal_covers, path_covers}
use Rattle.document_laws.proofs.Steps.{first_is}
use Rattle.document_laws.proofs.Tokens.{own_not}
use Rattle.prefix_laws.proofs.DocumentSteps.{refused_place, unsupported_place, never, Onward, goes_with}
use Rattle.prefix_laws.proofs.DocumentTokens.{lower_name, a_lower, lower_is, lower_no_handler, lower_not_own}
use Rattle.prefix_laws.proofs.Going.{HaltsOn, Halts, halts_here, halts_as, halts_behind, halts_expect, halts_name, made_err, halts_ended, completes, the_mark, mark_is}
use Rattle.prefix_laws.proofs.PartPrefixes.{Brace}
use Rattle.prefix_laws.proofs.Moved.{Becomes, brace, brace_ends, brace_no_semicolon}
use Rattle.prefix_laws.proofs.MovedDocuments.{moved_short}
use Rattle.prefix_laws.proofs.StatementPrefixes.{IsStmtPrefixFor, any_statement_halts}
use Rattle.prefix_laws.proofs.ValuePrefixes.{IsValuePrefix, IsObjectPrefix, IsGroupPrefix, PrefixesUnder, empty_body, named_object, missing_object, missing_value, object_halts, value_halts}
use Rattle.prefix_laws.proofs.WordPrefixes.{IsShortPrefix, IsMemberPrefix, id_halts, property_halts, fixed_halts, signal_halts, method_halts}

-- What has an end

-- nothing more is wanted before a `}`
end_at_brace : (last next : Option Token) → Brace next → IsEnd last [] next
end_at_brace last next b = nothing refl (brace_no_semicolon next b) (brace_ends last next b)

module _ {A : Type 0} (Spells : ℕ → List Token → Option Token → A → Type 0) where
  -- with its end
  abbrev WithEnd : ℕ → List Token → Option Token → A → Type 0
  WithEnd most = IsEnded (Spells most)

  ends_there : (most : ℕ) (ts : List Token) (next : Option Token) (x : A) → Brace next → Spells most ts next x → WithEnd most ts next x
  ends_there most ts next x b p = record { text = ts; end = []; both = sym (append-nil ts); spelled = p; ends = end_at_brace (last_of ts) next b }

  pub ended_halts : (p : Parser A) (Read : List Token → Option Token → A → Type 0) (i : Input) → SoundAt p Read i → ((ts : List Token) (next next' : Option Token) (x : A) → Becomes next next' → Read ts next x → Spells 200 ts next' x) → ((e : DocFault) → p i ≡ Err e → Halts (Onward Spells) i e) → (e : DocFault) → ended p i ≡ Err e → Halts (Onward WithEnd) i e
  ended_halts p Read i sound moves fails = halts_ended p i
      (λ e g. halts_as (λ ts w. completes w.others w.most w.value w.enough refl (λ next b. ends_there w.most (ts ++ w.others) next w.value b (w.spelled next b))) (fails e g))
      (λ x k g.
      let c = sound x k g in
      record { nodes = 0; text = c.text; way = c.way; viable = goes_with [] x (sym (append-nil c.text)) (λ next b. ends_there 200 c.text next x b (moves c.text (ahead k) next x (brace b) c.spelled)) })

-- Paths

path_by : (d : ℕ) (ts more : List Token) (t : Token) (us : List Token) (p : Path) (q : Bool) → is_handler_path p ≡ q → t ∷ us ≡ ts ++ more → IsPath (t ∷ us) p → IsShortPrefix d ts
path_by d ts more t us p true h e path_is =
    let rest : List Token = the_mark Colon ∷ the_mark Semicolon ∷ [] in
    goes_with (more ++ rest) (mm.Handler p Empty t.span) (ap (λ vs. vs ++ rest) e ∙ append_assoc ts more rest) (λ next b. a_handled t us (the_mark Colon) (the_mark Semicolon ∷ []) p Empty refl refl path_is h (mark_is Colon) (empty (the_mark Semicolon) refl refl (mark_is Semicolon)))
path_by d ts more t us p false h e path_is =
    let w = missing_value d in
    let y = w.value in
    let rest : List Token = the_mark Colon ∷ w.others in
    completes (more ++ rest) w.most (mm.Init p y.init y.span t.span) w.enough (ap (λ vs. vs ++ rest) e ∙ append_assoc ts more rest) (λ next b. an_initialised t us (the_mark Colon) w.others p y.init y.span refl refl path_is h (mark_is Colon) (w.spelled next b))

-- a path, maybe with more behind the tokens, goes on with a statement or a value
path_goes_on : (d : ℕ) (ts more : List Token) (t : Token) (us : List Token) (p : Path) → t ∷ us ≡ ts ++ more → IsPath (t ∷ us) p → IsShortPrefix d ts
path_goes_on d ts more t us p = path_by d ts more t us p (is_handler_path p) refl

missing_path : (d : ℕ) → IsShortPrefix d []
missing_path d = path_goes_on d [] (a_lower ∷ []) a_lower [] (record { first = lower_name; second = None }) refl (one a_lower lower_name refl refl lower_not_own lower_is)

-- a dot behind the first name goes on with another name
dot_goes_on : (d : ℕ) (t o : Token) (n : List ℕ) → is_own_word (Some t) ≡ false → IsName t n → IsMark o Dot → IsShortPrefix d (t ∷ o ∷ [])
dot_goes_on d t o n own is dot = path_goes_on d (t ∷ o ∷ []) (a_lower ∷ []) t (o ∷ a_lower ∷ []) (record { first = n; second = Some lower_name }) refl (two t o a_lower n lower_name refl refl own is dot lower_is (inl lower_no_handler))

second_place : (n : List ℕ) (i : Input) (e : DocFault) → second_name n i ≡ Err e → IsFaultAt e (place i)
unfolding second_name
second_place n i e h = elim (if_ok (name_is is_handler_name (ahead i) && not (bytes_eq n (codes "Component"))) _ _ _ h) [
  | inl a ↦ refused_place {A = List ℕ} i e a.1
  | inr a ↦ (name_once i e a.1).place
]

path_halts : (d : ℕ) (i : Input) (e : DocFault) → is_own_word (ahead i) ≡ false → path i ≡ Err e → Halts (IsShortPrefix d) i e
unfolding path path_behind
path_halts d i e own h = halts_name _ i (missing_path d) (λ t n k f is w g. elim (if_ok (is_mark Dot (ahead k)) _ _ _ g) [
  | inl a ↦ (
      let o = ahead_some (is_mark Dot) refl k a.0 in
      halts_behind (way_token o.token o.rest) (halts_here (second_place n (after k) f (made_err (second_name n) _ (after k) f a.1)) (dot_goes_on d t o.token n (sym (first_is is_own_word w) ∙ own) is o.is)))
  | inr a ↦ never _ k f a.1
]) e h

module _ (d : ℕ) (t : Token) (us : List Token) (o : Token) (p : Path) (path_is : IsPath (t ∷ us) p) (colon : IsMark o Colon) where
  handled_on : is_handler_path p ≡ true → (vs : List Token) → IsStmtPrefixFor d vs → IsShortPrefix d (((t ∷ us) ++ o ∷ []) ++ vs)
  handled_on h vs w = completes w.others w.most (mm.Handler p w.value t.span) w.enough (simp append_assoc refl) (λ next b. a_handled t us o (vs ++ w.others) p w.value refl refl path_is h colon (w.spelled next b))

  initialised_on : is_handler_path p ≡ false → (vs : List Token) → IsValuePrefix d vs → IsShortPrefix d (((t ∷ us) ++ o ∷ []) ++ vs)
  initialised_on h vs w = let y = w.value in completes w.others w.most (mm.Init p y.init y.span t.span) w.enough (simp append_assoc refl) (λ next b. an_initialised t us o (vs ++ w.others) p y.init y.span refl refl path_is h colon (w.spelled next b))

-- Entries of groups

-- with others behind them the tokens are an entry of the group of this name, without its end, before a `}`
abbrev pub IsEntryPrefix : ℕ → List ℕ → List Token → Type 0
IsEntryPrefix d n = Onward (λ most. IsEntry most (suc d) n)

entry_on : (d : ℕ) (n : List ℕ) (t o : Token) (m : List ℕ) → IsName t m → is_handler_name m ≡ false → IsMark o Colon → (us : List Token) → IsValuePrefix d us → IsEntryPrefix d n (t ∷ o ∷ us)
entry_on d n t o m is plain colon us w =
    let y = w.value in
    completes w.others w.most (mm.Init (record { first = n; second = Some m }) y.init y.span t.span) w.enough refl (λ next b. an_entry t o (us ++ w.others) m y.init y.span refl refl is plain colon (w.spelled next b))

-- tokens of an entry go on as it does with others
entry_before : (d : ℕ) (n : List ℕ) (ts us : List Token) → IsEntryPrefix d n (ts ++ us) → IsEntryPrefix d n ts
entry_before d n ts us w = completes (us ++ w.others) w.most w.value w.enough (append_assoc ts us w.others) w.spelled

some_entry : (d : ℕ) (n : List ℕ) (t : Token) (m : List ℕ) → IsName t m → is_handler_name m ≡ false → IsEntryPrefix d n (t ∷ [])
some_entry d n t m is plain = entry_before d n (t ∷ []) (the_mark Colon ∷ []) (entry_on d n t (the_mark Colon) m is plain (mark_is Colon) [] (missing_value d))

missing_entry : (d : ℕ) (n : List ℕ) → IsEntryPrefix d n []
missing_entry d n = entry_before d n [] (a_lower ∷ []) (some_entry d n a_lower lower_name lower_is lower_no_handler)

entry_name_place : (i : Input) (e : DocFault) → entry_name i ≡ Err e → IsFaultAt e (place i)
unfolding entry_name
entry_name_place i e h = elim (if_ok (name_is is_handler_name (ahead i)) _ _ _ h) [
  | inl a ↦ refused_place {A = List ℕ} i e a.1
  | inr a ↦ (name_once i e a.1).place
]

-- Members

child_on : (d : ℕ) (ts : List Token) → IsObjectPrefix d ts → IsMemberPrefix d ts
child_on d ts w = completes w.others w.most (mm.Child w.value ∷ []) w.enough refl (λ next b. a_child w.value refl w.spelled)

missing_member : (d : ℕ) → IsMemberPrefix d []
missing_member d = child_on d [] (missing_object d)

group_on : (d : ℕ) (t : Token) (n : List ℕ) → is_own_word (Some t) ≡ false → IsName t n → lower_first n ≡ true → (us : List Token) → IsGroupPrefix d n us → IsMemberPrefix d (t ∷ us)
group_on d t n own is low us w =
    let p = w.spelled in
    completes w.others w.most w.value w.enough refl (λ next b. a_group p.less t p.begin p.text p.close n p.one_less (ap (λ ts. t ∷ ts) p.is) own is low p.begins p.spelled p.closes)

short_on : (d : ℕ) (ts : List Token) → Onward (λ most. IsEnded (IsShortMember most (suc d))) ts → IsMemberPrefix d ts
short_on d ts w = completes w.others w.most (w.value ∷ []) w.enough refl (λ next b. let p = w.spelled next b in short p.text p.end w.value p.both refl p.spelled p.ends)

module _ (d : ℕ) (v : Under) (sound : SoundUnder d v) (inside : PrefixesUnder d v) where
  behind_path_halts : (t : Token) (us : List Token) (o : Token) (p : Path) (i k : Input) (e : DocFault) → IsPath (t ∷ us) p → IsMark o Colon → behind_path d v p (place i) k ≡ Err e → HaltsOn (IsShortPrefix d) ((t ∷ us) ++ o ∷ []) k e
  unfolding behind_path handled initialised
  behind_path_halts t us o p i k e path_is colon h = elim (if_ok (is_handler_path p) _ _ _ h) [
    | inl a ↦ halts_as (handled_on d t us o p path_is colon a.0) (any_statement_halts d k e (made_err (statement d) _ k e a.1))
    | inr a ↦ halts_as (initialised_on d t us o p path_is colon a.0) (value_halts d v inside k e (made_err (value_in d v) _ k e a.1))
  ]

  path_member_halts : (i : Input) (e : DocFault) → is_own_word (ahead i) ≡ false → path_member d v i ≡ Err e → Halts (IsShortPrefix d) i e
  unfolding path_member
  path_member_halts i e own h = elim (bind_err (path i) _ _ h) [
    | before g ↦ path_halts d i e own g
    | onward p k g g2 ↦ (
        let q = path_read i p k own g in
        halts_behind q.way (halts_expect Colon _ k (path_goes_on d (q.token ∷ q.others) [] q.token q.others p (sym (append-nil (q.token ∷ q.others))) q.spelled)
        (λ o u l f colon w g3. behind_path_halts q.token q.others o p i l f q.spelled colon g3) e g2))
  ]

  pub entry_halts : (n : List ℕ) (i : Input) (e : DocFault) → entry d v n i ≡ Err e → Halts (IsEntryPrefix d n) i e
  unfolding entry
  entry_halts n i e h = elim (bind_err (entry_name i) _ _ h) [
    | before g ↦ halts_here (entry_name_place i e g) (missing_entry d n)
    | onward m k g g2 ↦ (
        let r = entry_name_read i m k g in
        let t = r.0 in
        halts_behind t.way (halts_expect Colon _ k (some_entry d n t.token m t.is r.1)
        (λ o u l f colon w g3. halts_as (entry_on d n t.token o m t.is r.1 colon) (value_halts d v inside l f (made_err (value_in d v) _ l f g3))) e g2))
  ]

  -- a member with an end, alone
  short_halts : (p : Parser Member) (i : Input) → SoundAt p (IsShortMember 200 d) i → ((e : DocFault) → p i ≡ Err e → Halts (IsShortPrefix d) i e) → (e : DocFault) → alone (ended p) i ≡ Err e → Halts (IsMemberPrefix d) i e
  unfolding alone
  short_halts p i covers fails e h = halts_as (short_on d) (ended_halts (λ most. IsShortMember most (suc d)) p (IsShortMember 200 d) i covers (λ ts next next' x w s. moved_short (omega arith) w s) fails e (made_err (ended p) _ i e h))

  child_halts : (i : Input) (e : DocFault) → child v i ≡ Err e → Halts (IsMemberPrefix d) i e
  unfolding child
  child_halts i e h = halts_as (child_on d) (object_halts d v inside i e (made_err (object_in v) _ i e h))

  on_halts : (i : Input) (e : DocFault) → begins_on i.rest ≡ true → ◌≡◌ {A = Result (List Member × Input) DocFault} (Err (Unsupported (place (after i)))) (Err e) → Halts (IsMemberPrefix d) i e
  on_halts i e h g =
      let t = ahead_some (name_is upper_first) refl i (and_parts (name_is upper_first (ahead i)) (is_word ww.On (head (tail i.rest))) h).0 in
      let n = name_test upper_first (name_of (Some t.token)) t.is in
      halts_behind (way_token t.token t.rest) (halts_here (unsupported_place {A = List Member} (after i) e g) (child_on d (t.token ∷ []) (named_object d t.token n.0 [] n.1 n.2 (empty_body d))))

  group_halts : (i : Input) (e : DocFault) → is_own_word (ahead i) ≡ false → begins_group i.rest ≡ true → grouped v i ≡ Err e → Halts (IsMemberPrefix d) i e
  unfolding grouped
  group_halts i e own b h = halts_name _ i (missing_member d) (λ t n k f is w g.
      let s = and_parts (name_is lower_first (ahead i)) (is_mark OpenBrace (head (tail i.rest))) b in
      let low = name_test lower_first (name_of (ahead i)) s.0 in
      let same : low.0 ≡ n = (let same_name = sym low.1 ∙ (first_is name_of w ∙ is) in cc) in
      let opens = ap (λ ts. is_mark OpenBrace (head (tail ts))) (sym w.rest) ∙ s.1 in
      halts_as (group_on d t n (sym (first_is is_own_word w) ∙ own) is (ap lower_first (sym same) ∙ low.2)) (inside.group n k f opens g)) e h

  named_halts : (i : Input) (e : DocFault) → is_own_word (ahead i) ≡ false → named_member d v i ≡ Err e → Halts (IsMemberPrefix d) i e
  unfolding named_member
  named_halts i e own h = elim (if_ok (begins_object i.rest) _ _ _ h) [
    | inl a ↦ child_halts i e a.1
    | inr a ↦ elim (if_ok (begins_on i.rest) _ _ _ a.1) [
      | inl b ↦ on_halts i e b.0 b.1
      | inr b ↦ elim (if_ok (is_dotted_type opens_or_on i.rest) _ _ _ b.1) [
        | inl c ↦ halts_here (unsupported_place {A = List Member} i e c.1) (missing_member d)
        | inr c ↦ elim (if_ok (begins_group i.rest) _ _ _ c.1) [
          | inl f ↦ group_halts i e own f.0 f.1
          | inr f ↦ short_halts (path_member d v) i (path_covers d v sound i own) (λ g k. path_member_halts i g own k) e f.1
        ]
      ]
    ]
  ]

  pub member_halts : (i : Input) (e : DocFault) → member_in d v i ≡ Err e → Halts (IsMemberPrefix d) i e
  unfolding member_in other_member alone
  member_halts i e h = elim (if_ok (is_word ww.Id (ahead i)) _ _ _ h) [
    | inl a ↦ short_halts id_member i (id_covers d v sound i a.0) (λ g k. id_halts d i g a.0 k) e a.1
    | inr a ↦ elim (if_ok (is_word ww.Property (ahead i)) _ _ _ a.1) [
      | inl b ↦ short_halts (property d v false) i (property_covers d v sound i b.0) (λ g k. property_halts d v inside i g b.0 k) e b.1
      | inr b ↦ elim (if_ok (is_word ww.ReadOnly (ahead i)) _ _ _ b.1) [
        | inl c ↦ short_halts (fixed_property d v) i (fixed_covers d v sound i c.0) (λ g k. fixed_halts d v inside i g c.0 k) e c.1
        | inr c ↦ elim (if_ok (is_word ww.Signal (ahead i)) _ _ _ c.1) [
          | inl f ↦ short_halts signal_member i (signal_covers d v sound i f.0) (λ g k. signal_halts d i g f.0 k) e f.1
          | inr f ↦ elim (if_ok (is_word ww.Function (ahead i)) _ _ _ f.1) [
            | inl g ↦ method_halts d i e g.0 (made_err (method d) _ i e g.1)
            | inr g ↦ elim (if_ok (is_unsupported_member (ahead i)) _ _ _ g.1) [
              | inl k ↦ halts_here (unsupported_place {A = List Member} i e k.1) (missing_member d)
              | inr k ↦ elim (if_ok (is_word ww.Else (ahead i)) _ _ _ k.1) [
                | inl l ↦ halts_here (refused_place {A = List Member} i e l.1) (missing_member d)
                | inr l ↦ named_halts i e (own_not (ahead i) (record { id = a.0; property = b.0; read_only = c.0; signal = f.0; function = g.0; unsupported = k.0; otherwise = l.0 })) l.1
              ]
            ]
          ]
        ]
      ]
    ]
  ]
