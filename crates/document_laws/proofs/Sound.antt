-- What is read as a value, an object, a member or a document is spelled by the productions, level by level.
use Rattle.std.proofs.Common.{◌≡◌, ℕ, zero, suc, Bool, true, false, is_some, if◌then◌else◌, List, [], ◌∷◌, ◌++◌, Option, Some, None, Result, Ok, Err, inl, inr, refl, sym, ap, subst, subst₂, ◌∙◌}
use Rattle.std.proofs.lemmas.Bool.{and_parts}
use Rattle.std.proofs.lemmas.List.{append-nil}
use Rattle.qml_ast.specs.declared.decl.Decl.{Decl, roll-Decl}
use Rattle.qml_ast.specs.declared.decl.Init.{Init}
use Rattle.qml_ast.specs.declared.decl.Init.TheVariants as ii
use Rattle.qml_ast.specs.declared.decl.Member.{Member}
use Rattle.qml_ast.specs.declared.decl.Member.TheVariants as mm
use Rattle.qml_ast.specs.declared.document.Document.{Document}
use Rattle.qml_ast.specs.declared.document.Import.{Import}
use Rattle.qml_ast.specs.declared.fault.DocFault.{DocFault}
use Rattle.qml_ast.specs.declared.path.Path.{Path}
use Rattle.qml_ast.specs.declared.span.Span.{Span}
use Rattle.qml_ast.specs.declared.stmt.Stmt.{Stmt}
use Rattle.qml_grammar.specs.DocumentGrammar.{IsName, is_own_word, IsObject, object, IsValue, expr as an_expr, value_object, IsMaybeValue, no_value, a_value, IsShortMember, id as an_id, property as a_property, fixed as a_fixed, signal as a_signal, initialised as an_initialised, handled as a_handled, IsMember, short, method as a_method, group as a_group, child as a_child, AreEntries, IsEntry, entry as an_entry, AreMembers, AreImports, IsDocument, document as a_document}
use Rattle.qml_grammar.specs.Documents.{Valued, value_place, Under, body, object_in, object_value, expr_value, value_in, id_member, property_kind, property_value, kind_and_name, property, fixed_property, signal_params, signal_member, method_params, method_block, method_behind, method, path, handled, initialised, behind_path, path_member, entry_name, entry, one_entry, entries, alone, child, grouped, begins_on, opens_or_on, is_unsupported_member, named_member, other_member, member_in, one_member, members, member_braces, group_braces, under, imports, root, nothing_more, document, reading}
use Rattle.qml_grammar.specs.Ends.{ended}
use Rattle.qml_grammar.specs.ExpressionGrammar.{IsMark, IsExpr}
use Rattle.qml_grammar.specs.Expressions.{whole}
use Rattle.qml_grammar.specs.Inputs.{Input, Parser, ahead, after, place, expect, any_name}
use Rattle.qml_grammar.specs.Lexemes.{Token, head, tail, is_mark, is_word, name_of}
use Rattle.qml_grammar.specs.Names.{upper_first, lower_first, is_handler_path, name_is, is_dotted_type, begins_object, begins_group}
use Rattle.qml_grammar.specs.StatementGrammar.{follow}
use Rattle.qml_grammar.specs.Statements.{statement, goes_on_inside}
use Rattle.qml_grammar.specs.declared.mark.Mark.TheVariants.{OpenBrace, CloseBrace, Colon}
use Rattle.qml_grammar.specs.declared.word.Word.TheVariants as ww
use Rattle.grammar_laws.specs.Laws.{Way}
use Rattle.grammar_laws.proofs.First.{expr_begins}
use Rattle.grammar_laws.proofs.Reading.{whole_reads}
use Rattle.grammar_laws.proofs.Tools.{bind_ok, if_ok, ahead_some, ahead_gives, way_none, way_token, way_then, expected, Named, named, same_value, same_input}
use Rattle.statement_laws.specs.Laws.{Covers, IsBlockBefore}
use Rattle.statement_laws.proofs.Ends.{ended_covers}
use Rattle.statement_laws.proofs.Loops.{Added, Closed, until_brace_closed}
use Rattle.statement_laws.proofs.Sound.{statement_sound, block_sound}
use Rattle.statement_laws.proofs.Ways.{ahead_follow, covers_to}
use Rattle.document_laws.specs.Laws.{IsValued, IsObjectBefore}
use Rattle.document_laws.proofs.Imports.{imports_cover}
use Rattle.document_laws.proofs.Lists.{member_begins, items_members, AnEntry, ended_entry, entry_begins, items_entries}
use Rattle.document_laws.proofs.Names.{no_type, name_test}
use Rattle.document_laws.proofs.Params.{kind_named, signal_params_cover, method_params_cover}
use Rattle.document_laws.proofs.Paths.{PathRead, path_read, entry_name_read}
use Rattle.document_laws.proofs.Places.{place_within}
use Rattle.document_laws.proofs.Steps.{placed, first_is}
use Rattle.document_laws.proofs.Tokens.{own_not}

-- a level was left, for what stands in braces
pub record Braced (Spells : ℕ → List Token → Option Token → List Member → Type 0) (d : ℕ) (i j : Input) (xs : List Member) : Type 0 where
  pub less : ℕ
  pub one_less : d ≡ suc less
  pub begin : Token
  pub text : List Token
  pub close : Token
  pub way : Way i j 0 (begin ∷ text ++ close ∷ [])
  pub begins : IsMark begin OpenBrace
  pub spelled : Spells less text (Some close) xs
  pub closes : IsMark close CloseBrace

-- entries of the group of the name
abbrev pub EntriesOf : List ℕ → ℕ → List Token → Option Token → List Member → Type 0
EntriesOf n d ts next xs = AreEntries 200 d n ts next xs

-- the readings one level further in are right
pub record SoundUnder (d : ℕ) (v : Under) : Type 0 where
  pub members : (i : Input) (xs : List Member) (j : Input) → is_mark OpenBrace (ahead i) ≡ true → v.members i ≡ Ok (xs, j) → Braced (AreMembers 200) d i j xs
  pub group : (n : List ℕ) (i : Input) (xs : List Member) (j : Input) → is_mark OpenBrace (ahead i) ≡ true → v.group n i ≡ Ok (xs, j) → Braced (EntriesOf n) d i j xs

-- [ ":" value ] that was read, behind the name of a property
record ValueRead (d : ℕ) (fixed : Bool) (k n : List ℕ) (at there : Span) (i j : Input) (x : Member) : Type 0 where
  text : List Token
  way : Way i j 0 text
  value : Option Init
  place : Span
  spelled : IsMaybeValue 200 d text (ahead j) value place there
  is : x ≡ mm.Property fixed k n value at place there

value_to : {d : ℕ} {fixed : Bool} {k n : List ℕ} {at there : Span} {i j l : Input} {x y : Member} → ValueRead d fixed k n at there i j x → x ≡ y → j ≡ l → ValueRead d fixed k n at there i l y
value_to {d = d} {fixed = fixed} {k = k} {n = n} {at = at} {there = there} {i = i} r e f = subst₂ (λ z m. ValueRead d fixed k n at there i m z) e f r

-- a kind, a name and maybe a value that were read
record PropertyRead (d : ℕ) (fixed : Bool) (i j : Input) (x : Member) : Type 0 where
  kind : Token
  name : Token
  text : List Token
  way : Way i j 0 (kind ∷ name ∷ text)
  kind_text : List ℕ
  name_text : List ℕ
  value : Option Init
  at : Span
  is : x ≡ mm.Property fixed kind_text name_text value kind.span at name.span
  kind_is : IsName kind kind_text
  no_alias : is_word ww.Alias (Some kind) ≡ false
  name_is : IsName name name_text
  spelled : IsMaybeValue 200 d text (ahead j) value at name.span

module _ (d : ℕ) (v : Under) (inside : SoundUnder d v) where
  -- Objects and values

  body_braced : (i : Input) (xs : List Member) (j : Input) → body v i ≡ Ok (xs, j) → Braced (AreMembers 200) d i j xs
  unfolding body
  body_braced i xs j h = elim (if_ok (is_mark OpenBrace (ahead i)) _ _ _ h) [
    | inl a ↦ inside.members i xs j a.0 a.1
    | inr a ↦ absurd (let e = a.1 in cc)
  ]

  object_from : (i : Input) (x : Decl) (j : Input) (o : Option (List ℕ)) (f g : DocFault) → name_of (ahead i) ≡ o → ◌≡◌ {A = Result (Decl × Input) DocFault} (elim o [ Some n ↦ (if upper_first n then elim (body v (after i)) [ Ok r ↦ Ok (roll-Decl (record { name = n; members = r.0; span = place i }), r.1) | Err e ↦ Err e ] else Err f) | None ↦ Err g ]) (Ok (x, j)) → Covers (IsObjectBefore d) i j x
  object_from i x j None f g e h = absurd cc
  object_from i x j (Some n) f g e h = elim (if_ok (upper_first n) _ _ _ h) [
    | inl a ↦ (
        let t = ahead_gives name_of refl i n e in
        let w = way_token t.token t.rest in
        let c = bind_ok (body v (after i)) _ _ a.1 in
        let b = body_braced (after i) c.value c.at c.first in
        covers_to (record {
          text = t.token ∷ b.begin ∷ b.text ++ b.close ∷ [];
          way = way_then w b.way;
          spelled = object b.less t.token b.begin b.text b.close n c.value b.one_less refl (ap (λ s. roll-Decl (record { name = n; members = c.value; span = s })) (placed w)) t.is a.0 b.begins b.spelled b.closes;
        }) c.onward)
    | inr a ↦ absurd (let b = a.1 in cc)
  ]

  pub object_covers : (i : Input) (x : Decl) (j : Input) → object_in v i ≡ Ok (x, j) → Covers (IsObjectBefore d) i j x
  unfolding object_in
  object_covers i x j h = object_from i x j (name_of (ahead i)) _ _ refl h

  object_valued : {i j : Input} {ts : List Token} {next : Option Token} {x : Decl} → Way i j 0 ts → IsObject 200 d ts x → IsValue 200 d ts next (ii.Object x) (place i)
  object_valued {i = i} {j = j} {x = x} w (object c t o us z n xs d_is ts_is x_is is up begins members closes) =
      value_object t (o ∷ us ++ z ∷ []) x ts_is refl (placed (subst (λ vs. Way i j 0 vs) ts_is w)) (object c t o us z n xs d_is ts_is x_is is up begins members closes)

  object_value_covers : (i : Input) (x : Valued) (j : Input) → object_value v i ≡ Ok (x, j) → Covers (IsValued d) i j x
  unfolding object_value
  object_value_covers i x j h =
      let b = bind_ok (object_in v i) _ _ h in
      let c = object_covers i b.value b.at b.first in
      covers_to (record { text = c.text; way = c.way; spelled = object_valued c.way c.spelled }) b.onward

  expr_value_covers : (i : Input) (x : Valued) (j : Input) → begins_object i.rest ≡ false → is_dotted_type (is_mark OpenBrace) i.rest ≡ false → expr_value d i ≡ Ok (x, j) → Covers (IsValued d) i j x
  unfolding expr_value
  expr_value_covers i x j no_object no_dotted h =
      let b = bind_ok (whole d i) _ _ h in
      let c = whole_reads d i b.at b.value b.first in
      let w = c.way in
      let p = c.spelled in
      let f = expr_begins p.spelled in
      let t = f.token in
      let us = f.others in
      let free = no_type c.text b.at.rest (ap begins_object (sym w.rest) ∙ no_object) (ap (is_dotted_type (is_mark OpenBrace)) (sym w.rest) ∙ no_dotted) in
      let within = place_within d p.nodes t us b.at.rest b.value i.end (subst (λ ts. IsExpr d p.nodes ts b.value) f.text p.spelled) in
      let at : value_place b.value i.rest i.end ≡ value_place b.value c.text t.span =
      ap (λ ts. value_place b.value ts i.end) (w.rest ∙ ap (λ ts. ts ++ b.at.rest) f.text) ∙ (within ∙ ap (λ ts. value_place b.value ts t.span) (sym f.text)) in
      covers_to (record { text = c.text; way = w; spelled = an_expr t us b.value f.text refl at p free }) b.onward

  pub value_covers : (i : Input) (x : Valued) (j : Input) → value_in d v i ≡ Ok (x, j) → Covers (IsValued d) i j x
  unfolding value_in
  value_covers i x j h = elim (if_ok (begins_object i.rest) _ _ _ h) [
    | inl a ↦ object_value_covers i x j a.1
    | inr a ↦ elim (if_ok (is_dotted_type (is_mark OpenBrace) i.rest) _ _ _ a.1) [
      | inl b ↦ absurd (let e = b.1 in cc)
      | inr b ↦ expr_value_covers i x j a.0 b.0 b.1
    ]
  ]

  -- Members of words

  pub id_covers : (i : Input) → is_word ww.Id (ahead i) ≡ true → (x : Member) (j : Input) → id_member i ≡ Ok (x, j) → Covers (IsShortMember 200 d) i j x
  unfolding id_member
  id_covers i h x j r =
      let t = ahead_some (is_word ww.Id) refl i h in
      let a = bind_ok (expect Colon (after i)) _ _ r in
      let o = expected Colon (after i) a.at a.value a.first in
      let b = bind_ok (any_name a.at) _ _ a.onward in
      let u = named a.at b.at b.value b.first in
      covers_to (record {
        text = t.token ∷ o.token ∷ u.token ∷ [];
        way = way_then (way_token t.token t.rest) (way_then o.way u.way);
        spelled = an_id t.token o.token u.token b.value refl (ap (λ s. mm.Id b.value s) (placed u.way)) t.is o.is u.is;
      }) b.onward

  value_read : (fixed : Bool) (k n : List ℕ) (at there : Span) (i : Input) (x : Member) (j : Input) → property_value d v fixed k at n there i ≡ Ok (x, j) → ValueRead d fixed k n at there i j x
  unfolding property_value
  value_read fixed k n at there i x j h = elim (if_ok (is_mark Colon (ahead i)) _ _ _ h) [
    | inl a ↦ (
        let o = ahead_some (is_mark Colon) refl i a.0 in
        let b = bind_ok (value_in d v (after i)) _ _ a.1 in
        let c = value_covers (after i) b.value b.at b.first in
        let y = b.value in
        let read : ValueRead d fixed k n at there i b.at (mm.Property fixed k n (Some y.init) at y.span there) = record {
          text = o.token ∷ c.text;
          way = way_then (way_token o.token o.rest) c.way;
          value = Some y.init;
          place = y.span;
          spelled = a_value o.token c.text y.init refl refl o.is c.spelled;
          is = refl;
        } in
        value_to read (same_value _ x b.at j b.onward) (same_input _ x b.at j b.onward))
    | inr a ↦ (
        let read : ValueRead d fixed k n at there i i (mm.Property fixed k n None at there there) = record { text = []; way = way_none i; value = None; place = there; spelled = no_value refl refl refl a.0; is = refl } in
        value_to read (same_value _ x i j a.1) (same_input _ x i j a.1))
  ]

  property_kind_named : (i : Input) (k : List ℕ) (j : Input) → property_kind i ≡ Ok (k, j) → Named k i j × (is_word ww.Alias (ahead i) ≡ false)
  unfolding property_kind
  property_kind_named i k j h = elim (if_ok (is_word ww.Alias (ahead i)) _ _ _ h) [
    | inl a ↦ absurd (let e = a.1 in cc)
    | inr a ↦ (kind_named i j k a.1, a.0)
  ]

  property_read : (fixed : Bool) (i : Input) (x : Member) (j : Input) → kind_and_name d v fixed i ≡ Ok (x, j) → PropertyRead d fixed i j x
  unfolding kind_and_name
  property_read fixed i x j h =
      let a = bind_ok (property_kind i) _ _ h in
      let t = property_kind_named i a.value a.at a.first in
      let k = t.0 in
      let b = bind_ok (any_name a.at) _ _ a.onward in
      let n = named a.at b.at b.value b.first in
      let kind_at = placed k.way in
      let name_at = placed n.way in
      let read = subst₂ (λ s z. property_value d v fixed a.value s b.value z b.at ≡ Ok (x, j)) kind_at name_at b.onward in
      let r = value_read fixed a.value b.value (k.token).span (n.token).span b.at x j read in
      record {
        kind = k.token;
        name = n.token;
        text = r.text;
        way = way_then {vs = n.token ∷ r.text} k.way (way_then {vs = r.text} n.way r.way);
        kind_text = a.value;
        name_text = b.value;
        value = r.value;
        at = r.place;
        is = r.is;
        kind_is = k.is;
        no_alias = sym (first_is (is_word ww.Alias) k.way) ∙ t.1;
        name_is = n.is;
        spelled = r.spelled;
      }

  pub property_covers : (i : Input) → is_word ww.Property (ahead i) ≡ true → (x : Member) (j : Input) → property d v false i ≡ Ok (x, j) → Covers (IsShortMember 200 d) i j x
  unfolding property
  property_covers i h x j r =
      let t = ahead_some (is_word ww.Property) refl i h in
      let p = property_read false (after i) x j r in
      record {
        text = t.token ∷ p.kind ∷ p.name ∷ p.text;
        way = way_then (way_token t.token t.rest) p.way;
        spelled = a_property t.token p.kind p.name p.text p.kind_text p.name_text p.value p.at refl p.is t.is p.kind_is p.no_alias p.name_is p.spelled;
      }

  pub fixed_covers : (i : Input) → is_word ww.ReadOnly (ahead i) ≡ true → (x : Member) (j : Input) → fixed_property d v i ≡ Ok (x, j) → Covers (IsShortMember 200 d) i j x
  unfolding fixed_property property
  fixed_covers i h x j r =
      let t = ahead_some (is_word ww.ReadOnly) refl i h in
      elim (if_ok (is_word ww.Property (ahead (after i))) _ _ _ r) [
        | inl a ↦ (
            let o = ahead_some (is_word ww.Property) refl (after i) a.0 in
            let p = property_read true (after (after i)) x j a.1 in
            record {
              text = t.token ∷ o.token ∷ p.kind ∷ p.name ∷ p.text;
              way = way_then (way_token t.token t.rest) (way_then (way_token o.token o.rest) p.way);
              spelled = a_fixed t.token o.token p.kind p.name p.text p.kind_text p.name_text p.value p.at refl p.is t.is o.is p.kind_is p.no_alias p.name_is p.spelled;
            })
        | inr a ↦ absurd (let e = a.1 in cc)
      ]

  pub signal_covers : (i : Input) → is_word ww.Signal (ahead i) ≡ true → (x : Member) (j : Input) → signal_member i ≡ Ok (x, j) → Covers (IsShortMember 200 d) i j x
  unfolding signal_member
  signal_covers i h x j r =
      let t = ahead_some (is_word ww.Signal) refl i h in
      let a = bind_ok (any_name (after i)) _ _ r in
      let u = named (after i) a.at a.value a.first in
      let b = bind_ok (signal_params a.at) _ _ a.onward in
      let c = signal_params_cover a.at b.value b.at b.first in
      covers_to (record {
        text = t.token ∷ u.token ∷ c.text;
        way = way_then (way_token t.token t.rest) (way_then u.way c.way);
        spelled = a_signal t.token u.token c.text a.value b.value refl (ap (λ s. mm.Signal a.value b.value s) (placed u.way)) t.is u.is c.spelled;
      }) b.onward

  -- Members of paths

  handled_covers : (i k : Input) (p : Path) (q : PathRead i k p) (o : Token) (l : Input) → Way k l 0 (o ∷ []) → IsMark o Colon → is_handler_path p ≡ true → (x : Member) (j : Input) → handled d p (place i) l ≡ Ok (x, j) → Covers (IsShortMember 200 d) i j x
  unfolding handled
  handled_covers i k p q o l w colon handler x j h =
      let a = bind_ok (statement d l) _ _ h in
      let c = statement_sound d l a.at a.value a.first in
      covers_to (record {
        text = (q.token ∷ q.others) ++ o ∷ c.text;
        way = way_then q.way (way_then w c.way);
        spelled = a_handled q.token q.others o c.text p a.value refl (ap (λ s. mm.Handler p a.value s) (placed q.way)) q.spelled handler colon c.spelled;
      }) a.onward

  initialised_covers : (i k : Input) (p : Path) (q : PathRead i k p) (o : Token) (l : Input) → Way k l 0 (o ∷ []) → IsMark o Colon → is_handler_path p ≡ false → (x : Member) (j : Input) → initialised d v p (place i) l ≡ Ok (x, j) → Covers (IsShortMember 200 d) i j x
  unfolding initialised
  initialised_covers i k p q o l w colon plain x j h =
      let a = bind_ok (value_in d v l) _ _ h in
      let c = value_covers l a.value a.at a.first in
      let y = a.value in
      covers_to (record {
        text = (q.token ∷ q.others) ++ o ∷ c.text;
        way = way_then q.way (way_then w c.way);
        spelled = an_initialised q.token q.others o c.text p y.init y.span refl (ap (λ s. mm.Init p y.init y.span s) (placed q.way)) q.spelled plain colon c.spelled;
      }) a.onward

  pub path_covers : (i : Input) → is_own_word (ahead i) ≡ false → (x : Member) (j : Input) → path_member d v i ≡ Ok (x, j) → Covers (IsShortMember 200 d) i j x
  unfolding path_member behind_path
  path_covers i own x j h =
      let a = bind_ok (path i) _ _ h in
      let p = path_read i a.value a.at own a.first in
      let b = bind_ok (expect Colon a.at) _ _ a.onward in
      let o = expected Colon a.at b.at b.value b.first in
      elim (if_ok (is_handler_path a.value) _ _ _ b.onward) [
        | inl c ↦ handled_covers i a.at a.value p o.token b.at o.way o.is c.0 x j c.1
        | inr c ↦ initialised_covers i a.at a.value p o.token b.at o.way o.is c.0 x j c.1
      ]

  -- Members

  -- a member that is a list of its own
  abbrev IsAlone : List Token → Option Token → Member → Type 0
  IsAlone ts next x = IsMember 200 d ts next (x ∷ [])

  alone_covers : (p : Parser Member) (i : Input) → ((x : Member) (j : Input) → p i ≡ Ok (x, j) → Covers IsAlone i j x) → (xs : List Member) (j : Input) → alone p i ≡ Ok (xs, j) → Covers (IsMember 200 d) i j xs
  unfolding alone
  alone_covers p i sound xs j h =
      let a = bind_ok (p i) _ _ h in
      let c = sound a.value a.at a.first in
      covers_to (record { text = c.text; way = c.way; spelled = c.spelled }) a.onward

  short_alone : (p : Parser Member) (i : Input) → ((x : Member) (j : Input) → p i ≡ Ok (x, j) → Covers (IsShortMember 200 d) i j x) → (x : Member) (j : Input) → ended p i ≡ Ok (x, j) → Covers IsAlone i j x
  short_alone p i sound x j h =
      let c = ended_covers p (IsShortMember 200 d) i sound x j h in
      let e = c.spelled in
      record { text = c.text; way = c.way; spelled = short e.text e.end x e.both refl e.spelled e.ends }

  short_covers : (p : Parser Member) (i : Input) → ((x : Member) (j : Input) → p i ≡ Ok (x, j) → Covers (IsShortMember 200 d) i j x) → (xs : List Member) (j : Input) → alone (ended p) i ≡ Ok (xs, j) → Covers (IsMember 200 d) i j xs
  short_covers p i sound = alone_covers (ended p) i (short_alone p i sound)

  block_covers : (i : Input) (xs : List Stmt) (j : Input) → method_block d i ≡ Ok (xs, j) → Covers (IsBlockBefore d) i j xs
  unfolding method_block
  block_covers i xs j h = elim (if_ok (is_mark OpenBrace (ahead i)) _ _ _ h) [
    | inl a ↦ block_sound d i j xs a.0 a.1
    | inr a ↦ absurd (let e = a.1 in cc)
  ]

  method_alone : (i : Input) → is_word ww.Function (ahead i) ≡ true → (x : Member) (j : Input) → method d i ≡ Ok (x, j) → Covers IsAlone i j x
  unfolding method method_behind
  method_alone i h x j r =
      let t = ahead_some (is_word ww.Function) refl i h in
      let a = bind_ok (any_name (after i)) _ _ r in
      let u = named (after i) a.at a.value a.first in
      let b = bind_ok (method_params a.at) _ _ a.onward in
      let ps = method_params_cover a.at b.value b.at b.first in
      let c = bind_ok (method_block d b.at) _ _ b.onward in
      let ys = block_covers b.at c.value c.at c.first in
      covers_to (record {
        text = t.token ∷ u.token ∷ ps.text ++ ys.text;
        way = way_then (way_token t.token t.rest) (way_then {vs = ps.text ++ ys.text} u.way (way_then {us = ps.text} {vs = ys.text} ps.way ys.way));
        spelled = a_method t.token u.token ps.text ys.text a.value b.value c.value refl (ap (λ s. mm.Method a.value b.value c.value s ∷ []) (placed u.way)) t.is u.is ps.spelled ys.spelled;
      }) c.onward

  child_covers : (i : Input) (xs : List Member) (j : Input) → child v i ≡ Ok (xs, j) → Covers (IsMember 200 d) i j xs
  unfolding child
  child_covers i xs j h =
      let a = bind_ok (object_in v i) _ _ h in
      let c = object_covers i a.value a.at a.first in
      covers_to (record { text = c.text; way = c.way; spelled = a_child a.value refl c.spelled }) a.onward

  group_covers : (i : Input) (xs : List Member) (j : Input) → is_own_word (ahead i) ≡ false → begins_group i.rest ≡ true → grouped v i ≡ Ok (xs, j) → Covers (IsMember 200 d) i j xs
  unfolding grouped
  group_covers i xs j own h r =
      let a = bind_ok (any_name i) _ _ r in
      let t = named i a.at a.value a.first in
      let w = t.way in
      let s = and_parts (name_is lower_first (ahead i)) (is_mark OpenBrace (head (tail i.rest))) h in
      let low = name_test lower_first (name_of (ahead i)) s.0 in
      let same : low.0 ≡ a.value = (let e = sym low.1 ∙ (first_is name_of w ∙ t.is) in cc) in
      let opens = ap (λ ts. is_mark OpenBrace (head (tail ts))) (sym w.rest) ∙ s.1 in
      let b = inside.group a.value a.at xs j opens a.onward in
      record {
        text = t.token ∷ b.begin ∷ b.text ++ b.close ∷ [];
        way = way_then w b.way;
        spelled = a_group b.less t.token b.begin b.text b.close a.value b.one_less refl (sym (first_is is_own_word w) ∙ own) t.is (ap lower_first (sym same) ∙ low.2) b.begins b.spelled b.closes;
      }

  named_covers : (i : Input) (xs : List Member) (j : Input) → is_own_word (ahead i) ≡ false → named_member d v i ≡ Ok (xs, j) → Covers (IsMember 200 d) i j xs
  unfolding named_member
  named_covers i xs j own h = elim (if_ok (begins_object i.rest) _ _ _ h) [
    | inl a ↦ child_covers i xs j a.1
    | inr a ↦ elim (if_ok (begins_on i.rest) _ _ _ a.1) [
      | inl b ↦ absurd (let e = b.1 in cc)
      | inr b ↦ elim (if_ok (is_dotted_type opens_or_on i.rest) _ _ _ b.1) [
        | inl c ↦ absurd (let e = c.1 in cc)
        | inr c ↦ elim (if_ok (begins_group i.rest) _ _ _ c.1) [
          | inl e ↦ group_covers i xs j own e.0 e.1
          | inr e ↦ short_covers (path_member d v) i (path_covers i own) xs j e.1
        ]
      ]
    ]
  ]

  pub member_covers : (i : Input) (xs : List Member) (j : Input) → member_in d v i ≡ Ok (xs, j) → Covers (IsMember 200 d) i j xs
  unfolding member_in other_member
  member_covers i xs j h = elim (if_ok (is_word ww.Id (ahead i)) _ _ _ h) [
    | inl a ↦ short_covers id_member i (id_covers i a.0) xs j a.1
    | inr a ↦ elim (if_ok (is_word ww.Property (ahead i)) _ _ _ a.1) [
      | inl b ↦ short_covers (property d v false) i (property_covers i b.0) xs j b.1
      | inr b ↦ elim (if_ok (is_word ww.ReadOnly (ahead i)) _ _ _ b.1) [
        | inl c ↦ short_covers (fixed_property d v) i (fixed_covers i c.0) xs j c.1
        | inr c ↦ elim (if_ok (is_word ww.Signal (ahead i)) _ _ _ c.1) [
          | inl e ↦ short_covers signal_member i (signal_covers i e.0) xs j e.1
          | inr e ↦ elim (if_ok (is_word ww.Function (ahead i)) _ _ _ e.1) [
            | inl f ↦ alone_covers (method d) i (method_alone i f.0) xs j f.1
            | inr f ↦ elim (if_ok (is_unsupported_member (ahead i)) _ _ _ f.1) [
              | inl g ↦ absurd (let k = g.1 in cc)
              | inr g ↦ elim (if_ok (is_word ww.Else (ahead i)) _ _ _ g.1) [
                | inl k ↦ absurd (let l = k.1 in cc)
                | inr k ↦ named_covers i xs j (own_not (ahead i) (record { id = a.0; property = b.0; read_only = c.0; signal = e.0; function = f.0; unsupported = g.0; otherwise = k.0 })) k.1
              ]
            ]
          ]
        ]
      ]
    ]
  ]

  -- Entries of groups

  pub entry_covers : (n : List ℕ) (i : Input) (x : Member) (j : Input) → entry d v n i ≡ Ok (x, j) → Covers (IsEntry 200 d n) i j x
  unfolding entry
  entry_covers n i x j h =
      let a = bind_ok (entry_name i) _ _ h in
      let m = entry_name_read i a.value a.at a.first in
      let t = m.0 in
      let b = bind_ok (expect Colon a.at) _ _ a.onward in
      let o = expected Colon a.at b.at b.value b.first in
      let e = bind_ok (value_in d v b.at) _ _ b.onward in
      let c = value_covers b.at e.value e.at e.first in
      let y = e.value in
      covers_to (record {
        text = t.token ∷ o.token ∷ c.text;
        way = way_then t.way (way_then o.way c.way);
        spelled = an_entry t.token o.token c.text a.value y.init y.span refl (ap (λ s. mm.Init (record { first = n; second = Some a.value }) y.init y.span s) (placed t.way)) t.is m.1 o.is c.spelled;
      }) e.onward

  pub entry_added : (n : List ℕ) (xs : List Member) (i : Input) (ys : List Member) (j : Input) → goes_on_inside (ahead i) ≡ true → one_entry d v n xs i ≡ Ok (ys, j) → Added (AnEntry d n) xs i ys j
  unfolding one_entry
  entry_added n xs i ys j t h =
      let a = bind_ok (ended (entry d v n) i) _ _ h in
      let c = ended_covers (entry d v n) (IsEntry 200 d n) i (entry_covers n i) a.value a.at a.first in
      let e = c.spelled in
      let covers : Covers (AnEntry d n) i a.at (a.value ∷ []) = record { text = c.text; way = c.way; spelled = ended_entry e.text e.end a.value e.both refl e.spelled e.ends } in
      record {
        values = a.value ∷ [];
        both = sym (same_value (xs ++ a.value ∷ []) ys a.at j a.onward);
        covers = subst (λ k. Covers (AnEntry d n) i k (a.value ∷ [])) (same_input (xs ++ a.value ∷ []) ys a.at j a.onward) covers;
      }

  pub entries_closed : (n : List ℕ) (i : Input) (xs : List Member) (j : Input) → entries d v n i ≡ Ok (xs, j) → Closed (AnEntry d n) i j xs
  unfolding entries
  entries_closed n = until_brace_closed (AnEntry d n) (one_entry d v n) (entry_begins d n) (entry_added n)

  pub member_added : (xs : List Member) (i : Input) (ys : List Member) (j : Input) → goes_on_inside (ahead i) ≡ true → one_member d v xs i ≡ Ok (ys, j) → Added (IsMember 200 d) xs i ys j
  unfolding one_member
  member_added xs i ys j t h =
      let a = bind_ok (member_in d v i) _ _ h in
      record {
        values = a.value;
        both = sym (same_value (xs ++ a.value) ys a.at j a.onward);
        covers = subst (λ k. Covers (IsMember 200 d) i k a.value) (same_input (xs ++ a.value) ys a.at j a.onward) (member_covers i a.value a.at a.first);
      }

  pub members_closed : (i : Input) (xs : List Member) (j : Input) → members d v i ≡ Ok (xs, j) → Closed (IsMember 200 d) i j xs
  unfolding members
  members_closed = until_brace_closed (IsMember 200 d) (one_member d v) (member_begins d) member_added

-- All levels

members_braced : (d : ℕ) → SoundUnder d (under d) → (i : Input) (xs : List Member) (j : Input) → is_mark OpenBrace (ahead i) ≡ true → member_braces d (under d) i ≡ Ok (xs, j) → Braced (AreMembers 200) (suc d) i j xs
unfolding member_braces
members_braced d inside i xs j t h =
    let o = ahead_some (is_mark OpenBrace) refl i t in
    let c = members_closed d (under d) inside (after i) xs j h in
    record { less = d; one_less = refl; begin = o.token; text = c.text; close = c.close; way = way_then (way_token o.token o.rest) c.way; begins = o.is; spelled = items_members c.items; closes = c.closes }

group_braced : (d : ℕ) → SoundUnder d (under d) → (n : List ℕ) (i : Input) (xs : List Member) (j : Input) → is_mark OpenBrace (ahead i) ≡ true → group_braces d (under d) n i ≡ Ok (xs, j) → Braced (EntriesOf n) (suc d) i j xs
unfolding group_braces
group_braced d inside n i xs j t h =
    let o = ahead_some (is_mark OpenBrace) refl i t in
    let c = entries_closed d (under d) inside n (after i) xs j h in
    record { less = d; one_less = refl; begin = o.token; text = c.text; close = c.close; way = way_then (way_token o.token o.rest) c.way; begins = o.is; spelled = items_entries c.items; closes = c.closes }

pub under_sound : (d : ℕ) → SoundUnder d (under d)
unfolding under
under_sound zero = record { members = λ i xs j t h. absurd cc; group = λ n i xs j t h. absurd cc }
under_sound (suc d) = record { members = members_braced d (under_sound d); group = group_braced d (under_sound d) }

-- Documents

no_more : (ts : List Token) → is_some (head ts) ≡ false → ts ≡ []
no_more [] h = refl
no_more (t ∷ ts) h = absurd cc

ended_at : (k : Input) (u : Unit {0}) (j : Input) → nothing_more k ≡ Ok (u, j) → k.rest ≡ []
unfolding nothing_more
ended_at k u j h = elim (if_ok (is_some (ahead k)) _ _ _ h) [
  | inl a ↦ absurd (let e = a.1 in cc)
  | inr a ↦ no_more k.rest a.0
]

root_is : (i : Input) (x : Decl) (j : Input) → root i ≡ Ok (x, j) → object_in (under 64) i ≡ Ok (x, j)
unfolding root
root_is i x j h = elim (if_ok (is_dotted_type (is_mark OpenBrace) i.rest) _ _ _ h) [
  | inl a ↦ absurd (let e = a.1 in cc)
  | inr a ↦ a.1
]

document_of : (ts : List Token) (k l : Input) (xs : List Import) (z : Decl) (us vs : List Token) → ts ≡ us ++ k.rest → AreImports us (ahead k) xs → Way k l 0 vs → IsObject 200 64 vs z → l.rest ≡ [] → IsDocument ts (record { imports = xs; root = z })
document_of ts k l xs z us vs ts_is first w spelled end =
    let rest : k.rest ≡ vs = w.rest ∙ (ap (λ ws. vs ++ ws) end ∙ append-nil vs) in
    let next : ahead k ≡ follow vs None = ahead_follow w ∙ ap (λ ws. follow vs (head ws)) end in
    a_document us vs xs z (ts_is ∙ ap (λ ws. us ++ ws) rest) refl (subst (λ n. AreImports us n xs) next first) spelled

document_is : ((i : Input) (x : Decl) (j : Input) → object_in (under 64) i ≡ Ok (x, j) → Covers (IsObjectBefore 64) i j x) → (i : Input) (x : Document) (j : Input) → document i ≡ Ok (x, j) → IsDocument i.rest x
unfolding document
document_is objects i x j h =
    let a = bind_ok (imports i) _ _ h in
    let xs = (imports_cover i a.at a.value a.first).0 in
    let b = bind_ok (root a.at) _ _ a.onward in
    let z = objects a.at b.value b.at (root_is a.at b.value b.at b.first) in
    let c = bind_ok (nothing_more b.at) _ _ b.onward in
    let is = document_of i.rest a.at b.at a.value b.value xs.text z.text (xs.way).rest xs.spelled z.way z.spelled (ended_at b.at c.value c.at c.first) in
    subst (λ y. IsDocument i.rest y) (same_value _ x c.at j c.onward) is

document_from : (r : Result (Document × Input) DocFault) (x : Document) → ◌≡◌ {A = Result Document DocFault} (elim r [ Ok p ↦ Ok p.0 | Err e ↦ Err e ]) (Ok x) → (j : Input) × (r ≡ Ok (x, j))
document_from (Ok (y, j)) x h = (j, ap (λ z. Ok (z, j)) (let e : ◌≡◌ {A = Result Document DocFault} (Ok y) (Ok x) = h in cc))
document_from (Err e) x h = absurd cc

pub reading_is : ((i : Input) (x : Decl) (j : Input) → object_in (under 64) i ≡ Ok (x, j) → Covers (IsObjectBefore 64) i j x) → (ts : List Token) (end : Span) (x : Document) → reading ts end ≡ Ok x → IsDocument ts x
unfolding reading
reading_is objects ts end x h =
    let i : Input = record { rest = ts; end = end; nodes = 0 } in
    let r = document_from (document i) x h in
    document_is objects i x r.0 r.1
