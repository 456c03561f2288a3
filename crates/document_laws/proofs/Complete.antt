-- What the productions spell is read, before the token that follows it, level by level.
use Rattle.std.proofs.Common.{◌≡◌, ℕ, zero, suc, Bool, true, false, List, [], ◌∷◌, ◌++◌, Option, Some, None, Result, Ok, Err, refl, sym, ap, subst, ◌∙◌, append_assoc}
use Rattle.std.proofs.lemmas.List.{append-nil}
use Rattle.qml_ast.specs.declared.decl.Decl.{Decl, roll-Decl}
use Rattle.qml_ast.specs.declared.decl.Init.{Init}
use Rattle.qml_ast.specs.declared.decl.Init.TheVariants as ii
use Rattle.qml_ast.specs.declared.decl.Member.{Member}
use Rattle.qml_ast.specs.declared.decl.Member.TheVariants as mm
use Rattle.qml_ast.specs.declared.document.Document.{Document}
use Rattle.qml_ast.specs.declared.document.Import.{Import}
use Rattle.qml_ast.specs.declared.expr.Expr.{Expr}
use Rattle.qml_ast.specs.declared.fault.DocFault.{DocFault}
use Rattle.qml_ast.specs.declared.param.MethodParam.{MethodParam}
use Rattle.qml_ast.specs.declared.path.Path.{Path}
use Rattle.qml_ast.specs.declared.span.Span.{Span}
use Rattle.qml_ast.specs.declared.stmt.Stmt.{Stmt}
use Rattle.qml_grammar.specs.DocumentGrammar.{IsName, IsNoType, IsPath, AreMethodParens, IsObject, object as an_object, IsValue, expr as an_expr, value_object, IsMaybeValue, no_value, a_value, IsShortMember, id as an_id, property as a_property, fixed as a_fixed, signal as a_signal, initialised as an_initialised, handled as a_handled, IsMember, short, method as a_method, group as a_group, child as a_child, AreEntries, IsEntry, entry as an_entry, AreMembers, AreImports, IsDocument, document as a_document}
use Rattle.qml_grammar.specs.Documents.{value_place, Under, body, object_in, object_value, expr_value, value_in, id_member, property_kind, property_value, kind_and_name, property, fixed_property, signal_member, method_params, method_block, method_behind, method, handled, initialised, behind_path, path_member, entry, one_entry, entries, alone, child, grouped, member_in, one_member, members, member_braces, group_braces, under, root, nothing_more, document, reading}
use Rattle.qml_grammar.specs.Ends.{ended}
use Rattle.qml_grammar.specs.ExpressionGrammar.{IsMark}
use Rattle.qml_grammar.specs.Inputs.{Input, Parser, ahead}
use Rattle.qml_grammar.specs.Lexemes.{Token, head, is_mark, is_word, last_of}
use Rattle.qml_grammar.specs.Marks.{same_mark, mark_number}
use Rattle.qml_grammar.specs.Names.{upper_first, is_handler_name, is_handler_path, is_dotted_type, begins_object}
use Rattle.qml_grammar.specs.StatementGrammar.{IsWord, follow, IsEnd, IsWhole, IsStmt, IsBlock, braces}
use Rattle.qml_grammar.specs.Statements.{statement}
use Rattle.qml_grammar.specs.declared.mark.Mark.TheVariants.{OpenBrace, CloseBrace, Colon, Dot}
use Rattle.qml_grammar.specs.declared.word.Word.TheVariants as ww
use Rattle.grammar_laws.specs.Laws.{ReadsWhole}
use Rattle.grammar_laws.proofs.Behind.{ok_then, if_true, if_false, found, same_input_by}
use Rattle.grammar_laws.proofs.Reading.{reads_whole}
use Rattle.statement_laws.proofs.Complete.{statement_complete, block_complete}
use Rattle.statement_laws.proofs.Ends.{ended_goes}
use Rattle.statement_laws.proofs.Loops.{until_brace_goes}
use Rattle.statement_laws.proofs.Ways.{before, way_before, before_both, ahead_before, expect_before, name_before}
use Rattle.document_laws.proofs.Dispatch.{by_id, by_property, by_read_only, by_signal, by_function, by_name, by_path, by_object, by_group, path_free}
use Rattle.document_laws.proofs.Imports.{imports_go}
use Rattle.document_laws.proofs.Lists.{member_begins, members_items, AnEntry, ended_entry, entry_begins, entries_items}
use Rattle.document_laws.proofs.Names.{object_test, no_dots_there, expr_no_object, expr_no_dotted}
use Rattle.document_laws.proofs.Params.{kind_goes, signal_params_go, method_params_go}
use Rattle.document_laws.proofs.Paths.{path_goes, entry_name_goes}
use Rattle.document_laws.proofs.Places.{place_within}
use Rattle.document_laws.proofs.Steps.{no_level, one_less}
use Rattle.document_laws.proofs.Tokens.{mark_is, upper_no_word, upper_not_own}

-- the readings one level further in read what is spelled there
pub record CompleteUnder (d : ℕ) (v : Under) : Type 0 where
  pub members : (c : ℕ) (o : Token) (us : List Token) (z : Token) (xs : List Member) (j : Input) → d ≡ suc c → AreMembers 200 c us (Some z) xs → IsMark z CloseBrace → v.members (before (o ∷ us ++ z ∷ []) j) ≡ Ok (xs, j)
  pub group : (c : ℕ) (n : List ℕ) (o : Token) (us : List Token) (z : Token) (xs : List Member) (j : Input) → d ≡ suc c → AreEntries 200 c n us (Some z) xs → IsMark z CloseBrace → v.group n (before (o ∷ us ++ z ∷ []) j) ≡ Ok (xs, j)

-- how a member that has an end is read, without it
record ShortRead (d : ℕ) (v : Under) (us : List Token) (next : Option Token) (x : Member) : Type 0 where
  parser : Parser Member
  chosen : (i : Input) (ws : List Token) → i.rest ≡ us ++ ws → member_in d v i ≡ alone (ended parser) i
  reads : (l : Input) → ahead l ≡ next → parser (before us l) ≡ Ok (x, l)

-- the first one of the tokens that are left
first_at : (i : Input) {us : List Token} (t : Token) (vs ws : List Token) → i.rest ≡ us ++ ws → us ≡ t ∷ vs → ahead i ≡ Some t
first_at i t vs ws r e = ap head (r ∙ ap (λ ts. ts ++ ws) e)

module _ (d : ℕ) (v : Under) (inside : CompleteUnder d v) where
  -- Objects and values

  object_read : (c : ℕ) (t o : Token) (us : List Token) (z : Token) (n : List ℕ) (xs : List Member) (j : Input) → d ≡ suc c → IsName t n → upper_first n ≡ true → IsMark o OpenBrace → AreMembers 200 c us (Some z) xs → IsMark z CloseBrace → object_in v (before (t ∷ o ∷ us ++ z ∷ []) j) ≡ Ok (roll-Decl (record { name = n; members = xs; span = t.span }), j)
  unfolding object_in body
  object_read c t o us z n xs j d_is is up begins listed closes = found _ _ is (if_true _ _ up (ok_then _ (if_true _ _ begins (inside.members c o us z xs j d_is listed closes)) refl))

  pub object_goes : {ts : List Token} {x : Decl} (j : Input) → IsObject 200 d ts x → object_in v (before ts j) ≡ Ok (x, j)
  object_goes j (an_object c t o us z n xs d_is ts_is x_is is up begins listed closes) = rw (ts_is, x_is) (object_read c t o us z n xs j d_is is up begins listed closes)

  object_begins : {ts : List Token} {x : Decl} (ws : List Token) → IsObject 200 d ts x → begins_object (ts ++ ws) ≡ true
  object_begins ws (an_object c t o us z n xs d_is ts_is x_is is up begins listed closes) = ap (λ ts. begins_object (ts ++ ws)) ts_is ∙ object_test t o ((us ++ z ∷ []) ++ ws) n is up begins

  object_value_read : (t : Token) (us : List Token) (y : Decl) (j : Input) → IsObject 200 d (t ∷ us) y → value_in d v (before (t ∷ us) j) ≡ Ok (record { init = ii.Object y; span = t.span }, j)
  unfolding value_in object_value
  object_value_read t us y j p = if_true _ _ (object_begins j.rest p) (ok_then _ (object_goes j p) refl)

  expr_value_read : (t : Token) (us : List Token) (y : Expr) (j : Input) → IsWhole 200 d (t ∷ us) (ahead j) y → IsNoType (t ∷ us) (ahead j) → value_in d v (before (t ∷ us) j) ≡ Ok (record { init = ii.Expr y; span = value_place y (t ∷ us) t.span }, j)
  unfolding value_in expr_value
  expr_value_read t us y j p free =
      let i : Input = before (t ∷ us) j in
      let c : ReadsWhole d i j y = record { text = t ∷ us; way = way_before (t ∷ us) j; spelled = p } in
      let at = place_within d p.nodes t us j.rest y j.end p.spelled in
      if_false _ _ (expr_no_object d i j y c free) (if_false _ _ (expr_no_dotted d i j y c free) (ok_then _ (reads_whole d i j y c) (ap (λ s. Ok (record { init = ii.Expr y; span = s }, j)) at)))

  pub value_goes : {ts : List Token} {next : Option Token} {x : Init} {at : Span} (j : Input) → ahead j ≡ next → IsValue 200 d ts next x at → value_in d v (before ts j) ≡ Ok (record { init = x; span = at }, j)
  value_goes j e (value_object t us y ts_is x_is at_is p) = rw (ts_is, x_is, at_is) (object_value_read t us y j (subst (λ ts. IsObject 200 d ts y) ts_is p))
  value_goes {ts = ts} {next = next} j e (an_expr t us y ts_is x_is at_is p free) =
      let longest : IsWhole 200 d (t ∷ us) (ahead j) y = subst (λ n. IsWhole 200 d (t ∷ us) n y) (sym e) (subst (λ ws. IsWhole 200 d ws next y) ts_is p) in
      let untyped : IsNoType (t ∷ us) (ahead j) = subst (λ n. IsNoType (t ∷ us) n) (sym e) (subst (λ ws. IsNoType ws next) ts_is free) in
      rw (x_is, at_is, ts_is) (expr_value_read t us y j longest untyped)

  -- Members of words

  id_read : (t o u : Token) (n : List ℕ) (l : Input) → IsMark o Colon → IsName u n → id_member (before (t ∷ o ∷ u ∷ []) l) ≡ Ok (mm.Id n u.span, l)
  unfolding id_member
  id_read t o u n l colon is = ok_then _ (expect_before Colon o (u ∷ []) l colon) (ok_then _ (name_before n u [] l is) refl)

  maybe_goes : {us : List Token} {next : Option Token} {y : Option Init} {at there : Span} (fixed : Bool) (k n : List ℕ) (s : Span) (l : Input) → ahead l ≡ next → IsMaybeValue 200 d us next y at there → property_value d v fixed k s n there (before us l) ≡ Ok (mm.Property fixed k n y s at there, l)
  unfolding property_value
  maybe_goes fixed k n s l e (no_value us_is y_is at_is other) = rw (us_is, y_is, at_is) (if_false _ _ (ap (is_mark Colon) e ∙ other) refl)
  maybe_goes fixed k n s l e (a_value o us y us_is y_is colon p) = rw (us_is, y_is) (if_true _ _ colon (ok_then _ (value_goes l e p) refl))

  kind_and_name_go : {us : List Token} {next : Option Token} {y : Option Init} {at : Span} (fixed : Bool) (u w : Token) (k n : List ℕ) (l : Input) → ahead l ≡ next → IsName u k → is_word ww.Alias (Some u) ≡ false → IsName w n → IsMaybeValue 200 d us next y at w.span → kind_and_name d v fixed (before (u ∷ w ∷ us) l) ≡ Ok (mm.Property fixed k n y u.span at w.span, l)
  unfolding kind_and_name property_kind
  kind_and_name_go {us = us} fixed u w k n l e kind_is no_alias is p =
      ok_then _ (if_false _ _ no_alias (kind_goes k n u w us l kind_is is)) (ok_then _ (name_before n w us l is) (maybe_goes fixed k n u.span l e p))

  property_reads : {us : List Token} {next : Option Token} {y : Option Init} {at : Span} (t u w : Token) (k n : List ℕ) (l : Input) → ahead l ≡ next → IsName u k → is_word ww.Alias (Some u) ≡ false → IsName w n → IsMaybeValue 200 d us next y at w.span → property d v false (before (t ∷ u ∷ w ∷ us) l) ≡ Ok (mm.Property false k n y u.span at w.span, l)
  unfolding property
  property_reads t u w k n l e kind_is no_alias is p = kind_and_name_go false u w k n l e kind_is no_alias is p

  fixed_reads : {us : List Token} {next : Option Token} {y : Option Init} {at : Span} (r t u w : Token) (k n : List ℕ) (l : Input) → ahead l ≡ next → IsWord t ww.Property → IsName u k → is_word ww.Alias (Some u) ≡ false → IsName w n → IsMaybeValue 200 d us next y at w.span → fixed_property d v (before (r ∷ t ∷ u ∷ w ∷ us) l) ≡ Ok (mm.Property true k n y u.span at w.span, l)
  unfolding fixed_property property
  fixed_reads r t u w k n l e word_is kind_is no_alias is p = if_true _ _ word_is (kind_and_name_go true u w k n l e kind_is no_alias is p)

  -- Members of paths

  stmt_goes : {ts : List Token} {next : Option Token} {x : Stmt} (l : Input) → ahead l ≡ next → IsStmt 200 d ts next x → statement d (before ts l) ≡ Ok (x, l)
  stmt_goes {ts = ts} {x = x} l e p = statement_complete d (before ts l) l x (record { text = ts; way = way_before ts l; spelled = subst (λ n. IsStmt 200 d ts n x) (sym e) p })

  handled_reads : {next : Option Token} (t : Token) (us : List Token) (o : Token) (vs : List Token) (p : Path) (y : Stmt) (l : Input) → ahead l ≡ next → IsPath (t ∷ us) p → is_handler_path p ≡ true → IsMark o Colon → IsStmt 200 d vs next y → path_member d v (before ((t ∷ us) ++ o ∷ vs) l) ≡ Ok (mm.Handler p y t.span, l)
  unfolding path_member behind_path handled same_mark mark_number
  handled_reads t us o vs p y l e path_is handler colon q =
      ap (path_member d v) (before_both (t ∷ us) (o ∷ vs) l) ∙ ok_then _ (path_goes (before (o ∷ vs) l) path_is (mark_is Dot Colon o colon)) (ok_then _ (expect_before Colon o vs l colon) (if_true _ _ handler (ok_then _ (stmt_goes l e q) refl)))

  initialised_reads : {next : Option Token} (t : Token) (us : List Token) (o : Token) (vs : List Token) (p : Path) (y : Init) (at : Span) (l : Input) → ahead l ≡ next → IsPath (t ∷ us) p → is_handler_path p ≡ false → IsMark o Colon → IsValue 200 d vs next y at → path_member d v (before ((t ∷ us) ++ o ∷ vs) l) ≡ Ok (mm.Init p y at t.span, l)
  unfolding path_member behind_path initialised same_mark mark_number
  initialised_reads t us o vs p y at l e path_is plain colon q =
      ap (path_member d v) (before_both (t ∷ us) (o ∷ vs) l) ∙ ok_then _ (path_goes (before (o ∷ vs) l) path_is (mark_is Dot Colon o colon)) (ok_then _ (expect_before Colon o vs l colon) (if_false _ _ plain (ok_then _ (value_goes l e q) refl)))

  path_chosen : (t : Token) (us : List Token) (o : Token) (vs ws : List Token) (p : Path) (i : Input) → i.rest ≡ ((t ∷ us) ++ o ∷ vs) ++ ws → IsPath (t ∷ us) p → IsMark o Colon → member_in d v i ≡ alone (ended (path_member d v)) i
  path_chosen t us o vs ws p i r path_is colon =
      by_name d v i t (ap head r) (path_free path_is t us refl) ∙ by_path d v i o (vs ++ ws) (r ∙ append_assoc (t ∷ us) (o ∷ vs) ws) path_is colon

  -- Members with an end

  short_read : {ts : List Token} {next : Option Token} {x : Member} → IsShortMember 200 d ts next x → ShortRead d v ts next x
  unfolding signal_member
  short_read (an_id t o u n ts_is x_is word_is colon is) = record {
    parser = id_member;
    chosen = λ i ws r. by_id d v i t (first_at i t (o ∷ u ∷ []) ws r ts_is) word_is;
    reads = λ l e. rw (ts_is, x_is) (id_read t o u n l colon is);
  }
  short_read (a_property t u w us k n y at ts_is x_is word_is kind_is no_alias is value) = record {
    parser = property d v false;
    chosen = λ i ws r. by_property d v i t (first_at i t (u ∷ w ∷ us) ws r ts_is) word_is;
    reads = λ l e. rw (ts_is, x_is) (property_reads t u w k n l e kind_is no_alias is value);
  }
  short_read (a_fixed f t u w us k n y at ts_is x_is first_is word_is kind_is no_alias is value) = record {
    parser = fixed_property d v;
    chosen = λ i ws r. by_read_only d v i f (first_at i f (t ∷ u ∷ w ∷ us) ws r ts_is) first_is;
    reads = λ l e. rw (ts_is, x_is) (fixed_reads f t u w k n l e word_is kind_is no_alias is value);
  }
  short_read (a_signal t u us n ps ts_is x_is word_is is params) = record {
    parser = signal_member;
    chosen = λ i ws r. by_signal d v i t (first_at i t (u ∷ us) ws r ts_is) word_is;
    reads = λ l e. rw (ts_is, x_is) (ok_then _ (name_before n u us l is) (ok_then _ (signal_params_go us _ ps l e params) refl));
  }
  short_read (an_initialised t us o vs p y at ts_is x_is path_is plain colon value) = record {
    parser = path_member d v;
    chosen = λ i ws r. path_chosen t us o vs ws p i (r ∙ ap (λ ts. ts ++ ws) ts_is) path_is colon;
    reads = λ l e. rw (ts_is, x_is) (initialised_reads t us o vs p y at l e path_is plain colon value);
  }
  short_read (a_handled t us o vs p y ts_is x_is path_is handler colon stmt) = record {
    parser = path_member d v;
    chosen = λ i ws r. path_chosen t us o vs ws p i (r ∙ ap (λ ts. ts ++ ws) ts_is) path_is colon;
    reads = λ l e. rw (ts_is, x_is) (handled_reads t us o vs p y l e path_is handler colon stmt);
  }

  short_goes : (us es : List Token) (next : Option Token) (x : Member) (j : Input) → ahead j ≡ next → ShortRead d v us (follow es next) x → IsEnd (last_of us) es next → member_in d v (before (us ++ es) j) ≡ Ok (x ∷ [], j)
  unfolding alone
  short_goes us es next x j e r ends =
      let l : Input = before es j in
      let read = ended_goes r.parser us es next x j e (r.reads l (ahead_before es j e)) ends in
      r.chosen (before (us ++ es) j) (es ++ j.rest) (append_assoc us es j.rest) ∙ ok_then _ read refl

  -- Members with braces

  block_opens : {ts : List Token} {xs : List Stmt} (l : Input) → IsBlock 200 d ts xs → is_mark OpenBrace (ahead (before ts l)) ≡ true
  block_opens l (braces c o us z d_is ts_is begins listed closes) = ap (λ ts. is_mark OpenBrace (head (ts ++ l.rest))) ts_is ∙ begins

  block_goes : (ts : List Token) (xs : List Stmt) (l : Input) → IsBlock 200 d ts xs → method_block d (before ts l) ≡ Ok (xs, l)
  unfolding method_block
  block_goes ts xs l p = if_true _ _ (block_opens l p) (block_complete d (before ts l) l xs (record { text = ts; way = way_before ts l; spelled = p }))

  method_reads : (t u : Token) (us vs : List Token) (n : List ℕ) (ps : List MethodParam) (ys : List Stmt) (j : Input) → IsName u n → AreMethodParens us ps → IsBlock 200 d vs ys → alone (method d) (before (t ∷ u ∷ us ++ vs) j) ≡ Ok (mm.Method n ps ys u.span ∷ [], j)
  unfolding alone method method_behind
  method_reads t u us vs n ps ys j is params block =
      let l : Input = before vs j in
      let read = ap method_params (before_both us vs j) ∙ method_params_go us ps l params in
      let all : method d (before (t ∷ u ∷ us ++ vs) j) ≡ Ok (mm.Method n ps ys u.span, j) = ok_then _ (name_before n u (us ++ vs) j is) (ok_then _ read (ok_then _ (block_goes vs ys j block) refl)) in
      ok_then _ all refl

  group_reads : (c : ℕ) (t o : Token) (us : List Token) (z : Token) (n : List ℕ) (xs : List Member) (j : Input) → d ≡ suc c → IsName t n → AreEntries 200 c n us (Some z) xs → IsMark z CloseBrace → grouped v (before (t ∷ o ∷ us ++ z ∷ []) j) ≡ Ok (xs, j)
  unfolding grouped
  group_reads c t o us z n xs j d_is is listed closes = ok_then _ (name_before n t (o ∷ us ++ z ∷ []) j is) (inside.group c n o us z xs j d_is listed closes)

  child_reads : (c : ℕ) (t o : Token) (us : List Token) (z : Token) (n : List ℕ) (xs : List Member) (j : Input) → d ≡ suc c → IsName t n → upper_first n ≡ true → IsMark o OpenBrace → AreMembers 200 c us (Some z) xs → IsMark z CloseBrace → member_in d v (before (t ∷ o ∷ us ++ z ∷ []) j) ≡ Ok (mm.Child (roll-Decl (record { name = n; members = xs; span = t.span })) ∷ [], j)
  unfolding child
  child_reads c t o us z n xs j d_is is up begins listed closes =
      let i : Input = before (t ∷ o ∷ us ++ z ∷ []) j in
      by_name d v i t refl (upper_not_own t is up) ∙ (by_object d v i t o ((us ++ z ∷ []) ++ j.rest) n refl is up begins ∙ ok_then _ (object_read c t o us z n xs j d_is is up begins listed closes) refl)

  child_goes : {ts : List Token} {y : Decl} (j : Input) → IsObject 200 d ts y → member_in d v (before ts j) ≡ Ok (mm.Child y ∷ [], j)
  child_goes j (an_object c t o us z n xs d_is ts_is x_is is up begins listed closes) = rw (ts_is, x_is) (child_reads c t o us z n xs j d_is is up begins listed closes)

  -- Members

  pub member_goes : {ts : List Token} {next : Option Token} {xs : List Member} (j : Input) → ahead j ≡ next → IsMember 200 d ts next xs → member_in d v (before ts j) ≡ Ok (xs, j)
  member_goes {next = next} j e (short us es x ts_is xs_is p ends) = rw (ts_is, xs_is) (short_goes us es next x j e (short_read p) ends)
  member_goes j e (a_method t u us vs n ps ys ts_is xs_is word_is is params block) =
      rw (ts_is, xs_is) (by_function d v (before (t ∷ u ∷ us ++ vs) j) t refl word_is ∙ method_reads t u us vs n ps ys j is params block)
  member_goes {xs = xs} j e (a_group c t o us z n d_is ts_is own is low begins listed closes) =
      let i : Input = before (t ∷ o ∷ us ++ z ∷ []) j in
      ap (λ ts. member_in d v (before ts j)) ts_is ∙ (by_name d v i t refl own ∙ (by_group d v i t o ((us ++ z ∷ []) ++ j.rest) n refl is low begins ∙ group_reads c t o us z n xs j d_is is listed closes))
  member_goes j e (a_child y xs_is p) = rw xs_is (child_goes j p)

  one_member_goes : (us : List Token) (next : Option Token) (ys xs : List Member) (j : Input) → ahead j ≡ next → IsMember 200 d us next ys → one_member d v xs (before us j) ≡ Ok (xs ++ ys, j)
  unfolding one_member
  one_member_goes us next ys xs j e p = ok_then _ (member_goes j e p) refl

  pub members_go : (us : List Token) (z : Token) (xs : List Member) (j : Input) → AreMembers 200 d us (Some z) xs → IsMark z CloseBrace → members d v (before (us ++ z ∷ []) j) ≡ Ok (xs, j)
  unfolding members
  members_go us z xs j p closes = until_brace_goes (IsMember 200 d) (one_member d v) (member_begins d) one_member_goes us z xs j (members_items p) closes

  -- Entries of groups

  entry_reads : {next : Option Token} (g : List ℕ) (t o : Token) (us : List Token) (m : List ℕ) (y : Init) (at : Span) (l : Input) → ahead l ≡ next → IsName t m → is_handler_name m ≡ false → IsMark o Colon → IsValue 200 d us next y at → entry d v g (before (t ∷ o ∷ us) l) ≡ Ok (mm.Init (record { first = g; second = Some m }) y at t.span, l)
  unfolding entry
  entry_reads g t o us m y at l e is plain colon p =
      ok_then _ (entry_name_goes m t (o ∷ us) l is plain) (ok_then _ (expect_before Colon o us l colon) (ok_then _ (value_goes l e p) refl))

  entry_goes : {g : List ℕ} {ts : List Token} {next : Option Token} {x : Member} (l : Input) → ahead l ≡ next → IsEntry 200 d g ts next x → entry d v g (before ts l) ≡ Ok (x, l)
  entry_goes {g = g} l e (an_entry t o us m y at ts_is x_is is plain colon value) = rw (ts_is, x_is) (entry_reads g t o us m y at l e is plain colon value)

  an_entry_goes : (g : List ℕ) (ts : List Token) (next : Option Token) (ys xs : List Member) (j : Input) → ahead j ≡ next → AnEntry d g ts next ys → one_entry d v g xs (before ts j) ≡ Ok (xs ++ ys, j)
  unfolding one_entry
  an_entry_goes g ts next ys xs j e (ended_entry us es y ts_is ys_is p ends) =
      let read = ended_goes (entry d v g) us es next y j e (entry_goes (before es j) (ahead_before es j e) p) ends in
      rw (ts_is, ys_is) (ok_then _ read refl)

  pub entries_go : (g : List ℕ) (us : List Token) (z : Token) (xs : List Member) (j : Input) → AreEntries 200 d g us (Some z) xs → IsMark z CloseBrace → entries d v g (before (us ++ z ∷ []) j) ≡ Ok (xs, j)
  unfolding entries
  entries_go g us z xs j p closes = until_brace_goes (AnEntry d g) (one_entry d v g) (entry_begins d g) (an_entry_goes g) us z xs j (entries_items p) closes

-- All levels

level_complete : (d : ℕ) → CompleteUnder d (under d) → CompleteUnder (suc d) (record { members = member_braces d (under d); group = group_braces d (under d) })
unfolding member_braces group_braces
level_complete d inside = record {
  members = λ c o us z xs j e p closes. members_go d (under d) inside us z xs j (subst (λ n. AreMembers 200 n us (Some z) xs) (one_less c d e) p) closes;
  group = λ c g o us z xs j e p closes. entries_go d (under d) inside g us z xs j (subst (λ n. AreEntries 200 n g us (Some z) xs) (one_less c d e) p) closes;
}

pub under_complete : (d : ℕ) → CompleteUnder d (under d)
unfolding under
under_complete zero = record {
  members = λ c o us z xs j e p closes. absurd (no_level c e);
  group = λ c g o us z xs j e p closes. absurd (no_level c e);
}
under_complete (suc d) = level_complete d (under_complete d)

-- Documents

object_first : {d : ℕ} {ts : List Token} {x : Decl} (follows : Option Token → Bool) → IsObject 200 d ts x → (is_word ww.Import (follow ts None) ≡ false) × (is_dotted_type follows (ts ++ []) ≡ false)
unfolding same_mark mark_number
object_first follows (an_object c t o us z n xs d_is ts_is x_is is up begins listed closes) = (
  ap (λ ts. is_word ww.Import (follow ts None)) ts_is ∙ upper_no_word ww.Import t is up,
  ap (λ ts. is_dotted_type follows (ts ++ [])) ts_is ∙ no_dots_there follows t (o ∷ ((us ++ z ∷ []) ++ [])) n is (mark_is Dot OpenBrace o begins),
)

-- the document's end
abbrev last_input : Span → Input
last_input end = record { rest = []; end = end; nodes = 0 }

document_reads : (us vs : List Token) (xs : List Import) (z : Decl) (end : Span) → AreImports us (follow vs None) xs → IsObject 200 64 vs z → object_in (under 64) (before vs (last_input end)) ≡ Ok (z, last_input end) → document (before us (before vs (last_input end))) ≡ Ok (record { imports = xs; root = z }, last_input end)
unfolding document root nothing_more
document_reads us vs xs z end are is read =
    let first = object_first (is_mark OpenBrace) is in
    let l : Input = before vs (last_input end) in
    ok_then _ (imports_go us (follow vs None) xs l (ahead_before vs (last_input end) refl) are first.0) (ok_then _ (if_false _ _ first.1 read) refl)

pub document_goes : ((ts : List Token) (x : Decl) (j : Input) → IsObject 200 64 ts x → object_in (under 64) (before ts j) ≡ Ok (x, j)) → (ts : List Token) (end : Span) (x : Document) → IsDocument ts x → reading ts end ≡ Ok x
unfolding reading
document_goes objects ts end x (a_document us vs ys z ts_is x_is are is) =
    let i : Input = record { rest = ts; end = end; nodes = 0 } in
    let at : i ≡ before us (before vs (last_input end)) = same_input_by (ts_is ∙ ap (λ ws. us ++ ws) (sym (append-nil vs))) refl refl in
    let read : document i ≡ Ok (x, last_input end) = rw (at, x_is) (document_reads us vs ys z end are is (objects vs z (last_input end) is)) in
    ap (λ (r : Result (Document × Input) DocFault). elim r as (λ q. Result Document DocFault) [ Ok p ↦ Ok p.0 | Err e ↦ Err e ]) read
