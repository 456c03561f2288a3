-- The canonical texts of values, members and objects spell others that differ in places at most, with no more
-- levels.
use Rattle.std.proofs.Common.{◌≡◌, ℕ, zero, suc, ◌≤◌, inl, false, List, [], ◌∷◌, ◌++◌, Option, Some, refl, ap, subst, ◌∙◌, arith}
use Rattle.piece_laws.specs.Pieces.{AreLawfulTokens, IsLawfulLexeme}
use Rattle.print_laws.proofs.Binding.{no_level, one_less}
use Rattle.print_laws.proofs.Changes.{whole_prints}
use Rattle.print_laws.proofs.MemberForms.{id_spelling, property_spelling, fixed_spelling, signal_spelling, init_spelling, handler_spelling, method_spelling, child_spelling}
use Rattle.print_laws.proofs.MemberOpenings.{members_no_else, end_no_else}
use Rattle.print_laws.proofs.Parameters.{path_prints, two_path, method_parens_print, signal_parens_print}
use Rattle.print_laws.proofs.Signs.{lawful_as, lawful_left, lawful_right}
use Rattle.print_laws.proofs.Statements.{stmts_print, block_prints}
use Rattle.print_laws.proofs.Values.{ObjectSpelling, ValueSpelling, MaybeValueSpelling, ShortMemberSpelling, MemberSpelling, MemberSpellings, spellings_append, member_of_short, members_tail, object_of, expr_value, object_value, value_within, no_value_spelling, a_value_spelling}
use Rattle.qml_ast.specs.declared.decl.Decl.{Decl}
use Rattle.qml_ast.specs.declared.decl.Init.{Init}
use Rattle.qml_ast.specs.declared.decl.Member.{Member}
use Rattle.qml_ast.specs.declared.decl.Member.TheVariants as mm
use Rattle.qml_ast.specs.declared.span.Span.{Span}
use Rattle.qml_grammar.specs.DocumentGrammar.{is_own_word, two, IsObject, object, IsValue, expr as an_expr, value_object, IsMaybeValue, no_value, a_value, IsShortMember, id, property, fixed, signal, initialised, handled, IsMember, short, method, group, child, AreEntries, no_entries, more_entries, IsEntry, entry, AreMembers, no_members, more_members}
use Rattle.qml_grammar.specs.ExpressionGrammar.{IsMark}
use Rattle.qml_grammar.specs.Lexemes.{Lexeme, Token, is_word, name_of_lexeme}
use Rattle.qml_grammar.specs.Names.{is_handler_name}
use Rattle.qml_grammar.specs.StatementGrammar.{follow}
use Rattle.qml_grammar.specs.declared.mark.Mark.TheVariants.{CloseBrace}
use Rattle.qml_grammar.specs.declared.word.Word.TheVariants as ww

-- what tokens of values and members with so many levels spell has canonical texts
pub record PrintsAt (d : ℕ) : Type 0 where
  pub values : (ts : List Token) (next : Option Token) (x : Init) (at : Span) (levels : ℕ) → IsValue 200 d ts next x at → AreLawfulTokens ts → ValueSpelling d levels x
  pub members : (ts : List Token) (z : Token) (xs : List Member) (levels : ℕ) → AreMembers 200 d ts (Some z) xs → IsMark z CloseBrace → AreLawfulTokens ts → MemberSpellings d levels xs

-- an entry of a group as an initialiser
entry_spelling : (d levels : ℕ) (l r : Lexeme) (n m : List ℕ) (x : Init) (a b : Span) → ((at : Span) → is_own_word (Some (record { lexeme = l; span = at })) ≡ false) → IsLawfulLexeme l → IsLawfulLexeme r →
    name_of_lexeme l ≡ Some n → name_of_lexeme r ≡ Some m → is_handler_name m ≡ false → ValueSpelling d levels x → MemberSpelling d levels (mm.Init (record { first = n; second = Some m }) x a b)
entry_spelling d levels l r n m x a b own law_l law_r h k no_handler v =
    member_of_short (init_spelling d levels (record { first = n; second = Some m }) x a b no_handler (two_path l r n m own law_l law_r h k (λ ts t o u ts_is t_own t_is dot u_is. two t o u n m ts_is refl t_own t_is dot u_is (inl no_handler))) v)

module _ (d : ℕ) (deeper : (c : ℕ) → d ≡ suc c → PrintsAt c) where
  pub object_prints : {ts : List Token} {x : Decl} (levels : ℕ) → IsObject 200 d ts x → AreLawfulTokens ts → ObjectSpelling d levels x
  object_prints levels (object c t o us z n xs d_is ts_is x_is is upper open_is are close_is) law =
      let laws : AreLawfulTokens (t ∷ o ∷ us ++ z ∷ []) = lawful_as ts_is law in
      rw x_is (object_of c d levels t.lexeme n xs t.span d_is laws.0 is upper (members_tail c levels xs ((deeper c d_is).members us z xs (suc levels) are close_is (lawful_left us (z ∷ []) laws.1.1))))

  value_prints : {ts : List Token} {next : Option Token} {x : Init} {at : Span} (levels : ℕ) → IsValue 200 d ts next x at → AreLawfulTokens ts → ValueSpelling d levels x
  value_prints levels (an_expr t us y ts_is x_is at_is p no_type) law = rw x_is (expr_value d levels y (whole_prints p law))
  value_prints levels (value_object t us y ts_is x_is at_is p) law = rw x_is (object_value d levels y (object_prints levels p law))

  maybe_value_prints : {ts : List Token} {next : Option Token} {x : Option Init} {at there : Span} (levels : ℕ) → IsMaybeValue 200 d ts next x at there → AreLawfulTokens ts → MaybeValueSpelling d levels x
  maybe_value_prints levels (no_value ts_is x_is at_is no_colon) law = rw x_is (no_value_spelling d levels)
  maybe_value_prints levels (a_value o us y ts_is x_is colon p) law = rw x_is (a_value_spelling d levels y (value_prints levels p (lawful_as ts_is law).1))

  short_member_prints : {ts : List Token} {next : Option Token} {x : Member} (levels : ℕ) → IsShortMember 200 d ts next x → is_word ww.Else next ≡ false → AreLawfulTokens ts → ShortMemberSpelling d levels x
  short_member_prints levels (id t o u n ts_is x_is is colon name_is) no_else law =
      rw x_is (id_spelling d levels u.lexeme n u.span (lawful_as ts_is law).1.1.0 name_is)
  short_member_prints levels (property t u v us k n y at ts_is x_is is kind no_alias name_is value) no_else law =
      let laws : AreLawfulTokens (t ∷ u ∷ v ∷ us) = lawful_as ts_is law in
      rw x_is (property_spelling d levels u.lexeme v.lexeme k n y u.span at v.span laws.1.0 laws.1.1.0 (kind, λ there. no_alias) name_is (maybe_value_prints levels value laws.1.1.1))
  short_member_prints levels (fixed r t u v us k n y at ts_is x_is first is kind no_alias name_is value) no_else law =
      let laws : AreLawfulTokens (r ∷ t ∷ u ∷ v ∷ us) = lawful_as ts_is law in
      rw x_is (fixed_spelling d levels u.lexeme v.lexeme k n y u.span at v.span laws.1.1.0 laws.1.1.1.0 (kind, λ there. no_alias) name_is (maybe_value_prints levels value laws.1.1.1.1))
  short_member_prints levels (signal t u us n ps ts_is x_is is name_is params) no_else law =
      let laws : AreLawfulTokens (t ∷ u ∷ us) = lawful_as ts_is law in
      rw x_is (signal_spelling d levels u.lexeme n ps u.span laws.1.0 name_is (signal_parens_print params laws.1.1))
  short_member_prints levels (initialised t us o vs p y at ts_is x_is path no_handler colon value) no_else law =
      let laws : AreLawfulTokens (t ∷ us ++ o ∷ vs) = lawful_as ts_is law in
      rw x_is (init_spelling d levels p y at t.span no_handler (path_prints path (lawful_left (t ∷ us) (o ∷ vs) laws)) (value_prints levels value (lawful_right (t ∷ us) (o ∷ vs) laws).1))
  short_member_prints {next = next} levels (handled t us o vs p y ts_is x_is path handler colon body) no_else law =
      let laws : AreLawfulTokens (t ∷ us ++ o ∷ vs) = lawful_as ts_is law in
      rw x_is (handler_spelling d levels p y t.span next handler no_else (path_prints path (lawful_left (t ∷ us) (o ∷ vs) laws)) (stmts_print d vs next y levels body (lawful_right (t ∷ us) (o ∷ vs) laws).1))

  entry_prints : {c : ℕ} {n : List ℕ} {ts : List Token} {next : Option Token} {x : Member} (levels : ℕ) (l : Lexeme) → PrintsAt c → c ≤ d → IsEntry 200 c n ts next x →
      ((at : Span) → is_own_word (Some (record { lexeme = l; span = at })) ≡ false) → IsLawfulLexeme l → name_of_lexeme l ≡ Some n → AreLawfulTokens ts → MemberSpelling d levels x
  entry_prints {c = c} {n = n} {next = next} levels l inside le (entry t o us m y at ts_is x_is is no_handler colon value) own law_l named law =
      let laws : AreLawfulTokens (t ∷ o ∷ us) = lawful_as ts_is law in
      rw x_is (entry_spelling d levels l t.lexeme n m y at t.span own law_l laws.0 named is no_handler (value_within c d levels y le (inside.values us next y at levels value laws.1.1)))

  entries_print : {c : ℕ} {n : List ℕ} {ts : List Token} {next : Option Token} {xs : List Member} (levels : ℕ) (l : Lexeme) → PrintsAt c → c ≤ d → AreEntries 200 c n ts next xs →
      ((at : Span) → is_own_word (Some (record { lexeme = l; span = at })) ≡ false) → IsLawfulLexeme l → name_of_lexeme l ≡ Some n → AreLawfulTokens ts → MemberSpellings d levels xs
  entries_print levels l inside le (no_entries ts_is xs_is) own law_l named law = rw xs_is tt
  entries_print levels l inside le (more_entries us es vs y ys ts_is xs_is p end q) own law_l named law =
      let laws : AreLawfulTokens (us ++ es ++ vs) = lawful_as ts_is law in
      rw xs_is (entry_prints levels l inside le p own law_l named (lawful_left us es (lawful_left (us ++ es) vs laws)), entries_print levels l inside le q own law_l named (lawful_right (us ++ es) vs laws))

  member_prints : {ts : List Token} {next : Option Token} {xs : List Member} (levels : ℕ) → IsMember 200 d ts next xs → is_word ww.Else next ≡ false → AreLawfulTokens ts → MemberSpellings d levels xs
  member_prints levels (short us es x ts_is xs_is p end) no_else law =
      rw xs_is (member_of_short (short_member_prints levels p (end_no_else end no_else) (lawful_left us es (lawful_as ts_is law))), tt)
  member_prints levels (method t u us vs n ps ys ts_is xs_is is name_is params body) no_else law =
      let laws : AreLawfulTokens (t ∷ u ∷ us ++ vs) = lawful_as ts_is law in
      rw xs_is (method_spelling d levels u.lexeme n ps ys u.span laws.1.0 name_is (method_parens_print params (lawful_left us vs laws.1.1)) (block_prints levels (λ c e. stmts_print c) body (lawful_right us vs laws.1.1)), tt)
  member_prints levels (group c t o us z n d_is ts_is own is lower open_is are close_is) no_else law =
      let laws : AreLawfulTokens (t ∷ o ∷ us ++ z ∷ []) = lawful_as ts_is law in
      entries_print levels t.lexeme (deeper c d_is) (omega arith) are (λ at. own) laws.0 is (lawful_left us (z ∷ []) laws.1.1)
  member_prints levels (child y xs_is p) no_else law = rw xs_is (child_spelling d levels y (object_prints levels p law), tt)

  members_print : {ts : List Token} {next : Option Token} {xs : List Member} (levels : ℕ) (z : Token) → AreMembers 200 d ts next xs → next ≡ Some z → IsMark z CloseBrace → AreLawfulTokens ts → MemberSpellings d levels xs
  members_print levels z (no_members ts_is xs_is) next_is close_is law = rw xs_is tt
  members_print {next = next} levels z (more_members us vs ys zs ts_is xs_is p q) next_is close_is law =
      let laws : AreLawfulTokens (us ++ vs) = lawful_as ts_is law in
      let no_else : is_word ww.Else (follow vs next) ≡ false = ap (λ n. is_word ww.Else (follow vs n)) next_is ∙ members_no_else z close_is q in
      rw xs_is (spellings_append d levels ys zs (member_prints levels p no_else (lawful_left us vs laws)) (members_print levels z q next_is close_is (lawful_right us vs laws)))

  prints_here : PrintsAt d
  prints_here = record {
    values = λ ts next x at levels p law. value_prints levels p law;
    members = λ ts z xs levels p close_is law. members_print levels z p refl close_is law;
  }

-- All levels

prints_at : (d : ℕ) → PrintsAt d
prints_at zero = prints_here zero (λ c e. absurd (no_level c e))
prints_at (suc d) = prints_here (suc d) (λ c e. subst PrintsAt (one_less c d e) (prints_at d))

-- the canonical text of an object that tokens of a text spell spells one like it, with no more levels
pub object_spelling : (d levels : ℕ) (ts : List Token) (x : Decl) → IsObject 200 d ts x → AreLawfulTokens ts → ObjectSpelling d levels x
object_spelling d levels ts x p law = object_prints d (λ c e. prints_at c) levels p law
