-- A value or an object is read, or refused, by the tokens up to the next one alone, and by those of a name with
-- dots.
use Rattle.std.proofs.Common.{◌≡◌, ℕ, ◌+◌, ◌<◌, ◌||◌, not, Bool, true, false, is_some, List, [], ◌∷◌, ◌++◌, length, Option, Some, None, Result, Ok, Err, refl, sym, ap, subst, subst₂, ◌∙◌, arith}
use Rattle.qml_ast.specs.declared.decl.Decl.{Decl, roll-Decl}
use Rattle.qml_ast.specs.declared.decl.Init.TheVariants as ii
use Rattle.qml_ast.specs.declared.expr.Expr.{Expr}
use Rattle.qml_ast.specs.declared.expr.Expr.TheVariants.{Name}
use Rattle.qml_ast.specs.declared.fault.DocFault.{DocFault}
use Rattle.qml_ast.specs.declared.span.Span.{Span}
use Rattle.qml_grammar.specs.Documents.{value_place, Valued, Under, body, object_in, object_value, expr_value, value_in}
use Rattle.qml_grammar.specs.ExpressionGrammar.{IsExpr, name, primary, postfix, unary, product, sum, order, equality, conjunction, disjunction}
use Rattle.qml_grammar.specs.Expressions.{whole}
use Rattle.qml_grammar.specs.Inputs.{Input, Parser, ahead, place, refused, take_token}
use Rattle.qml_grammar.specs.Lexemes.{Lexeme, plain, word, Token, head, tail, name_of, operand_name_of, value_of, is_name, is_mark, looked_up, product_operator, sum_operator, order_operator, equality_operator}
use Rattle.qml_grammar.specs.Names.{upper_first, name_is, is_dotted_type}
use Rattle.qml_grammar.specs.StatementGrammar.{goes_on}
use Rattle.qml_grammar.specs.Words.{word_text}
use Rattle.qml_grammar.specs.declared.mark.Mark.TheVariants.{OpenBrace, OpenParen, Dot, Question, DoubleAmpersand, DoubleBar}
use Rattle.qml_grammar.specs.declared.word.Word.{Word}
use Rattle.qml_grammar.specs.declared.word.Word.TheVariants.{Var}
use Rattle.grammar_laws.specs.Faults.{IsLike}
use Rattle.grammar_laws.specs.Laws.{Way}
use Rattle.grammar_laws.proofs.Behind.{behind, ok_then, if_false}
use Rattle.grammar_laws.proofs.Local.{LocalOk, followed, branch, choose, chosen, not_chosen, chosen_in, before, onward, bind_err, err_then}
use Rattle.grammar_laws.proofs.Reading.{whole_reads, reads_whole}
use Rattle.grammar_laws.proofs.Tools.{bind_ok, same_value, same_input}
use Rattle.grammar_laws.proofs.Viable.{same_text}
use Rattle.fault_laws.proofs.Dotted.{first_false, no_upper_type, seen_type, settled, type_same, some_of}
use Rattle.fault_laws.proofs.Firm.{FirmFails, Firm, or_first, firm_of, firm_followed, firm_placed, firm_choose, firm_branch, firm_two, unless, firm_unless, sure_split, place_at}
use Rattle.fault_laws.proofs.Grows.{Grows, grows_followed, grows_branch, grows_choose, grows_behind, grows_token, grows_refused}
use Rattle.fault_laws.proofs.Spelled.{Spelled, expr_spelled, place_alike}
use Rattle.fault_laws.proofs.Sure.{Stands, Fails, Sure, sure_followed, sure_branch, sure_choose}
use Rattle.fault_laws.proofs.SureStatements.{sure_whole, whole_grows}
use Rattle.fault_laws.proofs.SureTokens.{sure_refused, sure_pure, sure_token, sure_placed}

abbrev pub Well : {A : Type 0} → Parser A → Type 0
Well p = Sure (Unit {0}) (Unit {0}) p

-- Names that begin with an upper-case letter

word_lower : (w : Word) → upper_first (word_text w) ≡ false
unfolding word_text
word_lower Var = refl
word_lower _ = refl

abbrev AnOperand : Lexeme → Span → Type 0
AnOperand l s = (n : List ℕ) × (operand_name_of (Some (record { lexeme = l; span = s })) ≡ Some n) × (value_of (Some (record { lexeme = l; span = s })) ≡ None)

upper_operand : (l : Lexeme) (s : Span) → name_is upper_first (Some (record { lexeme = l; span = s })) ≡ true → AnOperand l s
upper_operand (plain n) s h = (n, refl, refl)
upper_operand (word w) s h = absurd (let e : false ≡ true = sym (word_lower w) ∙ h in cc)
upper_operand _ s h = absurd cc

upper_name_by : (o : Option (List ℕ)) → elim o [ Some n ↦ upper_first n | None ↦ false ] ≡ true → is_some o ≡ true
upper_name_by None h = absurd cc
upper_name_by (Some n) h = refl

pub upper_name : (t : Token) → name_is upper_first (Some t) ≡ true → is_name (Some t) ≡ true
upper_name t h = upper_name_by (name_of (Some t)) h

upper_of_by : (o : Option (List ℕ)) (n : List ℕ) → o ≡ Some n → elim o [ Some m ↦ upper_first m | None ↦ false ] ≡ true → upper_first n ≡ true
upper_of_by o n e h = sym (ap (λ q. elim q [ Some m ↦ upper_first m | None ↦ false ]) e) ∙ h

pub upper_of : (t : Token) (i : Input) (n : List ℕ) → i.rest ≡ t ∷ tail i.rest → name_is upper_first (Some t) ≡ true → name_of (ahead i) ≡ Some n → upper_first n ≡ true
upper_of t i n first h e = upper_of_by (name_of (Some t)) n (sym (ap (λ ts. name_of (head ts)) first) ∙ e) h

pub some_by : {B : Type 0} (table : Option Token → Option B) → table None ≡ None → (o : Option Token) (x : B) → table o ≡ Some x → is_some o ≡ true
some_by table none None x h = absurd (let e = sym none ∙ h in cc)
some_by table none (Some t) x h = refl

none_first : (a b c d e f g h i : Bool) → (a || b || c || d || e || f || g || h || i) ≡ false → not a ≡ true
none_first true b c d e f g h i k = absurd cc
none_first false b c d e f g h i k = refl

no_dot_next : (o : Option Token) → goes_on o ≡ false → not (is_mark Dot o) ≡ true
no_dot_next o h = none_first (is_mark Dot o) (is_mark OpenParen o) (is_mark Question o) (is_mark DoubleAmpersand o) (is_mark DoubleBar o) (is_some (looked_up product_operator o)) (is_some (looked_up sum_operator o)) (is_some (looked_up order_operator o)) (is_some (looked_up equality_operator o)) h

-- Expressions

-- a name alone is an expression
alone_reads : (d : ℕ) (t : Token) (s : Span) (m : ℕ) → name_is upper_first (Some t) ≡ true → (y : Expr × Input) × (whole d (record { rest = t ∷ []; end = s; nodes = m }) ≡ Ok y)
alone_reads d t s m h =
    let a = upper_operand t.lexeme t.span h in
    let j : Input = record { rest = []; end = s; nodes = m } in
    let spelled : IsExpr d 1 (t ∷ []) (Name a.0) = disjunction (conjunction (equality (order (sum (product (unary (postfix (primary (name t a.0 refl refl refl a.1 a.2))))))))) in (
      (Name a.0, j),
      reads_whole d (record { rest = t ∷ []; end = s; nodes = m }) j (Name a.0) (record {
        text = t ∷ [];
        way = record { rest = refl; used = omega arith; end = refl };
        spelled = record { nodes = 1; few = omega arith; spelled = spelled; longest = refl };
      }),
    )

apart_from : {X A : Type 0} {r : Result (A × Input) DocFault} {e : DocFault} {y : A × Input} → r ≡ Err e → r ≡ Ok y → X
apart_from {A = A} {e = e} {y = y} g h = absurd (let both : ◌≡◌ {A = Result (A × Input) DocFault} (Err e) (Ok y) = sym g ∙ h in cc)

module _ (d : ℕ) (t : Token) (i : Input) (first : i.rest ≡ t ∷ tail i.rest) (upper : name_is upper_first (Some t) ≡ true) (e : DocFault) (c : Fails (Unit {0}) (Unit {0}) (whole d) i e) where
  never_at_once : {X : Type 0} → c.text ≡ [] → X
  never_at_once h =
      let l : Input = record { rest = t ∷ []; end = i.end; nodes = c.at.nodes } in
      let rest : c.at.rest ≡ t ∷ tail i.rest = sym ((c.way).rest ∙ ap (λ ts. ts ++ c.at.rest) h) ∙ first in
      let like : IsLike l c.at = record { ahead = sym (ap head rest); place = sym (place_at c.at t (tail i.rest) rest); nodes = refl } in
      let failed : whole d (behind [] c.nodes l) ≡ Err e = subst (λ ts. whole d (behind ts c.nodes l) ≡ Err e) h (c.again l like) in
      apart_from failed (alone_reads d t i.end (c.nodes + c.at.nodes) upper).1

  whole_fails_by : (ts : List Token) → c.text ≡ ts → FirmFails t (whole d) i e
  whole_fails_by [] h = never_at_once h
  whole_fails_by (u ∷ us) h =
      let same : u ∷ (us ++ c.at.rest) ≡ t ∷ tail i.rest = sym ((c.way).rest ∙ ap (λ ts. ts ++ c.at.rest) h) ∙ first in
      let text : c.text ≡ t ∷ us = h ∙ ap (λ (v : Token). v ∷ us) (ap (or_first t) same) in
      record {
        nodes = c.nodes;
        others = us;
        at = c.at;
        way = subst (λ ts. Way i c.at c.nodes ts) text c.way;
        keeps = c.keeps tt;
        place = subst (λ ts. Stands (Unit {0}) e ts (place c.at)) text c.place;
        again = λ l s. subst (λ ts. whole d (behind ts c.nodes l) ≡ Err e) text (c.again l s);
      }

module _ (d : ℕ) where
  whole_well : Well (whole d)
  whole_well = sure_whole (Unit {0}) d

  abbrev valued : Expr → Input → Valued
  valued x i = record { init = ii.Expr x; span = value_place x i.rest i.end }

  valued_from : (i k : Input) (x : Expr) → whole d i ≡ Ok (x, k) → LocalOk (expr_value d) i k (valued x i)
  unfolding expr_value
  valued_from i k x h =
      let a = whole_well.local.ok i x k h in
      let r = whole_reads d i k x h in
      let spelled : Spelled a.text = subst (λ ts. Spelled ts) (same_text r.way a.way) (expr_spelled (r.spelled).spelled) in
      let there : (l : Input) → value_place x (a.text ++ l.rest) l.end ≡ value_place x i.rest i.end =
      λ l. place_alike x a.text l.rest k.rest l.end i.end spelled ∙ sym (ap (λ ts. value_place x ts i.end) (a.way).rest) in
      record {
        nodes = a.nodes;
        text = a.text;
        way = a.way;
        again = λ l s. ok_then _ (a.again l s) (ap (λ p. Ok (record { init = ii.Expr x; span = p }, l)) (there l));
      }

  valued_ok : (i : Input) (x : Valued) (j : Input) → expr_value d i ≡ Ok (x, j) → LocalOk (expr_value d) i j x
  unfolding expr_value
  valued_ok i x j h =
      let b = bind_ok (whole d i) _ _ h in
      subst₂ (λ z l. LocalOk (expr_value d) i l z) (same_value (valued b.value i) x b.at j b.onward) (same_input (valued b.value i) x b.at j b.onward) (valued_from i b.at b.value b.first)

  valued_keeps : (i : Input) (x : Valued) (j : Input) → expr_value d i ≡ Ok (x, j) → i.nodes ≡ j.nodes
  unfolding expr_value
  valued_keeps i x j h =
      let b = bind_ok (whole d i) _ _ h in
      whole_well.keeps tt i b.value b.at b.first ∙ ap (λ (l : Input). l.nodes) (same_input (valued b.value i) x b.at j b.onward)

  valued_failed : (i : Input) (e : DocFault) → expr_value d i ≡ Err e → whole d i ≡ Err e
  unfolding expr_value
  valued_failed i e h = elim (bind_err (whole d i) _ _ h) [ before g ↦ g | onward x k g f ↦ absurd cc ]

  valued_err : (i : Input) (e : DocFault) → whole d i ≡ Err e → expr_value d i ≡ Err e
  unfolding expr_value
  valued_err i e h = err_then _ h

  valued_fails : (i : Input) (e : DocFault) → expr_value d i ≡ Err e → Fails (Unit {0}) (Unit {0}) (expr_value d) i e
  valued_fails i e h =
      let a = whole_well.fails i e (valued_failed i e h) in
      record { nodes = a.nodes; text = a.text; at = a.at; way = a.way; keeps = a.keeps; place = a.place; again = λ l s. valued_err (behind a.text a.nodes l) e (a.again l s) }

  pub expr_value_well : Well (expr_value d)
  expr_value_well = record { local = record { ok = valued_ok }; keeps = λ z. valued_keeps; fails = valued_fails }

  pub expr_value_grows : Grows (expr_value d)
  unfolding expr_value
  expr_value_grows i x j t h =
      let b = bind_ok (whole d i) _ _ h in
      subst (λ (k : Input). length k.rest < length i.rest) (same_input (valued b.value i) x b.at j b.onward) (whole_grows d i b.value b.at t b.first)

  expr_value_firm_fails : (t : Token) (i : Input) → i.rest ≡ t ∷ tail i.rest → name_is upper_first (Some t) ≡ true → (e : DocFault) → expr_value d i ≡ Err e → FirmFails t (expr_value d) i e
  expr_value_firm_fails t i first upper e h =
      let g = valued_failed i e h in
      let c = whole_well.fails i e g in
      let a = whole_fails_by d t i first upper e c c.text refl in
      record { nodes = a.nodes; others = a.others; at = a.at; way = a.way; keeps = a.keeps; place = a.place; again = λ l s. valued_err (behind (t ∷ a.others) a.nodes l) e (a.again l s) }

  expr_value_firm : (t : Token) (i : Input) → i.rest ≡ t ∷ tail i.rest → name_is upper_first (Some t) ≡ true → Firm t (expr_value d) i
  expr_value_firm t i first upper = firm_of t (expr_value d) i first expr_value_well expr_value_grows (expr_value_firm_fails t i first upper)

  -- its tokens decide whether it begins with a type's name
  settled_in : (t : Token) (us : List Token) (next : Option Token) → Spelled (t ∷ us) → goes_on next ≡ false → is_name (Some t) ≡ true → settled (not (is_mark Dot next)) us ≡ true
  settled_in t us next p stops n =
      let text : t ∷ us ≡ p.token ∷ p.others = p.text in
      let same : p.token ≡ t = sym (ap (or_first t) text) in
      let others : p.others ≡ us = sym (ap tail text) in
      let is : settled true us ≡ true = subst (λ ts. settled true ts ≡ true) others (p.decided (ap (λ (u : Token). is_name (Some u)) same ∙ n)) in
      subst (λ b. settled b us ≡ true) (sym (no_dot_next next stops)) is

  expr_value_settles : (t : Token) (i : Input) (x : Valued) (j : Input) (n : ℕ) (us r : List Token) → expr_value d i ≡ Ok (x, j) → Way i j n (t ∷ us) → head r ≡ head j.rest → is_dotted_type (is_mark OpenBrace) (t ∷ (us ++ r)) ≡ is_dotted_type (is_mark OpenBrace) (t ∷ (us ++ j.rest))
  unfolding expr_value
  expr_value_settles t i x j n us r h w same =
      let b = bind_ok (whole d i) _ _ h in
      let whole_is : whole d i ≡ Ok (b.value, j) = b.first ∙ ap (λ k. Ok (b.value, k)) (same_input (valued b.value i) x b.at j b.onward) in
      let p = whole_reads d i j b.value whole_is in
      let spelled : Spelled (t ∷ us) = subst (λ ts. Spelled ts) (same_text p.way w) (expr_spelled (p.spelled).spelled) in
      type_same (is_mark OpenBrace) t us j.rest r (settled_in t us (ahead j) spelled (p.spelled).longest) same

-- Objects

module _ (v : Under) (members : Well v.members) where
  body_well : Well (body v)
  unfolding body
  body_well = sure_branch (Unit {0}) (Unit {0}) (is_mark OpenBrace) members (sure_refused (Unit {0}) (Unit {0}))

  -- a name was taken, and the body follows
  abbrev named_body : List ℕ → Span → Parser Decl
  named_body n s = followed take_token (λ u. followed (body v) (λ xs l. Ok (roll-Decl (record { name = n; members = xs; span = s }), l)))

  abbrev upper_body : Span → List ℕ → Parser Decl
  upper_body s n = branch (λ o. upper_first n) (named_body n s) refused

  abbrev object_at : Span → Parser Decl
  object_at s = choose name_of (upper_body s) refused

  rest_well : (n : List ℕ) (s : Span) → Well (followed (body v) (λ xs l. Ok (roll-Decl (record { name = n; members = xs; span = s }), l)))
  rest_well n s = sure_followed (Unit {0}) (Unit {0}) body_well (λ xs. sure_pure (Unit {0}) (Unit {0}) _)

  upper_body_well : (s : Span) (n : List ℕ) → Well (upper_body s n)
  upper_body_well s n = sure_branch (Unit {0}) (Unit {0}) (λ o. upper_first n) (sure_followed (Unit {0}) (Unit {0}) (sure_token (Unit {0}) (Unit {0})) (λ u. rest_well n s)) (sure_refused (Unit {0}) (Unit {0}))

  object_at_well : (s : Span) → Well (object_at s)
  object_at_well s = sure_choose (Unit {0}) (Unit {0}) name_of (upper_body_well s) (sure_refused (Unit {0}) (Unit {0}))

  object_wants : (s : Span) (i : Input) (x : Decl) (j : Input) → object_at s i ≡ Ok (x, j) → is_some (ahead i) ≡ true
  object_wants s i x j h = elim (chosen_in (name_of (ahead i)) _ _ _ h) [
    | chosen n e g ↦ some_by name_of refl (ahead i) n e
    | not_chosen e g ↦ absurd cc
  ]

  pub object_well : Well (object_in v)
  unfolding object_in
  object_well = sure_placed (Unit {0}) (Unit {0}) object_at object_at_well (λ i x j h. object_wants (place i) i x j h)

  pub object_grows : Grows (object_in v)
  unfolding object_in
  object_grows i x j t h = grows_choose name_of (upper_body (place i)) refused (λ n. grows_branch (λ o. upper_first n) (named_body n (place i)) refused (grows_behind _ (λ u. (rest_well n (place i)).local)) grows_refused) grows_refused i x j t h

  pub object_firm_fails : (t : Token) (i : Input) → i.rest ≡ t ∷ tail i.rest → name_is upper_first (Some t) ≡ true → (e : DocFault) → object_in v i ≡ Err e → FirmFails t (object_in v) i e
  unfolding object_in
  object_firm_fails t i first upper e h = firm_placed t i object_at (firm_choose t i name_of (upper_body (place i)) refused
      (λ n f o g. firm_branch t i (λ q. upper_first n) (named_body n (place i)) refused
      (λ f2 u g2. firm_followed t take_token i first (sure_token (Unit {0}) (Unit {0})) grows_token _ (λ w. rest_well n (place i)) (λ f3 g3. absurd cc) f2 g2)
      (λ f2 u g2. absurd (let b : false ≡ true = sym u ∙ upper_of t i n first upper o in cc)) f g)
      (λ f o g. absurd (let b : false ≡ true = sym (ap is_some (sym (ap (λ ts. name_of (head ts)) first) ∙ o)) ∙ upper_name t upper in cc))) e h

  pub object_firm : (t : Token) (i : Input) → i.rest ≡ t ∷ tail i.rest → name_is upper_first (Some t) ≡ true → Firm t (object_in v) i
  object_firm t i first upper = firm_of t (object_in v) i first object_well object_grows (object_firm_fails t i first upper)

  abbrev object_valued : Span → Parser Valued
  object_valued s = followed (object_in v) (λ x l. Ok (record { init = ii.Object x; span = s }, l))

  valued_at_well : (s : Span) → Well (object_valued s)
  valued_at_well s = sure_followed (Unit {0}) (Unit {0}) object_well (λ x. sure_pure (Unit {0}) (Unit {0}) _)

  object_some : (i : Input) (x : Decl) (j : Input) → object_in v i ≡ Ok (x, j) → is_some (ahead i) ≡ true
  unfolding object_in
  object_some i x j h = object_wants (place i) i x j h

  object_value_well : Well (object_value v)
  unfolding object_value
  object_value_well = sure_placed (Unit {0}) (Unit {0}) object_valued valued_at_well (λ i x j h. let b = bind_ok (object_in v i) _ _ h in object_some i b.value b.at b.first)

  object_value_grows : Grows (object_value v)
  unfolding object_value
  object_value_grows i x j t h = grows_followed (object_in v) _ object_grows (λ y. (sure_pure (Unit {0}) (Unit {0}) (record { init = ii.Object y; span = place i })).local) i x j t h

  object_value_firm : (t : Token) (i : Input) → i.rest ≡ t ∷ tail i.rest → name_is upper_first (Some t) ≡ true → Firm t (object_value v) i
  unfolding object_value
  object_value_firm t i first upper = firm_of t (object_value v) i first object_value_well object_value_grows
      (firm_placed t i object_valued (firm_followed t (object_in v) i first object_well object_grows _ (λ x. sure_pure (Unit {0}) (Unit {0}) _) (object_firm_fails t i first upper)))

  -- Values

  module _ (d : ℕ) where
    value_firm : (t : Token) (i : Input) → i.rest ≡ t ∷ tail i.rest → name_is upper_first (Some t) ≡ true → Firm t (value_in d v) i
    unfolding value_in
    value_firm t i first upper =
        let n = some_of (name_of (Some t)) (upper_name t upper) in
        firm_two t (name_is upper_first) (is_mark OpenBrace) (object_value v) (unless (is_dotted_type (is_mark OpenBrace)) (expr_value d)) i
        (λ h. object_value_firm t i first upper)
        (λ h. firm_unless t (is_dotted_type (is_mark OpenBrace)) (expr_value d) i first (seen_type (is_mark OpenBrace) t (tail i.rest) n.0 n.1) (upper_name t upper) upper (expr_value_firm d t i first upper) (expr_value_settles d t i))

    value_other : (i : Input) → name_is upper_first (ahead i) ≡ false → value_in d v i ≡ expr_value d i
    unfolding value_in
    value_other i h = if_false _ _ (first_false (is_mark OpenBrace (head (tail i.rest))) h) (if_false _ _ (no_upper_type (is_mark OpenBrace) i.rest h) refl)

    pub value_well : Well (value_in d v)
    value_well = sure_split (name_is upper_first) refl (value_in d v) (expr_value d) value_firm (expr_value_well d) value_other
