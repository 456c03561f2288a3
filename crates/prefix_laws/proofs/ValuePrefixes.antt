-- What stands before the first fault of an object or a value can go on, if what stands in braces can.
use Rattle.std.proofs.Common.{◌≡◌, ℕ, suc, true, List, [], ◌∷◌, ◌++◌, Option, Some, None, Err, inl, inr, refl, ap, arith}
use Rattle.qml_ast.specs.declared.decl.Decl.{Decl, roll-Decl}
use Rattle.qml_ast.specs.declared.decl.Init.TheVariants as ii
use Rattle.qml_ast.specs.declared.decl.Member.{Member}
use Rattle.qml_ast.specs.declared.fault.DocFault.{DocFault}
use Rattle.qml_grammar.specs.DocumentGrammar.{IsName, IsNoType, IsObject, object, IsValue, expr as an_expr, value_object, AreEntries, no_entries, AreMembers, no_members}
use Rattle.qml_grammar.specs.Documents.{value_place, Valued, Under, body, object_in, object_value, expr_value, value_in}
use Rattle.qml_grammar.specs.ExpressionGrammar.{IsMark}
use Rattle.qml_grammar.specs.Expressions.{whole}
use Rattle.qml_grammar.specs.Inputs.{Input, ahead, after}
use Rattle.qml_grammar.specs.Lexemes.{Token, name_of, is_mark}
use Rattle.qml_grammar.specs.Marks.{same_mark, mark_number}
use Rattle.qml_grammar.specs.Names.{upper_first, is_dotted_type, begins_object}
use Rattle.qml_grammar.specs.declared.mark.Mark.TheVariants.{OpenBrace, CloseBrace}
use Rattle.grammar_laws.proofs.First.{expr_begins}
use Rattle.grammar_laws.proofs.Local.{chosen, not_chosen, chosen_in}
use Rattle.grammar_laws.proofs.Tools.{if_ok, ahead_gives, way_token}
use Rattle.prefix_laws.proofs.DocumentSteps.{refused_place, unsupported_place, Onward}
use Rattle.prefix_laws.proofs.DocumentTokens.{upper_name, an_upper, in_braces, upper_is}
use Rattle.prefix_laws.proofs.Going.{Halts, halts_here, halts_as, halts_behind, made_err, Fills, fills, the_mark, mark_is}
use Rattle.prefix_laws.proofs.Moved.{brace_tests, brace_stops}
use Rattle.prefix_laws.proofs.PartPrefixes.{Brace}
use Rattle.prefix_laws.proofs.StatementPrefixes.{IsWholePrefix, whole_halts, empty_whole}

-- What stands in braces

-- "{", what stands there one level further in, and "}"
pub record InBraces (Spells : ℕ → List Token → Option Token → List Member → Type 0) (d : ℕ) (ts : List Token) (xs : List Member) : Type 0 where
  pub less : ℕ
  pub one_less : d ≡ suc less
  pub begin : Token
  pub text : List Token
  pub close : Token
  pub is : ts ≡ begin ∷ text ++ close ∷ []
  pub begins : IsMark begin OpenBrace
  pub spelled : Spells less text (Some close) xs
  pub closes : IsMark close CloseBrace

-- with others behind them the tokens are the body of an object, with one level more
abbrev pub IsBodyPrefix : ℕ → List Token → Type 0
IsBodyPrefix d = Fills (λ most. InBraces (AreMembers most) (suc d))

-- likewise that of the group of this name
abbrev pub IsGroupPrefix : ℕ → List ℕ → List Token → Type 0
IsGroupPrefix d n = Fills (λ most. InBraces (λ c. AreEntries most c n) (suc d))

-- likewise an object
abbrev pub IsObjectPrefix : ℕ → List Token → Type 0
IsObjectPrefix d = Fills (λ most. IsObject most (suc d))

-- likewise a value, before a `}`
abbrev pub IsValuePrefix : ℕ → List Token → Type 0
IsValuePrefix d = Onward (λ most ts next (x : Valued). IsValue most (suc d) ts next x.init x.span)

-- where the readings one level further in fail, what was taken can go on
pub record PrefixesUnder (d : ℕ) (v : Under) : Type 0 where
  pub members : (i : Input) (e : DocFault) → is_mark OpenBrace (ahead i) ≡ true → v.members i ≡ Err e → Halts (IsBodyPrefix d) i e
  pub group : (n : List ℕ) (i : Input) (e : DocFault) → is_mark OpenBrace (ahead i) ≡ true → v.group n i ≡ Err e → Halts (IsGroupPrefix d n) i e

pub empty_body : (d : ℕ) → IsBodyPrefix d []
empty_body d = fills (in_braces []) 200 [] (omega arith) refl (record { less = d; one_less = refl; begin = the_mark OpenBrace; text = []; close = the_mark CloseBrace; is = refl; begins = mark_is OpenBrace; spelled = no_members refl refl; closes = mark_is CloseBrace })

pub empty_group : (d : ℕ) (n : List ℕ) → IsGroupPrefix d n []
empty_group d n = fills (in_braces []) 200 [] (omega arith) refl (record { less = d; one_less = refl; begin = the_mark OpenBrace; text = []; close = the_mark CloseBrace; is = refl; begins = mark_is OpenBrace; spelled = no_entries refl refl; closes = mark_is CloseBrace })

-- Objects

some_object : (d : ℕ) → IsObject 200 (suc d) (an_upper ∷ in_braces []) (roll-Decl (record { name = upper_name; members = []; span = an_upper.span }))
some_object d = object d an_upper (the_mark OpenBrace) [] (the_mark CloseBrace) upper_name [] refl refl refl upper_is refl (mark_is OpenBrace) (no_members refl refl) (mark_is CloseBrace)

pub missing_object : (d : ℕ) → IsObjectPrefix d []
missing_object d = fills (an_upper ∷ in_braces []) 200 _ (omega arith) refl (some_object d)

-- a name and its body
pub named_object : (d : ℕ) (t : Token) (n : List ℕ) (us : List Token) → IsName t n → upper_first n ≡ true → IsBodyPrefix d us → IsObjectPrefix d (t ∷ us)
named_object d t n us is up w =
    let p = w.spelled in
    fills w.others w.most (roll-Decl (record { name = n; members = w.value; span = t.span })) w.enough refl (object p.less t p.begin p.text p.close n w.value p.one_less (ap (λ ts. t ∷ ts) p.is) refl is up p.begins p.spelled p.closes)

-- Values

brace_no_type : (ts : List Token) (next : Option Token) → Brace next → IsNoType ts next
unfolding same_mark mark_number
brace_no_type ts next b a z names up up_last = brace_tests (is_mark OpenBrace) (λ s. refl) next b

-- what is not empty
record First (ts : List Token) : Type 0 where
  token : Token
  others : List Token
  text : ts ≡ token ∷ others

object_first : {most d : ℕ} {ts : List Token} {x : Decl} → IsObject most d ts x → First ts
object_first (object c t o us z n xs d_is ts_is x_is is up opens members closes) = record { token = t; others = o ∷ us ++ z ∷ []; text = ts_is }

object_on : (d : ℕ) (ts : List Token) → IsObjectPrefix d ts → IsValuePrefix d ts
object_on d ts w =
    let f = object_first w.spelled in
    record {
      others = w.others;
      most = w.most;
      enough = w.enough;
      value = record { init = ii.Object w.value; span = f.token.span };
      spelled = λ next b. value_object f.token f.others w.value f.text refl refl w.spelled;
    }

expr_on : (d : ℕ) (ts : List Token) → IsWholePrefix d ts → IsValuePrefix d ts
expr_on d ts w =
    let f = expr_begins ((w.spelled None refl).spelled) in
    record {
      others = w.others;
      most = w.most;
      enough = w.enough;
      value = record { init = ii.Expr w.value; span = value_place w.value (ts ++ w.others) f.token.span };
      spelled = λ next b. an_expr f.token f.others w.value f.text refl refl (w.spelled next (brace_stops next b)) (brace_no_type (ts ++ w.others) next b);
    }

pub missing_value : (d : ℕ) → IsValuePrefix d []
missing_value d = expr_on d [] (empty_whole d)

-- Faults

module _ (d : ℕ) (v : Under) (inside : PrefixesUnder d v) where
  body_halts : (i : Input) (e : DocFault) → body v i ≡ Err e → Halts (IsBodyPrefix d) i e
  unfolding body
  body_halts i e h = elim (if_ok (is_mark OpenBrace (ahead i)) _ _ _ h) [
    | inl a ↦ inside.members i e a.0 a.1
    | inr a ↦ halts_here (refused_place {A = List Member} i e a.1) (empty_body d)
  ]

  pub object_halts : (i : Input) (e : DocFault) → object_in v i ≡ Err e → Halts (IsObjectPrefix d) i e
  unfolding object_in
  object_halts i e h = elim (chosen_in (name_of (ahead i)) _ _ _ h) [
    | chosen n o g ↦ elim (if_ok (upper_first n) _ _ _ g) [
      | inl a ↦ (
          let t = ahead_gives name_of refl i n o in
          halts_behind (way_token t.token t.rest) (halts_as (λ us w. named_object d t.token n us t.is a.0 w) (body_halts (after i) e (made_err (body v) _ (after i) e a.1))))
      | inr a ↦ halts_here (refused_place {A = Decl} i e a.1) (missing_object d)
    ]
    | not_chosen o g ↦ halts_here (refused_place {A = Decl} i e g) (missing_object d)
  ]

  object_value_halts : (i : Input) (e : DocFault) → object_value v i ≡ Err e → Halts (IsValuePrefix d) i e
  unfolding object_value
  object_value_halts i e h = halts_as (object_on d) (object_halts i e (made_err (object_in v) _ i e h))

  expr_value_halts : (i : Input) (e : DocFault) → expr_value d i ≡ Err e → Halts (IsValuePrefix d) i e
  unfolding expr_value
  expr_value_halts i e h = halts_as (expr_on d) (whole_halts d i e (made_err (whole d) _ i e h))

  pub value_halts : (i : Input) (e : DocFault) → value_in d v i ≡ Err e → Halts (IsValuePrefix d) i e
  unfolding value_in
  value_halts i e h = elim (if_ok (begins_object i.rest) _ _ _ h) [
    | inl a ↦ object_value_halts i e a.1
    | inr a ↦ elim (if_ok (is_dotted_type (is_mark OpenBrace) i.rest) _ _ _ a.1) [
      | inl b ↦ halts_here (unsupported_place {A = Valued} i e b.1) (missing_value d)
      | inr b ↦ expr_value_halts i e b.1
    ]
  ]
