-- Targets: names with dots between them, as they are read alone and as expressions.
use Rattle.std.proofs.Common.{◌≡◌, ℕ, ◌+◌, ◌-◌, ◌≤◌, ◌&&◌, Bool, true, false, if◌then◌else◌, is_some, List, [], ◌∷◌, ◌++◌, Option, Some, None, Result, Ok, Err, refl, sym, ap, subst, subst₂, ◌∙◌, arith, append_assoc, zero-add}
use Rattle.std.proofs.lemmas.List.{append-nil}
use Rattle.qml_ast.specs.declared.expr.Expr.{Expr}
use Rattle.qml_ast.specs.declared.expr.Expr.TheVariants.{Name, Member}
use Rattle.qml_ast.specs.declared.fault.DocFault.{DocFault}
use Rattle.qml_grammar.specs.ExpressionGrammar.{name as a_name, IsPostfix, primary, member as a_member, IsExpr, postfix, unary, product, sum, order, equality, conjunction, disjunction}
use Rattle.qml_grammar.specs.Expressions.{expr, member}
use Rattle.qml_grammar.specs.Inputs.{Input, ahead, refusal, operand_refusal, take_node, any_name}
use Rattle.qml_grammar.specs.Lexemes.{Lexeme, plain, word, Token, is_mark, is_name, name_of, operand_name_of, operand_name_of_lexeme, value_of_word, value_of_lexeme}
use Rattle.qml_grammar.specs.StatementGrammar.{IsTarget, name, member as more_target}
use Rattle.qml_grammar.specs.Statements.{are_members, is_target, no_target, target_name, target_in, target}
use Rattle.qml_grammar.specs.Words.{is_keyword, is_unsupported}
use Rattle.qml_grammar.specs.declared.mark.Mark.TheVariants.{OpenBrace, Dot}
use Rattle.qml_grammar.specs.declared.word.Word.{Word}
use Rattle.qml_grammar.specs.declared.word.Word.TheVariants.{True, False, Null, Undefined}
use Rattle.grammar_laws.specs.Laws.{Way}
use Rattle.grammar_laws.proofs.Behind.{behind, same_input_by, ok_then, found, node_behind, node_last, GoesOn, goes_as, goes_first, goes_more, goes_last}
use Rattle.grammar_laws.proofs.Complete.{expr_complete}
use Rattle.grammar_laws.proofs.Growing.{Covers, Adds, covers_to, adds_to, while_covers}
use Rattle.grammar_laws.proofs.Reading.{full}
use Rattle.grammar_laws.proofs.Strength.{strength, strength_most}
use Rattle.grammar_laws.proofs.Tools.{bind_ok, ahead_some, ahead_gives, named, way_node, way_then, same_value, same_input}
use Rattle.statement_laws.proofs.Ways.{before}

-- A target is an expression

operand_word_no_value : (w : Word) (n : List ℕ) → operand_name_of_lexeme (word w) ≡ Some n → value_of_word w ≡ None
unfolding is_keyword is_unsupported
operand_word_no_value True n h = absurd cc
operand_word_no_value False n h = absurd cc
operand_word_no_value Null n h = absurd cc
operand_word_no_value Undefined n h = absurd cc
operand_word_no_value _ n h = refl

operand_no_value : (l : Lexeme) (n : List ℕ) → operand_name_of_lexeme l ≡ Some n → value_of_lexeme l ≡ None
operand_no_value (plain m) n h = refl
operand_no_value (word w) n h = operand_word_no_value w n h
operand_no_value _ n h = absurd cc

pub target_postfix : {d k : ℕ} {ts : List Token} {x : Expr} → IsTarget k ts x → IsPostfix d k ts x
target_postfix (name t n k_is ts_is x_is is) = primary (a_name t n k_is ts_is x_is is (operand_no_value t.lexeme n is))
target_postfix (more_target i us o t y n k_is ts_is x_is p dot name_is) = a_member i us o t y n k_is ts_is x_is (target_postfix p) dot name_is

pub target_expr : {d k : ℕ} {ts : List Token} {x : Expr} → IsTarget k ts x → IsExpr d k ts x
target_expr p = disjunction (conjunction (equality (order (sum (product (unary (postfix (target_postfix p))))))))

-- Tokens spell one expression at most, with one number of nodes

no_more_stops : (i : Input) → strength (ahead (record i { rest = [] })) ≤ 0
no_more_stops i = omega arith

pub one_expr : (i : Input) (d k l : ℕ) (ts : List Token) (x y : Expr) → IsExpr d k ts x → IsExpr d l ts y → (x ≡ y) × (k ≡ l)
one_expr i d k l ts x y p q =
    let j : Input = record { rest = []; end = i.end; nodes = l } in
    let m : Input = record { rest = []; end = i.end; nodes = k } in
    let same : behind ts k j ≡ behind ts l m = same_input_by refl refl (omega arith) in
    let e = sym (expr_complete d k ts x j p (no_more_stops i)) ∙ (ap (λ (b : Input). expr d b) same ∙ expr_complete d l ts y m q (no_more_stops i)) in
    (same_value x y j m e, sym (ap (λ (b : Input). b.nodes) (same_input x y j m e)))

-- The test for targets

pub and_both : {a b : Bool} → (a && b) ≡ true → (a ≡ true) × (b ≡ true)
and_both {a = true} h = (refl, h)
and_both {a = false} h = absurd cc

pub both_and : {a b : Bool} → a ≡ true → b ≡ true → (a && b) ≡ true
both_and e h = rw (e, h) refl

name_some : {o : Option (List ℕ)} → is_some o ≡ true → (n : List ℕ) × (o ≡ Some n)
name_some {o = Some n} h = (n, refl)
name_some {o = None} h = absurd cc

some_name : {o : Option (List ℕ)} {n : List ℕ} → o ≡ Some n → is_some o ≡ true
some_name h = rw h

-- that tokens spell a target
pub record ATarget (ts : List Token) : Type 0 where
  pub nodes : ℕ
  pub value : Expr
  pub is : IsTarget nodes ts value

members_spell : (k : ℕ) (us : List Token) (y : Expr) (ts : List Token) → IsTarget k us y → are_members ts ≡ true → ATarget (us ++ ts)
members_spell k us y [] p h = record { nodes = k; value = y; is = subst (λ ts. IsTarget k ts y) (sym (append-nil us)) p }
members_spell k us y (o ∷ []) p h = absurd cc
members_spell k us y (o ∷ t ∷ ts) p h =
    let all = and_both h in
    let first = and_both all.0 in
    let n = name_some first.1 in
    let more : IsTarget (k + 1) (us ++ o ∷ t ∷ []) (Member y n.0) = more_target k us o t y n.0 refl refl refl p first.0 n.1 in
    let all = members_spell (k + 1) (us ++ o ∷ t ∷ []) (Member y n.0) ts more all.1 in
    subst ATarget (append_assoc us (o ∷ t ∷ []) ts) all

pub target_spelled : (ts : List Token) → is_target ts ≡ true → ATarget ts
target_spelled [] h = absurd cc
target_spelled (t ∷ ts) h =
    let both = and_both h in
    let n = name_some both.0 in
    members_spell 1 (t ∷ []) (Name n.0) ts (name t n.0 refl refl refl n.1) both.1

members_more : (ts : List Token) (o t : Token) → are_members ts ≡ true → is_mark Dot (Some o) ≡ true → is_name (Some t) ≡ true → are_members (ts ++ o ∷ t ∷ []) ≡ true
members_more [] o t h dot is = both_and (both_and dot is) refl
members_more (p ∷ []) o t h dot is = absurd cc
members_more (p ∷ u ∷ ts) o t h dot is =
    let a = and_both h in
    both_and a.0 (members_more ts o t a.1 dot is)

target_more : (ts : List Token) (o t : Token) → is_target ts ≡ true → is_mark Dot (Some o) ≡ true → is_name (Some t) ≡ true → is_target (ts ++ o ∷ t ∷ []) ≡ true
target_more [] o t h dot is = absurd cc
target_more (u ∷ ts) o t h dot is = let a = and_both h in both_and a.0 (members_more ts o t a.1 dot is)

pub spelled_target : {k : ℕ} {ts : List Token} {x : Expr} → IsTarget k ts x → is_target ts ≡ true
spelled_target (name t n k_is ts_is x_is is) = rw ts_is (both_and (some_name is) refl)
spelled_target (more_target i us o t y n k_is ts_is x_is p dot name_is) = rw ts_is (target_more us o t (spelled_target p) dot (some_name name_is))

-- an expression whose tokens pass the test is a target
pub expr_target : (i : Input) (d k : ℕ) (ts : List Token) (x : Expr) → IsExpr d k ts x → is_target ts ≡ true → IsTarget k ts x
expr_target i d k ts x p h =
    let t = target_spelled ts h in
    let same = one_expr i d t.nodes k ts t.value x (target_expr t.is) p in
    subst₂ (λ y n. IsTarget n ts y) same.0 same.1 t.is

-- A target alone is spelled

member_adds : (x : Expr) (i : Input) (y : Expr) (j : Input) → is_mark Dot (ahead i) ≡ true → member x i ≡ Ok (y, j) → Adds IsTarget 8 x i j y
unfolding member
member_adds x i y j t h =
    let o = ahead_some (is_mark Dot) refl i t in
    let a = bind_ok (take_node i) _ _ h in
    let b = bind_ok (any_name a.at) _ _ a.onward in
    let n = named a.at b.at b.value b.first in
    adds_to (record {
      nodes = 1;
      token = o.token;
      others = n.token ∷ [];
      way = way_then (way_node i a.at a.value o.token o.rest a.first) n.way;
      spelled = λ k us p. more_target k us o.token n.token x b.value (omega arith) refl refl p o.is n.is;
      stops = strength_most (ahead b.at);
    }) b.onward

refused_by : (b : Bool) (e f : DocFault) (x : Expr) (j : Input) → ◌≡◌ {A = Result (Expr × Input) DocFault} (if b then Err e else Err f) (Ok (x, j)) → ⊥
refused_by true e f x j h = absurd cc
refused_by false e f x j h = absurd cc

pub none_read : (i : Input) (x : Expr) (j : Input) → no_target i ≡ Ok (x, j) → ⊥
unfolding no_target
none_read i x j h = refused_by (is_mark OpenBrace (ahead i)) (refusal i) (operand_refusal i) x j h

target_name_from : (i : Input) (x : Expr) (j : Input) (q : Option (List ℕ)) → operand_name_of (ahead i) ≡ q → ◌≡◌ {A = Result (Expr × Input) DocFault} (elim q [ Some n ↦ elim (take_node i) [ Ok r ↦ Ok (Name n, r.1) | Err e ↦ Err e ] | None ↦ no_target i ]) (Ok (x, j)) → Covers IsTarget 8 i j x
target_name_from i x j None e h = absurd (none_read i x j h)
target_name_from i x j (Some n) e h =
    let t = ahead_gives operand_name_of refl i n e in
    let b = bind_ok (take_node i) _ _ h in
    covers_to (record {
      nodes = 1;
      text = t.token ∷ [];
      way = way_node i b.at b.value t.token t.rest b.first;
      spelled = name t.token n refl refl refl t.is;
      stops = strength_most (ahead b.at);
    }) b.onward

target_name_covers : (i : Input) (x : Expr) (j : Input) → target_name i ≡ Ok (x, j) → Covers IsTarget 8 i j x
unfolding target_name
target_name_covers i x j h = target_name_from i x j (operand_name_of (ahead i)) refl h

target_in_covers : (i : Input) (x : Expr) (j : Input) → target_in i ≡ Ok (x, j) → Covers IsTarget 8 i j x
unfolding target_in
target_in_covers i x j h =
    let b = bind_ok (target_name i) _ _ h in
    (while_covers IsTarget 8 (is_mark Dot) member refl member_adds i b.at b.value x j (target_name_covers i b.value b.at b.first) b.onward).covers

-- between the inputs stands a target of 200 nodes at most
pub record CoversTarget (i j : Input) (x : Expr) : Type 0 where
  pub nodes : ℕ
  pub few : nodes ≤ 200
  pub text : List Token
  pub way : Way i j 0 text
  pub is : IsTarget nodes text x

target_from : (i k : Input) (x : Expr) → Covers IsTarget 8 (full i) k x → CoversTarget i (record { rest = k.rest; end = k.end; nodes = i.nodes }) x
target_from i k x c = record {
  nodes = c.nodes;
  few = omega (arith, (c.way).used);
  text = c.text;
  way = record { rest = (c.way).rest; used = sym (zero-add _); end = (c.way).end };
  is = c.spelled;
}

pub target_covers : (i : Input) (x : Expr) (j : Input) → target i ≡ Ok (x, j) → CoversTarget i j x
unfolding target
target_covers i x j h =
    let b = bind_ok (target_in (full i)) _ _ h in
    let y = target_from i b.at b.value (target_in_covers (full i) b.value b.at b.first) in
    let k : Input = record { rest = b.at.rest; end = b.at.end; nodes = i.nodes } in
    subst₂ (λ z l. CoversTarget i l z) (same_value b.value x k j b.onward) (same_input b.value x k j b.onward) y

-- A target that is spelled is read

name_goes : (t : Token) (n : List ℕ) (j : Input) → operand_name_of (Some t) ≡ Some n → target_name (behind (t ∷ []) 1 j) ≡ Ok (Name n, j)
unfolding target_name
name_goes t n j h = found _ _ h (ok_then _ (node_last t j) refl)

member_goes : (y : Expr) (o t : Token) (n : List ℕ) (j : Input) → name_of (Some t) ≡ Some n → member y (behind (o ∷ t ∷ []) 1 j) ≡ Ok (Member y n, j)
unfolding member
member_goes y o t n j h =
    let named : any_name (behind (t ∷ []) 0 j) ≡ Ok (n, j) = found _ _ h (ap (λ (i : Input). Ok (n, i)) (same_input_by refl refl (zero-add _))) in
    ok_then _ (node_behind o (t ∷ []) 0 j) (ok_then _ named refl)

target_in_goes : {k : ℕ} {ts : List Token} {x : Expr} → IsTarget k ts x → (j : Input) → GoesOn target_in (is_mark Dot) member ts k x j
unfolding target_in
target_in_goes {k = k} {ts = ts} (name t n k_is ts_is x_is is) j =
    goes_as (goes_first target_in (is_mark Dot) member ts k (Name n) j (rw (k_is, ts_is) (ok_then _ (name_goes t n j is) refl))) x_is
target_in_goes {k = k} {ts = ts} (more_target i us o t y n k_is ts_is x_is p dot name_is) j =
    goes_as (goes_more target_in (is_mark Dot) member ts us o (t ∷ []) k i 1 y (Member y n) j (target_in_goes p (behind (o ∷ t ∷ []) 1 j)) k_is ts_is dot (member_goes y o t n j name_is)) x_is

pub target_goes : (k : ℕ) (ts : List Token) (x : Expr) (j : Input) → IsTarget k ts x → k ≤ 200 → is_mark Dot (ahead j) ≡ false → target (before ts j) ≡ Ok (x, j)
unfolding target
target_goes k ts x j p few stop =
    let left : Input = record { rest = j.rest; end = j.end; nodes = 200 - k } in
    let same : full (before ts j) ≡ behind ts k left = same_input_by refl refl (omega arith) in
    ok_then _ (ap target_in same ∙ goes_last target_in (is_mark Dot) member ts k x left (target_in_goes p left) stop) refl
