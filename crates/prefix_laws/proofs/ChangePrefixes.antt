-- Targets and what changes them: what stands before a fault can go on.
use Rattle.std.proofs.Common.{◌≡◌, ℕ, suc, ◌+◌, ◌≤◌, ◌⊎◌, inl, inr, true, List, [], ◌∷◌, ◌++◌, Some, Ok, Err, refl, sym, subst, arith, append_assoc, codes}
use Rattle.std.proofs.lemmas.List.{append-nil}
use Rattle.qml_ast.specs.declared.expr.Expr.{Expr}
use Rattle.qml_ast.specs.declared.expr.Expr.TheVariants.{Name, Member}
use Rattle.qml_ast.specs.declared.fault.DocFault.{DocFault}
use Rattle.qml_ast.specs.declared.stmt.AssignOp.{AssignOp}
use Rattle.qml_ast.specs.declared.stmt.AssignOp.TheVariants.{Set}
use Rattle.qml_ast.specs.declared.stmt.Stmt.{Stmt}
use Rattle.qml_ast.specs.declared.stmt.Stmt.TheVariants.{Assign, Step}
use Rattle.qml_grammar.specs.ExpressionGrammar.{IsMark}
use Rattle.qml_grammar.specs.Expressions.{member, whole}
use Rattle.qml_grammar.specs.Inputs.{Input, Parser, ahead, after, place, take_node, any_name, while_next}
use Rattle.qml_grammar.specs.Lexemes.{Token, is_mark, same_line, looked_up, assign_operator, step_operator, last_of, name_of, operand_name_of}
use Rattle.qml_grammar.specs.StatementGrammar.{IsTarget, name, member as more_target, IsChange, assign}
use Rattle.qml_grammar.specs.Statements.{no_target, target_name, target_in, target, assigned, stepped, step_or, change_or}
use Rattle.qml_grammar.specs.declared.mark.Mark.TheVariants.{OpenBrace, Dot, Equal}
use Rattle.grammar_laws.specs.Faults.{IsFaultAt, CanGoOn}
use Rattle.grammar_laws.specs.Laws.{Way}
use Rattle.grammar_laws.proofs.Local.{before, onward, bind_err, chosen, not_chosen, chosen_in}
use Rattle.grammar_laws.proofs.Reading.{full}
use Rattle.grammar_laws.proofs.Tools.{bind_ok, ahead_some, ahead_gives, named, way_node, way_then, if_ok, same_value, same_input}
use Rattle.grammar_laws.proofs.Viable.{node_once, name_once, refused_once, operand_refused_once}
use Rattle.statement_laws.proofs.Targets.{none_read}
use Rattle.prefix_laws.proofs.Going.{HaltsOn, Halts, halts_here, halts_as, halts_behind, halts_then, halts_token, never_err, made_err, halts_while, Completes, completes, the_mark, one, some_name}
use Rattle.prefix_laws.proofs.WholePrefixes.{Calm, one_value, one_whole, whole_halts}

-- Targets

-- behind any target the tokens can go on to a target
record TargetGoesOn (us : List Token) : Type 0 where
  on : (k : ℕ) (ts : List Token) (x : Expr) → IsTarget k ts x → CanGoOn IsTarget (ts ++ us)

-- a target can stay as it is
pub target_stays : {k : ℕ} {ts : List Token} {x : Expr} → IsTarget k ts x → CanGoOn IsTarget ts
target_stays {k = k} {ts = ts} {x = x} p = record { others = []; nodes = k; value = x; spelled = subst (λ us. IsTarget k us x) (sym (append-nil ts)) p }

-- a name for the one that is missing
name_goes_on : CanGoOn IsTarget []
name_goes_on = record { others = some_name ∷ []; nodes = 1; value = Name (codes "a"); spelled = name some_name (codes "a") refl refl refl refl }

nothing_more : TargetGoesOn []
nothing_more = record { on = λ k ts x p. subst (CanGoOn IsTarget) (sym (append-nil ts)) (target_stays p) }

dot_goes_on : (o : Token) → IsMark o Dot → TargetGoesOn (o ∷ [])
dot_goes_on o is = record {
  on = λ k ts x p. record {
    others = some_name ∷ [];
    nodes = k + 1;
    value = Member x (codes "a");
    spelled = more_target k ts o some_name x (codes "a") refl (append_assoc ts (o ∷ []) (some_name ∷ [])) refl p is refl;
  };
}

member_goes_on : (o t : Token) (n : List ℕ) (us : List Token) → IsMark o Dot → name_of (Some t) ≡ Some n → TargetGoesOn us → TargetGoesOn (o ∷ t ∷ us)
member_goes_on o t n us dot is w = record {
  on = λ k ts x p. subst (CanGoOn IsTarget) (append_assoc ts (o ∷ t ∷ []) us) (w.on (k + 1) (ts ++ o ∷ t ∷ []) (Member x n) (more_target k ts o t x n refl refl refl p dot is));
}

member_halts : (x : Expr) (i : Input) (e : DocFault) → is_mark Dot (ahead i) ≡ true → member x i ≡ Err e → Halts TargetGoesOn i e
unfolding member
member_halts x i e t h =
    let o = ahead_some (is_mark Dot) refl i t in
    elim (bind_err (take_node i) _ _ h) [
      | before g ↦ halts_here (node_once i e g).place nothing_more
      | onward u k g g2 ↦ halts_behind (way_node i k u o.token o.rest g) (halts_here (name_once k e (made_err any_name (λ n. Member x n) k e g2)).place (dot_goes_on o.token o.is))
    ]

member_more : (x : Expr) (i : Input) (y : Expr) (k : Input) (e : DocFault) → is_mark Dot (ahead i) ≡ true → member x i ≡ Ok (y, k) → Halts TargetGoesOn k e → Halts TargetGoesOn i e
unfolding member
member_more x i y k e t h later =
    let o = ahead_some (is_mark Dot) refl i t in
    let a = bind_ok (take_node i) _ _ h in
    let b = bind_ok (any_name a.at) _ _ a.onward in
    let n = named a.at b.at b.value b.first in
    let w = way_then (way_node i a.at a.value o.token o.rest a.first) n.way in
    let to = subst (λ l. Way i l 1 (o.token ∷ n.token ∷ [])) (same_input (Member x b.value) y b.at k b.onward) w in
    halts_behind to (halts_as (λ us g. member_goes_on o.token n.token b.value us o.is n.is g) later)

no_target_place : (i : Input) (e : DocFault) → no_target i ≡ Err e → IsFaultAt e (place i)
unfolding no_target
no_target_place i e h = elim (if_ok (is_mark OpenBrace (ahead i)) _ _ _ h) [
  | inl a ↦ (refused_once {A = Expr} i e a.1).place
  | inr a ↦ (operand_refused_once {A = Expr} i e a.1).place
]

name_fails : (i : Input) (e : DocFault) → target_name i ≡ Err e → IsFaultAt e (place i)
unfolding target_name
name_fails i e h = elim (chosen_in (operand_name_of (ahead i)) _ _ _ h) [
  | chosen n o g ↦ (node_once i e (made_err take_node (λ u. Name n) i e g)).place
  | not_chosen o g ↦ no_target_place i e g
]

-- the name that a target begins with
record NameRead (i j : Input) (x : Expr) : Type 0 where
  token : Token
  way : Way i j 1 (token ∷ [])
  is : IsTarget 1 (token ∷ []) x

name_reads : (i : Input) (x : Expr) (j : Input) → target_name i ≡ Ok (x, j) → NameRead i j x
unfolding target_name
name_reads i x j h = elim (chosen_in (operand_name_of (ahead i)) _ _ _ h) [
  | chosen n o g ↦ (
      let t = ahead_gives operand_name_of refl i n o in
      let b = bind_ok (take_node i) _ _ g in
      record {
        token = t.token;
        way = subst (λ l. Way i l 1 (t.token ∷ [])) (same_input (Name n) x b.at j b.onward) (way_node i b.at b.value t.token t.rest b.first);
        is = name t.token n refl refl (sym (same_value (Name n) x b.at j b.onward)) t.is;
      })
  | not_chosen o g ↦ absurd (none_read i x j g)
]

target_in_halts : (i : Input) (e : DocFault) → target_in i ≡ Err e → Halts (CanGoOn IsTarget) i e
unfolding target_in
target_in_halts i e h = halts_then target_name (while_next (is_mark Dot) member) i
    (λ f g. halts_here (name_fails i f g) name_goes_on)
    (λ x k f g g2. let t = name_reads i x k g in halts_behind t.way (halts_as (λ us w. w.on 1 (t.token ∷ []) x t.is) (halts_while TargetGoesOn (is_mark Dot) member member_halts member_more x k f g2))) e h

pub target_halts : (i : Input) (e : DocFault) → target i ≡ Err e → Halts (CanGoOn IsTarget) i e
unfolding target
target_halts i e h = elim (bind_err (target_in (full i)) _ _ h) [
  | before g ↦ (
      let c = target_in_halts (full i) e g in
      record { nodes = 0; text = c.text; at = record { rest = c.at.rest; end = c.at.end; nodes = i.nodes }; way = record { rest = (c.way).rest; used = omega arith; end = (c.way).end }; place = c.place; viable = c.viable })
  | onward x j g g2 ↦ absurd cc
]

-- Changes

-- the tokens and others spell what changes a target
abbrev pub IsChangePrefix : ℕ → List Token → Type 0
IsChangePrefix d = Completes Calm (λ most. IsChange most (suc d))

-- a target that is given a value
pub target_change : (d : ℕ) (us : List Token) → CanGoOn IsTarget us → IsChangePrefix d us
target_change d us w = completes (w.others ++ the_mark Equal ∷ one ∷ []) (200 + w.nodes) (Assign w.value Set one_value) (omega arith) (append_assoc us w.others (the_mark Equal ∷ one ∷ []))
    (λ next calm. assign w.nodes (us ++ w.others) (the_mark Equal) (one ∷ []) w.value Set one_value refl refl w.spelled (omega arith) refl (one_whole (200 + w.nodes) (suc d) next (omega arith) calm))

module _ (d k : ℕ) (ts : List Token) (x : Expr) (p : IsTarget k ts x) (few : k ≤ 200) where
  assigned_halts : (op : AssignOp) (i : Input) (e : DocFault) → looked_up assign_operator (ahead i) ≡ Some op → assigned d x op i ≡ Err e → HaltsOn (IsChangePrefix d) ts i e
  unfolding assigned
  assigned_halts op i e t h =
      let o = ahead_gives (looked_up assign_operator) refl i op t in
      halts_token _ i o.token o.rest (λ u j f w g. halts_as
      (λ us w. completes w.others w.most (Assign x op w.value) w.enough (simp append_assoc refl) (λ next calm. assign k ts o.token (us ++ w.others) x op w.value refl refl p (omega (arith, few, w.enough)) o.is (w.spelled next calm)))
      (whole_halts d j f (made_err (whole d) (λ y. Assign x op y) j f g))) e h

  stepped_or : (other : Parser Stmt) (i : Input) (e : DocFault) → step_or other x (last_of ts) i ≡ Err e → other i ≡ Err e
  unfolding step_or stepped
  stepped_or other i e h = elim (chosen_in (looked_up step_operator (ahead i)) _ _ _ h) [
    | chosen up o g ↦ elim (if_ok (same_line (last_of ts) (ahead i)) _ _ _ g) [
      | inl a ↦ absurd (never_err (Step x up) (after i) e a.1)
      | inr a ↦ a.1
    ]
    | not_chosen o g ↦ g
  ]

  -- the change fails, or the other reading
  pub change_or_halts : (other : Parser Stmt) (i : Input) (e : DocFault) → change_or other d x (last_of ts) i ≡ Err e → HaltsOn (IsChangePrefix d) ts i e ⊎ (other i ≡ Err e)
  unfolding change_or
  change_or_halts other i e h = elim (chosen_in (looked_up assign_operator (ahead i)) _ _ _ h) [
    | chosen op o g ↦ inl (assigned_halts op i e o g)
    | not_chosen o g ↦ inr (stepped_or other i e g)
  ]
