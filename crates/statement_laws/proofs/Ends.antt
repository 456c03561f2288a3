-- The end of a statement or a member: what is read as one is spelled, and what is spelled is read.
use Rattle.std.proofs.Common.{◌≡◌, ℕ, ◌+◌, ◌-◌, List, [], ◌∷◌, ◌++◌, length, take, Option, Ok, inl, inr, refl, ap, subst, ◌∙◌, arith, length-append}
use Rattle.std.proofs.Math.Seq.{take-append_seam}
use Rattle.qml_grammar.specs.Ends.{since, may_end, end_behind, ended}
use Rattle.qml_grammar.specs.Inputs.{Input, Parser, ahead}
use Rattle.qml_grammar.specs.Lexemes.{Token, is_mark, last_of}
use Rattle.qml_grammar.specs.StatementGrammar.{follow, IsEnd, semicolon, nothing}
use Rattle.qml_grammar.specs.declared.mark.Mark.TheVariants.{Semicolon}
use Rattle.grammar_laws.specs.Laws.{Way}
use Rattle.grammar_laws.proofs.Behind.{ok_then, if_true, if_false}
use Rattle.grammar_laws.proofs.Tools.{bind_ok, if_ok, ahead_some, way_token, way_none, way_then}
use Rattle.statement_laws.specs.Laws.{Covers}
use Rattle.statement_laws.proofs.Ways.{ahead_follow, before, before_both, SoundAt, covers_to}

-- What was read

taken : {A : Type 0} (ts us : List A) (n : ℕ) → n ≡ length ts → take n (ts ++ us) ≡ ts
taken ts us n h = ap (λ m. take m (ts ++ us)) h ∙ take-append_seam ts us

pub since_at : (from ts now : List Token) → from ≡ ts ++ now → since from now ≡ ts
since_at from ts now h =
    let long : length from ≡ length ts + length now = ap length h ∙ length-append ts now in
    ap (take (length from - length now - 0)) h ∙ taken ts now (length from - length now - 0) (omega (arith, long))

pub since_way : {i j : Input} {n : ℕ} {ts : List Token} → Way i j n ts → since i.rest j.rest ≡ ts
since_way {i = i} {j = j} {ts = ts} w = since_at i.rest ts j.rest w.rest

-- An end alone

-- an end, which says nothing itself
abbrev pub EndsBehind : Option Token → List Token → Option Token → Unit {0} → Type 0
EndsBehind last ts next u = IsEnd last ts next

pub end_covers : (last : Option Token) (i : Input) → SoundAt (end_behind last) (EndsBehind last) i
unfolding end_behind
end_covers last i u j h = elim (if_ok (is_mark Semicolon (ahead i)) _ _ _ h) [
  | inl a ↦ (let t = ahead_some (is_mark Semicolon) refl i a.0 in covers_to (record { text = t.token ∷ []; way = way_token t.token t.rest; spelled = semicolon t.token refl t.is }) a.1)
  | inr a ↦ elim (if_ok (may_end last (ahead i)) _ _ _ a.1) [
    | inl b ↦ covers_to (record { text = []; way = way_none i; spelled = nothing refl a.0 b.0 }) b.1
    | inr b ↦ absurd (let e = b.1 in cc)
  ]
]

pub end_goes : {last : Option Token} {ts : List Token} {next : Option Token} → IsEnd last ts next → (j : Input) → ahead j ≡ next → end_behind last (before ts j) ≡ Ok (tt, j)
unfolding end_behind
end_goes (semicolon t ts_is is) j e = rw ts_is (if_true _ _ is refl)
end_goes {last = last} (nothing ts_is other may) j e = rw ts_is (if_false _ _ (ap (is_mark Semicolon) e ∙ other) (if_true _ _ (ap (may_end last) e ∙ may) refl))

-- What has an end

-- what is spelled, with its end
pub record IsEnded {A : Type 0} (Spells : List Token → Option Token → A → Type 0) (ts : List Token) (next : Option Token) (x : A) : Type 0 where
  pub text : List Token
  pub end : List Token
  pub both : ts ≡ text ++ end
  pub spelled : Spells text (follow end next) x
  pub ends : IsEnd (last_of text) end next

-- what is spelled, and an end behind it
pub with_end : {A : Type 0} {Spells : List Token → Option Token → A → Type 0} {i k j : Input} {x : A} {u : Unit {0}} → Covers Spells i k x → Covers (EndsBehind (last_of (since i.rest k.rest))) k j u → Covers (IsEnded Spells) i j x
with_end {Spells = Spells} {j = j} {x = x} s e = record {
  text = s.text ++ e.text;
  way = way_then s.way e.way;
  spelled = record {
    text = s.text;
    end = e.text;
    both = refl;
    spelled = subst (λ n. Spells s.text n x) (ahead_follow e.way) s.spelled;
    ends = subst (λ ts. IsEnd (last_of ts) e.text (ahead j)) (since_way s.way) e.spelled;
  };
}

pub ended_covers : {A : Type 0} (p : Parser A) (Spells : List Token → Option Token → A → Type 0) (i : Input) → SoundAt p Spells i → SoundAt (ended p) (IsEnded Spells) i
unfolding ended
ended_covers p Spells i sound x j h =
    let a = bind_ok (p i) _ _ h in
    let b = bind_ok (end_behind (last_of (since i.rest a.at.rest)) a.at) _ _ a.onward in
    covers_to (with_end (sound a.value a.at a.first) (end_covers (last_of (since i.rest a.at.rest)) a.at b.value b.at b.first)) b.onward

-- what the parser reads is read with the end behind it
pub ended_goes : {A : Type 0} (p : Parser A) (us es : List Token) (next : Option Token) (x : A) (j : Input) → ahead j ≡ next → p (before us (before es j)) ≡ Ok (x, before es j) → IsEnd (last_of us) es next → ended p (before (us ++ es) j) ≡ Ok (x, j)
unfolding ended
ended_goes p us es next x j e h ends =
    let now = es ++ j.rest in
    let last : since (us ++ now) now ≡ us = since_at (us ++ now) us now refl in
    let end : end_behind (last_of (since (us ++ now) now)) (before es j) ≡ Ok (tt, j) = ap (λ ts. end_behind (last_of ts) (before es j)) last ∙ end_goes ends j e in
    ap (ended p) (before_both us es j) ∙ ok_then _ h (ok_then _ end refl)
