-- Lists with commas between their items and ")" behind them.
use Rattle.std.proofs.Common.{◌≡◌, ℕ, Bool, true, false, List, [], ◌∷◌, ◌++◌, Option, Some, Ok, refl, sym, ap, ◌∙◌, arith}
use Rattle.qml_grammar.specs.ExpressionGrammar.{IsMark}
use Rattle.qml_grammar.specs.Inputs.{Input, Parser, ahead, after, take_token, expect, pure, ◌>>=◌, ◌>>◌, while_next}
use Rattle.qml_grammar.specs.Lexemes.{Token, is_mark}
use Rattle.qml_grammar.specs.Marks.{same_mark, mark_number}
use Rattle.qml_grammar.specs.declared.mark.Mark.TheVariants.{CloseParen, Comma}
use Rattle.grammar_laws.proofs.Behind.{behind, ok_then, GoesOn, goes_as, goes_first, goes_more, goes_last}
use Rattle.grammar_laws.proofs.First.{Begins, begins_left}
use Rattle.grammar_laws.proofs.Growing.{Covers as Grown, Adds, adds_to, while_covers}
use Rattle.grammar_laws.proofs.Strength.{strength_most}
use Rattle.grammar_laws.proofs.Tools.{bind_ok, ahead_some, way_token, way_then, counted, expected}
use Rattle.statement_laws.specs.Laws.{Covers}
use Rattle.statement_laws.proofs.Ways.{before, before_both, covers_to, expect_before}
use Rattle.document_laws.proofs.Steps.{Anyhow, behind_none}
use Rattle.document_laws.proofs.Tokens.{mark_is}

-- item { "," item }
pub data Commas {A : Type 0} (Item : List Token → A → Type 0) : List Token → List A → Type 0 where
  one_item : {ts : List Token} {xs : List A} (x : A) → xs ≡ x ∷ [] → Item ts x → Commas Item ts xs
  more_items : {ts : List Token} {xs : List A} (us : List Token) (o : Token) (vs : List Token) (ys : List A) (z : A) → ts ≡ us ++ o ∷ vs → xs ≡ ys ++ z ∷ [] → Commas Item us ys → IsMark o Comma → Item vs z → Commas Item ts xs

-- item { "," item } ")"
pub data UntilParen {A : Type 0} (Item : List Token → A → Type 0) (ts : List Token) (xs : List A) : Type 0 where
  until_paren : (us : List Token) (z : Token) → ts ≡ us ++ z ∷ [] → Commas Item us xs → IsMark z CloseParen → UntilParen Item ts xs

pub commas_begin : {A : Type 0} {Item : List Token → A → Type 0} {ts : List Token} {xs : List A} (test : Option Token → Bool) → ((us : List Token) (x : A) → Item us x → Begins test us) → Commas Item ts xs → Begins test ts
commas_begin {ts = ts} test begins (one_item x xs_is p) = begins ts x p
commas_begin test begins (more_items us o vs ys z ts_is xs_is p comma q) = begins_left us (o ∷ vs) ts_is (commas_begin test begins p)

pub until_paren_begins : {A : Type 0} {Item : List Token → A → Type 0} {ts : List Token} {xs : List A} (test : Option Token → Bool) → ((us : List Token) (x : A) → Item us x → Begins test us) → UntilParen Item ts xs → Begins test ts
until_paren_begins test begins (until_paren us z ts_is p close_is) = begins_left us (z ∷ []) ts_is (commas_begin test begins p)

no_comma : (z : Token) → IsMark z CloseParen → is_mark Comma (Some z) ≡ false
unfolding same_mark mark_number
no_comma z h = mark_is Comma CloseParen z h

module _ {A : Type 0} (item : Parser A) (Item : List Token → A → Type 0) where
  -- one more item, behind a comma
  abbrev pub another : List A → Parser (List A)
  another xs = do
    take_token
    x ← item
    pure (xs ++ x ∷ [])

  abbrev listed : Parser (List A)
  listed = do
    x ← item
    while_next (is_mark Comma) another (x ∷ [])

  abbrev pub items_until_paren : Parser (List A)
  items_until_paren = do
    x ← item
    xs ← while_next (is_mark Comma) another (x ∷ [])
    expect CloseParen
    pure xs

  -- items, and no nodes
  abbrev Counted : ℕ → List Token → List A → Type 0
  Counted n ts xs = (n ≡ 0) × Commas Item ts xs

  module _ (sound : (i : Input) (x : A) (j : Input) → item i ≡ Ok (x, j) → Covers (Anyhow Item) i j x) where
    another_adds : (xs : List A) (i : Input) (ys : List A) (j : Input) → is_mark Comma (ahead i) ≡ true → another xs i ≡ Ok (ys, j) → Adds Counted 8 xs i j ys
    another_adds xs i ys j t h =
        let o = ahead_some (is_mark Comma) refl i t in
        let b = bind_ok (item (after i)) _ _ h in
        let y = sound (after i) b.value b.at b.first in
        adds_to (record {
          nodes = 0;
          token = o.token;
          others = y.text;
          way = way_then (way_token o.token o.rest) y.way;
          spelled = λ k us p. (omega (arith, p.0), more_items us o.token y.text xs b.value refl refl p.1 o.is y.spelled);
          stops = strength_most (ahead b.at);
        }) b.onward

    pub items_cover : (i : Input) (xs : List A) (j : Input) → items_until_paren i ≡ Ok (xs, j) → Covers (Anyhow (UntilParen Item)) i j xs
    items_cover i xs j h =
        let a = bind_ok (item i) _ _ h in
        let x = sound i a.value a.at a.first in
        let first : Grown Counted 8 i a.at (a.value ∷ []) = record { nodes = 0; text = x.text; way = x.way; spelled = (refl, one_item a.value refl x.spelled); stops = strength_most (ahead a.at) } in
        let b = bind_ok (while_next (is_mark Comma) another (a.value ∷ []) a.at) _ _ a.onward in
        let ys = (while_covers Counted 8 (is_mark Comma) another refl another_adds i a.at (a.value ∷ []) b.value b.at first b.first).covers in
        let c = bind_ok (expect CloseParen b.at) _ _ b.onward in
        let z = expected CloseParen b.at c.at c.value c.first in
        covers_to (record {
          text = ys.text ++ z.token ∷ [];
          way = way_then {us = ys.text} {vs = z.token ∷ []} (counted (ys.spelled).0 ys.way) z.way;
          spelled = until_paren ys.text z.token refl (ys.spelled).1 z.is;
        }) c.onward

  module _ (complete : (ts : List Token) (x : A) (j : Input) → Item ts x → item (before ts j) ≡ Ok (x, j)) where
    item_goes : (ts : List Token) (x : A) (j : Input) → Item ts x → item (behind ts 0 j) ≡ Ok (x, j)
    item_goes ts x j p = ap item (sym (behind_none ts j)) ∙ complete ts x j p

    listed_goes : {ts : List Token} {xs : List A} → Commas Item ts xs → (j : Input) → GoesOn listed (is_mark Comma) another ts 0 xs j
    listed_goes {ts = ts} (one_item x xs_is p) j = goes_as (goes_first listed (is_mark Comma) another ts 0 (x ∷ []) j (ok_then _ (item_goes ts x j p) refl)) xs_is
    listed_goes {ts = ts} (more_items us o vs ys z ts_is xs_is p comma q) j =
        goes_as (goes_more listed (is_mark Comma) another ts us o vs 0 0 0 ys (ys ++ z ∷ []) j (listed_goes p (behind (o ∷ vs) 0 j)) refl ts_is comma (ok_then _ (item_goes vs z j q) refl)) xs_is

    commas_go : (us : List Token) (z : Token) (xs : List A) (j : Input) → Commas Item us xs → IsMark z CloseParen → items_until_paren (before (us ++ z ∷ []) j) ≡ Ok (xs, j)
    commas_go us z xs j p close_is =
        let l : Input = before (z ∷ []) j in
        let all = ap listed (before_both us (z ∷ []) j ∙ behind_none us l) ∙ goes_last listed (is_mark Comma) another us 0 xs l (listed_goes p l) (no_comma z close_is) in
        let b = bind_ok (item (before (us ++ z ∷ []) j)) _ _ all in
        ok_then _ b.first (ok_then _ b.onward (ok_then _ (expect_before CloseParen z [] j close_is) refl))

    pub items_go : (ts : List Token) (xs : List A) (j : Input) → UntilParen Item ts xs → items_until_paren (before ts j) ≡ Ok (xs, j)
    items_go ts xs j (until_paren us z ts_is p close_is) = rw ts_is (commas_go us z xs j p close_is)
