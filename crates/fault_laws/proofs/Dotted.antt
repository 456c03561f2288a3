-- Names with dots between them: on how many tokens the tests that look for them depend.
use Rattle.std.proofs.Common.{◌≡◌, ℕ, ◌&&◌, not, Bool, true, false, if◌then◌else◌, is_some, List, [], ◌∷◌, ◌++◌, Option, Some, None, refl, sym, ap, ap₂, ◌∙◌}
use Rattle.qml_grammar.specs.Lexemes.{Lexeme, mark, Token, head, tail, name_of, is_name, is_mark, is_mark_lexeme, name_of_lexeme}
use Rattle.qml_grammar.specs.Names.{upper_first, name_is, last_name, ends_type, is_dotted_type, is_dotted_kind}
use Rattle.qml_grammar.specs.declared.mark.Mark.TheVariants.{Dot}
use Rattle.grammar_laws.proofs.Behind.{found, missing, passed, failed, if_true, if_false}
use Rattle.fault_laws.specs.Faults.{are_dotted, is_dotted}

-- Tests in a row

pub both_true : {a b : Bool} → a ≡ true → b ≡ true → (a && b) ≡ true
both_true h g = rw h g

pub first_true : (a b : Bool) → (a && b) ≡ true → a ≡ true
first_true true b h = refl
first_true false b h = h

pub second_true : (a b : Bool) → (a && b) ≡ true → b ≡ true
second_true true b h = h
second_true false b h = absurd cc

pub first_false : {a : Bool} (b : Bool) → a ≡ false → (a && b) ≡ false
first_false b h = rw h

pub second_false : (a : Bool) {b : Bool} → b ≡ false → (a && b) ≡ false
second_false true h = h
second_false false h = refl

pub not_true : (b : Bool) → not b ≡ true → b ≡ false
not_true true h = absurd cc
not_true false h = refl

pub some_of : {A : Type 0} (o : Option A) → is_some o ≡ true → (x : A) × (o ≡ Some x)
some_of None h = absurd cc
some_of (Some x) h = (x, refl)

pub head_same : (us r s : List Token) → head s ≡ head r → head (us ++ s) ≡ head (us ++ r)
head_same [] r s h = h
head_same (t ∷ us) r s h = refl

-- a name is no dot
lexeme_no_dot : (l : Lexeme) → is_some (name_of_lexeme l) ≡ true → is_mark_lexeme Dot l ≡ false
lexeme_no_dot (mark m) h = absurd cc
lexeme_no_dot _ h = refl

pub name_no_dot : (t : Token) → is_name (Some t) ≡ true → is_mark Dot (Some t) ≡ false
name_no_dot t h = lexeme_no_dot t.lexeme h

pub no_name_dot : {A : Type 0} (t : Token) → is_name (Some t) ≡ true → is_mark Dot (Some t) ≡ true → A
no_name_dot t h g = absurd (let e : false ≡ true = sym (name_no_dot t h) ∙ g in cc)

-- What ends in a name with dots

dotted_more : (us : List Token) (t : Token) (ts : List Token) → are_dotted (us ++ t ∷ ts) ≡ true → is_name (Some t) ≡ true → are_dotted ts ≡ true
dotted_more [] t [] h n = refl
dotted_more [] t (u ∷ ts) h n = no_name_dot t n (first_true (is_mark Dot (Some t)) (is_name (Some u)) (first_true (is_mark Dot (Some t) && is_name (Some u)) (are_dotted ts) h))
dotted_more (o ∷ []) t ts h n = second_true (is_mark Dot (Some o) && is_name (Some t)) (are_dotted ts) h
dotted_more (o ∷ u ∷ us) t ts h n = dotted_more us t ts (second_true (is_mark Dot (Some o) && is_name (Some u)) (are_dotted (us ++ t ∷ ts)) h) n

-- from a name on, a name with dots is one
pub dotted_end : (us : List Token) (t : Token) (ts : List Token) → is_dotted (us ++ t ∷ ts) ≡ true → is_name (Some t) ≡ true → is_dotted (t ∷ ts) ≡ true
dotted_end [] t ts h n = h
dotted_end (u ∷ us) t ts h n = both_true n (dotted_more us t ts (second_true (is_name (Some u)) _ h) n)

-- The last name

last_no_dot : (n : List ℕ) (ts : List Token) → is_mark Dot (head ts) ≡ false → last_name n ts ≡ record { name = n; next = head ts }
last_no_dot n [] h = refl
last_no_dot n (o ∷ []) h = refl
last_no_dot n (o ∷ t ∷ ts) h = failed _ _ h refl

last_step : (n : List ℕ) (o t : Token) (ts : List Token) (m : List ℕ) → is_mark Dot (Some o) ≡ true → name_of (Some t) ≡ Some m → last_name n (o ∷ t ∷ ts) ≡ last_name m ts
last_step n o t ts m d e = passed _ _ d (found _ _ e refl)

last_no_name : (n : List ℕ) (o : Token) (ts : List Token) → is_mark Dot (Some o) ≡ true → name_of (head ts) ≡ None → last_name n (o ∷ ts) ≡ record { name = n; next = Some o }
last_no_name n o [] d e = refl
last_no_name n o (t ∷ ts) d e = passed _ _ d (missing _ _ e refl)

-- the tokens with which it is decided, but for the one behind them
record SeenLast (n : List ℕ) (ts : List Token) : Type 0 where
  text : List Token
  rest : List Token
  whole : ts ≡ text ++ rest
  dotted : are_dotted text ≡ true
  same : (others : List Token) → head others ≡ head rest → last_name n (text ++ others) ≡ last_name n ts

seen_none : (n : List ℕ) (ts : List Token) → is_mark Dot (head ts) ≡ false → SeenLast n ts
seen_none n ts h = record {
  text = [];
  rest = ts;
  whole = refl;
  dotted = refl;
  same = λ others e. last_no_dot n others (ap (is_mark Dot) e ∙ h) ∙ (ap (λ o. record { name = n; next = o }) e ∙ sym (last_no_dot n ts h));
}

seen_dot : (n : List ℕ) (o : Token) (ts : List Token) → is_mark Dot (Some o) ≡ true → name_of (head ts) ≡ None → SeenLast n (o ∷ ts)
seen_dot n o ts d h = record {
  text = o ∷ [];
  rest = ts;
  whole = refl;
  dotted = d;
  same = λ others e. last_no_name n o others d (ap name_of e ∙ h) ∙ sym (last_no_name n o ts d h);
}

seen_name : (n : List ℕ) (o t : Token) (ts : List Token) (m : List ℕ) → is_mark Dot (Some o) ≡ true → name_of (Some t) ≡ Some m → SeenLast m ts → SeenLast n (o ∷ t ∷ ts)
seen_name n o t ts m d e s = record {
  text = o ∷ t ∷ s.text;
  rest = s.rest;
  whole = ap (λ us. o ∷ t ∷ us) s.whole;
  dotted = both_true (both_true d (ap is_some e)) s.dotted;
  same = λ others h. last_step n o t (s.text ++ others) m d e ∙ (s.same others h ∙ sym (last_step n o t ts m d e));
}

seen_by : (n : List ℕ) (o t : Token) (ts : List Token) (b : Bool) (q : Option (List ℕ)) → is_mark Dot (Some o) ≡ b → name_of (Some t) ≡ q → ((m : List ℕ) → SeenLast m ts) → SeenLast n (o ∷ t ∷ ts)
seen_by n o t ts false q d e more = seen_none n (o ∷ t ∷ ts) d
seen_by n o t ts true None d e more = seen_dot n o (t ∷ ts) d e
seen_by n o t ts true (Some m) d e more = seen_name n o t ts m d e (more m)

seen_one : (n : List ℕ) (o : Token) (b : Bool) → is_mark Dot (Some o) ≡ b → SeenLast n (o ∷ [])
seen_one n o false d = seen_none n (o ∷ []) d
seen_one n o true d = seen_dot n o [] d refl

seen_last : (ts : List Token) (n : List ℕ) → SeenLast n ts
seen_last [] n = seen_none n [] refl
seen_last (o ∷ []) n = seen_one n o (is_mark Dot (Some o)) refl
seen_last (o ∷ t ∷ ts) n = seen_by n o t ts (is_mark Dot (Some o)) (name_of (Some t)) refl refl (λ m. seen_last ts m)

-- The tests

-- behind a first token, the tokens with which a test is decided, but for the one behind them
pub record Seen (test : List Token → Bool) (t : Token) (ts : List Token) : Type 0 where
  pub text : List Token
  pub rest : List Token
  pub whole : ts ≡ text ++ rest
  pub dotted : are_dotted text ≡ true
  pub same : (others : List Token) → head others ≡ head rest → test (t ∷ (text ++ others)) ≡ test (t ∷ ts)

type_step : (follows : Option Token → Bool) (t : Token) (ts : List Token) (n : List ℕ) → name_of (Some t) ≡ Some n → is_dotted_type follows (t ∷ ts) ≡ (is_mark Dot (head ts) && upper_first n && ends_type follows (last_name n ts))
type_step follows t ts n e = found _ _ e refl

no_name_type : (follows : Option Token → Bool) (t : Token) (ts : List Token) → name_of (Some t) ≡ None → is_dotted_type follows (t ∷ ts) ≡ false
no_name_type follows t ts e = missing _ _ e refl

type_alike : (follows : Option Token → Bool) (t : Token) (n : List ℕ) (ts us : List Token) → name_of (Some t) ≡ Some n → head ts ≡ head us → last_name n ts ≡ last_name n us → is_dotted_type follows (t ∷ ts) ≡ is_dotted_type follows (t ∷ us)
type_alike follows t n ts us e h g = type_step follows t ts n e ∙ (ap₂ (λ o l. is_mark Dot o && upper_first n && ends_type follows l) h g ∙ sym (type_step follows t us n e))

pub seen_type : (follows : Option Token → Bool) (t : Token) (ts : List Token) (n : List ℕ) → name_of (Some t) ≡ Some n → Seen (is_dotted_type follows) t ts
seen_type follows t ts n e =
    let s = seen_last ts n in
    record {
      text = s.text;
      rest = s.rest;
      whole = s.whole;
      dotted = s.dotted;
      same = λ others h. type_alike follows t n (s.text ++ others) ts e (head_same s.text s.rest others h ∙ sym (ap head s.whole)) (s.same others h);
    }

seen_kind_by : (t : Token) (ts : List Token) (b : Bool) → is_mark Dot (head ts) ≡ b → Seen is_dotted_kind t ts
seen_kind_by t ts false h = record {
  text = [];
  rest = ts;
  whole = refl;
  dotted = refl;
  same = λ others e.
      first_false (is_some (name_of (head (tail others)))) (second_false (name_is upper_first (Some t)) (ap (is_mark Dot) e ∙ h))
      ∙ sym (first_false (is_some (name_of (head (tail ts)))) (second_false (name_is upper_first (Some t)) h));
}
seen_kind_by t [] true h = absurd cc
seen_kind_by t (o ∷ ts) true h = record {
  text = o ∷ [];
  rest = ts;
  whole = refl;
  dotted = h;
  same = λ others e. ap (λ q. name_is upper_first (Some t) && is_mark Dot (Some o) && is_some (name_of q)) e;
}

pub seen_kind : (t : Token) (ts : List Token) → Seen is_dotted_kind t ts
seen_kind t ts = seen_kind_by t ts (is_mark Dot (head ts)) refl

-- Where they fail at once

upper_by : (o : Option (List ℕ)) → elim o [ Some n ↦ upper_first n | None ↦ false ] ≡ false → (f g : List ℕ → Bool) → elim o [ Some n ↦ f n && upper_first n && g n | None ↦ false ] ≡ false
upper_by None h f g = refl
upper_by (Some n) h f g = first_false (g n) (second_false (f n) h)

pub no_upper_type : (follows : Option Token → Bool) (ts : List Token) → name_is upper_first (head ts) ≡ false → is_dotted_type follows ts ≡ false
no_upper_type follows [] h = refl
no_upper_type follows (t ∷ ts) h = upper_by (name_of (Some t)) h (λ n. is_mark Dot (head ts)) (λ n. ends_type follows (last_name n ts))

dot_by : (o : Option (List ℕ)) (b : Bool) → b ≡ false → (f g : List ℕ → Bool) → elim o [ Some n ↦ b && f n && g n | None ↦ false ] ≡ false
dot_by None b h f g = refl
dot_by (Some n) b h f g = first_false (g n) (first_false (f n) h)

pub no_dot_type : (follows : Option Token → Bool) (t : Token) (ts : List Token) → is_mark Dot (head ts) ≡ false → is_dotted_type follows (t ∷ ts) ≡ false
no_dot_type follows t ts h = dot_by (name_of (Some t)) (is_mark Dot (head ts)) h upper_first (λ n. ends_type follows (last_name n ts))

-- Text that decides it

-- in these tokens, or at the next one, which is no dot if this is true, the name with dots ends
abbrev pub settled : Bool → List Token → Bool
settled b [] = b
settled b (o ∷ []) = not (is_mark Dot (Some o))
settled b (o ∷ t ∷ ts) = if is_mark Dot (Some o) then is_name (Some t) && settled b ts else true

pub settled_off : (b : Bool) (o : Token) (ts : List Token) → is_mark Dot (Some o) ≡ false → settled b (o ∷ ts) ≡ true
settled_off b o [] h = ap not h
settled_off b o (t ∷ ts) h = if_false _ _ h refl

pub settled_on : (b : Bool) (o t : Token) (ts : List Token) → is_mark Dot (Some o) ≡ true → is_name (Some t) ≡ true → settled b ts ≡ true → settled b (o ∷ t ∷ ts) ≡ true
settled_on b o t ts d n h = if_true _ _ d (both_true n h)

-- what is behind the text decides nothing
abbrev AlikeBehind : List Token → List Token → List Token → List ℕ → Type 0
AlikeBehind us r s n = last_name n (us ++ s) ≡ last_name n (us ++ r)

-- the next token is no dot
abbrev off_dot : List Token → Bool
off_dot r = not (is_mark Dot (head r))

settled_dot : (o t : Token) (us : List Token) (n : List ℕ) (r s : List Token) (q : Option (List ℕ)) → is_mark Dot (Some o) ≡ true → name_of (Some t) ≡ q → (is_name (Some t) && settled (off_dot r) us) ≡ true → ((m : List ℕ) → settled (off_dot r) us ≡ true → AlikeBehind us r s m) → AlikeBehind (o ∷ t ∷ us) r s n
settled_dot o t us n r s None d e h more =
    absurd (let a : is_name (Some t) ≡ true = first_true _ _ h in let b : false ≡ true = sym (ap is_some e) ∙ a in cc)
settled_dot o t us n r s (Some m) d e h more =
    last_step n o t (us ++ s) m d e ∙ (more m (second_true (is_name (Some t)) _ h) ∙ sym (last_step n o t (us ++ r) m d e))

settled_by : (o t : Token) (us : List Token) (n : List ℕ) (r s : List Token) (b : Bool) → is_mark Dot (Some o) ≡ b → (if b then is_name (Some t) && settled (off_dot r) us else true) ≡ true → ((m : List ℕ) → settled (off_dot r) us ≡ true → AlikeBehind us r s m) → AlikeBehind (o ∷ t ∷ us) r s n
settled_by o t us n r s false d h more = last_no_dot n (o ∷ t ∷ us ++ s) d ∙ sym (last_no_dot n (o ∷ t ∷ us ++ r) d)
settled_by o t us n r s true d h more = settled_dot o t us n r s (name_of (Some t)) d refl h more

settled_same : (us : List Token) (n : List ℕ) (r s : List Token) → settled (off_dot r) us ≡ true → head s ≡ head r → AlikeBehind us r s n
settled_same [] n r s h e =
    let d : is_mark Dot (head r) ≡ false = not_true (is_mark Dot (head r)) h in
    last_no_dot n s (ap (is_mark Dot) e ∙ d) ∙ (ap (λ o. record { name = n; next = o }) e ∙ sym (last_no_dot n r d))
settled_same (o ∷ []) n r s h e =
    let d : is_mark Dot (Some o) ≡ false = not_true (is_mark Dot (Some o)) h in
    last_no_dot n (o ∷ s) d ∙ sym (last_no_dot n (o ∷ r) d)
settled_same (o ∷ t ∷ us) n r s h e = settled_by o t us n r s (is_mark Dot (Some o)) refl h (λ m g. settled_same us m r s g e)

type_by : (follows : Option Token → Bool) (t : Token) (us r s : List Token) (q : Option (List ℕ)) → name_of (Some t) ≡ q → (is_name (Some t) ≡ true → settled (off_dot r) us ≡ true) → head s ≡ head r → is_dotted_type follows (t ∷ (us ++ s)) ≡ is_dotted_type follows (t ∷ (us ++ r))
type_by follows t us r s None e h g = no_name_type follows t (us ++ s) e ∙ sym (no_name_type follows t (us ++ r) e)
type_by follows t us r s (Some n) e h g = type_alike follows t n (us ++ s) (us ++ r) e (head_same us r s g) (settled_same us n r s (h (ap is_some e)) g)

-- the test is the same behind text that decides it
pub type_same : (follows : Option Token → Bool) (t : Token) (us r s : List Token) → (is_name (Some t) ≡ true → settled (off_dot r) us ≡ true) → head s ≡ head r → is_dotted_type follows (t ∷ (us ++ s)) ≡ is_dotted_type follows (t ∷ (us ++ r))
type_same follows t us r s h g = type_by follows t us r s (name_of (Some t)) refl h g
