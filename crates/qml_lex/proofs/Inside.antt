-- What stands between quotes, part by part.
use Rattle.std.proofs.Common.{◌≡◌, ◌≢◌, ℕ, zero, suc, ◌+◌, ◌-◌, ◌<◌, ◌≤◌, false, eqb, eq-eqb, List, [], ◌∷◌, ◌++◌, length, take, drop, drop-cons, add-one, get_or, Option, None, Some, sym, refl, ap, ◌∙◌, arith}
use Rattle.std.proofs.lemmas.Bool.{ne_eqb}
use Rattle.std.proofs.lemmas.List.{drop_all, take_all, append_assoc, append-nil, length-drop, length-append}
use Rattle.std.proofs.lemmas.Grind.{common_steps}
use Rattle.qml_lex.specs.Bytes.{shifted}
use Rattle.qml_lex.specs.Texts.{body_len, body_len_after, value_of, value_after, part_of, part_value, spelled_len}
use Rattle.qml_lex.specs.declared.text.Part.{Part}
use Rattle.qml_lex.specs.declared.text.Part.TheVariants.{Raw, Short, Code}

pub shifted-zero : (o : Option ℕ) → shifted 0 o ≡ o
shifted-zero None = refl
shifted-zero (Some n) = ap Some (omega arith)

pub shifted-shifted : (a b : ℕ) (o : Option ℕ) → shifted a (shifted b o) ≡ shifted (a + b) o
shifted-shifted a b None = refl
shifted-shifted a b (Some n) = ap Some (omega arith)

-- passing bytes of an escape is going on behind them
pub body_len_after-drop : (quote k : ℕ) (xs : List ℕ) → k ≤ length xs → body_len_after quote k xs ≡ shifted k (body_len_after quote 0 (drop k xs))
body_len_after-drop quote zero xs h = sym (shifted-zero (body_len_after quote 0 xs))
body_len_after-drop quote (suc k) [] h = absurd (omega arith)
body_len_after-drop quote (suc k) (x ∷ xs) h =
    ap (shifted 1) (body_len_after-drop quote k xs (omega arith)) ∙ shifted_suc k (body_len_after quote 0 (drop k xs))
  where
    shifted_suc : (n : ℕ) (o : Option ℕ) → shifted 1 (shifted n o) ≡ shifted (suc n) o
    shifted_suc n None = refl
    shifted_suc n (Some m) = ap Some (omega arith)

-- the same for a value
pub value_after-drop : (k : ℕ) (xs : List ℕ) → value_after k xs ≡ value_after 0 (drop k xs)
value_after-drop zero xs = refl
value_after-drop (suc k) [] = refl
value_after-drop (suc k) (x ∷ xs) = value_after-drop k xs

-- the length of a body that begins with this part
pub body_len-part : (quote byte : ℕ) (rest : List ℕ) (part : Part) → eqb byte quote ≡ false → part_of (byte ∷ rest) ≡ Some part → spelled_len part ≤ suc (length rest) → body_len quote (byte ∷ rest) ≡ shifted (spelled_len part) (body_len quote (drop (spelled_len part) (byte ∷ rest)))
unfolding body_len
body_len-part quote byte rest (Raw raw) other is h = rw (other, is) (body_len_after-drop quote 1 (byte ∷ rest) (omega arith))
body_len-part quote byte rest (Short raw) other is h = rw (other, is) (body_len_after-drop quote 2 (byte ∷ rest) (omega arith))
body_len-part quote byte rest (Code character) other is h = rw (other, is) (body_len_after-drop quote 6 (byte ∷ rest) (omega arith))

-- the value of a body that begins with this part
pub value_of-part : (byte : ℕ) (rest : List ℕ) (part : Part) → part_of (byte ∷ rest) ≡ Some part → value_of (byte ∷ rest) ≡ part_value part ++ value_of (drop (spelled_len part) (byte ∷ rest))
unfolding value_of
value_of-part byte rest (Raw raw) is = rw is refl
value_of-part byte rest (Short raw) is = rw is (ap (λ v. raw ∷ v) (value_after-drop 1 rest))
value_of-part byte rest (Code character) is = rw is (ap (λ v. part_value (Code character) ++ v) (value_after-drop 5 rest))

-- the value of a body that begins with a byte that is nothing
pub value_of-none : (byte : ℕ) (rest : List ℕ) → part_of (byte ∷ rest) ≡ None → value_of (byte ∷ rest) ≡ value_of rest
unfolding value_of
value_of-none byte rest is = rw is refl

-- the same at an offset of a body
pub body_len-end : (quote : ℕ) (xs : List ℕ) (i : ℕ) → length xs ≤ i → body_len quote (drop i xs) ≡ None
unfolding body_len
body_len-end quote xs i h = rw (drop_all i xs h) refl

pub body_len-quote : (quote : ℕ) (xs : List ℕ) (i : ℕ) → i < length xs → get_or xs i 0 ≡ quote → body_len quote (drop i xs) ≡ Some 0
unfolding body_len
body_len-quote quote xs i h e =
    rw (drop-cons xs i 0 h, eq-eqb (get_or xs i 0) quote e) refl

pub body_len-none : (quote : ℕ) (xs : List ℕ) (i : ℕ) → i < length xs → get_or xs i 0 ≢ quote → part_of (drop i xs) ≡ None → body_len quote (drop i xs) ≡ None
unfolding body_len
body_len-none quote xs i h other is =
    let e : drop i xs ≡ get_or xs i 0 ∷ drop (suc i) xs = drop-cons xs i 0 h in
    rw (e, ne_eqb (get_or xs i 0) quote other, rw e at is) refl

-- a rest that begins with this part
begins : (quote byte : ℕ) (rest ys : List ℕ) (part : Part) → ys ≡ byte ∷ rest → byte ≢ quote → part_of ys ≡ Some part → spelled_len part ≤ length ys → body_len quote ys ≡ shifted (spelled_len part) (body_len quote (drop (spelled_len part) ys))
begins quote byte rest ys part e other is within =
    let within_rest : spelled_len part ≤ suc (length rest) = omega (arith, ap length e) in
    rw e (body_len-part quote byte rest part (ne_eqb byte quote other) (rw e at is) within_rest)

pub body_len-next : (quote : ℕ) (xs : List ℕ) (i n : ℕ) (part : Part) → i < length xs → get_or xs i 0 ≢ quote → part_of (drop i xs) ≡ Some part → n ≡ spelled_len part → i + n ≤ length xs → body_len quote (drop i xs) ≡ shifted n (body_len quote (drop (i + n) xs))
body_len-next quote xs i n part h other is is_n within =
    let tail : drop n (drop i xs) ≡ drop (i + n) xs = grind (arith, common_steps) in
    let fits : spelled_len part ≤ length (drop i xs) = rw (length-drop i xs) (omega arith) in
    rw (← tail, is_n) (begins quote (get_or xs i 0) (drop (suc i) xs) (drop i xs) part (drop-cons xs i 0 h) other is fits)

pub value_of-end : (xs : List ℕ) (i : ℕ) → length xs ≤ i → value_of (drop i xs) ≡ []
unfolding value_of
value_of-end xs i h = rw (drop_all i xs h) refl

-- a rest that begins with this part
value_begins : (byte : ℕ) (rest ys : List ℕ) (part : Part) → ys ≡ byte ∷ rest → part_of ys ≡ Some part → value_of ys ≡ part_value part ++ value_of (drop (spelled_len part) ys)
value_begins byte rest ys part e is = rw e (value_of-part byte rest part (rw e at is))

pub value_of-next : (xs : List ℕ) (i n : ℕ) (part : Part) → i < length xs → part_of (drop i xs) ≡ Some part → n ≡ spelled_len part → value_of (drop i xs) ≡ part_value part ++ value_of (drop (i + n) xs)
value_of-next xs i n part h is is_n =
    let tail : drop n (drop i xs) ≡ drop (i + n) xs = grind (arith, common_steps) in
    rw (← tail, is_n) (value_begins (get_or xs i 0) (drop (suc i) xs) (drop i xs) part (drop-cons xs i 0 h) is)

pub value_of-skip : (xs : List ℕ) (i : ℕ) → i < length xs → part_of (drop i xs) ≡ None → value_of (drop i xs) ≡ value_of (drop (i + 1) xs)
value_of-skip xs i h is =
    let e : drop i xs ≡ get_or xs i 0 ∷ drop (suc i) xs = drop-cons xs i 0 h in
    rw (e, add-one) (value_of-none (get_or xs i 0) (drop (suc i) xs) (rw e at is))

-- the slice from an offset on
pub take-rest : (xs : List ℕ) (i : ℕ) → take (length xs - i) (drop i xs) ≡ drop i xs
take-rest xs i = take_all (length xs - i) (drop i xs) (omega (arith, length-drop i xs))

-- how a search for the closing quote goes on
pub body_len_stops : (quote : ℕ) (xs : List ℕ) (i : ℕ) → i < length xs → get_or xs i 0 ≢ quote → None ≡ part_of (take (length xs - i) (drop i xs)) → shifted i (body_len quote (drop i xs)) ≡ body_len quote xs → None ≡ body_len quote xs
body_len_stops quote xs i h other is found = rw (body_len-none quote xs i h other (sym (rw (take-rest xs i) at is))) at found

pub body_len_goes_on : (quote : ℕ) (xs : List ℕ) (i n : ℕ) (part : Part) → i < length xs → get_or xs i 0 ≢ quote → Some part ≡ part_of (take (length xs - i) (drop i xs)) → n ≡ spelled_len part → i + n ≤ length xs → shifted i (body_len quote (drop i xs)) ≡ body_len quote xs → shifted (i + n) (body_len quote (drop (i + n) xs)) ≡ body_len quote xs
body_len_goes_on quote xs i n part h other is is_n within found =
    sym (shifted-shifted i n (body_len quote (drop (i + n) xs))) ∙ rw (body_len-next quote xs i n part h other (sym (rw (take-rest xs i) at is)) is_n within) at found

-- how the length of a value goes on
pub value_len_goes_on : (xs : List ℕ) (i n len more : ℕ) (part : Part) → i < length xs → Some part ≡ part_of (take (length xs - i) (drop i xs)) → n ≡ spelled_len part → more ≡ length (part_value part) → len + length (value_of (drop i xs)) ≡ length (value_of xs) → len + more + length (value_of (drop (i + n) xs)) ≡ length (value_of xs)
value_len_goes_on xs i n len more part h is is_n is_more so_far =
    let next : length (value_of (drop i xs)) ≡ length (part_value part) + length (value_of (drop (i + n) xs)) =
    ap length (value_of-next xs i n part h (sym (rw (take-rest xs i) at is)) is_n) ∙ length-append (part_value part) (value_of (drop (i + n) xs)) in
    omega arith

pub value_len_skips : (xs : List ℕ) (i len : ℕ) → i < length xs → None ≡ part_of (take (length xs - i) (drop i xs)) → len + length (value_of (drop i xs)) ≡ length (value_of xs) → len + length (value_of (drop (i + 1) xs)) ≡ length (value_of xs)
value_len_skips xs i len h is so_far = rw (value_of-skip xs i h (sym (rw (take-rest xs i) at is))) at so_far

-- how a value goes on
pub value_goes_on : (xs : List ℕ) (i n : ℕ) (so_far more : List ℕ) (part : Part) → i < length xs → Some part ≡ part_of (take (length xs - i) (drop i xs)) → n ≡ spelled_len part → more ≡ so_far ++ part_value part → so_far ++ value_of (drop i xs) ≡ value_of xs → more ++ value_of (drop (i + n) xs) ≡ value_of xs
value_goes_on xs i n so_far more part h is is_n is_more found =
    rw (is_more, append_assoc so_far (part_value part) (value_of (drop (i + n) xs)), ← value_of-next xs i n part h (sym (rw (take-rest xs i) at is)) is_n) found

pub value_skips : (xs : List ℕ) (i : ℕ) (so_far : List ℕ) → i < length xs → None ≡ part_of (take (length xs - i) (drop i xs)) → so_far ++ value_of (drop i xs) ≡ value_of xs → so_far ++ value_of (drop (i + 1) xs) ≡ value_of xs
value_skips xs i so_far h is found = rw (value_of-skip xs i h (sym (rw (take-rest xs i) at is))) at found

pub value_is_whole : (xs : List ℕ) (i : ℕ) (so_far : List ℕ) → length xs ≤ i → so_far ++ value_of (drop i xs) ≡ value_of xs → so_far ≡ value_of xs
value_is_whole xs i so_far h found = sym (append-nil so_far) ∙ rw (value_of-end xs i h) at found

pub ruleset inside = (body_len-end, body_len-quote, body_len-none, body_len-next, value_of-end, value_of-next, value_of-skip, shifted-shifted, shifted-zero)
