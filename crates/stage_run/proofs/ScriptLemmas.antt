-- Lines from the front, and the first bad one.
use Rattle.std.proofs.Common.{◌≡◌, ◌≢◌, ℕ, zero, suc, ◌+◌, ◌-◌, ◌<◌, ◌≤◌, ◌⊎◌, inl, inr, Bool, true, false, not, List, [], ◌∷◌, ◌++◌, length, take, drop, refl, sym, ap, ◌∙◌, subst, arith, add-one}
use Rattle.std.specs.Prelude.{replicate, slice_get, Some, None, min, unwrap_or}
use Rattle.std.specs.List.{position_or_len, position}
use Rattle.std.proofs.Math.Nat.{min_comm}
use Rattle.std.proofs.lemmas.List.{append_assoc, drop_min, length-replicate, replicate_more}
use Rattle.std.proofs.lemmas.List.Sums.{prefix_len-le-length}
use Rattle.std.proofs.lemmas.Grind.{common_steps}
use Rattle.stage_run.specs.Script.{is_line_end, lines_of, frame_word, IsScript, IsBadLine, IsFirstBadLine}

-- a text whose first line is told, with one more byte in front
lines-longer : (byte : ℕ) (bytes line : List ℕ) (lines : List (List ℕ)) → is_line_end byte ≡ false → lines_of bytes ≡ line ∷ lines → lines_of (byte ∷ bytes) ≡ (byte ∷ line) ∷ lines
lines-longer byte bytes line lines e known = rw (e, known) refl

len-longer : (byte : ℕ) (bytes : List ℕ) → is_line_end byte ≡ false → position_or_len is_line_end (byte ∷ bytes) ≡ suc (position_or_len is_line_end bytes)
len-longer byte bytes e = rw e (omega arith)

-- a text's first line is what stands before its first LF
pub lines-first : (bytes : List ℕ) → 0 < length bytes → lines_of bytes ≡ take (position_or_len is_line_end bytes) bytes ∷ lines_of (drop (suc (position_or_len is_line_end bytes)) bytes)
lines-first [] some = absurd (omega arith)
lines-first (byte ∷ []) some =
    let at : (ends : Bool) → is_line_end byte ≡ ends → lines_of (byte ∷ []) ≡ take (position_or_len is_line_end (byte ∷ [])) (byte ∷ []) ∷ lines_of (drop (suc (position_or_len is_line_end (byte ∷ []))) (byte ∷ []))
    = λ ends. elim ends as (λ b. is_line_end byte ≡ b → lines_of (byte ∷ []) ≡ take (position_or_len is_line_end (byte ∷ [])) (byte ∷ []) ∷ lines_of (drop (suc (position_or_len is_line_end (byte ∷ []))) (byte ∷ [])))
    [ true ↦ λ e. rw e refl | false ↦ λ e. rw e refl ]
    in at (is_line_end byte) refl
lines-first (byte ∷ next ∷ bytes) some =
    let at : (ends : Bool) → is_line_end byte ≡ ends → lines_of (byte ∷ next ∷ bytes) ≡ take (position_or_len is_line_end (byte ∷ next ∷ bytes)) (byte ∷ next ∷ bytes) ∷ lines_of (drop (suc (position_or_len is_line_end (byte ∷ next ∷ bytes))) (byte ∷ next ∷ bytes))
    = λ ends. elim ends as (λ b. is_line_end byte ≡ b → lines_of (byte ∷ next ∷ bytes) ≡ take (position_or_len is_line_end (byte ∷ next ∷ bytes)) (byte ∷ next ∷ bytes) ∷ lines_of (drop (suc (position_or_len is_line_end (byte ∷ next ∷ bytes))) (byte ∷ next ∷ bytes))) [
      | true ↦ λ e. rw e refl
      | false ↦ λ e. rw (len-longer byte (next ∷ bytes) e) (lines-longer byte (next ∷ bytes) _ _ e (lines-first (next ∷ bytes) (omega arith)))
    ]
    in at (is_line_end byte) refl

-- the first LF's place, or the text's length
pub line_len-position : (bytes : List ℕ) → unwrap_or (position is_line_end bytes) (length bytes) ≡ position_or_len is_line_end bytes
line_len-position bytes =
    let within : position_or_len is_line_end bytes ≤ length bytes = prefix_len-le-length (λ byte. not (is_line_end byte)) bytes in
    grind (arith, common_steps)

-- a text's first line, and the lines from the place behind its LF, cut at the text's end
pub lines-split : (bytes : List ℕ) (end next : ℕ) → 0 < length bytes → end ≡ position_or_len is_line_end bytes → next ≡ min (length bytes) (end + 1)
    → lines_of bytes ≡ take end bytes ∷ lines_of (take (length bytes - next) (drop next bytes))
lines-split bytes end next some at after =
    let all : take (length bytes - next) (drop next bytes) ≡ drop next bytes = grind (arith, common_steps) in
    let cut : drop next bytes ≡ drop (suc end) bytes = rw (after, min_comm, drop_min, add-one) refl in
    rw (all, cut, at) (lines-first bytes some)

-- the element behind equal ones
get-behind_replicate : (n : ℕ) (x y : List ℕ) (ys : List (List ℕ)) → slice_get (replicate n x ++ y ∷ ys) n ≡ Some y
get-behind_replicate zero x y ys = refl
get-behind_replicate (suc n) x y ys = get-behind_replicate n x y ys

take-replicate_front : (n : ℕ) (x : List ℕ) (ys : List (List ℕ)) → take n (replicate n x ++ ys) ≡ replicate n x
take-replicate_front zero x ys = refl
take-replicate_front (suc n) x ys = ap (λ l. x ∷ l) (take-replicate_front n x ys)

-- a bad line behind good ones is the first bad one
pub first_bad : (bytes line after : List ℕ) (count : ℕ) → lines_of bytes ≡ replicate count frame_word ++ line ∷ lines_of after → count ≤ 100000 → (line ≡ frame_word → count + 1 ≡ 100001) → IsFirstBadLine bytes (count + 1)
first_bad bytes line after count known few bad =
    let before : count + 1 - 1 ≡ count = omega arith in
    record {
      counted = omega arith;
      near = omega arith;
      good_before = rw (before, known) (take-replicate_front count frame_word (line ∷ lines_of after));
      bad = rw (before, known, get-behind_replicate count frame_word line (lines_of after)) bad;
    }

-- one more good line behind good ones
pub one_more : (bytes line after : List ℕ) (count : ℕ) → lines_of bytes ≡ replicate count frame_word ++ line ∷ lines_of after → count ≤ 100000 → count ≢ 100000 → line ≡ frame_word
    → (count + 1 ≤ 100000) × (lines_of bytes ≡ replicate (count + 1) frame_word ++ lines_of after)
one_more bytes line after count known few not_most same =
    (omega arith, known ∙ ap (λ l. replicate count frame_word ++ l ∷ lines_of after) same ∙ sym (append_assoc (replicate count frame_word) (frame_word ∷ []) (lines_of after)) ∙ ap (λ l. l ++ lines_of after) (replicate_more count frame_word))

get-replicate : (n i : ℕ) (x : List ℕ) → i < n → slice_get (replicate n x) i ≡ Some x
get-replicate zero i x inside = absurd (omega arith)
get-replicate (suc n) zero x inside = refl
get-replicate (suc n) (suc i) x inside = get-replicate n i x (omega arith)

get-past_replicate : (n i : ℕ) (x : List ℕ) → n ≤ i → slice_get (replicate n x) i ≡ None
get-past_replicate zero i x past = grind (arith, common_steps)
get-past_replicate (suc n) zero x past = absurd (omega arith)
get-past_replicate (suc n) (suc i) x past = get-past_replicate n i x (omega arith)

lt_or_le : (a b : ℕ) → (a < b) ⊎ (b ≤ a)
lt_or_le a zero = inr (omega arith)
lt_or_le zero (suc b) = inl (omega arith)
lt_or_le (suc a) (suc b) = elim (lt_or_le a b) [ inl below ↦ inl (omega arith) | inr above ↦ inr (omega arith) ]

-- no line of a script is bad
pub script_is_good : (bytes : List ℕ) (count line : ℕ) → IsScript bytes count → IsFirstBadLine bytes line → ⊥
script_is_good bytes count line script bad =
    elim (lt_or_le (line - 1) count) [
      | inl inside ↦
          let told : IsBadLine (Some frame_word) line = rw (script.frames, get-replicate count (line - 1) frame_word inside) at bad.bad in
          let few = script.few in let most : line ≡ 100001 = told refl in let counted = bad.counted in omega arith
      | inr past ↦
          let told : IsBadLine None line = rw (script.frames, get-past_replicate count (line - 1) frame_word past) at bad.bad in told
    ]

get-take : (n i : ℕ) (xs : List (List ℕ)) → i < n → slice_get (take n xs) i ≡ slice_get xs i
get-take zero i xs below = absurd (omega arith)
get-take (suc n) i [] below = refl
get-take (suc n) zero (x ∷ xs) below = refl
get-take (suc n) (suc i) (x ∷ xs) below = get-take n i xs (omega arith)

-- a bad line is not before the first bad one
not_earlier : (bytes : List ℕ) (early late : ℕ) → IsFirstBadLine bytes early → IsFirstBadLine bytes late → early < late → ⊥
not_earlier bytes early late bad later before =
    let counted = bad.counted in
    let near = later.near in
    let i = early - 1 in
    let n = late - 1 in
    let inside : i < n = omega arith in
    let seen : slice_get (lines_of bytes) i ≡ Some frame_word
    = sym (get-take n i (lines_of bytes) inside) ∙ ap (λ lines. slice_get lines i) later.good_before ∙ get-replicate n i frame_word inside in
    let told : IsBadLine (Some frame_word) early = subst (λ line. IsBadLine line early) seen bad.bad in
    let most : early ≡ 100001 = told refl in
    omega arith

-- there is one first bad line
pub bad_line_is_one : (bytes : List ℕ) (first second : ℕ) → IsFirstBadLine bytes first → IsFirstBadLine bytes second → first ≡ second
bad_line_is_one bytes first second bad other =
    elim (lt_or_le first second) [
      | inl below ↦ absurd (not_earlier bytes first second bad other below)
      | inr above ↦ elim (lt_or_le second first) [
        | inl below ↦ absurd (not_earlier bytes second first other bad below)
        | inr same ↦ omega arith
      ]
    ]

-- there is one number of commands
pub count_is_one : (bytes : List ℕ) (first second : ℕ) → IsScript bytes first → IsScript bytes second → first ≡ second
count_is_one bytes first second script other =
    sym (length-replicate first frame_word) ∙ ap length (sym script.frames ∙ other.frames) ∙ length-replicate second frame_word
