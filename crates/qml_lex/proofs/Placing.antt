-- The place after one more byte.
use Rattle.std.proofs.Common.{◌≡◌, ◌≢◌, ℕ, ◌+◌, ◌-◌, ◌<◌, ◌≤◌, true, not, List, length, take, get_or, refl, ap, arith}
use Rattle.std.proofs.lemmas.List.Sums.{count_by_more_yes, count_by_more_no, count_by-le-length, suffix_len-take_yes, suffix_len-take_no, suffix_len-le-length}
use Rattle.std.proofs.lemmas.List.{length-take}
use Rattle.std.proofs.lemmas.Bool.{ne_eqb}
use Rattle.qml_lex.specs.Bytes.{is_line_end}
use Rattle.qml_lex.specs.Places.{line_after, column_after}

-- a line end begins the next line
pub line_after_line_end : (bytes : List ℕ) (i : ℕ) → i < length bytes → get_or bytes i 0 ≡ 10 → line_after (take (i + 1) bytes) ≡ line_after (take i bytes) + 1
unfolding line_after
line_after_line_end bytes i h e = omega (arith, count_by_more_yes is_line_end bytes i 0 h (rw e refl))

pub column_after_line_end : (bytes : List ℕ) (i : ℕ) → i < length bytes → get_or bytes i 0 ≡ 10 → column_after (take (i + 1) bytes) ≡ 1
unfolding column_after
column_after_line_end bytes i h e =
    ap (λ n. 1 + n) (suffix_len-take_no (λ byte. not (is_line_end byte)) bytes (i + 1) 0 (omega arith) (omega arith) (let before : i + 1 - 1 ≡ i = omega arith in rw (before, e) refl))

pub line_after_other : (bytes : List ℕ) (i : ℕ) → i < length bytes → get_or bytes i 0 ≢ 10 → line_after (take (i + 1) bytes) ≡ line_after (take i bytes)
unfolding line_after
line_after_other bytes i h e =
    ap (λ n. 1 + n) (count_by_more_no is_line_end bytes i 0 h (ne_eqb (get_or bytes i 0) 10 e))

pub column_after_other : (bytes : List ℕ) (i : ℕ) → i < length bytes → get_or bytes i 0 ≢ 10 → column_after (take (i + 1) bytes) ≡ column_after (take i bytes) + 1
unfolding column_after
column_after_other bytes i h e =
    let before : i + 1 - 1 ≡ i = omega arith in
    let other : not (is_line_end (get_or bytes (i + 1 - 1) 0)) ≡ true = rw (before, ne_eqb (get_or bytes i 0) 10 e) refl in
    let more = suffix_len-take_yes (λ byte. not (is_line_end byte)) bytes (i + 1) 0 (omega arith) (omega arith) other in
    omega (arith, rw before at more)

pub line_after_bound : (bytes : List ℕ) (i : ℕ) → line_after (take i bytes) ≤ i + 1
unfolding line_after
line_after_bound bytes i = omega (arith, count_by-le-length is_line_end (take i bytes), length-take i bytes)

pub column_after_bound : (bytes : List ℕ) (i : ℕ) → column_after (take i bytes) ≤ i + 1
unfolding column_after
column_after_bound bytes i = omega (arith, suffix_len-le-length (λ byte. not (is_line_end byte)) (take i bytes), length-take i bytes)

pub ruleset placing = (line_after_line_end, column_after_line_end, line_after_other, column_after_other, line_after_bound, column_after_bound)
