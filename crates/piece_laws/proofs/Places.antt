-- The place behind a piece.
use Rattle.std.proofs.Common.{◌≡◌, ℕ, suc, ◌+◌, Bool, true, false, cond, not, List, [], ◌∷◌, ◌++◌, append_assoc, length, take, drop, reverse, replicate, refl, ap, ◌∙◌, sym, arith}
use Rattle.std.specs.List.{list_all, prefix_len, count_by}
use Rattle.std.proofs.Math.Seq.{take-add, take-append_seam}
use Rattle.std.proofs.lemmas.List.{reverse-append, length-reverse, length-replicate}
use Rattle.std.proofs.lemmas.List.Sums.{sum_by-append}
use Rattle.qml_ast.specs.declared.span.Span.{Span}
use Rattle.qml_lex.specs.Bytes.{is_line_end}
use Rattle.qml_lex.specs.Places.{line_after, column_after, place_of}
use Rattle.qml_lex.proofs.LongestMark.{and_left, and_right}
use Rattle.piece_laws.specs.Pieces.{along}
use Rattle.piece_laws.proofs.Fronts.{front_more, all_reversed, all_same}
use Rattle.piece_laws.proofs.Spelt.{is_inside}

-- Lines and columns behind more bytes

none_ends : (s : List ℕ) → list_all is_inside s ≡ true → count_by is_line_end s ≡ 0
none_ends [] all = refl
none_ends (x ∷ s) all =
    let here : is_line_end x ≡ false = not_true (is_line_end x) (and_left (is_inside x) (list_all is_inside s) all) in
    let later : count_by is_line_end s ≡ 0 = none_ends s (and_right (is_inside x) (list_all is_inside s) all) in
    rw (here, later) refl
  where
    not_true : (b : Bool) → not b ≡ true → b ≡ false
    not_true true h = cc
    not_true false h = refl

line_inside : (before s : List ℕ) → list_all is_inside s ≡ true → line_after (before ++ s) ≡ line_after before
unfolding line_after
line_inside before s all =
    omega (arith, sum_by-append (λ (x : ℕ). cond (is_line_end x) 1 0) before s, none_ends s all)

column_inside : (before s : List ℕ) → list_all is_inside s ≡ true → column_after (before ++ s) ≡ column_after before + length s
unfolding column_after
column_inside before s all =
    let len : length (reverse s) ≡ length s = length-reverse s in
    let front : prefix_len is_inside (reverse s ++ reverse before) ≡ length (reverse s) + prefix_len is_inside (reverse before) =
    front_more is_inside (reverse s) (reverse before) (prefix_len is_inside (reverse before)) (all_reversed is_inside s all) refl in
    let whole : prefix_len is_inside (reverse (before ++ s)) ≡ length (reverse s) + prefix_len is_inside (reverse before) =
    ap (prefix_len is_inside) (reverse-append before s) ∙ front in
    omega (arith, whole, len)

line_ended : (before : List ℕ) → line_after (before ++ 10 ∷ []) ≡ suc (line_after before)
unfolding line_after
line_ended before = omega (arith, sum_by-append (λ (x : ℕ). cond (is_line_end x) 1 0) before (10 ∷ []))

column_ended : (before : List ℕ) → column_after (before ++ 10 ∷ []) ≡ 1
unfolding column_after
column_ended before = ap (λ l. 1 + prefix_len is_inside l) (reverse-append before (10 ∷ []))

-- Places

abbrev place : ℕ → ℕ → Span
place l c = record { line = l; col = c }

same_place : (l m c d : ℕ) → l ≡ m → c ≡ d → place l c ≡ place m d
same_place l m c d e f = rw (e, f) refl

-- the bytes before the end of what stands at an offset
pub taken_behind : (bytes s rest : List ℕ) (offset n : ℕ) → drop offset bytes ≡ s ++ rest → n ≡ length s → take (offset + n) bytes ≡ take offset bytes ++ s
taken_behind bytes s rest offset n is len =
    let front : take n (drop offset bytes) ≡ s = ap (take n) is ∙ (ap (λ k. take k (s ++ rest)) len ∙ take-append_seam s rest) in
    take-add offset n bytes ∙ ap (λ l. take offset bytes ++ l) front

-- behind bytes none of which is a line end
pub along_place : (bytes s rest : List ℕ) (offset n : ℕ) (at : Span) → list_all is_inside s ≡ true → drop offset bytes ≡ s ++ rest → n ≡ length s → at ≡ place_of bytes offset → along n at ≡ place_of bytes (offset + n)
along_place bytes s rest offset n at all is len e =
    let before : List ℕ = take offset bytes in
    let taken : take (offset + n) bytes ≡ before ++ s = taken_behind bytes s rest offset n is len in
    ap (along n) e
    ∙ same_place (line_after before) (line_after (take (offset + n) bytes)) (column_after before + n) (column_after (take (offset + n) bytes))
    (sym (ap line_after taken ∙ line_inside before s all))
    (sym (ap column_after taken ∙ (column_inside before s all ∙ ap (λ k. column_after before + k) (sym len))))

-- behind a line end and an indentation
pub line_place : (bytes rest : List ℕ) (offset n k : ℕ) (at : Span) → drop offset bytes ≡ (10 ∷ replicate k 32) ++ rest → n ≡ length {A = ℕ} (10 ∷ replicate k 32) → at ≡ place_of bytes offset → place (suc at.line) (k + 1) ≡ place_of bytes (offset + n)
line_place bytes rest offset n k at is len e =
    let before : List ℕ = take offset bytes in
    let spaces : List ℕ = replicate k 32 in
    let inside : list_all is_inside spaces ≡ true = all_same is_inside k 32 refl in
    let taken : take (offset + n) bytes ≡ (before ++ 10 ∷ []) ++ spaces =
    taken_behind bytes (10 ∷ spaces) rest offset n is len ∙ sym (append_assoc before (10 ∷ []) spaces) in
    let line : line_after (take (offset + n) bytes) ≡ suc (line_after before) =
    ap line_after taken ∙ (line_inside (before ++ 10 ∷ []) spaces inside ∙ line_ended before) in
    let column : column_after (take (offset + n) bytes) ≡ column_after (before ++ 10 ∷ []) + length spaces =
    ap column_after taken ∙ column_inside (before ++ 10 ∷ []) spaces inside in
    same_place (suc at.line) (line_after (take (offset + n) bytes)) (k + 1) (column_after (take (offset + n) bytes))
    (ap (λ (p : Span). suc p.line) e ∙ sym line)
    (omega (arith, column, column_ended before, length-replicate {A = ℕ} k 32))
