-- Spans of one axis.
use Rattle.std.specs.Prelude.{◌^◌, ℤ, pos, neg_ℤ, ◌+ℤ◌, ◌-ℤ◌, int_le, int_lt, Bool, ◌&&◌, if◌then◌else◌, Result, Ok, Err}
use Rattle.std.specs.Int.{int_min, int_max}
use Rattle.item_geometry.specs.declared.span.Span1.{Span1}
use Rattle.item_geometry.specs.declared.span.Overflow.{Overflow}

-- where a span ends
abbrev pub end_of : Span1 → ℤ
end_of span = span.at +ℤ span.len

-- the number is an i32
abbrev pub is_in_range : ℤ → Bool
is_in_range value = int_le (neg_ℤ (pos (2 ^ 31))) value && int_lt value (pos (2 ^ 31))

-- the span from one place to another, or an overflow where its length leaves the range
abbrev pub span_between : ℤ → ℤ → Result Span1 Overflow
span_between begin end = if is_in_range (end -ℤ begin) then Ok (record { at = begin; len = end -ℤ begin }) else Err (record {})

-- the span from where the first of two begins to where the last of them ends
abbrev pub union_of : Span1 → Span1 → Result Span1 Overflow
union_of a b = span_between (int_min a.at b.at) (int_max (end_of a) (end_of b))
