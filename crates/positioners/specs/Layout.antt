-- Where children stand that are laid out one after the other, by their lengths along the axis.
use Rattle.std.specs.Prelude.{ℕ, ◌-◌, ℤ, pos, ◌+ℤ◌, ◌-ℤ◌, Bool, if◌then◌else◌, List, [], ◌∷◌, length, map, fold, take, slice_index_or}
use Rattle.std.specs.List.{range_with_len}
use Rattle.std.specs.Int.{w32, int_max, saturate_signed}

-- the nearest number in the range of an i32
abbrev pub capped : ℤ → ℤ
capped sum = saturate_signed w32 sum

-- how far children of these lengths reach, with the spacing after each
abbrev pub span_of : ℤ → List ℤ → ℤ
span_of spacing lengths = fold (λ far one. far +ℤ (one +ℤ spacing)) (pos 0) lengths

-- the length of a child
abbrev pub length_at : List ℤ → ℕ → ℤ
length_at lengths child = slice_index_or lengths child (pos 0)

-- where a child begins: at 0, or after the child before it and the spacing
abbrev pub offset_at : ℤ → List ℤ → ℕ → ℤ
offset_at spacing lengths child = span_of spacing (take child lengths)

-- where a child ends
abbrev pub end_at : ℤ → List ℤ → ℕ → ℤ
end_at spacing lengths child = offset_at spacing lengths child +ℤ length_at lengths child

-- where the last child ends, or 0 where there is none
abbrev pub extent_of : ℤ → List ℤ → ℤ
extent_of spacing lengths = end_at spacing lengths (length lengths - 1)

-- a child's offset if the first child stands at the other end
abbrev pub reversed_offset_at : ℤ → List ℤ → ℕ → ℤ
reversed_offset_at spacing lengths child =
    extent_of spacing lengths -ℤ offset_at spacing lengths child -ℤ length_at lengths child

-- a child's offset, before it is capped
abbrev pub directed_offset_at : Bool → ℤ → List ℤ → ℕ → ℤ
directed_offset_at reversed spacing lengths child =
    if reversed then reversed_offset_at spacing lengths child else offset_at spacing lengths child

-- the offsets of all children, in order
abbrev pub offsets_of : Bool → ℤ → List ℤ → List ℤ
offsets_of reversed spacing lengths =
    map (λ child. capped (directed_offset_at reversed spacing lengths child)) (range_with_len 0 (length lengths))

-- the size along the axis that the children make
abbrev pub implicit_length : ℤ → List ℤ → ℤ
implicit_length spacing lengths = capped (extent_of spacing lengths)

-- the greatest of the lengths, or 0 where there is none
abbrev pub greatest_of : List ℤ → ℤ
greatest_of [] = pos 0
greatest_of (first ∷ rest) = fold int_max first rest
