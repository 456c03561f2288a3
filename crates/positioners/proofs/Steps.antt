-- One more child of a list of children.
use Rattle.std.proofs.Common.{◌≡◌, ℕ, ◌+◌, ◌-◌, ◌<◌, ℤ, pos, ◌+ℤ◌, ◌-ℤ◌, Bool, if◌then◌else◌, List, [], ◌∷◌, ◌++◌, length, map, fold, take, get_or, ap, ◌∙◌, arith}
use Rattle.std.proofs.lemmas.List.{get_or-map, length-map, length-append, map-append}
use Rattle.std.proofs.Math.Seq.{take-append_seam, get_or-append_seam}
use Rattle.std.proofs.lemmas.List.Sums.{fold_more}
use Rattle.positioners.specs.Layout.{span_of, extent_of, offset_at, length_at, directed_offset_at}

-- a fold over what a measure gives of one more child
pub fold-map_more : {X : Type 0} (f : ℤ → ℤ → ℤ) (start : ℤ) (measure : X → ℤ) (sizes : List X) (child : ℕ) (size : X) → child < length sizes
    → fold f start (take (child + 1) (map measure sizes)) ≡ f (fold f start (take child (map measure sizes))) (measure (get_or sizes child size))
fold-map_more f start measure sizes child size within =
    let bound : child < length (map measure sizes) = simp length-map within in
    fold_more f start (map measure sizes) child (pos 0) bound
    ∙ ap (λ (one : ℤ). f (fold f start (take child (map measure sizes))) one) (get_or-map measure sizes child size (pos 0) within)

-- the reach after one more child
pub span_of-take_more : {X : Type 0} (spacing : ℤ) (measure : X → ℤ) (sizes : List X) (child : ℕ) (size : X) → child < length sizes
    → span_of spacing (take (child + 1) (map measure sizes)) ≡ span_of spacing (take child (map measure sizes)) +ℤ (measure (get_or sizes child size) +ℤ spacing)
span_of-take_more spacing measure sizes child size within =
    fold-map_more (λ far one. far +ℤ (one +ℤ spacing)) (pos 0) measure sizes child size within

-- where the last of the children ends
pub extent_of-last : {X : Type 0} (spacing : ℤ) (measure : X → ℤ) (before : List X) (last : X)
    → extent_of spacing (map measure (before ++ last ∷ [])) ≡ span_of spacing (map measure before) +ℤ measure last
extent_of-last spacing measure before last =
    let lengths : List ℤ = map measure before in
    let all : List ℤ = lengths ++ measure last ∷ [] in
    let count : length all - 1 ≡ length lengths = omega (arith, length-append lengths (measure last ∷ [])) in
    let front : take (length lengths) all ≡ lengths = take-append_seam lengths (measure last ∷ []) in
    let end : get_or all (length lengths) (pos 0) ≡ measure last = get_or-append_seam lengths (measure last) [] (pos 0) in
    rw map-append (rw count (rw (front, end)))

-- a child's offset, from its parts
pub directed_offset_at_is : (reversed : Bool) (spacing : ℤ) (lengths : List ℤ) (child : ℕ) (offset one extent value : ℤ)
    → extent ≡ extent_of spacing lengths → offset ≡ offset_at spacing lengths child → one ≡ length_at lengths child
    → value ≡ (if reversed then extent -ℤ offset -ℤ one else offset) → value ≡ directed_offset_at reversed spacing lengths child
directed_offset_at_is reversed spacing lengths child offset one extent value extent_is offset_is one_is value_is = cc
