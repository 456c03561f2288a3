-- Laws of appending to the bytes of a sink that may tell them.
use Rattle.std.proofs.Common.{◌≡◌, ℕ, zero, suc, ◌+◌, List, [], ◌∷◌, ◌++◌, length, take, Option, None, Some, refl, sym, ap, ◌∙◌, subst, append-nil}
use Rattle.std.proofs.Math.Seq.{take-nil, take-append_seam, take-append-add}
use Rattle.std.specs.Io.KnownBytes.{Appends, Keeps}
use Rattle.std.proofs.KnownBytes as known
use Rattle.outside.specs.Bytes.{AppendsPart}

-- bytes that stay have gained nothing
pub Appends-kept : (old new : Option (List ℕ)) → Keeps old new → Appends old new []
Appends-kept None new p = tt
Appends-kept (Some xs) None p = absurd p
Appends-kept (Some xs) (Some ys) p = p ∙ sym (append-nil xs)

-- two pieces, one after the other, are one
pub Appends-append : (old mid new : Option (List ℕ)) (first second : List ℕ) → Appends old mid first → Appends mid new second → Appends old new (first ++ second)
Appends-append old mid new first second p q = known.Appends-trans old mid new first second p q

-- a piece, and then what leaves the bytes as they are
pub Appends-then_kept : (old mid new : Option (List ℕ)) (piece : List ℕ) → Appends old mid piece → Keeps mid new → Appends old new piece
Appends-then_kept old mid new piece p q = known.Appends-kept old mid new piece p q

-- what leaves the bytes as they are, and then a piece
pub kept-then_Appends : (old mid new : Option (List ℕ)) (piece : List ℕ) → Keeps old mid → Appends mid new piece → Appends old new piece
kept-then_Appends old mid new piece p q = Appends-append old mid new [] piece (Appends-kept old mid p) q

-- bytes that stay have gained a part of any piece
pub AppendsPart-kept : (old new : Option (List ℕ)) (piece : List ℕ) → Keeps old new → AppendsPart old new piece
AppendsPart-kept old new piece p = (0, Appends-kept old new p)

-- the beginning of a piece is a part of it
pub AppendsPart-front : (old new : Option (List ℕ)) (first second : List ℕ) → Appends old new first → AppendsPart old new (first ++ second)
AppendsPart-front old new first second p =
    (length first, subst (Appends old new) (sym (take-append_seam first second)) p)

-- a whole piece is a part of it
pub AppendsPart-whole : (old new : Option (List ℕ)) (piece : List ℕ) → Appends old new piece → AppendsPart old new piece
AppendsPart-whole old new piece p = subst (AppendsPart old new) (append-nil piece) (AppendsPart-front old new piece [] p)

-- the first elements of the front of a list begin the list
take_of_front : (xs ys : List ℕ) (n : ℕ) → (k : ℕ) × (take n xs ≡ take k (xs ++ ys))
take_of_front [] ys n = (0, take-nil n)
take_of_front (x ∷ xs) ys zero = (0, refl)
take_of_front (x ∷ xs) ys (suc n) =
    let rest = take_of_front xs ys n in (suc rest.0, ap (λ l. x ∷ l) rest.1)

-- a part of the beginning of a piece is a part of the piece
pub AppendsPart-more : (old new : Option (List ℕ)) (first second : List ℕ) → AppendsPart old new first → AppendsPart old new (first ++ second)
AppendsPart-more old new first second p =
    let front = take_of_front first second p.0 in (front.0, subst (Appends old new) front.1 p.1)

-- a piece, and then a part of a second one, are a part of both
pub Appends-then_part : (old mid new : Option (List ℕ)) (first second : List ℕ) → Appends old mid first → AppendsPart mid new second → AppendsPart old new (first ++ second)
Appends-then_part old mid new first second p q =
    (length first + q.0, subst (Appends old new) (sym (take-append-add first second q.0)) (Appends-append old mid new first (take q.0 second) p q.1))

-- a part, and then what leaves the bytes as they are
pub AppendsPart-then_kept : (old mid new : Option (List ℕ)) (piece : List ℕ) → AppendsPart old mid piece → Keeps mid new → AppendsPart old new piece
AppendsPart-then_kept old mid new piece p q = (p.0, Appends-then_kept old mid new (take p.0 piece) p.1 q)

-- what leaves the bytes as they are, and then a part
pub kept-then_part : (old mid new : Option (List ℕ)) (piece : List ℕ) → Keeps old mid → AppendsPart mid new piece → AppendsPart old new piece
kept-then_part old mid new piece p q = (q.0, kept-then_Appends old mid new (take q.0 piece) p q.1)
