-- Marks are lexed to themselves where what follows does not go on with them.
use Rattle.std.proofs.Common.{◌≡◌, ℕ, Bool, true, false, ◌||◌, not, List, [], ◌∷◌, ◌++◌, length, get_or, refl}
use Rattle.std.specs.Prelude.{nat_eq}
use Rattle.qml_grammar.specs.Marks.{mark_text, mark_number, same_mark}
use Rattle.qml_grammar.specs.declared.mark.Mark.{Mark}
use Rattle.qml_grammar.specs.declared.mark.Mark.TheVariants.{OpenBrace, Bang, Plus, Minus, Equal, EqualEqual, Star, Slash, Less, Greater, BangEqual}
use Rattle.qml_lex.specs.Marks.{mark_of}
use Rattle.qml_lex.specs.Pieces.{piece_of, other_piece}
use Rattle.qml_lex.specs.declared.piece.Piece.TheVariants.{Lexeme as Found}
use Rattle.qml_lex.specs.declared.token.TokenKind.TheVariants.{Mark as Sign}
use Rattle.piece_laws.specs.Pieces.{are_apart}

-- a byte that goes on with the mark, to a longer one or to a comment
abbrev pub goes_on : Mark → ℕ → Bool
goes_on Bang byte = nat_eq 61 byte
goes_on Equal byte = nat_eq 61 byte
goes_on EqualEqual byte = nat_eq 61 byte
goes_on BangEqual byte = nat_eq 61 byte
goes_on Less byte = nat_eq 61 byte
goes_on Greater byte = nat_eq 61 byte
goes_on Star byte = nat_eq 61 byte
goes_on Plus byte = nat_eq 61 byte || nat_eq 43 byte
goes_on Minus byte = nat_eq 61 byte || nat_eq 45 byte
goes_on Slash byte = nat_eq 61 byte || (nat_eq 47 byte || nat_eq 42 byte)
goes_on _ byte = false

pub neither : (a b : Bool) → (a || b) ≡ false → (a ≡ false) × (b ≡ false)
neither true b h = cc
neither false b h = (refl, h)

pub mark_is_lexed : (m : Mark) (rest : List ℕ) → goes_on m (get_or rest 0 0) ≡ false → piece_of (mark_text m ++ rest) ≡ Found Sign (length (mark_text m))
unfolding piece_of other_piece mark_of mark_text
mark_is_lexed Bang [] h = refl
mark_is_lexed Bang (c ∷ rest) h = rw h refl
mark_is_lexed Equal [] h = refl
mark_is_lexed Equal (c ∷ rest) h = rw h refl
mark_is_lexed EqualEqual [] h = refl
mark_is_lexed EqualEqual (c ∷ rest) h = rw h refl
mark_is_lexed BangEqual [] h = refl
mark_is_lexed BangEqual (c ∷ rest) h = rw h refl
mark_is_lexed Less [] h = refl
mark_is_lexed Less (c ∷ rest) h = rw h refl
mark_is_lexed Greater [] h = refl
mark_is_lexed Greater (c ∷ rest) h = rw h refl
mark_is_lexed Star [] h = refl
mark_is_lexed Star (c ∷ rest) h = rw h refl
mark_is_lexed Plus [] h = refl
mark_is_lexed Plus (c ∷ rest) h = let no = neither (nat_eq 61 c) (nat_eq 43 c) h in rw (no.0, no.1) refl
mark_is_lexed Minus [] h = refl
mark_is_lexed Minus (c ∷ rest) h = let no = neither (nat_eq 61 c) (nat_eq 45 c) h in rw (no.0, no.1) refl
mark_is_lexed Slash [] h = refl
mark_is_lexed Slash (c ∷ rest) h =
    let no = neither (nat_eq 61 c) (nat_eq 47 c || nat_eq 42 c) h in
    let nor = neither (nat_eq 47 c) (nat_eq 42 c) no.1 in
    rw (no.0, nor.0, nor.1) refl
mark_is_lexed _ rest h = refl

or_true : (a : Bool) → (a || true) ≡ true
or_true true = refl
or_true false = refl

-- two marks that are apart: the second one's first byte does not go on with the first one
apart : (m n : Mark) → (not (are_apart m n) || not (goes_on m (get_or (mark_text n) 0 0))) ≡ true
unfolding same_mark mark_number mark_text
apart Bang OpenBrace = refl
apart Bang _ = refl
apart Plus OpenBrace = refl
apart Plus _ = refl
apart Minus OpenBrace = refl
apart Minus _ = refl
apart Equal OpenBrace = refl
apart Equal _ = refl
apart EqualEqual OpenBrace = refl
apart EqualEqual _ = refl
apart Star OpenBrace = refl
apart Star _ = refl
apart Slash OpenBrace = refl
apart Slash _ = refl
apart Less OpenBrace = refl
apart Less _ = refl
apart Greater OpenBrace = refl
apart Greater _ = refl
apart BangEqual OpenBrace = refl
apart BangEqual _ = refl
apart m n = or_true (not (are_apart m n))

pub apart_stops : (m n : Mark) → are_apart m n ≡ true → goes_on m (get_or (mark_text n) 0 0) ≡ false
apart_stops m n h = stops (are_apart m n) (goes_on m (get_or (mark_text n) 0 0)) h (apart m n)
  where
    stops : (a b : Bool) → a ≡ true → (not a || not b) ≡ true → b ≡ false
    stops true true h g = cc
    stops true false h g = refl
    stops false b h g = cc
