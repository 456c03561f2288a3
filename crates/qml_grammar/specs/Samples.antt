-- Short texts as tokens, for worked cases: names, numbers, texts without escapes, marks, spaces. A document
-- is a list of lines.
use Rattle.std.specs.Prelude.{ℕ, zero, suc, ◌+◌, ◌*◌, ◌-◌, ◌==◌, ◌&&◌, ◌||◌, not, nat_le, Bool, true, false, List, [], ◌∷◌, ◌++◌, length, take, drop, fold, bytes_eq, find, take_while, Some, None, Result, Ok, Err}
use Rattle.qml_ast.specs.declared.fault.DocFault.{DocFault}
use Rattle.qml_ast.specs.declared.span.Span.{Span}
use Rattle.qml_grammar.specs.Inputs.{Input}
use Rattle.qml_grammar.specs.Lexemes.{Lexeme, integer, decimal, text, mark, Token, lexeme_of_name}
use Rattle.qml_grammar.specs.Marks.{mark_text, all_marks}

abbrev is_digit : ℕ → Bool
is_digit b = nat_le 48 b && nat_le b 57

abbrev is_letter : ℕ → Bool
is_letter b = nat_le 65 b && nat_le b 90 || nat_le 97 b && nat_le b 122 || b == 95

abbrev is_quote : ℕ → Bool
is_quote b = b == 34 || b == 39

abbrev decimal_value : List ℕ → ℕ
decimal_value digits = fold (λ n b. 10 * n + (b - 48)) 0 digits

-- a lexeme and how many bytes it has
pub record Piece : Type 0 where
  pub lexeme : Lexeme
  pub size : ℕ

-- the digits behind a dot with which bytes begin
abbrev fraction : List ℕ → List ℕ
fraction [] = []
fraction (b ∷ bs) = elim (b == 46) [ true ↦ take_while is_digit bs | false ↦ [] ]

-- a decimal where a dot and a digit follow, else an integer
unfoldable pub number_piece : List ℕ → List ℕ → Piece
number_piece digits [] = record { lexeme = integer (decimal_value digits); size = length digits }
number_piece digits (b ∷ part) = record { lexeme = decimal (decimal_value digits) (decimal_value (b ∷ part)); size = length digits + 1 + length (b ∷ part) }

unfoldable pub name_piece : List ℕ → Piece
name_piece name = record { lexeme = lexeme_of_name name; size = length name }

unfoldable pub text_piece : List ℕ → Piece
text_piece value = record { lexeme = text value; size = length value + 2 }

unfoldable pub mark_piece : List ℕ → Piece
mark_piece bytes = elim (find (λ m. bytes_eq (mark_text m) (take (length (mark_text m)) bytes)) all_marks) [ Some m ↦ record { lexeme = mark m; size = length (mark_text m) } | None ↦ record { lexeme = text bytes; size = length bytes } ]

-- what bytes begin with, the first of which is given
unfoldable pub piece : ℕ → List ℕ → Piece
piece b bytes = elim (is_letter b) [
  | true ↦ name_piece (take_while (λ c. is_letter c || is_digit c) bytes)
  | false ↦ elim (is_digit b) [
    | true ↦ (let digits = take_while is_digit bytes in number_piece digits (fraction (drop (length digits) bytes)))
    | false ↦ elim (is_quote b) [
      | true ↦ text_piece (take_while (λ c. not (c == b)) (drop 1 bytes))
      | false ↦ mark_piece bytes
    ]
  ]
]

-- the tokens of a line's bytes from a column on, at most so many
unfoldable pub tokens_from : ℕ → ℕ → ℕ → List ℕ → List Token
tokens_from zero line column bytes = []
tokens_from (suc n) line column [] = []
tokens_from (suc n) line column (b ∷ bs) = elim (b == 32) [
  | true ↦ tokens_from n line (suc column) bs
  | false ↦ (let p : Piece = piece b (b ∷ bs) in record { lexeme = p.lexeme; span = record { line = line; col = column } } ∷ tokens_from n line (column + p.size) (drop p.size (b ∷ bs)))
]

-- the tokens of lines from a line on
unfoldable pub lines_from : ℕ → List (List ℕ) → List Token
lines_from line [] = []
lines_from line (bytes ∷ rest) = tokens_from (length bytes) line 1 bytes ++ lines_from (suc line) rest

-- the place behind the last line
abbrev end_from : ℕ → List (List ℕ) → Span
end_from line [] = record { line = line; col = 1 }
end_from line (bytes ∷ []) = record { line = line; col = suc (length bytes) }
end_from line (bytes ∷ next ∷ rest) = end_from (suc line) (next ∷ rest)

-- the input of a text of lines
unfoldable pub lines : List (List ℕ) → Input
lines texts = record { rest = lines_from 1 texts; end = end_from 1 texts; nodes = 0 }

-- the value that a reading gives, or its fault
abbrev pub outcome : {A : Type 0} → Result (A × Input) DocFault → Result A DocFault
outcome (Ok r) = Ok r.0
outcome (Err e) = Err e
