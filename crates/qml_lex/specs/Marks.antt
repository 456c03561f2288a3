-- The marks of the language.
use Rattle.std.specs.Prelude.{ℕ, nat_eq, List, [], ◌∷◌, ◌++◌, Option, codes, find}
use Rattle.std.specs.List.{starts_with}

-- the marks of three bytes
abbrev pub triple_marks : List (List ℕ)
triple_marks = codes "===" ∷ codes "!==" ∷ []

-- the marks of two bytes
abbrev pub double_marks : List (List ℕ)
double_marks =
    codes "==" ∷ codes "!=" ∷ codes "<=" ∷ codes ">="
    ∷ codes "+=" ∷ codes "-=" ∷ codes "*=" ∷ codes "/="
    ∷ codes "&&" ∷ codes "||" ∷ codes "++" ∷ codes "--" ∷ []

-- the marks of one byte
abbrev pub single_marks : List (List ℕ)
single_marks =
    codes "{" ∷ codes "}" ∷ codes "(" ∷ codes ")" ∷ codes "[" ∷ codes "]"
    ∷ codes ";" ∷ codes ":" ∷ codes "," ∷ codes "." ∷ codes "?"
    ∷ codes "+" ∷ codes "-" ∷ codes "*" ∷ codes "/" ∷ codes "%"
    ∷ codes "!" ∷ codes "<" ∷ codes ">" ∷ codes "=" ∷ []

-- all of them, the longer ones first
abbrev pub marks : List (List ℕ)
marks = triple_marks ++ (double_marks ++ single_marks)

-- the first of them with which a text begins
unfoldable pub mark_of : List ℕ → Option (List ℕ)
mark_of text = find (λ mark. starts_with nat_eq text mark) marks
