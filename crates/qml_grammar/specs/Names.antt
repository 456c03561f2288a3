-- What the spelling of a name says, and names with dots between them.
use Rattle.std.specs.Prelude.{ℕ, ◌&&◌, nat_le, Bool, true, false, is_some, List, [], ◌∷◌, take, drop, Option, Some, None, codes, bytes_eq}
use Rattle.qml_ast.specs.declared.path.Path.{Path}
use Rattle.qml_grammar.specs.Lexemes.{Token, head, tail, name_of, is_mark}
use Rattle.qml_grammar.specs.declared.mark.Mark.TheVariants.{OpenBrace, Dot}

abbrev pub is_upper : ℕ → Bool
is_upper b = nat_le 65 b && nat_le b 90

abbrev pub is_lower : ℕ → Bool
is_lower b = nat_le 97 b && nat_le b 122

-- it begins with an upper-case letter, as a type's name does
abbrev pub upper_first : List ℕ → Bool
upper_first [] = false
upper_first (b ∷ bs) = is_upper b

-- it begins with a lower-case letter, as a group's name does
abbrev pub lower_first : List ℕ → Bool
lower_first [] = false
lower_first (b ∷ bs) = is_lower b

-- a handler's name: `on` and an upper-case letter
abbrev pub is_handler_name : List ℕ → Bool
is_handler_name n = bytes_eq (take 2 n) (codes "on") && upper_first (drop 2 n)

-- the path of a handler: its last name is a handler's
abbrev pub is_handler_path : Path → Bool
is_handler_path p = elim p.second [ Some n ↦ is_handler_name n | None ↦ is_handler_name p.first ]

-- a test on a token's name
abbrev pub name_is : (List ℕ → Bool) → Option Token → Bool
name_is test t = elim (name_of t) [ Some n ↦ test n | None ↦ false ]

-- the last of names with dots between them, and the token behind it
pub record LastName : Type 0 where
  pub name : List ℕ
  pub next : Option Token

-- behind a name, the longest that the tokens are
abbrev pub last_name : List ℕ → List Token → LastName
last_name n [] = record { name = n; next = None }
last_name n (o ∷ []) = record { name = n; next = Some o }
last_name n (o ∷ t ∷ ts) = elim (is_mark Dot (Some o)) [ true ↦ elim (name_of (Some t)) [ Some m ↦ last_name m ts | None ↦ record { name = n; next = Some o } ] | false ↦ record { name = n; next = Some o } ]

abbrev pub ends_type : (Option Token → Bool) → LastName → Bool
ends_type follows l = upper_first l.name && follows l.next

-- the tokens begin with the dotted name of a type, and then with what may follow it
abbrev pub is_dotted_type : (Option Token → Bool) → List Token → Bool
is_dotted_type follows [] = false
is_dotted_type follows (t ∷ ts) = elim (name_of (Some t)) [ Some n ↦ is_mark Dot (head ts) && upper_first n && ends_type follows (last_name n ts) | None ↦ false ]

-- the tokens begin with a dotted name whose first letter is upper case, as no kind is
abbrev pub is_dotted_kind : List Token → Bool
is_dotted_kind ts = name_is upper_first (head ts) && is_mark Dot (head (tail ts)) && is_some (name_of (head (tail (tail ts))))

-- the tokens begin with a type's name and "{"
abbrev pub begins_object : List Token → Bool
begins_object ts = name_is upper_first (head ts) && is_mark OpenBrace (head (tail ts))

-- the tokens begin with a group's name and "{"
abbrev pub begins_group : List Token → Bool
begins_group ts = name_is lower_first (head ts) && is_mark OpenBrace (head (tail ts))
