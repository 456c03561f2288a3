-- What holds of every text and its tokens.
use Rattle.std.specs.Prelude.{◌≡◌, ◌≢◌, ℕ, ◌<◌, ◌≤◌, ◌⊎◌, nat_eq, IsTrue, List, [], ◌∷◌, length}
use Rattle.std.specs.List.{starts_with, AllByRecursion}
use Rattle.qml_lex.specs.Marks.{marks}
use Rattle.qml_lex.specs.Places.{place_of}
use Rattle.qml_lex.specs.Reading.{IsReadAs, IsRefused}
use Rattle.qml_lex.specs.declared.token.Token.{Token}
use Rattle.qml_ast.specs.declared.span.Span.{Span}
use Rattle.qml_ast.specs.declared.fault.DocFault.{DocFault}
use Rattle.qml_ast.specs.declared.fault.DocFault.TheVariants.{NoMemory}

-- a text has at most one list of tokens, at most one fault but want of memory, and never both
pub record HasOneReading (bytes : List ℕ) : Type 0 where
  pub one_list : (a b : List Token) → IsReadAs bytes a → IsReadAs bytes b → a ≡ b
  pub one_fault : (a b : DocFault) → IsRefused bytes a → IsRefused bytes b → a ≢ NoMemory → b ≢ NoMemory → a ≡ b
  pub never_both : (a : List Token) (b : DocFault) → IsReadAs bytes a → IsRefused bytes b → b ≡ NoMemory

-- a text begins with this mark, and with no longer one
pub record IsLongestMark (text mark : List ℕ) : Type 0 where
  pub begins : IsTrue (starts_with nat_eq text mark)
  pub longest : AllByRecursion (λ other. IsTrue (starts_with nat_eq text other) → length other ≤ length mark) marks

-- a token that stands in a text from an offset on: it has bytes there, and its place is the first one's
pub record StandsIn (bytes : List ℕ) (offset : ℕ) (token : Token) : Type 0 where
  pub behind : offset ≤ token.start
  pub some : token.start < token.end
  pub within : token.end ≤ length bytes
  pub placed : token.span ≡ place_of bytes token.start

-- each token stands in the text behind the one before it
abbrev pub StandInOrder : List ℕ → ℕ → List Token → Type 0
StandInOrder bytes offset [] = Unit {0}
StandInOrder bytes offset (token ∷ tokens) = StandsIn bytes offset token × StandInOrder bytes token.end tokens

-- one place comes before another
abbrev pub IsBefore : Span → Span → Type 0
IsBefore a b = (a.line < b.line) ⊎ ((a.line ≡ b.line) × (a.col < b.col))

-- each token's place comes before those of all the later ones
abbrev pub PlacesRise : List Token → Type 0
PlacesRise [] = Unit {0}
PlacesRise (token ∷ tokens) = AllByRecursion (λ later. IsBefore token.span later.span) tokens × PlacesRise tokens
