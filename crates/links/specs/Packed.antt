-- Numbers, cells and the ends of lists as they are stored: in 32 bits a number.
use Rattle.std.specs.Prelude.{ℕ, ◌<◌, ◌==◌, if◌then◌else◌, Option, Some, None, IfSome}
use Rattle.links.specs.declared.number.Number.{Number}
use Rattle.links.specs.declared.cell.Link.{Link}
use Rattle.links.specs.declared.cell.Cell.{Cell}
use Rattle.links.specs.declared.cell.Cell.TheVariants.{Loose, Linked}

-- what is stored in place of a number where there is none
abbrev pub no_number : ℕ
no_number = 4294967295

-- the number that is stored, if it is one
abbrev pub number_of : Number → Option ℕ
number_of stored = if stored.code == no_number then None else Some stored.code

-- a number, if there is one, is not the value for none
abbrev pub IsSmall : Option ℕ → Type 0
IsSmall number = IfSome number (λ n. n < no_number)

-- how a number, or none, is stored
abbrev pub stored : Option ℕ → Number
stored None = record { code = no_number }
stored (Some number) = record { code = number }

-- each number of a place in a list can be stored
abbrev pub IsSmallLink : Link → Type 0
IsSmallLink link = (link.list < no_number) × IsSmall link.previous × IsSmall link.next

abbrev pub IsSmallCell : Cell → Type 0
IsSmallCell Loose = Unit {0}
IsSmallCell (Linked link) = IsSmallLink link

-- the cell of these numbers: it is in no list where the first is none
abbrev pub cell_of : Option ℕ → Option ℕ → Option ℕ → Cell
cell_of None previous next = Loose
cell_of (Some list) previous next = Linked (record { list = list; previous = previous; next = next })
