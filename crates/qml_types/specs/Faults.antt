-- The order of faults, and the first of several.
use Rattle.std.specs.List.{Contains}
use Rattle.std.specs.Prelude.{◌≡◌, ℕ, false, Option, None, Some, List, fold, if◌then◌else◌}
use Rattle.std.specs.Ordering.{nat_cmp, ordering_then, is_lt}
use Rattle.std.specs.declared.cmp.Ordering.{Ordering}
use Rattle.qml_ast.specs.declared.fault.DocFault.{DocFault}
use Rattle.qml_ast.specs.declared.fault.DocFault.TheVariants.{NotUtf8, BadToken, Syntax, TooDeep, Unsupported, UnknownType, UnknownProperty, BadId, DuplicateId, DuplicateName, WrongLiteral, ReadOnly, NoMemory}
use Rattle.qml_ast.specs.declared.span.Span.{Span}

-- where a fault stands; the faults that have no line and column stand before the text
abbrev pub place : DocFault → Span
place (BadToken at) = at
place (Syntax at) = at
place (TooDeep at) = at
place (Unsupported at) = at
place (UnknownType at) = at
place (UnknownProperty at) = at
place (BadId at) = at
place (DuplicateId at) = at
place (DuplicateName at) = at
place (WrongLiteral at) = at
place (ReadOnly at) = at
place (NotUtf8 at) = record { line = 0; col = 0 }
place NoMemory = record { line = 0; col = 0 }

-- the rank of a fault among those of one place
abbrev pub rank : DocFault → ℕ
rank (NotUtf8 at) = 0
rank (BadToken at) = 1
rank (Syntax at) = 2
rank (TooDeep at) = 3
rank (Unsupported at) = 4
rank (UnknownType at) = 5
rank (UnknownProperty at) = 6
rank (BadId at) = 7
rank (DuplicateId at) = 8
rank (DuplicateName at) = 9
rank (WrongLiteral at) = 10
rank (ReadOnly at) = 11
rank NoMemory = 12

-- the order of faults: by line, by column, and at one place by rank
unfoldable pub fault_cmp : DocFault → DocFault → Ordering
fault_cmp f g =
    ordering_then (nat_cmp (place f).line (place g).line)
    (ordering_then (nat_cmp (place f).col (place g).col) (nat_cmp (rank f) (rank g)))

-- the earlier of a fault found so far, if there is one, and this fault
unfoldable pub earlier : Option DocFault → DocFault → Option DocFault
earlier None fault = Some fault
earlier (Some found) fault = if is_lt (fault_cmp fault found) then Some fault else Some found

-- the earliest of a fault found so far, if there is one, and these faults
abbrev pub told : Option DocFault → List DocFault → Option DocFault
told found faults = fold earlier found faults

-- a fault is one of these, and none of them stands before it
pub record IsFirstOf (faults : List DocFault) (fault : DocFault) : Type 0 where
  pub one : Contains faults fault
  pub none_before : (other : DocFault) → Contains faults other → is_lt (fault_cmp other fault) ≡ false
