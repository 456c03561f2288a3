-- What a settle answers.
use Rattle.std.specs.Prelude.{◌≡◌, ℕ, nat_eq, Bool, false, if◌then◌else◌, Option, None, Some, List, [], ◌∷◌, ◌++◌, filter, fold, map}
use Rattle.qml_ast.specs.declared.eval_fault.EvalFault.{EvalFault}
use Rattle.qml_ast.specs.declared.eval_fault.EvalFault.TheVariants.{Overflow, ZeroDivisor, WrongKind, UnknownName, NullMember, TooMuch, TextTooLong, ReadOnly, NoMemory}
use Rattle.qml_ast.specs.declared.place.Place.{Place}
use Rattle.settling.specs.Cells.{mark_of, is_suspended}
use Rattle.settling.specs.Loops.{has_loop, AreOnce, AreChains}
use Rattle.object_tree.specs.Changes.{has_changed}
use Rattle.object_tree.specs.Places.{places_of}
use Rattle.object_tree.specs.Reading.{held_at}
use Rattle.object_tree.specs.Store.{Store}
use Rattle.binding_engine.specs.Equations.{tree_at, equated}
use Rattle.binding_engine.specs.Settling.{settled_from}
use Rattle.binding_engine.specs.Standing.{space, kept_in}

-- ---- faults
abbrev pub fault_number : EvalFault → ℕ
fault_number Overflow = 0
fault_number ZeroDivisor = 1
fault_number WrongKind = 2
fault_number UnknownName = 3
fault_number NullMember = 4
fault_number TooMuch = 5
fault_number TextTooLong = 6
fault_number ReadOnly = 7
fault_number NoMemory = 8

abbrev pub is_mark : Option EvalFault → EvalFault → Bool
is_mark None f = false
is_mark (Some mark) f = nat_eq (fault_number mark) (fault_number f)

-- a mark that is new or another one than before
abbrev pub new_mark : Option EvalFault → Option EvalFault → Option EvalFault
new_mark None before = None
new_mark (Some f) before = if is_mark before f then None else Some f

abbrev pub with_noted : List (Place × EvalFault) → Place → Option EvalFault → List (Place × EvalFault)
with_noted found place None = found
with_noted found place (Some f) = found ++ (place, f) ∷ []

-- the faults that were found, with that of one more place, where these are the marks now
abbrev pub with_fault : (Place → Option EvalFault) → Store → List (Place × EvalFault) → Place → List (Place × EvalFault)
with_fault marks store found place = with_noted found place (new_mark (marks place) (kept_in (held_at place store)).mark)

-- those of these places whose mark is new or another one than in the store, with it
abbrev pub faulted_in : (Place → Option EvalFault) → Store → List Place → List (Place × EvalFault)
faulted_in marks store places = fold (with_fault marks store) [] places

-- those of a store whose places get settled
unfoldable pub faulted_from : Store → List (Place × EvalFault)
faulted_from store = faulted_in (λ place. mark_of (settled_from store place)) store (equated store)

abbrev pub places_faulted : List (Place × EvalFault) → List Place
places_faulted faults = map (λ f. f.0) faults

-- ---- changes
-- the places that show another value than when the last settle ended
abbrev pub changed_in : Store → List Place
changed_in store = filter (λ place. has_changed place store) (places_of store)

-- ---- loops
-- These are the loops of a store whose places get settled: the chain of each is one of reads over the settled values, and they are
-- those of the places that were suspended, each once.
pub record AreLoops (store : Store) (loops : List (Place × List Place)) : Type 0 where
  pub chains : AreChains space (tree_at store) (settled_from store) loops
  pub suspended : (place : Place) → is_suspended (settled_from store place) ≡ has_loop space loops place
  pub once : AreOnce space loops
