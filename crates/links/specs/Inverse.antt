-- How cells and the ends of lists are stored, and that what is stored gives them back.
use Rattle.std.specs.Prelude.{◌≡◌, ◌≢◌, ℕ, true, false, Option, Some, None, refl}
use Rattle.std.proofs.Common.{eqb, ap, sym, ◌∙◌, arith, ⊎_elim}
use Rattle.std.proofs.lemmas.Bool.{cases_eq}
use Rattle.std.proofs.lemmas.Bool.Decides.{nat_tests}
use Rattle.links.specs.declared.number.Number.{Number}
use Rattle.links.specs.declared.cell.Cell.{Cell}
use Rattle.links.specs.declared.cell.Cell.TheVariants.{Loose, Linked}
use Rattle.links.specs.declared.cell.Ends.{Ends}
use Rattle.links.specs.declared.packed.PackedCell.TheInside.{Inside}
use Rattle.links.specs.declared.packed.PackedEnds.TheInside.{Inside as InsideEnds}
use Rattle.links.specs.Packed.{no_number, number_of, stored, cell_of}

abbrev pub cell_stored : Cell → Inside
cell_stored Loose = record { list = stored None; previous = stored None; next = stored None }
cell_stored (Linked link) = record { list = stored (Some link.list); previous = stored link.previous; next = stored link.next }

abbrev pub ends_stored : Ends → InsideEnds
ends_stored ends = record { first = stored ends.first; last = stored ends.last }

stored_back : (n : Number) → stored (number_of n) ≡ n
stored_back n =
    ⊎_elim
    (λ (e : n.code ≡ no_number). let same : eqb n.code no_number ≡ true = grind (arith, nat_tests) in rw same (ap (λ (c : ℕ). record { code = c }) (sym e)))
    (λ (ne : n.code ≢ no_number). let differ : eqb n.code no_number ≡ false = grind (arith, nat_tests) in rw differ)
    (cases_eq n.code no_number)

-- a cell of these numbers
stored_cell : (list previous next : Option ℕ) → (list ≡ None → (previous ≡ None) × (next ≡ None))
    → cell_stored (cell_of list previous next) ≡ record { list = stored list; previous = stored previous; next = stored next }
stored_cell None previous next h =
    let none = h refl in
    ap (λ (p : Option ℕ). record { list = stored None; previous = stored p; next = stored None }) (sym none.0)
    ∙ ap (λ (n : Option ℕ). record { list = stored None; previous = stored previous; next = stored n }) (sym none.1)
stored_cell (Some list) previous next h = refl

pub cell_stored_back : (a : Inside) → (number_of a.list ≡ None → (number_of a.previous ≡ None) × (number_of a.next ≡ None)) → cell_stored (cell_of (number_of a.list) (number_of a.previous) (number_of a.next)) ≡ a
cell_stored_back a h =
    stored_cell (number_of a.list) (number_of a.previous) (number_of a.next) h
    ∙ ap (λ (l : Number). record { list = l; previous = stored (number_of a.previous); next = stored (number_of a.next) }) (stored_back a.list)
    ∙ ap (λ (p : Number). record { list = a.list; previous = p; next = stored (number_of a.next) }) (stored_back a.previous)
    ∙ ap (λ (n : Number). record { list = a.list; previous = a.previous; next = n }) (stored_back a.next)

pub ends_stored_back : (a : InsideEnds) → ends_stored (record { first = number_of a.first; last = number_of a.last }) ≡ a
ends_stored_back a =
    ap (λ (f : Number). record { first = f; last = stored (number_of a.last) }) (stored_back a.first)
    ∙ ap (λ (l : Number). record { first = a.first; last = l }) (stored_back a.last)
