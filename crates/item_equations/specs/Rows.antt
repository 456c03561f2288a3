-- Which row of the table of anchors an item has on an axis.
use Rattle.std.specs.Prelude.{ℕ, zero, suc, Option}
use Rattle.anchors.specs.Walk.{answer_with, nothing, next_of}
use Rattle.anchors.specs.declared.row.Row.{Row}
use Rattle.anchors.specs.declared.row.Row.TheVariants.{Free}
use Rattle.anchors.specs.declared.walk.Asked.{Asked}
use Rattle.anchors.specs.declared.walk.Asked.TheVariants as asked
use Rattle.anchors.specs.declared.walk.Found.{Found}
use Rattle.anchors.specs.declared.walk.Step.{Step}
use Rattle.anchors.specs.declared.walk.Step.TheVariants as step
use Rattle.item_equations.specs.Asking.{Asking, gives, asks, bind}
use Rattle.item_equations.specs.Family.{Family}
use Rattle.item_equations.specs.Slots.{shown_of, slot_asked}
use Rattle.item_equations.specs.Ties.{tie_of}
use Rattle.item_equations.specs.declared.axis.Axis.{Axis}
use Rattle.item_equations.specs.declared.ties.Tie.{Tie}

-- an anchor is read; a target that it may not have counts as none
unfoldable pub tie_at : Family → Axis → ℕ → Asked → Asking (Option Tie)
tie_at family axis item asked = asks (shown_of item (slot_asked axis asked)) (λ v. gives (tie_of family axis item v))

-- what is known of the anchors with one answer more
abbrev pub answered : Asked → Option Tie → Found Tie Tie → Found Tie Tie
answered asked.Fill tie found = record found { fill = answer_with tie }
answered asked.CenterIn tie found = record found { center_in = answer_with tie }
answered asked.Near tie found = record found { near = answer_with tie }
answered asked.Far tie found = record found { far = answer_with tie }
answered asked.Center tie found = record found { center = answer_with tie }

-- what is asked next, while so many may still be asked; a row is known after at most five
abbrev pub row_by : Family → Axis → ℕ → (Found Tie Tie → Asking (Row Tie Tie)) → Found Tie Tie → Step Tie Tie → Asking (Row Tie Tie)
row_by family axis item rest found (step.Row row) = gives row
row_by family axis item rest found (step.Ask asked) = bind (tie_at family axis item asked) (λ tie. rest (answered asked tie found))

unfoldable pub row_from : Family → Axis → ℕ → ℕ → Found Tie Tie → Asking (Row Tie Tie)
row_from family axis item zero found = gives Free
row_from family axis item (suc left) found = row_by family axis item (row_from family axis item left) found (next_of found)

unfoldable pub row : Family → Axis → ℕ → Asking (Row Tie Tie)
row family axis item = row_from family axis item 6 nothing
