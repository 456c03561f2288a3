use Rattle.std.proofs.Common.{◌≡◌}
use Rattle.std.specs.Prelude.{None, drop}
use Rattle.item_equations.specs.Asking.{sight, walk}
use Rattle.item_equations.specs.Children.{least_from}
use Rattle.item_equations.specs.Progress.{IsLeast}
use Rattle.item_equations.proofs.children.least_of.Given as goal

-- what is left of the objects goes on from what was found of those that were met
abbrev pub invariant-loop-index : goal.invariant-loop-index
invariant-loop-index g l =
    (walk (sight (g.R.Reader.clean l.reader) (g.R.Reader.means l.reader)) (least_from (g.R.ItemReader.family l.reader) l.axis l.item None l.objects)
    ≡ walk (sight (g.R.Reader.clean l.reader) (g.R.Reader.means l.reader)) (least_from (g.R.ItemReader.family l.reader) l.axis l.item l.far.least (drop l.index l.objects)))
    × (IsLeast (sight (g.R.Reader.clean l.reader) (g.R.Reader.means l.reader)) (g.R.ItemReader.family l.reader) l.axis l.item l.objects l.far × (l.far.met ≡ l.index))
