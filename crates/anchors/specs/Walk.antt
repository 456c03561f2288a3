-- In which order the anchors of an axis are asked, up to where its row is known.
use Rattle.std.specs.Prelude.{ℕ, zero, suc, ℤ, Option, Some, None}
use Rattle.anchors.specs.declared.axis.Target.{Target}
use Rattle.anchors.specs.declared.axis.AxisRecord.{AxisRecord}
use Rattle.anchors.specs.declared.row.Row.{Row}
use Rattle.anchors.specs.declared.row.Row.TheVariants as rows
use Rattle.anchors.specs.declared.walk.Asked.{Asked}
use Rattle.anchors.specs.declared.walk.Asked.TheVariants as asked
use Rattle.anchors.specs.declared.walk.Answer.{Answer}
use Rattle.anchors.specs.declared.walk.Answer.TheVariants.{NotAsked, Without, With}
use Rattle.anchors.specs.declared.walk.Found.{Found}
use Rattle.anchors.specs.declared.walk.Step.{Step}
use Rattle.anchors.specs.declared.walk.Step.TheVariants as step

-- the answer of an anchor that is there, or is not
abbrev pub answer_with : {T : Type 0} → Option T → Answer T
answer_with None = Without
answer_with (Some target) = With target

module _ {T L : Type 0} where
  -- no anchor was asked
  abbrev pub nothing : Found T L
  nothing = record { fill = NotAsked; center_in = NotAsked; near = NotAsked; far = NotAsked; center = NotAsked }

  -- the near line comes first, then the far one; the centre is asked where they don't both stand
  abbrev pub next_of_lines : Answer L → Answer L → Answer T → Step T L
  next_of_lines NotAsked far center = step.Ask asked.Near
  next_of_lines (With near) NotAsked center = step.Ask asked.Far
  next_of_lines Without NotAsked center = step.Ask asked.Far
  next_of_lines (With near) (With far) center = step.Row (rows.NearAndFar near far)
  next_of_lines (With near) Without NotAsked = step.Ask asked.Center
  next_of_lines Without (With far) NotAsked = step.Ask asked.Center
  next_of_lines Without Without NotAsked = step.Ask asked.Center
  next_of_lines (With near) Without (With center) = step.Row (rows.NearAndCenter near center)
  next_of_lines Without (With far) (With center) = step.Row (rows.FarAndCenter far center)
  next_of_lines (With near) Without Without = step.Row (rows.Near near)
  next_of_lines Without (With far) Without = step.Row (rows.Far far)
  next_of_lines Without Without (With center) = step.Row (rows.Center center)
  next_of_lines Without Without Without = step.Row rows.Free

  -- centerIn is asked where the axis does not fill, and the lines where it isn't centred
  abbrev pub next_unfilled : Answer T → Found T L → Step T L
  next_unfilled NotAsked found = step.Ask asked.CenterIn
  next_unfilled (With target) found = step.Row (rows.Center target)
  next_unfilled Without found = next_of_lines found.near found.far found.center

  -- fill is asked first
  abbrev pub next_by_fill : Answer T → Found T L → Step T L
  next_by_fill NotAsked found = step.Ask asked.Fill
  next_by_fill (With target) found = step.Row (rows.Fill target)
  next_by_fill Without found = next_unfilled found.center_in found

  -- the anchor that is asked next, or the row that is decided
  abbrev pub next_of : Found T L → Step T L
  next_of found = next_by_fill found.fill found

-- all that a record has
abbrev pub whole : AxisRecord → Found Target ℤ
whole axis = record {
  fill = answer_with axis.fill;
  center_in = answer_with axis.center_in;
  near = answer_with axis.near;
  far = answer_with axis.far;
  center = answer_with axis.center;
}

-- what is known once the record was asked for an anchor
abbrev pub told : AxisRecord → Asked → Found Target ℤ → Found Target ℤ
told axis asked.Fill found = record found { fill = answer_with axis.fill }
told axis asked.CenterIn found = record found { center_in = answer_with axis.center_in }
told axis asked.Near found = record found { near = answer_with axis.near }
told axis asked.Far found = record found { far = answer_with axis.far }
told axis asked.Center found = record found { center = answer_with axis.center }

-- what is known a step later: the anchor that is asked next is told, if the row isn't known
abbrev pub after : AxisRecord → Found Target ℤ → Step Target ℤ → Found Target ℤ
after axis found (step.Ask anchor) = told axis anchor found
after axis found (step.Row row) = found

-- what is known after so many steps
abbrev pub walked : AxisRecord → ℕ → Found Target ℤ
walked axis zero = nothing
walked axis (suc steps) = after axis (walked axis steps) (next_of (walked axis steps))
