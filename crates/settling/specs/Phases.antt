-- Phases, and how the calls of a field change a place's cell.
use Rattle.std.specs.Prelude.{◌≡◌}
use Rattle.settling.specs.Cells.{Cell, plain, resting, fresh, under_way, stopped, active, marked, suspended}
use Rattle.settling.specs.Spaces.{Space}
use Rattle.settling.specs.declared.field.Phase.{Phase}
use Rattle.settling.specs.declared.field.Phase.TheVariants.{Fresh, UnderWay, Stopped, Done}

module _ {V F : Type 0} where
  abbrev pub phase_of : Cell V F → Phase
  phase_of (plain k) = Done
  phase_of (resting k) = Done
  phase_of (fresh k) = Fresh
  phase_of (under_way k) = UnderWay
  phase_of (stopped k) = Stopped
  phase_of (active v) = Done
  phase_of (marked v f) = Done
  phase_of (suspended k) = Done

  -- the cell of a place once its evaluation is under way, once it is stopped, and once it is given up
  abbrev pub begun : Cell V F → Cell V F
  begun (fresh k) = under_way k
  begun c = c

  abbrev pub halted : Cell V F → Cell V F
  halted (under_way k) = stopped k
  halted c = c

  abbrev pub left : Cell V F → Cell V F
  left (stopped k) = suspended k
  left c = c

-- the place has another cell from now on
abbrev pub Moves : {S P V F : Type 0} → Space S P V F → (Cell V F → Cell V F) → S → P → S → Type 0
Moves space change s p t = t ≡ space.put s p (change (space.at s p))
