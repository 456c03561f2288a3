-- What an arena ends as, once a reference to one of its values has ended.
use Rattle.std.specs.Prelude.{ℕ, Option}
use Rattle.std.specs.Borrow.{Lends, LendsIf, Fml, RattleType, MutBor}
use Rattle.arena.specs.Arena.{Arena, with_thing}
use Rattle.arena.specs.contracts.arena.Arena.{the_row}

-- the value under the serial is the last one written through the reference, and where there is none the arena is as before
abbrev pub lends_thing : (T : RattleType) → MutBor (Arena T.Denot) → ℕ → Option (MutBor T.Denot) → Fml
lends_thing T a serial r = LendsIf (the_row T) T a r (with_thing serial a.now) a.now

-- the same where there is one
abbrev pub lends_present : (T : RattleType) → MutBor (Arena T.Denot) → ℕ → MutBor T.Denot → Fml
lends_present T a serial r = Lends (the_row T) T a r (with_thing serial a.now)
