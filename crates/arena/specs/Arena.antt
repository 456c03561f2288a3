-- Values under serials.
use Rattle.std.specs.Prelude.{ℕ, ◌+◌, ◌≤◌, nat_le, Option, None, Some, List, [], ◌∷◌, ◌++◌, filter, refl}
use Rattle.std.specs.Coded.{Coded, code_by, coded×, coded_ℕ, coded_list}
use Rattle.std.specs.Map.{lookup, set_value, remove_entry}
use Rattle.std.specs.BTreeMap.{is_at}
use Rattle.std.specs.Ordering.{nat_cmp, is_lt}

-- the last serial that was given, or 0, and the values that are there, by rising serial
pub record Arena (T : Type 0) : Type 0 where
  pub last : ℕ
  pub things : List (ℕ × T)

-- an arena is stored as the pair of its fields
abbrev pub arena_code : {T : Type 0} → Coded T → Coded (Arena T)
arena_code {T} code =
    code_by
    (ℕ × List (ℕ × T))
    (coded× coded_ℕ (coded_list (coded× coded_ℕ code)))
    (λ a. (a.last, a.things))
    (λ p. record { last = p.0; things = p.1 })
    (λ _. refl)

-- each of these was given, where the last one that was given is this one
abbrev pub AreGiven : ℕ → List ℕ → Type 0
AreGiven last [] = Unit {0}
AreGiven last (serial ∷ serials) = (1 ≤ serial) × (serial ≤ last) × AreGiven last serials

module _ {T : Type 0} where
  -- the value under a serial
  abbrev pub thing_at : ℕ → Arena T → Option T
  thing_at serial a = lookup (is_at (nat_cmp serial)) a.things

  -- with another value under a serial that has one
  abbrev pub with_thing : ℕ → Arena T → T → Arena T
  with_thing serial a thing = record a { things = set_value (is_at (nat_cmp serial)) a.things thing }

  -- without the value under a serial
  abbrev pub without : ℕ → Arena T → Arena T
  without serial a = record a { things = remove_entry (is_at (nat_cmp serial)) a.things }

  -- with one value more, under the next serial
  abbrev pub with_next : Arena T → T → Arena T
  with_next a thing = record { last = a.last + 1; things = a.things ++ ((a.last + 1, thing) ∷ []) }

  -- without the values under serials after this one
  abbrev pub without_later : ℕ → Arena T → Arena T
  without_later last a = record a { things = filter (λ e. nat_le e.0 last) a.things }

  -- as if no serial had been given after this one
  abbrev pub up_to : ℕ → Arena T → Arena T
  up_to last a = record (without_later last a) { last = last }

  -- the first of these
  abbrev pub first_of : List (ℕ × T) → Option (ℕ × T)
  first_of [] = None
  first_of (e ∷ es) = Some e

  -- the value under the least serial above this one, with its serial
  abbrev pub next_above : ℕ → Arena T → Option (ℕ × T)
  next_above serial a = first_of (filter (λ e. is_lt (nat_cmp serial e.0)) a.things)
