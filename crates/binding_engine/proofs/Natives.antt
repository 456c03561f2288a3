-- What comes of the equations of items.
use Rattle.std.proofs.Common.{◌≡◌, ℕ, refl, sym, ap, ◌∙◌}
use Rattle.std.specs.Prelude.{Option, None, Some, is_some, Result, Ok, Err, if◌then◌else◌}
use Rattle.qml_ast.specs.declared.eval_fault.EvalFault.{EvalFault}
use Rattle.qml_ast.specs.declared.eval_fault.EvalFault.TheVariants as fault
use Rattle.qml_ast.specs.declared.place.Place.{Place}
use Rattle.qml_ast.specs.declared.value.Value.{Value}
use Rattle.settling.specs.Cells.{Cell, plain, resting, fresh, under_way, stopped, active, marked, suspended, clean, value_of}
use Rattle.settling.specs.Evaluations.{Outcome, has_value, has_fault, has_need, wanted, walk}
use Rattle.item_equations.specs.Asking.{Asking, gives, overflows, asks, arrive, sight, as_tree}
use Rattle.item_equations.specs.Asking as asking
use Rattle.item_equations.specs.Native as items
use Rattle.item_equations.specs.declared.native.Native.{Native}
use Rattle.item_equations.specs.declared.stop.Stop.{Stop}
use Rattle.item_equations.specs.declared.stop.Stop.TheVariants as stop
use Rattle.object_tree.specs.Reading.{value_read}
use Rattle.binding_engine.specs.Entries.{State, at, space}
use Rattle.binding_engine.specs.Equations.{family_of, native_tree}
use Rattle.binding_engine.specs.Progress.{seeing}

abbrev pub outcome_by : Result Value Stop → Outcome Place Value EvalFault
outcome_by (Ok v) = has_value v
outcome_by (Err stop.Overflow) = has_fault fault.Overflow
outcome_by (Err (stop.Needs p)) = has_need p

module _ (s : State) where
  abbrev seen_of : Cell Value EvalFault → Option Value
  seen_of c = if is_some (clean c) then Some (value_read s.0 (value_of c)) else None

  by_cell : (c : Cell Value EvalFault) (q : Place) (go : Value → Outcome Place Value EvalFault) (along : Value → Result Value Stop) → ((v : Value) → go v ≡ outcome_by (along (value_read s.0 v))) →
      wanted (clean c) (has_need q) go ≡ outcome_by (arrive (seen_of c) q along)
  by_cell (plain k) q go along h = h k.value
  by_cell (resting k) q go along h = h k.value
  by_cell (fresh k) q go along h = refl
  by_cell (under_way k) q go along h = refl
  by_cell (stopped k) q go along h = h k.value
  by_cell (active v) q go along h = h v
  by_cell (marked v f) q go along h = h v
  by_cell (suspended k) q go along h = h k.value

  walk_asked : (m : Asking Value) → walk space (as_tree (value_read s.0) m) s ≡ outcome_by (asking.walk (seeing s) m)
  unfolding walk as_tree asking.walk sight
  walk_asked (gives v) = refl
  walk_asked overflows = refl
  walk_asked (asks q next) =
      by_cell (at s q) q (λ v. walk space (as_tree (value_read s.0) (next (value_read s.0 v))) s) (λ v. asking.walk (seeing s) (next v)) (λ v. walk_asked (next (value_read s.0 v)))

  module _ (native : Native) (item : ℕ) where
    comes : (r : Result Value Stop) → asking.walk (seeing s) (items.equation (family_of s.0) native item) ≡ r → outcome_by r ≡ walk space (native_tree s.0 native item) s
    unfolding native_tree
    comes r h = sym (walk_asked (items.equation (family_of s.0) native item) ∙ ap outcome_by h)

    pub comes_to_value : (v : Value) → asking.walk (seeing s) (items.equation (family_of s.0) native item) ≡ Ok v → has_value v ≡ walk space (native_tree s.0 native item) s
    comes_to_value v h = comes (Ok v) h

    pub comes_to_overflow : asking.walk (seeing s) (items.equation (family_of s.0) native item) ≡ Err stop.Overflow → has_fault fault.Overflow ≡ walk space (native_tree s.0 native item) s
    comes_to_overflow h = comes (Err stop.Overflow) h

    pub comes_to_need : (p : Place) → asking.walk (seeing s) (items.equation (family_of s.0) native item) ≡ Err (stop.Needs p) → has_need p ≡ walk space (native_tree s.0 native item) s
    comes_to_need p h = comes (Err (stop.Needs p)) h
