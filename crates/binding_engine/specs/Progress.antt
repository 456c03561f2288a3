-- How far evaluations came that stopped at a place without a value. No public clause cites this module.
use Rattle.std.specs.Prelude.{◌≡◌, true, Option, None, Some, is_some, List, [], ◌∷◌, ◌++◌}
use Rattle.std.specs.Coded.{Unit-prop, ×_prop}
use Rattle.qml_ast.specs.declared.place.Place.{Place}
use Rattle.qml_ast.specs.declared.value.Value.{Value}
use Rattle.expr_eval.specs.Shapes.{meanings}
use Rattle.expr_eval.specs.Traces.{are_same}
use Rattle.settling.specs.Cells.{clean, value_of}
use Rattle.item_equations.specs.Asking.{sight}
use Rattle.item_equations.specs.Progress.{IsMet, IsMet-prop, nothing_met}
use Rattle.item_equations.specs.declared.native.Native.{Native}
use Rattle.item_equations.specs.declared.progress.Progress.{Progress}
use Rattle.binding_engine.specs.Entries.{State, at}
use Rattle.binding_engine.specs.Equations.{shape_of, family_of, native_at}
use Rattle.binding_engine.specs.declared.waiting.Waiting.{Waiting}

-- the values that the equations of items see in a state
abbrev pub seeing : State → Place → Option Value
seeing s = sight (λ p. is_some (clean (at s p))) (meanings (shape_of s.0) (λ p. value_of (at s p)))

-- The state gives what was found of the equation of the place, if it has one.
abbrev pub IsMetBy : State → Place → Progress → Option Native → Type 0
IsMetBy s place far None = Unit {0}
IsMetBy s place far (Some native) = IsMet (seeing s) (family_of s.0) native place.serial far

abbrev pub IsMetAt : State → Place → Progress → Type 0
IsMetAt s place far = IsMetBy s place far (native_at s.0 place)

-- the same for each of these evaluations
abbrev pub AreMet : State → List Waiting → Type 0
AreMet s [] = Unit {0}
AreMet s (w ∷ ws) = IsMetAt s w.place w.progress × AreMet s ws

met_by-prop : (s : State) (place : Place) (far : Progress) (n : Option Native) → IsProp (IsMetBy s place far n)
met_by-prop s place far None = Unit-prop
met_by-prop s place far (Some native) = IsMet-prop (seeing s) (family_of s.0) native place.serial far

pub AreMet-prop : (s : State) (ws : List Waiting) → IsProp (AreMet s ws)
AreMet-prop s [] = Unit-prop
AreMet-prop s (w ∷ ws) = ×_prop (met_by-prop s w.place w.progress (native_at s.0 w.place)) (AreMet-prop s ws)

-- What is taken from the end of these evaluations for a place: how far it had come where it stands last, and else nothing.
pub data Takes (place : Place) (ws rest : List Waiting) (far : Progress) : Type 0 where
  last : (w : Waiting) → are_same place w.place ≡ true → ws ≡ rest ++ w ∷ [] → far ≡ w.progress → Takes place ws rest far
  none : rest ≡ ws → far ≡ nothing_met → Takes place ws rest far
