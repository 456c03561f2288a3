-- What is shown and told of a unit, by its first document.
use Rattle.std.proofs.Common.{◌≡◌, ◌∙◌, ◌≤◌, pos, List, [], ◌∷◌, length, get_or, ap, arith}
use Rattle.std.specs.Prelude.{Some}
use Rattle.qml_types.specs.declared.component.ComponentType.{ComponentType}
use Rattle.stage_run.specs.Shown.{started_first}
use Rattle.stage_run.specs.Started.{started}

pub first_started : (all components : List ComponentType) (main : ComponentType) → components ≡ all → 1 ≤ length components → main ≡ get_or components 0 main →
    Some (started main (pos 640) (pos 480)) ≡ started_first all
first_started all components main same some is = of_first components some is ∙ ap started_first same
  where
    of_first : (cs : List ComponentType) → 1 ≤ length cs → main ≡ get_or cs 0 main → Some (started main (pos 640) (pos 480)) ≡ started_first cs
    of_first [] some is = absurd (omega (arith, some))
    of_first (c ∷ cs) some is = ap (λ m. Some (started m (pos 640) (pos 480))) is
