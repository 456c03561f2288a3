use Rattle.std.proofs.Common.{◌≡◌, ◌∙◌, true, false, [], ◌∷◌, sym, ap}
use Rattle.qml_types.specs.Scope.{begins_upper, signals_for}
use Rattle.qml_types.proofs.Texts.{signals_some, signals_plain, signals_none}
use Rattle.qml_types.proofs.handling.signals_for.Goals.{in_default-via-in-Some+else-begins_upper, in_default-via-in_default}
use Rattle.qml_types.proofs.handling.signals_for.Goals as goal

pub returns-in_ok-lower-in-Some : goal.returns-in_ok-lower-in-Some
returns-in_ok-lower-in-Some c =
    let cut = c.in-Some.ensures.cases in
    let upper : begins_upper c.in-Some.name.now ≡ true =
    ap begins_upper (sym c.as_bytes.ensures.value) ∙ sym c.begins_upper.ensures ∙ c.if-begins_upper.true in
    ap (λ u. c.in_ok-lower-in-Some.lower ∷ u ∷ []) c.in_ok-upper-in-Some.ensures
    ∙ signals_some c.as_str.result.now c.in-Some.name.now c.in_ok-lower-in-Some.lower cut.0 cut.1.0 cut.1.1 cut.2 upper c.in_ok-lower-in-Some.ensures
    ∙ ap signals_for c.as_str.ensures.value

pub returns-in_default : goal.returns-in_default
returns-in_default c =
    elim c.in_default.branch [
      | in_default-via-in-Some+else-begins_upper w ↦
          let cut = w.in-Some.ensures.cases in
          let plain : begins_upper w.in-Some.name.now ≡ false =
          ap begins_upper (sym w.as_bytes.ensures.value) ∙ sym w.begins_upper.ensures ∙ w.if-begins_upper.false in
          signals_plain c.as_str.result.now w.in-Some.name.now cut.0 cut.1.0 cut.2 plain ∙ ap signals_for c.as_str.ensures.value
      | in_default-via-in_default w ↦ signals_none c.as_str.result.now w.in_default.ensures.cases ∙ ap signals_for c.as_str.ensures.value
    ]
