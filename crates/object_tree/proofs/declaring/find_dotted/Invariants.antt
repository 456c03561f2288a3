use Rattle.std.proofs.Common.{◌≡◌, take, None}
use Rattle.std.specs.Prelude.{position, bytes_eq}
use Rattle.type_table.specs.Slots.{slots}
use Rattle.qml_types.specs.Scope.{dotted}
use Rattle.object_tree.proofs.declaring.find_dotted.Given as goal

-- no slot before has that path
abbrev pub invariant-loop-slot : goal.invariant-loop-slot
invariant-loop-slot l = position (λ s. bytes_eq s.path (dotted l.first l.second)) (take l.slot (slots l.built_in)) ≡ None
