use Rattle.std.proofs.Common.{◌≡◌, map, drop, fold}
use Rattle.std.specs.Prelude.{string_bytes}
use Rattle.qml_ast.specs.TextForm.{text_of}
use Rattle.signals.specs.Values.{with_text}
use Rattle.signals.proofs.texts.add_texts.Given as goal

-- with those that are left, all are added
abbrev pub invariant-loop-value : goal.invariant-loop-value
invariant-loop-value l = fold with_text (string_bytes l.joined) (map text_of (drop l.value-index l.values)) ≡ fold with_text (string_bytes l.fn.joined) (map text_of l.values)
