use Rattle.std.proofs.Common.{◌≡◌, ◌++◌, take}
use Rattle.std.specs.Prelude.{flat_map}
use Rattle.qml_grammar.specs.Canonical.{import_text}
use Rattle.qml_print.proofs.document.write_imports.Given as goal

abbrev pub invariant-loop-import : goal.invariant-loop-import
invariant-loop-import l = l.out ≡ l.fn.out ++ flat_map import_text (take l.import-index l.imports)
