use Rattle.std.proofs.Common.{◌≡◌, ◌++◌, codes, map, take}
use Rattle.qml_grammar.specs.Canonical.{all_lines, member_text}
use Rattle.qml_print.proofs.decl.+write_decl.Given as goal

-- the lines so far
abbrev pub invariant-write_members-loop-member : goal.invariant-write_members-loop-member
invariant-write_members-loop-member l =
    l.out ≡ l.fn.out ++ (codes "{\n" ++ all_lines l.inner (map member_text (take l.member-index l.members)))
