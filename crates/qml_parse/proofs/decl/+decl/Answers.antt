use Rattle.std.proofs.Common.{◌≡◌, ◌≢◌, ◌-◌, [], ap, sym, ◌∙◌, arith, rules}
use Rattle.std.proofs.lemmas.Grind.{common_steps}
use Rattle.qml_ast.specs.declared.fault.DocFault.TheVariants.{NoMemory}
use Rattle.qml_grammar.specs.Documents.{under, members, one_member, entries, one_entry}
use Rattle.qml_grammar.specs.Inputs.{after, while_next}
use Rattle.qml_grammar.specs.Statements.{goes_on_inside}
use Rattle.qml_expr.specs.Seen.{input_of}
use Rattle.qml_expr.proofs.Steps.{turn_on, turn_fault, turn_stop, turn_end}
use Rattle.qml_parse.proofs.Turns.{start_turn, read_again, members_none, members_more, group_none, group_more}
use Rattle.qml_parse.proofs.decl.+decl.Goals as goal

pub inner_members-returns-then-levels-eq0 : goal.inner_members-returns-then-levels-eq0
inner_members-returns-then-levels-eq0 t c _ = rw c.too_deep.ensures (members_none c.args.levels (input_of c.args.cursor.now) (omega arith))

pub inner_members-returns : goal.inner_members-returns
inner_members-returns t c =
    let i = input_of c.args.cursor.now in
    let d = c.args.levels - 1 in
    let skipped : members d (under d) (input_of c.skip.new.self) ≡ members d (under d) (after i) = ap (members d (under d)) c.skip.ensures in
    read_again ((under c.args.levels).members i) (members d (under d) (input_of c.skip.new.self)) c.members.result (input_of c.members.new.cursor) (members_more c.args.levels d i (omega arith) ∙ sym skipped) c.members.ensures

pub inner_group-returns-then-levels-eq0 : goal.inner_group-returns-then-levels-eq0
inner_group-returns-then-levels-eq0 t c _ = rw c.too_deep.ensures (group_none c.args.levels c.args.name.now (input_of c.args.cursor.now) (omega arith))

pub inner_group-returns : goal.inner_group-returns
inner_group-returns t c =
    let i = input_of c.args.cursor.now in
    let d = c.args.levels - 1 in
    let skipped : entries d (under d) c.args.name.now (input_of c.skip.new.self) ≡ entries d (under d) c.args.name.now (after i) = ap (entries d (under d) c.args.name.now) c.skip.ensures in
    read_again ((under c.args.levels).group c.args.name.now i) (entries d (under d) c.args.name.now (input_of c.skip.new.self)) c.entries.result (input_of c.entries.new.cursor) (group_more c.args.levels d c.args.name.now i (omega arith) ∙ sym skipped) c.entries.ensures

pub some_members-loop-turn-init : goal.some_members-loop-turn-init
some_members-loop-turn-init t c = start_turn goes_on_inside (one_member c.args.levels (under c.args.levels)) (c.left-turn-end.result - 0) [] c.new-members.result (input_of c.args.cursor.now) (first_of (cc, search rules, grind (arith, common_steps))) (omega arith)

pub some_members-returns-then-not-goes_on_inside : goal.some_members-returns-then-not-goes_on_inside
some_members-returns-then-not-goes_on_inside t c =
    turn_stop goes_on_inside (one_member c.args.levels (under c.args.levels)) (while_next goes_on_inside (one_member c.args.levels (under c.args.levels)) [] (input_of c.args.cursor.now)) c.left-turn-end.result c.loop-turn._turn c.loop-turn.members (input_of c.loop-turn.cursor) c.loop-turn.invariant
    (first_of (cc, search rules, grind (arith, common_steps)))

pub some_members-returns-in_err-members : goal.some_members-returns-in_err-members
some_members-returns-in_err-members t c =
    let e = λ (n : c.in_err-members.field-0.0 ≢ NoMemory). turn_fault goes_on_inside (one_member c.args.levels (under c.args.levels)) (while_next goes_on_inside (one_member c.args.levels (under c.args.levels)) [] (input_of c.args.cursor.now)) c.left-turn-end.result c.loop-turn._turn c.loop-turn.members (input_of c.loop-turn.cursor) c.in_err-members.field-0.0 c.loop-turn-test.true c.loop-turn.invariant (first_of (cc, search rules, grind (arith, common_steps))) (c.in_err-members.ensures n) in
    first_of (search rules, grind (arith, common_steps))

pub some_members-loop-turn-preserved : goal.some_members-loop-turn-preserved
some_members-loop-turn-preserved t c =
    turn_on goes_on_inside (one_member c.args.levels (under c.args.levels)) (while_next goes_on_inside (one_member c.args.levels (under c.args.levels)) [] (input_of c.args.cursor.now)) c.left-turn-end.result c.loop-turn._turn c.loop-turn.members c.in_ok-members.members (input_of c.loop-turn.cursor) (input_of c.one_member.new.cursor) c.loop-turn-test.true c.loop-turn.invariant
    (first_of (cc, search rules, grind (arith, common_steps)))
    c.in_ok-members.ensures

pub some_members-returns : goal.some_members-returns
some_members-returns t c = turn_end goes_on_inside (one_member c.args.levels (under c.args.levels)) (while_next goes_on_inside (one_member c.args.levels (under c.args.levels)) [] (input_of c.args.cursor.now)) c.left-turn-end.result c.loop-turn._turn c.loop-turn.members (input_of c.loop-turn.cursor) c.loop-turn-test.false c.loop-turn.invariant

pub some_entries-loop-turn-init : goal.some_entries-loop-turn-init
some_entries-loop-turn-init t c = start_turn goes_on_inside (one_entry c.args.levels (under c.args.levels) c.args.name.now) (c.left-turn-end.result - 0) [] c.new-entries.result (input_of c.args.cursor.now) (first_of (cc, search rules, grind (arith, common_steps))) (omega arith)

pub some_entries-returns-then-not-goes_on_inside : goal.some_entries-returns-then-not-goes_on_inside
some_entries-returns-then-not-goes_on_inside t c =
    turn_stop goes_on_inside (one_entry c.args.levels (under c.args.levels) c.args.name.now) (while_next goes_on_inside (one_entry c.args.levels (under c.args.levels) c.args.name.now) [] (input_of c.args.cursor.now)) c.left-turn-end.result c.loop-turn._turn c.loop-turn.entries (input_of c.loop-turn.cursor) c.loop-turn.invariant
    (first_of (cc, search rules, grind (arith, common_steps)))

pub some_entries-returns-in_err-entries : goal.some_entries-returns-in_err-entries
some_entries-returns-in_err-entries t c =
    let e = λ (n : c.in_err-entries.field-0.0 ≢ NoMemory). turn_fault goes_on_inside (one_entry c.args.levels (under c.args.levels) c.args.name.now) (while_next goes_on_inside (one_entry c.args.levels (under c.args.levels) c.args.name.now) [] (input_of c.args.cursor.now)) c.left-turn-end.result c.loop-turn._turn c.loop-turn.entries (input_of c.loop-turn.cursor) c.in_err-entries.field-0.0 c.loop-turn-test.true c.loop-turn.invariant (first_of (cc, search rules, grind (arith, common_steps))) (c.in_err-entries.ensures n) in
    first_of (search rules, grind (arith, common_steps))

pub some_entries-loop-turn-preserved : goal.some_entries-loop-turn-preserved
some_entries-loop-turn-preserved t c =
    turn_on goes_on_inside (one_entry c.args.levels (under c.args.levels) c.args.name.now) (while_next goes_on_inside (one_entry c.args.levels (under c.args.levels) c.args.name.now) [] (input_of c.args.cursor.now)) c.left-turn-end.result c.loop-turn._turn c.loop-turn.entries c.in_ok-entries.entries (input_of c.loop-turn.cursor) (input_of c.one_entry.new.cursor) c.loop-turn-test.true c.loop-turn.invariant
    (first_of (cc, search rules, grind (arith, common_steps)))
    c.in_ok-entries.ensures

pub some_entries-returns : goal.some_entries-returns
some_entries-returns t c = turn_end goes_on_inside (one_entry c.args.levels (under c.args.levels) c.args.name.now) (while_next goes_on_inside (one_entry c.args.levels (under c.args.levels) c.args.name.now) [] (input_of c.args.cursor.now)) c.left-turn-end.result c.loop-turn._turn c.loop-turn.entries (input_of c.loop-turn.cursor) c.loop-turn-test.false c.loop-turn.invariant
