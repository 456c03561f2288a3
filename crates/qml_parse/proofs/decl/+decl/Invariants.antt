use Rattle.std.proofs.Common.{◌≡◌, ℕ, ◌+◌, ◌*◌, ◌-◌, []}
use Rattle.qml_grammar.specs.Documents.{under, one_member, one_entry}
use Rattle.qml_grammar.specs.Inputs.{while_next, repeated}
use Rattle.qml_grammar.specs.Statements.{goes_on_inside}
use Rattle.qml_expr.specs.Seen.{input_of}
use Rattle.qml_parse.proofs.decl.+decl.Given as goal

-- below the calls that stay on the same level
abbrev rank : ℕ → ℕ → ℕ
rank levels steps = 20 * levels + steps

abbrev pub decreases-inner_members : goal.decreases-inner_members
decreases-inner_members l = rank l.levels 0

abbrev pub decreases-inner_group : goal.decreases-inner_group
decreases-inner_group l = rank l.levels 0

abbrev pub decreases-body : goal.decreases-body
decreases-body l = rank l.levels 1

abbrev pub decreases-object : goal.decreases-object
decreases-object l = rank l.levels 2

abbrev pub decreases-object_value : goal.decreases-object_value
decreases-object_value l = rank l.levels 3

abbrev pub decreases-value : goal.decreases-value
decreases-value l = rank l.levels 4

abbrev pub decreases-child : goal.decreases-child
decreases-child l = rank l.levels 3

abbrev pub decreases-property_value : goal.decreases-property_value
decreases-property_value l = rank l.levels 5

abbrev pub decreases-property : goal.decreases-property
decreases-property l = rank l.levels 6

abbrev pub decreases-fixed_property : goal.decreases-fixed_property
decreases-fixed_property l = rank l.levels 7

abbrev pub decreases-property_member : goal.decreases-property_member
decreases-property_member l = rank l.levels 7

abbrev pub decreases-fixed_property_member : goal.decreases-fixed_property_member
decreases-fixed_property_member l = rank l.levels 8

abbrev pub decreases-initialised : goal.decreases-initialised
decreases-initialised l = rank l.levels 5

abbrev pub decreases-path_alone : goal.decreases-path_alone
decreases-path_alone l = rank l.levels 6

abbrev pub decreases-path_member : goal.decreases-path_member
decreases-path_member l = rank l.levels 7

abbrev pub decreases-group : goal.decreases-group
decreases-group l = rank l.levels 1

abbrev pub decreases-entry : goal.decreases-entry
decreases-entry l = rank l.levels 5

abbrev pub decreases-one_entry : goal.decreases-one_entry
decreases-one_entry l = rank l.levels 6

abbrev pub decreases-some_entries : goal.decreases-some_entries
decreases-some_entries l = rank l.levels 7

abbrev pub decreases-entries : goal.decreases-entries
decreases-entries l = rank l.levels 8

abbrev pub decreases-named_member : goal.decreases-named_member
decreases-named_member l = rank l.levels 8

abbrev pub decreases-other_member : goal.decreases-other_member
decreases-other_member l = rank l.levels 9

abbrev pub decreases-member : goal.decreases-member
decreases-member l = rank l.levels 10

abbrev pub decreases-one_member : goal.decreases-one_member
decreases-one_member l = rank l.levels 11

abbrev pub decreases-some_members : goal.decreases-some_members
decreases-some_members l = rank l.levels 12

abbrev pub decreases-members : goal.decreases-members
decreases-members l = rank l.levels 13

abbrev pub invariant-some_members-loop-turn : goal.invariant-some_members-loop-turn
invariant-some_members-loop-turn l = while_next goes_on_inside (one_member l.levels (under l.levels)) [] (input_of l.fn.cursor) ≡ repeated goes_on_inside (one_member l.levels (under l.levels)) (l._turn-end - l._turn) l.members (input_of l.cursor)

abbrev pub invariant-some_entries-loop-turn : goal.invariant-some_entries-loop-turn
invariant-some_entries-loop-turn l = while_next goes_on_inside (one_entry l.levels (under l.levels) l.name) [] (input_of l.fn.cursor) ≡ repeated goes_on_inside (one_entry l.levels (under l.levels) l.name) (l._turn-end - l._turn) l.entries (input_of l.cursor)
