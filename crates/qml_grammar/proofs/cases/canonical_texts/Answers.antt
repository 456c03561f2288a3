use Rattle.qml_grammar.proofs.PrintCases.{expr_prints-printed, EscapeCase-printed, IfCase-printed, WhileCase-printed, EmptyForCase-printed, ForCase-printed, BlockForCase-printed, ElseIfCase-printed, BlockCase-printed, EmptyObjectCase-printed, InitialiserCase-printed, PropertyCase-printed, SignalCase-printed, MethodCase-printed, ObjectCase-printed, HandlerCase-printed}
use Rattle.qml_grammar.proofs.cases.canonical_texts.Goals as goal

abbrev pub returns-clause-exprs : goal.returns-clause-exprs
returns-clause-exprs c = expr_prints-printed

abbrev pub returns-clause-escapes : goal.returns-clause-escapes
returns-clause-escapes c = EscapeCase-printed

abbrev pub returns-clause-if_text : goal.returns-clause-if_text
returns-clause-if_text c = IfCase-printed

abbrev pub returns-clause-while_text : goal.returns-clause-while_text
returns-clause-while_text c = WhileCase-printed

abbrev pub returns-clause-empty_for_text : goal.returns-clause-empty_for_text
returns-clause-empty_for_text c = EmptyForCase-printed

abbrev pub returns-clause-for_text : goal.returns-clause-for_text
returns-clause-for_text c = ForCase-printed

abbrev pub returns-clause-block_for_text : goal.returns-clause-block_for_text
returns-clause-block_for_text c = BlockForCase-printed

abbrev pub returns-clause-else_if_text : goal.returns-clause-else_if_text
returns-clause-else_if_text c = ElseIfCase-printed

abbrev pub returns-clause-block_text : goal.returns-clause-block_text
returns-clause-block_text c = BlockCase-printed

abbrev pub returns-clause-empty_object_text : goal.returns-clause-empty_object_text
returns-clause-empty_object_text c = EmptyObjectCase-printed

abbrev pub returns-clause-initialiser_text : goal.returns-clause-initialiser_text
returns-clause-initialiser_text c = InitialiserCase-printed

abbrev pub returns-clause-property_text : goal.returns-clause-property_text
returns-clause-property_text c = PropertyCase-printed

abbrev pub returns-clause-signal_text : goal.returns-clause-signal_text
returns-clause-signal_text c = SignalCase-printed

abbrev pub returns-clause-method_text : goal.returns-clause-method_text
returns-clause-method_text c = MethodCase-printed

abbrev pub returns-clause-object_text : goal.returns-clause-object_text
returns-clause-object_text c = ObjectCase-printed

abbrev pub returns-clause-handler_text : goal.returns-clause-handler_text
returns-clause-handler_text c = HandlerCase-printed
