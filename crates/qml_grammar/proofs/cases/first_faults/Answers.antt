use Rattle.qml_grammar.proofs.FaultCases.{semicolon_cases-answered, line_cases-answered, word_cases-answered, unsupported_cases-answered, type_name_cases-answered, handler_cases-answered, import_cases-answered, statement_cases-answered, end_cases-answered, level_cases-answered, node_cases-answered}
use Rattle.qml_grammar.proofs.cases.first_faults.Goals as goal

abbrev pub returns-clause-semicolons : goal.returns-clause-semicolons
returns-clause-semicolons c = semicolon_cases-answered

abbrev pub returns-clause-line_ends : goal.returns-clause-line_ends
returns-clause-line_ends c = line_cases-answered

abbrev pub returns-clause-words : goal.returns-clause-words
returns-clause-words c = word_cases-answered

abbrev pub returns-clause-unsupported : goal.returns-clause-unsupported
returns-clause-unsupported c = unsupported_cases-answered

abbrev pub returns-clause-type_names : goal.returns-clause-type_names
returns-clause-type_names c = type_name_cases-answered

abbrev pub returns-clause-handlers : goal.returns-clause-handlers
returns-clause-handlers c = handler_cases-answered

abbrev pub returns-clause-imports : goal.returns-clause-imports
returns-clause-imports c = import_cases-answered

abbrev pub returns-clause-statements : goal.returns-clause-statements
returns-clause-statements c = statement_cases-answered

abbrev pub returns-clause-text_end : goal.returns-clause-text_end
returns-clause-text_end c = end_cases-answered

abbrev pub returns-clause-levels : goal.returns-clause-levels
returns-clause-levels c = level_cases-answered

abbrev pub returns-clause-nodes : goal.returns-clause-nodes
returns-clause-nodes c = node_cases-answered
