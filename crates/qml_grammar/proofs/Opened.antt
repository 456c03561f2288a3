-- The definitions of this crate that worked cases compute with: name one of these on an `unfolding` line.
use Rattle.qml_grammar.specs.Marks.{mark_text, mark_number, same_mark}
use Rattle.qml_grammar.specs.Words.{word_text, word_number, same_word, is_unsupported, is_keyword, word_of}
use Rattle.qml_grammar.specs.Lexemes.{lexeme_of_name}
use Rattle.qml_grammar.specs.Inputs.{repeated, while_next}
use Rattle.qml_grammar.specs.Samples.{number_piece, name_piece, text_piece, mark_piece, piece, tokens_from, lines_from, lines}
use Rattle.qml_grammar.specs.Expressions.{parens, atom, primary, member, argument, some_arguments, arguments, call, postfix, postfixes, operated, unary_in, joined, operator, chain, products, sums, orders, equalities, conjunctions, disjunctions, branches, conditional, expr_in, inner, expr, whole}
use Rattle.qml_grammar.specs.Ends.{end_behind, ended}
use Rattle.qml_grammar.specs.Statements.{no_target, target_name, target_in, target, assigned, stepped, step_or, change_or, initial, local, returned, leave, acted, act, simple_local, simple_change, simple, simple_before, test, begun, block_statement, empty_statement, condition, otherwise, choice, while_statement, for_body, for_step, for_test, for_statement, by_word, statement_in, one_more, statements, braces, bodies, statement}
use Rattle.qml_grammar.specs.Documents.{body, object_in, object_value, expr_value, value_in, id_member, kind, property_kind, property_value, kind_and_name, property, fixed_property, signal_param, more_signal_params, some_signal_params, signal_params, signal_member, method_param, more_method_params, some_method_params, method_params, method_block, method_behind, method, second_name, path_behind, path, handled, initialised, behind_path, path_member, entry_name, entry, one_entry, entries, alone, child, grouped, named_member, other_member, member_in, one_member, members, member_braces, group_braces, under, module_name, second_part, version, unnamed, import_version, behind_module, import_module, import_in, one_import, imports, root, nothing_more, document, reading}
use Rattle.qml_grammar.specs.FaultCases.{first_fault, semicolon_cases, line_cases, word_cases, unsupported_cases, type_name_cases, handler_cases, import_cases, statement_cases, end_cases, level_cases, node_cases}
use Rattle.qml_grammar.specs.TreeCases.{said}
use Rattle.qml_grammar.specs.PrintCases.{canonical_expr, expr_prints}

unfoldable pub opened_samples : Unit {0}
unfolding mark_text mark_number same_mark word_text word_number same_word is_unsupported is_keyword word_of lexeme_of_name repeated while_next number_piece name_piece text_piece mark_piece piece tokens_from lines_from lines
opened_samples = tt

unfoldable pub opened_expressions : Unit {0}
unfolding parens atom primary member argument some_arguments arguments call postfix postfixes operated unary_in joined operator chain products sums orders equalities conjunctions disjunctions branches conditional expr_in inner expr whole opened_samples
opened_expressions = tt

unfoldable pub opened_statements : Unit {0}
unfolding end_behind ended no_target target_name target_in target assigned stepped step_or change_or initial local returned leave acted act simple_local simple_change simple simple_before test begun block_statement empty_statement condition otherwise choice while_statement for_body for_step for_test for_statement by_word statement_in one_more statements braces bodies statement opened_expressions
opened_statements = tt

unfoldable pub opened_documents : Unit {0}
unfolding body object_in object_value expr_value value_in id_member kind property_kind property_value kind_and_name property fixed_property signal_param more_signal_params some_signal_params signal_params signal_member method_param more_method_params some_method_params method_params method_block method_behind method second_name path_behind path handled initialised behind_path path_member entry_name entry one_entry entries alone child grouped named_member other_member member_in one_member members member_braces group_braces under module_name second_part version unnamed import_version behind_module import_module import_in one_import imports root nothing_more document reading first_fault semicolon_cases line_cases word_cases unsupported_cases type_name_cases handler_cases import_cases statement_cases end_cases level_cases node_cases opened_statements
opened_documents = tt

unfoldable pub opened_trees : Unit {0}
unfolding said opened_documents
opened_trees = tt

unfoldable pub opened_prints : Unit {0}
unfolding canonical_expr expr_prints opened_trees
opened_prints = tt
