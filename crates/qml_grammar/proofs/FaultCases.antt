-- The worked cases, computed.
use Rattle.std.proofs.Common.{refl}
use Rattle.qml_grammar.specs.FaultCases.{AreAnswered, semicolon_cases, line_cases, word_cases, unsupported_cases, type_name_cases, handler_cases, import_cases, statement_cases, end_cases, level_cases, node_cases}
use Rattle.qml_grammar.proofs.Opened.{opened_documents}

pub semicolon_cases-answered : AreAnswered semicolon_cases
unfolding opened_documents
semicolon_cases-answered = refl

pub line_cases-answered : AreAnswered line_cases
unfolding opened_documents
line_cases-answered = refl

pub word_cases-answered : AreAnswered word_cases
unfolding opened_documents
word_cases-answered = refl

pub unsupported_cases-answered : AreAnswered unsupported_cases
unfolding opened_documents
unsupported_cases-answered = refl

pub type_name_cases-answered : AreAnswered type_name_cases
unfolding opened_documents
type_name_cases-answered = refl

pub handler_cases-answered : AreAnswered handler_cases
unfolding opened_documents
handler_cases-answered = refl

pub import_cases-answered : AreAnswered import_cases
unfolding opened_documents
import_cases-answered = refl

pub statement_cases-answered : AreAnswered statement_cases
unfolding opened_documents
statement_cases-answered = refl

pub end_cases-answered : AreAnswered end_cases
unfolding opened_documents
end_cases-answered = refl

pub level_cases-answered : AreAnswered level_cases
unfolding opened_documents
level_cases-answered = refl

pub node_cases-answered : AreAnswered node_cases
unfolding opened_documents
node_cases-answered = refl
