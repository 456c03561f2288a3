use Rattle.qml_grammar.proofs.TreeCases.{ValuesCase-read, ObjectsCase-read, MembersCase-read, StatementsCase-read, ImportsCase-read}
use Rattle.qml_grammar.proofs.cases.declarations.Goals as goal

abbrev pub returns-clause-values : goal.returns-clause-values
returns-clause-values c = ValuesCase-read

abbrev pub returns-clause-objects : goal.returns-clause-objects
returns-clause-objects c = ObjectsCase-read

abbrev pub returns-clause-members : goal.returns-clause-members
returns-clause-members c = MembersCase-read

abbrev pub returns-clause-statements : goal.returns-clause-statements
returns-clause-statements c = StatementsCase-read

abbrev pub returns-clause-imports : goal.returns-clause-imports
returns-clause-imports c = ImportsCase-read
