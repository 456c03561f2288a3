-- What the worked cases declare, computed.
use Rattle.std.proofs.Common.{refl}
use Rattle.qml_ast.specs.declared.expr.Expr.TheVariants.{outs-Lit, outs-Name, outs-Unary}
use Rattle.qml_grammar.specs.TreeCases.{ValuesCase, ObjectsCase, MembersCase, StatementsCase, ImportsCase}
use Rattle.qml_grammar.proofs.Opened.{opened_trees}

pub ValuesCase-read : ValuesCase
unfolding opened_trees
ValuesCase-read = simp (outs-Lit, outs-Unary) refl

pub ObjectsCase-read : ObjectsCase
unfolding opened_trees
ObjectsCase-read = simp outs-Name refl

pub MembersCase-read : MembersCase
unfolding opened_trees
MembersCase-read = refl

pub StatementsCase-read : StatementsCase
unfolding opened_trees
StatementsCase-read = refl

pub ImportsCase-read : ImportsCase
unfolding opened_trees
ImportsCase-read = refl
