use Rattle.item_equations.proofs.rows.+row_from.Given as goal

abbrev pub decreases-row_from : goal.decreases-row_from
decreases-row_from g l = l.left
