use Rattle.eval_tests.proofs.tests.+sum.Given as goal

-- both parts have fewer numbers
abbrev pub decreases-sum : goal.decreases-sum
decreases-sum l = l.numbers
