-- What a store means to expressions.
use Rattle.object_tree.specs.Changes.{value_or_null}
use Rattle.object_tree.specs.Handlers.{callable_at, method_arity_at, signal_arity_at}
use Rattle.object_tree.specs.Looking.{looked_up, member_of}
use Rattle.object_tree.specs.Store.{Store}
use Rattle.expr_eval.specs.Meanings.{Meanings, Arities}

-- the store's answers; where there is no place, null is read
abbrev pub meanings : Store → Meanings
meanings store = record {
  look = λ frame name. looked_up frame name store;
  member = λ serial g name. member_of serial g name store;
  read = λ place. value_or_null place store;
  method = λ serial number. callable_at serial number store;
}

-- how many arguments methods and signals take
abbrev pub arities : Store → Arities
arities store = record {
  method = λ serial number. method_arity_at serial number store;
  signal = λ serial number. signal_arity_at serial number store;
}
