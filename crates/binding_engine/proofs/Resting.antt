-- A store that nobody settles: each place has its value.
use Rattle.std.proofs.Common.{◌≡◌, [], ap}
use Rattle.std.specs.Prelude.{is_some}
use Rattle.expr_eval.specs.Shapes.{meanings}
use Rattle.settling.specs.Cells.{clean, value_of}
use Rattle.item_equations.specs.Asking.{sight}
use Rattle.object_tree.specs.Store.{Store}
use Rattle.binding_engine.specs.Entries.{Entries, at}
use Rattle.binding_engine.specs.Equations.{shape_of}
use Rattle.binding_engine.specs.Ignored.{read_in}

pub all_seen : (store : Store) (cells : Entries) → cells ≡ [] →
    sight (λ p. is_some (clean (at (store, cells) p))) (meanings (shape_of store) (λ p. value_of (at (store, cells) p))) ≡ read_in store
unfolding sight
all_seen store cells none = ap (λ (es : Entries). sight (λ p. is_some (clean (at (store, es) p))) (meanings (shape_of store) (λ p. value_of (at (store, es) p)))) none
