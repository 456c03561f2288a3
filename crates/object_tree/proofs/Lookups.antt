-- One level of a look-up.
use Rattle.std.proofs.Common.{zero, suc, ◌≡◌, ◌≢◌, ℕ, List, Option, Some, refl}
use Rattle.expr_eval.specs.declared.found.Found.{Found}
use Rattle.object_tree.specs.declared.context.Context.{Context}
use Rattle.object_tree.specs.Growing.{context_at}
use Rattle.object_tree.specs.Looking.{found_here, found_in}
use Rattle.object_tree.specs.Store.{Store}

pub found_now : (left : ℕ) (name : List ℕ) (scope n : ℕ) (context : Context) (store : Store) (f : Found) (number : Option ℕ) → left ≢ 0 →
    number ≡ Some n → context_at n store ≡ Some context → found_here name scope context store ≡ Some f → found_in left name scope number store ≡ Some f
found_now zero name scope n context store f number nonzero is at here = absurd (nonzero refl)
found_now (suc left) name scope n context store f number nonzero is at here = rw (is, at, here) refl
