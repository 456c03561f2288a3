use Rattle.std.proofs.Common.{◌≡◌, ℕ, ◌+◌, List, take, drop, Option, ap, sym, subst, ◌∙◌, arith}
use Rattle.std.proofs.lemmas.List.{drop-drop, take_rest}
use Rattle.std.proofs.Math.Seq.{take-add}
use Rattle.std.specs.Io.KnownBytes.{Appends}
use Rattle.outside.proofs.Appending.{Appends-append}
use Rattle.outside.proofs.sink.write_whole.Goals as goal

-- the first k bytes of the piece, and then n of the others
more_of_piece : (old mid new : Option (List ℕ)) (piece rest : List ℕ) (k n : ℕ) → rest ≡ drop k piece → Appends old mid (take k piece) → Appends mid new (take n rest) → Appends old new (take (k + n) piece)
more_of_piece old mid new piece rest k n e p q =
    subst (Appends old new) (sym (take-add k n piece)) (Appends-append old mid new _ _ p (subst (λ l. Appends mid new (take n l)) e q))

pub loop-rest-preserved : goal.loop-rest-preserved
loop-rest-preserved g c =
    let k = c.loop-rest.invariant.0 in
    let n = c.in_ok-taken.taken in
    let rest = c.loop-rest.rest.now in
    let is_rest = c.loop-rest.invariant.1.0 in (
      k + n,
      (
        take_rest rest n ∙ ap (drop n) is_rest ∙ drop-drop n k c.args.piece.now,
        (
          more_of_piece _ _ _ c.args.piece.now rest k n is_rest c.loop-rest.invariant.1.1.0 c.in_ok-taken.ensures.bytes,
          omega arith,
        ),
      ),
    )
