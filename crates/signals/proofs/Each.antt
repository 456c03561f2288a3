-- One of a list more.
use Rattle.std.proofs.Common.{◌≡◌, ◌∙◌, ℕ, ◌+◌, ◌<◌, List, ◌++◌, length, get_or, drop, flat_map, sym, ap, subst, append_assoc}
use Rattle.std.proofs.lemmas.List.{at_drop_more}
use Rattle.std.specs.Prelude.{Err}
use Rattle.signals.specs.Endings.{Ending, Ends, ended, after, each}
use Rattle.signals.specs.declared.ending.Halt.{Halt}
use Rattle.signals.specs.declared.world.World.{World}
use Rattle.signals.proofs.Following.{stops_after}

-- one more has run
pub each_next : {X : Type 0} (run : X → World → Ending) (xs : List X) (i : ℕ) (d : X) (w w2 : World) (all : Ending) → i < length xs →
    each run (drop i xs) w ≡ all → run (get_or xs i d) w ≡ ended w2 → each run (drop (i + 1) xs) w2 ≡ all
each_next run xs i d w w2 all within before ran =
    sym (ap (λ o. after o (each run (drop (i + 1) xs))) ran) ∙ (sym (at_drop_more (λ ys. each run ys w) xs i d within) ∙ before)

-- a limit was met in one
pub each_stops : {X : Type 0} (run : X → World → Ending) (xs : List X) (i : ℕ) (d : X) (w w2 : World) (all : Ending) (halt : Halt) → i < length xs →
    each run (drop i xs) w ≡ all → Ends (run (get_or xs i d) w) (Err halt) w2 → Ends all (Err halt) w2
each_stops run xs i d w w2 all halt within before stops =
    subst (λ o. Ends o (Err halt) w2) (sym (at_drop_more (λ ys. each run ys w) xs i d within) ∙ before)
    (stops_after (run (get_or xs i d) w) (each run (drop (i + 1) xs)) halt w2 stops)

-- what one more gives is added
pub flat_next : {X Y : Type 0} (f : X → List Y) (xs : List X) (i : ℕ) (d : X) (so_far now all : List Y) → i < length xs →
    so_far ++ flat_map f (drop i xs) ≡ all → now ≡ so_far ++ f (get_or xs i d) → now ++ flat_map f (drop (i + 1) xs) ≡ all
flat_next f xs i d so_far now all within before is =
    ap (λ l. l ++ flat_map f (drop (i + 1) xs)) is
    ∙ (append_assoc so_far (f (get_or xs i d)) (flat_map f (drop (i + 1) xs))
    ∙ (sym (at_drop_more (λ ys. so_far ++ flat_map f ys) xs i d within) ∙ before))
