-- One more number gets a cell and a list.
use Rattle.std.proofs.Common.{◌≡◌, ◌≢◌, ⊎_elim, ℕ, ◌+◌, ◌-◌, ◌≤◌, true, [], ◌∷◌, length, Some, None, unwrap_or, ap, sym, ◌∙◌, arith, length-append}
use Rattle.std.specs.List.{slice_get}
use Rattle.std.specs.Prelude.{replicate}
use Rattle.std.proofs.lemmas.List.{length-replicate, replicate-append-replicate}
use Rattle.std.proofs.lemmas.Option.{none-some, same_Some, slice_get_past}
use Rattle.std.proofs.lemmas.Bool.{cases_eq}
use Rattle.links.specs.Slots.{placed}
use Rattle.links.specs.Chains.{Chains, cells_in}
use Rattle.links.proofs.Places.{placed_end, slice_get-placed_same, slice_get-placed_other}
use Rattle.sg_nodes.specs.Numbers.{IsFull, SameLists}

module _ (old mid new : Chains) (number cell list : ℕ) (full : IsFull old number) (cell_is : cell ≡ number) (list_is : list ≡ number)
    (celled : mid ≡ record old { cells = placed old.cells cell true; spare_cells = old.spare_cells - 1 })
    (listed : new ≡ record mid { lists = placed mid.lists list (Some []); spare_lists = mid.spare_lists - 1 }) where
  lists_are : new.lists ≡ placed old.lists list (Some [])
  lists_are = ap (λ (c : Chains). c.lists) listed ∙ ap (λ (c : Chains). placed c.lists list (Some [])) celled

  at_end : list ≡ length old.lists
  at_end = list_is ∙ sym full.lists

  within : list ≤ length old.lists
  within = let e = at_end in omega arith

  pub grown_full : IsFull new (number + 1)
  grown_full = record {
    cells =
        ap (λ (c : Chains). c.cells) listed
        ∙ (ap (λ (c : Chains). c.cells) celled
        ∙ (ap (λ cs. placed cs cell true) full.cells
        ∙ (placed_end (replicate number true) cell true (cell_is ∙ sym (length-replicate number true)) ∙ replicate-append-replicate number 1 true)));
    lists =
        ap length lists_are ∙ (ap length (placed_end old.lists list (Some []) at_end) ∙ (length-append old.lists (Some [] ∷ []) ∙ ap (λ n. n + 1) full.lists));
    no_gap = λ other gap.
        ⊎_elim
        (λ (is : other ≡ list).
        let e : Some (Some []) ≡ Some None = sym (slice_get-placed_same old.lists list (Some []) within) ∙ (ap (slice_get (placed old.lists list (Some []))) (sym is) ∙ (ap (λ ls. slice_get ls other) (sym lists_are) ∙ gap)) in
        none-some [] (sym (same_Some (Some []) None e)))
        (λ (ne : other ≢ list).
        full.no_gap other (sym (slice_get-placed_other old.lists list other (Some []) within ne) ∙ (ap (λ ls. slice_get ls other) (sym lists_are) ∙ gap)))
        (cases_eq other list);
  }

  pub grown_same : SameLists old new
  grown_same other =
      ap (λ ls. cells_in ls other) lists_are
      ∙ ⊎_elim
      (λ (is : other ≡ list).
      ap (cells_in (placed old.lists list (Some []))) is
      ∙ (ap (λ o. unwrap_or (unwrap_or o None) []) (slice_get-placed_same old.lists list (Some []) within)
      ∙ (ap (λ o. unwrap_or (unwrap_or o None) []) (sym (slice_get_past old.lists list (let e = at_end in omega arith))) ∙ ap (cells_in old.lists) (sym is))))
      (λ (ne : other ≢ list). ap (λ o. unwrap_or (unwrap_or o None) []) (slice_get-placed_other old.lists list other (Some []) within ne))
      (cases_eq other list)
