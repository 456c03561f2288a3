-- A step of a loop that frees nodes.
use Rattle.std.proofs.Common.{◌≡◌, ℕ, ◌+◌, ◌<◌, List, [], take, drop, length, get_or, is_some, refl, ap, sym, ◌∙◌, subst}
use Rattle.std.proofs.lemmas.Option.{slice_get-get_or}
use Rattle.std.proofs.lemmas.List.{take-append-drop, take_more, drop_more}
use Rattle.links.specs.declared.node_key.NodeKey.{NodeKey}
use Rattle.sg_nodes.specs.Forest.{Forest, IsLive, freed, key_of}
use Rattle.sg_sync.specs.Own.{IsIn}
use Rattle.sg_sync.specs.Linking.{Distinct}
use Rattle.sg_sync.specs.Swapping.{IsSlotOf, Swapped}
use Rattle.sg_sync.proofs.Members.{in_none, distinct_apart}
use Rattle.sg_sync.proofs.Swapping.{only_slot, swapped_freed, swapped_append}

-- the key at a place isn't among those before it
pub not_before : (keys : List NodeKey) (i : ℕ) → i < length keys → Distinct keys → ¬ IsSlotOf (take i keys) (get_or keys i (key_of 0)).slot
not_before keys i lt d is =
    distinct_apart (take i keys) (drop i keys) (get_or keys i (key_of 0)) (subst Distinct (sym (take-append-drop i keys)) d) is
    (subst (λ xs. IsIn xs (get_or keys i (key_of 0))) (sym (drop_more keys i (key_of 0) lt)) (0, refl))

module _ (f0 f : Forest) (keys : List NodeKey) (i : ℕ) (lt : i < length keys) where
  pub free_live : ((key : NodeKey) → IsIn keys key → IsLive f0 key.slot) → Distinct keys → Swapped f0 f (take i keys) [] (take i keys) [] → IsLive f (get_or keys i (key_of 0)).slot
  free_live live d s =
      ap is_some (s.others (get_or keys i (key_of 0)).slot (not_before keys i lt d) (in_none (get_or keys i (key_of 0))))
      ∙ live (get_or keys i (key_of 0)) (i, slice_get-get_or keys i (key_of 0) lt)

  pub free_more : Distinct keys → Swapped f0 f (take i keys) [] (take i keys) [] → (g : Forest) → g ≡ freed f (get_or keys i (key_of 0)).slot → Swapped f0 g (take (i + 1) keys) [] (take (i + 1) keys) []
  free_more d s g e =
      subst (λ xs. Swapped f0 g xs [] xs []) (sym (take_more keys i (key_of 0) lt))
      (swapped_append s (swapped_freed f g (get_or keys i (key_of 0)) e)
      (λ slot is now. not_before keys i lt d (subst (IsSlotOf (take i keys)) (only_slot (get_or keys i (key_of 0)) slot now) is))
      (λ slot is now. in_none (key_of slot) is))
