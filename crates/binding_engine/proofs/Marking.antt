-- Marks that are as before.
use Rattle.std.proofs.Common.{◌≡◌, ℕ, true, refl, ap, ◌∙◌, List, [], ◌∷◌, arith, subst}
use Rattle.std.specs.Prelude.{Option, None, Some, nat_eq}
use Rattle.std.proofs.lemmas.Bool.Decides.{nat_tests}
use Rattle.settling.specs.Cells.{mark_of}
use Rattle.settling.specs.Holding.{IsPath, Reads}
use Rattle.settling.specs.Loops.{AreChains}
use Rattle.settling.specs.Runs.{Run, IsRead}
use Rattle.settling.specs.Spaces.{Space, values}
use Rattle.settling.specs.Cells.{value_of}
use Rattle.qml_ast.specs.declared.eval_fault.EvalFault.{EvalFault}
use Rattle.qml_ast.specs.declared.place.Place.{Place}
use Rattle.object_tree.specs.Store.{Store}
use Rattle.binding_engine.specs.Entries.{Entries, at, marks_in}
use Rattle.binding_engine.specs.Equations.{equated}
use Rattle.binding_engine.specs.Findings.{fault_number, new_mark, faulted_in, faulted_from}
use Rattle.binding_engine.specs.Settling.{settled_from}

number : (n : ℕ) → nat_eq n n ≡ true
number n = grind (arith, nat_tests)

pub no_new_mark : (m : Option EvalFault) → new_mark m m ≡ None
no_new_mark None = refl
no_new_mark (Some f) = rw (number (fault_number f)) refl

-- what is found in the entries is what the settled places have
pub entries_faulted : (store : Store) (es : Entries) (places : List Place) → places ≡ equated store → ((p : Place) → at (store, es) p ≡ settled_from store p) → faulted_in (marks_in store es) store places ≡ faulted_from store
unfolding faulted_from
entries_faulted store es places are h =
    ap (λ (ps : List Place). faulted_in (marks_in store es) store ps) are ∙ (λ i. faulted_in (λ p. mark_of (h p i)) store (equated store))

-- chains of reads over the same values
module _ {S T P V F : Type 0} (one : Space S P V F) (other : Space T P V F) (tree : P → Run P V F) (s : S) (t : T) (alike : (q : P) → one.at s q ≡ other.at t q) where
  same_values : values one s ≡ values other t
  same_values = λ i q. value_of (alike q i)

  reads_alike : (p q : P) → Reads one tree s p q → Reads other tree t p q
  reads_alike p q h = subst (λ (v : P → V). IsRead v q (tree p)) same_values h

  path_alike : (p : P) (chain : List P) (end : P) → IsPath one tree s p chain end → IsPath other tree t p chain end
  path_alike p [] end h = reads_alike p end h
  path_alike p (q ∷ qs) end h = (reads_alike p q h.0, path_alike q qs end h.1)

  pub chains_alike : (loops : List (P × List P)) → AreChains one tree s loops → AreChains other tree t loops
  chains_alike [] h = h
  chains_alike (found ∷ loops) h = (path_alike found.0 found.1 found.0 h.0, chains_alike loops h.1)
