-- What callers need to know to move nodes.
use Rattle.std.proofs.Common.{◌≡◌, ◌≢◌, ℕ, zero, suc, [], Some, cond, is_some, refl, ap, sym, ◌∙◌, eq-eqb}
use Rattle.std.specs.List.{slice_get}
use Rattle.std.proofs.lemmas.Option.{none-some}
use Rattle.sg_nodes.specs.declared.node.Node.{Node}
use Rattle.sg_nodes.specs.Forest.{Forest, IsLive, IsChild, IsFrom, Steps, put}

steps_alone : (f : Forest) (above below n : ℕ) → f.children above ≡ [] → Steps f n above below → above ≡ below
steps_alone f above below zero none p = p
steps_alone f above below (suc n) none p = absurd (none-some p.0 (ap (λ xs. slice_get xs p.1.0.0) (sym none) ∙ p.1.0.1))

-- a node without children is above none but itself
pub not_above : (f : Forest) (above below : ℕ) → f.children above ≡ [] → above ≢ below → ¬ IsFrom f above below
not_above f above below none ne p = ne (steps_alone f above below p.0 none p.1)

-- the node that was made
module _ (old new : Forest) (slot spare : ℕ) (node : Node) (made : new ≡ record old { node = put old.node slot (Some node); spare = spare }) where
  pub made_live : IsLive new slot
  made_live = ap (λ (f : Forest). is_some (f.node slot)) made ∙ ap (λ b. is_some (cond b (Some node) (old.node slot))) (eq-eqb slot slot refl)

  pub made_free : ((parent : ℕ) → ¬ IsChild old parent slot) → (parent : ℕ) → ¬ IsChild new parent slot
  made_free free parent is = free parent (is.0, ap (λ (f : Forest). slice_get (f.children parent) is.0) (sym made) ∙ is.1)

  pub made_not_above : old.children slot ≡ [] → (below : ℕ) → slot ≢ below → ¬ IsFrom new slot below
  made_not_above none below = not_above new slot below (ap (λ (f : Forest). f.children slot) made ∙ none)
