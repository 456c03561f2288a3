-- What is new where a making goes on.
use Rattle.std.proofs.Common.{◌≡◌, ◌∙◌, ℕ, ◌+◌, ◌-◌, ◌<◌, ◌≤◌, Bool, length, get_or, List, Option, ap, arith}
use Rattle.std.proofs.lemmas.List.{length_push}
use Rattle.qml_types.specs.declared.component.ComponentType.{ComponentType, out-ComponentType}
use Rattle.qml_types.specs.declared.component.ObjectDecl.{ObjectDecl, out-ObjectDecl}
use Rattle.object_tree.specs.declared.context.Context.{Context}
use Rattle.object_tree.specs.Growing.{grower_of, grower_under, last_context, next_serial, object_rooted, owner_in, with_context}
use Rattle.object_tree.specs.Making.{is_child}
use Rattle.object_tree.specs.Store.{Store}
use Rattle.object_tree.specs.Undoing.{IsBegun, IsLastOf, documents_of, documents_under}
use Rattle.object_tree.proofs.Documents.{of_some, component_counts, object_counts}
use Rattle.object_tree.proofs.Undone.{old_contexts}

-- the first of these documents
pub root_last : (c : ComponentType) (objects : List ObjectDecl) (root : ObjectDecl) (old number before : ℕ) → objects ≡ (out-ComponentType c).objects → 1 ≤ length objects → root ≡ get_or objects 0 root →
    before ≡ number - 1 → old + documents_of c ≤ number → old + documents_under (out-ObjectDecl root).base ≤ before
root_last c objects root old number before same some is one last = let documents = of_some c objects root same some is in omega (arith, documents, one, last)

pub one_last : (c : ComponentType) (objects : List ObjectDecl) (root : ObjectDecl) (old number : ℕ) → objects ≡ (out-ComponentType c).objects → 1 ≤ length objects → root ≡ get_or objects 0 root →
    old + documents_of c ≤ number → old + 1 ≤ number
one_last c objects root old number same some is last = let documents = of_some c objects root same some is in omega (arith, documents, last)

module _ (parent : ℕ) (first store : Store) (begun : IsBegun parent first store) where
  pub serial_new : (serial : ℕ) → serial ≡ next_serial store → first.objects.last < serial
  serial_new serial is = omega (arith, is, begun.serials)

  pub number_new : (c : Context) (after : Store) (number : ℕ) → after ≡ with_context c store → number ≡ last_context after → length first.contexts < number
  number_new c after number added is =
      let old = old_contexts parent first store begun in
      let more = ap last_context added ∙ length_push store.contexts c in
      omega (arith, old, more, is)

  -- those of what an object is made of first
  pub object_last : (o : ObjectDecl) (number last : ℕ) → last ≡ last_context (object_rooted number o (grower_under (out-ObjectDecl o).base) store) → IsLastOf (documents_under (out-ObjectDecl o).base) last parent first
  object_last o number last is =
      let old = old_contexts parent first store begun in
      let counts = object_counts o (owner_in o number store) (is_child (out-ObjectDecl o).role) store in
      omega (arith, old, counts, is)

  pub component_last : (c : ComponentType) (owner : ℕ) (as_child : Bool) (around : Option ℕ) (after : Store) (number : ℕ) → after ≡ (grower_of c).rooted owner as_child around store → number ≡ last_context after →
      IsLastOf (documents_of c) number parent first
  component_last c owner as_child around after number rooted is =
      let old = old_contexts parent first store begun in
      let counts = ap last_context rooted ∙ component_counts c owner as_child around store in
      omega (arith, old, counts, is)
