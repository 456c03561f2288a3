-- Steps of loops that set and make nodes of rectangles.
use Rattle.std.proofs.Common.{◌≡◌, ℕ, ◌+◌, ◌<◌, List, [], ◌∷◌, ◌++◌, map as list_map, take, length, get_or, set, Option, Some, IfSome, refl, ap, sym, ◌∙◌, subst, arith, append-nil}
use Rattle.std.proofs.lemmas.Option.{slice_get-get_or}
use Rattle.std.proofs.lemmas.List.{take_more, take_more_set, map_more}
use Rattle.links.specs.declared.node_key.NodeKey.{NodeKey}
use Rattle.item_geometry.specs.declared.parts.RectPart.{RectPart}
use Rattle.sg_nodes.specs.declared.node.Node.{Node}
use Rattle.sg_nodes.specs.declared.node.RectNode.{RectNode}
use Rattle.sg_nodes.specs.declared.node.NodeKind.TheVariants.{Rect as RectKind}
use Rattle.sg_nodes.specs.declared.node.NodeBody.TheVariants.{Rect as RectBody}
use Rattle.sg_nodes.specs.Bodies.{HasKind}
use Rattle.sg_nodes.specs.Forest.{Forest, put, key_of}
use Rattle.sg_standing.specs.Standing.{rect_of}
use Rattle.sg_sync.specs.Own.{IsIn}
use Rattle.sg_sync.specs.Linking.{Distinct}
use Rattle.sg_sync.specs.Swapping.{IsSlotOf, Swapped, rect_node, IsOfItem}
use Rattle.sg_sync.proofs.Members.{in_none}
use Rattle.sg_sync.proofs.Swapping.{only_slot, swapped_put, swapped_append, swapped_wider}
use Rattle.sg_sync.proofs.Freeing.{not_before}

module _ (f0 f : Forest) (serial : ℕ) (keys : List NodeKey) (parts : List RectPart) (i : ℕ) (lt : i < length keys) (same : length keys ≡ length parts)
    (own : (key : NodeKey) → IsIn keys key → IsOfItem f0 serial RectKind key) (d : Distinct keys)
    (s : Swapped f0 f (take i keys) (take i keys) [] (list_map (rect_node serial) (take i parts))) (zero_part : RectPart) where
  pub set_of : IsOfItem f serial RectKind (get_or keys i (key_of 0))
  set_of =
      let was = own (get_or keys i (key_of 0)) (i, slice_get-get_or keys i (key_of 0) lt) in
      (was.0, (s.others (get_or keys i (key_of 0)).slot (not_before keys i lt d) (not_before keys i lt d) ∙ was.1.0, was.1.1))

  pub set_kind : HasKind f (get_or keys i (key_of 0)).slot RectKind
  set_kind = (set_of.0, (set_of.1.0, set_of.1.1.1))

  pub set_more : (g : Forest) (rect : RectNode) → rect ≡ rect_of (get_or parts i zero_part)
      → IfSome (f.node (get_or keys i (key_of 0)).slot) (λ node. g ≡ record f { node = put f.node (get_or keys i (key_of 0)).slot (Some (record node { body = RectBody rect })) })
      → Swapped f0 g (take (i + 1) keys) (take (i + 1) keys) [] (list_map (rect_node serial) (take (i + 1) parts))
  set_more g rect is after =
      let key : NodeKey = get_or keys i (key_of 0) in
      let was = set_of in
      let e : g ≡ record f { node = put f.node key.slot (Some (rect_node serial (get_or parts i zero_part))) } =
      subst (λ (o : Option Node). IfSome o (λ node. g ≡ record f { node = put f.node key.slot (Some (record node { body = RectBody rect })) })) was.1.0 after
      ∙ (ap (λ r. record f { node = put f.node key.slot (Some (record { item = was.0.item; body = RectBody r })) }) is
      ∙ ap (λ n. record f { node = put f.node key.slot (Some (record { item = n; body = RectBody (rect_of (get_or parts i zero_part)) })) }) was.1.1.0) in
      let lt_parts : i < length parts = omega arith in
      subst (λ xs. Swapped f0 g xs xs [] (list_map (rect_node serial) (take (i + 1) parts))) (sym (take_more keys i (key_of 0) lt))
      (subst (Swapped f0 g (take i keys ++ key ∷ []) (take i keys ++ key ∷ []) []) (sym (map_more (rect_node serial) parts i zero_part lt_parts))
      (swapped_append s
      (swapped_put f g key f.spare (rect_node serial (get_or parts i zero_part)) (key ∷ []) e (λ slot k. only_slot key slot k) (λ no. absurd (no (0, refl))))
      (λ slot k now. not_before keys i lt d (subst (IsSlotOf (take i keys)) (only_slot key slot now) k))
      (λ slot k now. not_before keys i lt d (subst (IsSlotOf (take i keys)) (only_slot key slot now) k))))

pub make_more : (f0 f g : Forest) (serial : ℕ) (keys : List NodeKey) (parts : List RectPart) (i : ℕ) (zero_part : RectPart) (key : NodeKey) → i < length keys → i < length parts
    → Swapped f0 f [] (take i keys) [] (list_map (rect_node serial) (take i parts)) → Swapped f g [] (key ∷ []) [] (rect_node serial (get_or parts i zero_part) ∷ [])
    → Swapped f0 g [] (take (i + 1) (set keys i key)) [] (list_map (rect_node serial) (take (i + 1) parts))
make_more f0 f g serial keys parts i zero_part key lt lt_parts s more =
    subst (λ xs. Swapped f0 g [] xs [] (list_map (rect_node serial) (take (i + 1) parts))) (sym (take_more_set keys i key lt))
    (subst (Swapped f0 g [] (take i keys ++ key ∷ []) []) (sym (map_more (rect_node serial) parts i zero_part lt_parts))
    (swapped_append s more (λ slot no. absurd (in_none (key_of slot) no)) (λ slot is no. in_none (key_of slot) no)))

pub set_spare : (f g : Forest) (slot : ℕ) (node : Node) (rect : RectNode) → f.node slot ≡ Some node
    → IfSome (f.node slot) (λ node. g ≡ record f { node = put f.node slot (Some (record node { body = RectBody rect })) }) → g.spare ≡ f.spare
set_spare f g slot node rect e after =
    ap (λ (h : Forest). h.spare) (subst (λ (o : Option Node). IfSome o (λ node. g ≡ record f { node = put f.node slot (Some (record node { body = RectBody rect })) })) e after)

-- the rectangles of an item, as they were or made anew
pub rects_kept : (f g : Forest) (keys was : List NodeKey) (nodes : List Node) → was ≡ keys → Swapped f g was was [] nodes → Swapped f g keys keys keys nodes
rects_kept f g keys was nodes e s = swapped_wider f g keys keys keys nodes (subst (λ (ks : List NodeKey). Swapped f g ks ks [] nodes) e s)

pub rects_made : (f g h : Forest) (keys was new : List NodeKey) (nodes : List Node) → was ≡ keys → Swapped f g was [] was [] → Swapped g h [] new [] nodes → Swapped f h keys new keys nodes
rects_made f g h keys was new nodes e a b =
    subst (λ (ks : List NodeKey). Swapped f h ks new ks nodes) (append-nil was ∙ e)
    (swapped_append a b (λ slot is no. in_none (key_of slot) no) (λ slot no. absurd (in_none (key_of slot) no)))
