-- Nodes that move to the end of a parent's children.
use Rattle.std.proofs.Common.{◌≡◌, ◌≢◌, ◌==◌, not, ◌⊎◌, ⊎_elim, inl, inr, ℕ, zero, suc, Bool, true, cond, List, [], ◌∷◌, ◌++◌, Some, None, refl, ap, sym, ◌∙◌, subst, eq-eqb, append_assoc, append-nil}
use Rattle.std.specs.List.{slice_get}
use Rattle.std.proofs.lemmas.Bool.{cases_eq, ne_eqb, both_ways}
use Rattle.std.proofs.lemmas.List.Elements.{filter-append}
use Rattle.sg_nodes.specs.Forest.{Forest, IsFrom, Steps, without, moved}
use Rattle.sg_sync.specs.Own.{IsIn}
use Rattle.sg_sync.specs.Linking.{linked, CanMove, HasSegment, Distinct}
use Rattle.sg_sync.proofs.Members.{in_none, in_rest, first_or_rest, in_left, in_right, in_either, without_absent, in_without, in_without_other, segment_without, segment_pushed}

-- one that moves
moved_here : (children : ℕ → List ℕ) (slot parent a : ℕ) → a ≡ parent → moved children slot parent None a ≡ without slot (children a) ++ slot ∷ []
moved_here children slot parent a e = ap (λ b. cond b (without slot (children a) ++ slot ∷ []) (without slot (children a))) (eq-eqb a parent e)

moved_else : (children : ℕ → List ℕ) (slot parent a : ℕ) → a ≢ parent → moved children slot parent None a ≡ without slot (children a)
moved_else children slot parent a ne = ap (λ b. cond b (without slot (children a) ++ slot ∷ []) (without slot (children a))) (ne_eqb a parent ne)

moved_was : (children : ℕ → List ℕ) (slot parent a x : ℕ) → IsIn (moved children slot parent None a) x → IsIn (children a) x ⊎ ((a ≡ parent) × (slot ≡ x))
moved_was children slot parent a x is =
    ⊎_elim
    (λ (e : a ≡ parent).
    ⊎_elim (λ (there : IsIn (without slot (children a)) x). inl (in_without (children a) slot x there))
    (λ (last : IsIn (slot ∷ []) x). ⊎_elim (λ (same : slot ≡ x). inr (e, same)) (λ (no : IsIn [] x). absurd (in_none x no)) (first_or_rest slot [] x last))
    (in_either (without slot (children a)) (slot ∷ []) x (subst (λ xs. IsIn xs x) (moved_here children slot parent a e) is)))
    (λ (ne : a ≢ parent). inl (in_without (children a) slot x (subst (λ xs. IsIn xs x) (moved_else children slot parent a ne) is)))
    (cases_eq a parent)

moved_stays : (children : ℕ → List ℕ) (slot parent x : ℕ) → IsIn (children parent) x → IsIn (moved children slot parent None parent) x
moved_stays children slot parent x is =
    subst (λ xs. IsIn xs x) (sym (moved_here children slot parent parent refl))
    (⊎_elim
    (λ (e : slot ≡ x). in_right (without slot (children parent)) (slot ∷ []) x (zero, ap Some e))
    (λ (ne : slot ≢ x). in_left (without slot (children parent)) (slot ∷ []) x (in_without_other (children parent) slot x is (λ e. ne (sym e))))
    (cases_eq slot x))

moved_there : (children : ℕ → List ℕ) (slot parent : ℕ) → IsIn (moved children slot parent None parent) slot
moved_there children slot parent =
    subst (λ xs. IsIn xs slot) (sym (moved_here children slot parent parent refl)) (in_right (without slot (children parent)) (slot ∷ []) slot (zero, refl))

moved_segment : (children : ℕ → List ℕ) (slot parent a : ℕ) (segment : List ℕ) → HasSegment (children a) segment → ¬ IsIn segment slot → HasSegment (moved children slot parent None a) segment
moved_segment children slot parent a segment has absent =
    ⊎_elim
    (λ (e : a ≡ parent).
    subst (λ xs. HasSegment xs segment) (sym (moved_here children slot parent a e))
    (segment_pushed (without slot (children a)) segment slot (segment_without (children a) segment slot has absent)))
    (λ (ne : a ≢ parent).
    subst (λ xs. HasSegment xs segment) (sym (moved_else children slot parent a ne)) (segment_without (children a) segment slot has absent))
    (cases_eq a parent)

-- several that move
pub linked-append : (children : ℕ → List ℕ) (xs ys : List ℕ) (parent : ℕ) → linked children (xs ++ ys) parent ≡ linked (linked children xs parent) ys parent
linked-append children [] ys parent = refl
linked-append children (x ∷ xs) ys parent = linked-append (moved children x parent None) xs ys parent

pub linked_was : (children : ℕ → List ℕ) (slots : List ℕ) (parent a x : ℕ) → IsIn (linked children slots parent a) x → IsIn (children a) x ⊎ ((a ≡ parent) × IsIn slots x)
linked_was children [] parent a x is = inl is
linked_was children (s ∷ slots) parent a x is =
    ⊎_elim
    (λ (old : IsIn (moved children s parent None a) x).
    ⊎_elim (λ (was : IsIn (children a) x). inl was) (λ (new : (a ≡ parent) × (s ≡ x)). inr (new.0, (zero, ap Some new.1)))
    (moved_was children s parent a x old))
    (λ (new : (a ≡ parent) × IsIn slots x). inr (new.0, in_rest s slots x new.1))
    (linked_was (moved children s parent None) slots parent a x is)

linked_stays : (children : ℕ → List ℕ) (slots : List ℕ) (parent x : ℕ) → IsIn (children parent) x → IsIn (linked children slots parent parent) x
linked_stays children [] parent x is = is
linked_stays children (s ∷ slots) parent x is = linked_stays (moved children s parent None) slots parent x (moved_stays children s parent x is)

pub linked_there : (children : ℕ → List ℕ) (slots : List ℕ) (parent x : ℕ) → IsIn slots x → IsIn (linked children slots parent parent) x
linked_there children [] parent x is = absurd (in_none x is)
linked_there children (s ∷ slots) parent x is =
    ⊎_elim
    (λ (e : s ≡ x). linked_stays (moved children s parent None) slots parent x (subst (λ y. IsIn (moved children s parent None parent) y) e (moved_there children s parent)))
    (λ (rest : IsIn slots x). linked_there (moved children s parent None) slots parent x rest)
    (first_or_rest s slots x is)

pub linked_segment : (children : ℕ → List ℕ) (slots : List ℕ) (parent a : ℕ) (segment : List ℕ) → HasSegment (children a) segment
    → ((x : ℕ) → IsIn segment x → ¬ IsIn slots x) → HasSegment (linked children slots parent a) segment
linked_segment children [] parent a segment has apart = has
linked_segment children (s ∷ slots) parent a segment has apart =
    linked_segment (moved children s parent None) slots parent a segment
    (moved_segment children s parent a segment has (λ is. apart s is (zero, refl)))
    (λ x is there. apart x is (in_rest s slots x there))

linked_after : (children : ℕ → List ℕ) (slots : List ℕ) (parent : ℕ) (before done : List ℕ) → children parent ≡ before ++ done
    → ((x : ℕ) → IsIn done x → ¬ IsIn slots x) → Distinct slots → (b : List ℕ) × (linked children slots parent parent ≡ b ++ (done ++ slots))
linked_after children [] parent before done is apart once = (before, is ∙ ap (λ ys. before ++ ys) (sym (append-nil done)))
linked_after children (s ∷ slots) parent before done is apart once =
    let now : moved children s parent None parent ≡ without s before ++ (done ++ s ∷ []) =
    moved_here children s parent parent refl
    ∙ (ap (λ ys. without s ys ++ s ∷ []) is
    ∙ (ap (λ ys. ys ++ s ∷ []) (filter-append (λ x. not (x == s)) before done ∙ ap (λ ys. without s before ++ ys) (without_absent done s (λ there. apart s there (zero, refl))))
    ∙ append_assoc (without s before) done (s ∷ []))) in
    let rest = linked_after (moved children s parent None) slots parent (without s before) (done ++ s ∷ []) now
    (λ x there.
    ⊎_elim (λ (old : IsIn done x). λ (later : IsIn slots x). apart x old (in_rest s slots x later))
    (λ (last : IsIn (s ∷ []) x). λ (later : IsIn slots x).
    ⊎_elim (λ (same : s ≡ x). once.0 (subst (λ y. IsIn slots y) (sym same) later)) (λ (no : IsIn [] x). in_none x no) (first_or_rest s [] x last))
    (in_either done (s ∷ []) x there))
    once.1 in
    (rest.0, rest.1 ∙ ap (λ ys. rest.0 ++ ys) (append_assoc done (s ∷ []) slots))

pub linked_own : (children : ℕ → List ℕ) (slots : List ℕ) (parent : ℕ) → Distinct slots → HasSegment (linked children slots parent parent) slots
linked_own children slots parent once =
    let found = linked_after children slots parent (children parent) [] (sym (append-nil (children parent))) (λ x no. absurd (in_none x no)) once in
    (found.0, ([], found.1 ∙ ap (λ ys. found.0 ++ ys) (sym (append-nil slots))))

-- what stands above one of the upper nodes is one of them
from_up : (f : Forest) (up : ℕ → Bool) (n above below : ℕ) → ((a place child : ℕ) → slice_get (f.children a) place ≡ Some child → up child ≡ true → up a ≡ true)
    → Steps f n above below → up below ≡ true → up above ≡ true
from_up f up zero above below closed p e = ap up p ∙ e
from_up f up (suc n) above below closed p e = closed above p.1.0.0 p.0 p.1.0.1 (from_up f up n p.0 below closed p.1.1 e)

pub not_above : (f : Forest) (parent : ℕ) (slots : List ℕ) (slot : ℕ) → CanMove f parent slots → IsIn slots slot → ¬ IsFrom f slot parent
not_above f parent slots slot can is p = both_ways (can.up slot) (can.lower slot is) (from_up f can.up p.0 slot parent can.closed p.1 can.here)

pub can_step : (f : Forest) (parent slot : ℕ) (slots : List ℕ) → CanMove f parent (slot ∷ slots) → CanMove (record f { children = moved f.children slot parent None }) parent slots
can_step f parent slot slots can = record {
  up = can.up;
  here = can.here;
  closed = λ a place child e is.
      ⊎_elim (λ (was : IsIn (f.children a) child). can.closed a was.0 child was.1 is)
      (λ (new : (a ≡ parent) × (slot ≡ child)). ap can.up new.0 ∙ can.here)
      (moved_was f.children slot parent a child (place, e));
  lower = λ s is. can.lower s (in_rest slot slots s is);
  live = λ s is. can.live s (in_rest slot slots s is);
  not_root = λ s is. can.not_root s (in_rest slot slots s is);
  parent_live = can.parent_live;
}

pub can_after : (f : Forest) (parent : ℕ) (xs ys : List ℕ) → CanMove f parent (xs ++ ys) → CanMove (record f { children = linked f.children xs parent }) parent ys
can_after f parent [] ys can = can
can_after f parent (x ∷ xs) ys can = can_after (record f { children = moved f.children x parent None }) parent xs ys (can_step f parent x (xs ++ ys) can)

pub can_first : (f : Forest) (parent : ℕ) (xs ys : List ℕ) → CanMove f parent (xs ++ ys) → CanMove f parent xs
can_first f parent xs ys can = record {
  up = can.up;
  here = can.here;
  closed = can.closed;
  lower = λ s is. can.lower s (in_left xs ys s is);
  live = λ s is. can.live s (in_left xs ys s is);
  not_root = λ s is. can.not_root s (in_left xs ys s is);
  parent_live = can.parent_live;
}
