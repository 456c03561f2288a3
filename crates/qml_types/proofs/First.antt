-- The first of several faults.
use Rattle.std.proofs.Common.{◌≡◌, ◌≢◌, ◌∙◌, ℕ, zero, suc, Bool, true, false, if◌then◌else◌, Option, None, Some, Result, Ok, Err, List, [], ◌∷◌, refl, sym, ap, subst, arith}
use Rattle.std.proofs.lemmas.Cmp.{nat_cmp_total, on_total, then_total, tied_itself, upto}
use Rattle.std.specs.Cmp.{IsTotalOrder}
use Rattle.std.specs.List.{Contains}
use Rattle.std.specs.Ordering.{is_lt, is_gt, ordering_reverse}
use Rattle.std.specs.declared.cmp.Ordering.{Ordering}
use Rattle.std.specs.declared.cmp.Ordering.TheVariants.{Less, Equal, Greater}
use Rattle.qml_ast.specs.declared.document.Document.{Document}
use Rattle.qml_ast.specs.declared.fault.DocFault.{DocFault}
use Rattle.qml_ast.specs.declared.fault.DocFault.TheVariants.{NotUtf8, BadToken, Syntax, TooDeep, Unsupported, UnknownType, UnknownProperty, BadId, DuplicateId, DuplicateName, WrongLiteral, ReadOnly, NoMemory}
use Rattle.qml_types.specs.Compiled.{answer, compiled, faults_of, Gives}
use Rattle.qml_types.specs.Faults.{earlier, fault_cmp, IsFirstOf, place, rank, told}
use Rattle.qml_types.specs.Known.{KnownTypes}
use Rattle.qml_types.specs.Placed.{component_of}
use Rattle.qml_types.specs.Readings.{reading_of}
use Rattle.qml_types.specs.declared.component.ComponentType.{ComponentType}

-- ---- the order of faults
faults_total : IsTotalOrder fault_cmp
unfolding fault_cmp
faults_total =
    then_total (on_total (λ (f : DocFault). (place f).line) nat_cmp_total)
    (then_total (on_total (λ (f : DocFault). (place f).col) nat_cmp_total) (on_total rank nat_cmp_total))

reversed : (o : Ordering) → is_lt (ordering_reverse o) ≡ is_gt o
reversed Less = refl
reversed Equal = refl
reversed Greater = refl

-- what does not stand before a fault is not what the fault stands behind
other_way : (f g : DocFault) → is_lt (fault_cmp f g) ≡ is_gt (fault_cmp g f)
other_way f g = ap is_lt (faults_total.antisymm f g) ∙ reversed (fault_cmp g f)

less_not_greater : (o : Ordering) → is_lt o ≡ true → is_gt o ≡ false
less_not_greater Less is = refl
less_not_greater Equal is = refl
less_not_greater Greater is = absurd cc

-- what stands before neither of two faults in order stands before neither
behind : (first middle last : DocFault) → is_lt (fault_cmp middle first) ≡ false → is_gt (fault_cmp middle last) ≡ false → is_lt (fault_cmp last first) ≡ false
behind first middle last a b = other_way last first ∙ upto faults_total first middle last (sym (other_way middle first) ∙ a) b

itself : (fault : DocFault) → is_lt (fault_cmp fault fault) ≡ false
itself fault = ap is_lt (tied_itself faults_total fault)

-- ---- lists of faults
later : (f : DocFault) (fs : List DocFault) (x : DocFault) → Contains fs x → Contains (f ∷ fs) x
later f fs x (k, inside, is) = (suc k, omega arith, is)

contains_cases : (f : DocFault) (fs : List DocFault) (x : DocFault) (G : Type 0) → Contains (f ∷ fs) x → (f ≡ x → G) → (Contains fs x → G) → G
contains_cases f fs x G (zero, inside, is) head rest = head is
contains_cases f fs x G (suc k, inside, is) head rest = rest (k, omega arith, is)

first_alone : (fault : DocFault) → IsFirstOf (fault ∷ []) fault
first_alone fault = record {
  one = (0, omega arith, refl);
  none_before = λ other among. contains_cases fault [] other (is_lt (fault_cmp other fault) ≡ false) among
      (λ same. subst (λ o. is_lt (fault_cmp o fault) ≡ false) same (itself fault))
      (λ none. absurd (omega (arith, none.1)));
}

-- The first of a list is that of one fault more, where one of the list's is not behind that.
keep_second : (m n fault : DocFault) (fs : List DocFault) → is_gt (fault_cmp n m) ≡ false → IsFirstOf (n ∷ fs) fault → IsFirstOf (m ∷ n ∷ fs) fault
keep_second m n fault fs ordered first = record {
  one = later m (n ∷ fs) fault first.one;
  none_before = λ other among. contains_cases m (n ∷ fs) other (is_lt (fault_cmp other fault) ≡ false) among
      (λ same. subst (λ o. is_lt (fault_cmp o fault) ≡ false) same (behind fault n m (first.none_before n (0, omega arith, refl)) ordered))
      (λ rest. first.none_before other rest);
}

swapped : (m n x : DocFault) (fs : List DocFault) → Contains (m ∷ n ∷ fs) x → Contains (n ∷ m ∷ fs) x
swapped m n x fs among =
    contains_cases m (n ∷ fs) x (Contains (n ∷ m ∷ fs) x) among
    (λ same. (1, omega arith, same))
    (λ rest. contains_cases n fs x (Contains (n ∷ m ∷ fs) x) rest (λ same. (0, omega arith, same)) (λ deeper. later n (m ∷ fs) x (later m fs x deeper)))

keep_first : (m n fault : DocFault) (fs : List DocFault) → is_gt (fault_cmp n m) ≡ false → IsFirstOf (n ∷ fs) fault → IsFirstOf (n ∷ m ∷ fs) fault
keep_first m n fault fs ordered first =
    let both = keep_second m n fault fs ordered first in
    record { one = swapped m n fault fs both.one; none_before = λ other among. both.none_before other (swapped n m other fs among) }

earlier_of : (found fault : DocFault) (b : Bool) → is_lt (fault_cmp fault found) ≡ b → earlier (Some found) fault ≡ Some (if b then fault else found)
unfolding earlier
earlier_of found fault true is = rw is refl
earlier_of found fault false is = rw is refl

-- what is told is the first
pub told_is_first : (faults : List DocFault) (found fault : DocFault) → told (Some found) faults ≡ Some fault → IsFirstOf (found ∷ faults) fault
told_is_first [] found fault is =
    let same : found ≡ fault = cc in
    subst (λ f. IsFirstOf (found ∷ []) f) same (first_alone found)
told_is_first (f ∷ fs) found fault is = by (is_lt (fault_cmp f found)) refl (λ one. told_is_first fs one fault)
  where
    by : (b : Bool) → is_lt (fault_cmp f found) ≡ b → ((one : DocFault) → told (Some one) fs ≡ Some fault → IsFirstOf (one ∷ fs) fault) → IsFirstOf (found ∷ f ∷ fs) fault
    by true before rest =
        keep_second found f fault fs (less_not_greater (fault_cmp f found) before)
        (rest f (ap (λ o. told o fs) (sym (earlier_of found f true before)) ∙ is))
    by false not_before rest =
        keep_first f found fault fs (sym (other_way f found) ∙ not_before)
        (rest found (ap (λ o. told o fs) (sym (earlier_of found f false not_before)) ∙ is))

none_first : (fault : DocFault) → earlier None fault ≡ Some fault
unfolding earlier
none_first fault = refl

pub first_told : (faults : List DocFault) (fault : DocFault) → told None faults ≡ Some fault → IsFirstOf faults fault
first_told [] fault is = absurd cc
first_told (f ∷ fs) fault is = told_is_first fs f fault (ap (λ o. told o fs) (sym (none_first f)) ∙ is)

-- where there is a fault, one is told
some_told : (faults : List DocFault) (found : DocFault) → told (Some found) faults ≢ None
some_told [] found is = absurd cc
some_told (f ∷ fs) found is = by (is_lt (fault_cmp f found)) refl (some_told fs)
  where
    by : (b : Bool) → is_lt (fault_cmp f found) ≡ b → ((one : DocFault) → told (Some one) fs ≢ None) → ⊥
    by true before rest = rest f (ap (λ o. told o fs) (sym (earlier_of found f true before)) ∙ is)
    by false not_before rest = rest found (ap (λ o. told o fs) (sym (earlier_of found f false not_before)) ∙ is)

pub none_told : (faults : List DocFault) → told None faults ≡ None → faults ≡ []
none_told [] is = refl
none_told (f ∷ fs) is = absurd (some_told fs f (ap (λ o. told o fs) (sym (none_first f)) ∙ is))

-- ---- answers
given_fault : (is : Result ComponentType DocFault) (fault : DocFault) → fault ≢ NoMemory → Gives is (Err fault) → is ≡ Err fault
given_fault is (NotUtf8 at) other gives = gives
given_fault is (BadToken at) other gives = gives
given_fault is (Syntax at) other gives = gives
given_fault is (TooDeep at) other gives = gives
given_fault is (Unsupported at) other gives = gives
given_fault is (UnknownType at) other gives = gives
given_fault is (UnknownProperty at) other gives = gives
given_fault is (BadId at) other gives = gives
given_fault is (DuplicateId at) other gives = gives
given_fault is (DuplicateName at) other gives = gives
given_fault is (WrongLiteral at) other gives = gives
given_fault is (ReadOnly at) other gives = gives
given_fault is NoMemory other gives = absurd (other refl)

given_none : (type : ComponentType) (fault : DocFault) → Gives (Ok type) (Err fault) → fault ≡ NoMemory
given_none type (NotUtf8 at) gives = absurd cc
given_none type (BadToken at) gives = absurd cc
given_none type (Syntax at) gives = absurd cc
given_none type (TooDeep at) gives = absurd cc
given_none type (Unsupported at) gives = absurd cc
given_none type (UnknownType at) gives = absurd cc
given_none type (UnknownProperty at) gives = absurd cc
given_none type (BadId at) gives = absurd cc
given_none type (DuplicateId at) gives = absurd cc
given_none type (DuplicateName at) gives = absurd cc
given_none type (WrongLiteral at) gives = absurd cc
given_none type (ReadOnly at) gives = absurd cc
given_none type NoMemory gives = refl

answered_fault : (first : Option DocFault) (type : ComponentType) (fault : DocFault) → answer first type ≡ Err fault → first ≡ Some fault
answered_fault None type fault is = absurd cc
answered_fault (Some f) type fault is = let same : f ≡ fault = cc in ap (λ x. Some x) same

answered_type : (first : Option DocFault) (type component : ComponentType) → answer first type ≡ Ok component → first ≡ None
answered_type None type component is = refl
answered_type (Some f) type component is = absurd cc

compiled_as : (file : List ℕ) (document : Document) (known : KnownTypes) → compiled file document known ≡ answer (told None (faults_of document known)) (component_of known file (reading_of document.root))
unfolding compiled
compiled_as file document known = refl

pub compiled_fault : (file : List ℕ) (document : Document) (known : KnownTypes) (fault : DocFault) → fault ≢ NoMemory → Gives (compiled file document known) (Err fault) → IsFirstOf (faults_of document known) fault
compiled_fault file document known fault other gives =
    first_told (faults_of document known) fault
    (answered_fault (told None (faults_of document known)) (component_of known file (reading_of document.root)) fault
    (sym (compiled_as file document known) ∙ given_fault (compiled file document known) fault other gives))

pub compiled_lawful : (file : List ℕ) (document : Document) (known : KnownTypes) (component : ComponentType) → Gives (compiled file document known) (Ok component) → faults_of document known ≡ []
compiled_lawful file document known component gives =
    none_told (faults_of document known)
    (answered_type (told None (faults_of document known)) (component_of known file (reading_of document.root)) component
    (sym (compiled_as file document known) ∙ gives))

pub compiled_made : (file : List ℕ) (document : Document) (known : KnownTypes) (fault : DocFault) → faults_of document known ≡ [] → Gives (compiled file document known) (Err fault) → fault ≡ NoMemory
compiled_made file document known fault lawful gives =
    let component = component_of known file (reading_of document.root) in
    let is : compiled file document known ≡ Ok component = compiled_as file document known ∙ ap (λ faults. answer (told None faults) component) lawful in
    given_none component fault (subst (λ r. Gives r (Err fault)) is gives)
