-- What is taken back where a making fails.
use Rattle.std.specs.Prelude.{◌≡◌, ℕ, ◌+◌, ◌<◌, ◌≤◌, ◌⊎◌, None, List, [], ◌∷◌, take, length}
use Rattle.std.specs.List.{All}
use Rattle.arena.specs.Arena.{up_to}
use Rattle.qml_types.specs.declared.component.Base.{Base, fold-Base}
use Rattle.qml_types.specs.declared.component.Base.TheOpen.{Base-F, ComponentType-F, ObjectDecl-F}
use Rattle.qml_types.specs.declared.component.ComponentType.{ComponentType, fold-ComponentType}
use Rattle.object_tree.specs.declared.instance.Instance.{Instance}
use Rattle.object_tree.specs.declared.undoing.Mark.{Mark}
use Rattle.object_tree.specs.Growing.{context_at, serials_of}
use Rattle.object_tree.specs.Reading.{instance_at, owned_by}
use Rattle.object_tree.specs.Store.{Store}
use Rattle.object_tree.specs.Writing.{with_instance}

-- what the store is before something is made in an object
abbrev pub mark_of : ℕ → Store → Mark
mark_of parent store = record {
  serial = store.objects.last;
  context = length store.contexts;
  parent = parent;
  children = length (owned_by parent store);
}

abbrev pub with_first_children : ℕ → Instance → Instance
with_first_children count instance = record instance { children = take count instance.children }

-- without the objects and the contexts that came since
abbrev pub without_new : Mark → Store → Store
without_new mark store = record store { objects = up_to mark.serial store.objects; contexts = take mark.context store.contexts }

-- and the object in which they were made owns what it owned
abbrev pub undone : Mark → Store → Store
undone mark store = with_instance (with_first_children mark.children) mark.parent (without_new mark store)

-- ---- a making that goes on
-- what a making in an object has made so far of the first store
pub record IsBegun (parent : ℕ) (first store : Store) : Type 0 where
  -- the first store is what there is once it is undone
  pub goes_back : undone (mark_of parent first) store ≡ first
  pub serials : first.objects.last ≤ store.objects.last
  -- the new contexts have new objects alone
  pub new_alone : (number : ℕ) → length first.contexts < number → All (λ serial. first.objects.last < serial) (serials_of (context_at number store))
  pub no_object : instance_at 0 first ≡ None

-- the making goes on, wherever it was begun, if what it works at has this to do with where it was
abbrev pub GoesOn : (ℕ → Store → Type 0) → Store → Store → Type 0
GoesOn IsThere old new = (parent : ℕ) (first : Store) → IsBegun parent first old → IsThere parent first → IsBegun parent first new

-- wherever it is
abbrev pub Anywhere : ℕ → Store → Type 0
Anywhere parent first = Unit {0}

-- an object that was made, or none
abbrev pub IsNew : ℕ → Store → Type 0
IsNew serial first = (first.objects.last < serial) ⊎ (serial ≡ 0)

-- the object in which it is made, or one of those that were
abbrev pub IsOwner : ℕ → ℕ → Store → Type 0
IsOwner owner parent first = (owner ≡ parent) ⊎ IsNew owner first

-- a context and an object that were made
abbrev pub AreNew : ℕ → ℕ → ℕ → Store → Type 0
AreNew number serial parent first = (length first.contexts < number) × (first.objects.last < serial)

-- the last so many contexts up to this one were made
abbrev pub IsLastOf : ℕ → ℕ → ℕ → Store → Type 0
IsLastOf count number parent first = length first.contexts + count ≤ number

-- ---- of how many documents a root is made, each of them in a context of its own
abbrev pub base_documents : Base-F ℕ ℕ ℕ → ℕ
base_documents (Base-F.BuiltIn t) = 0
base_documents (Base-F.Document documents) = documents

abbrev pub root_documents : List ℕ → ℕ
root_documents [] = 0
root_documents (root ∷ objects) = root + 1

abbrev pub component_documents : ComponentType-F ℕ ℕ ℕ → ℕ
component_documents component = root_documents component.objects

abbrev pub object_documents : ObjectDecl-F ℕ ℕ ℕ → ℕ
object_documents object = object.base

unfoldable pub documents_of : ComponentType → ℕ
documents_of = fold-ComponentType ℕ ℕ ℕ base_documents component_documents object_documents

unfoldable pub documents_under : Base → ℕ
documents_under = fold-Base ℕ ℕ ℕ base_documents component_documents object_documents
