-- Component types that keep their sizes.
use Rattle.std.specs.Prelude.{◌≡◌, Some}
use Rattle.std.specs.List.{All, Contains}
use Rattle.qml_types.specs.declared.component.Base.{out-Base}
use Rattle.qml_types.specs.declared.component.Base.TheOpen.{Base-F}
use Rattle.qml_types.specs.declared.component.ComponentType.{ComponentType, out-ComponentType}
use Rattle.qml_types.specs.declared.component.ObjectDecl.{ObjectDecl, out-ObjectDecl}
use Rattle.qml_types.specs.Known.{KnownTypes}
use Rattle.qml_types.specs.Sizes.{sizes_made}

-- the sizes that a component type keeps are those of one making of it, and the same holds of the documents on which
-- its objects stand, and of what each inline Component in it declares
pub data IsSized : ComponentType → Type 0 where
  sized : (component : ComponentType)
      → (out-ComponentType component).sizes ≡ sizes_made component
      → ((object : ObjectDecl) (document : ComponentType) → Contains (out-ComponentType component).objects object
      → out-Base (out-ObjectDecl object).base ≡ Base-F.Document document → IsSized document)
      → ((object : ObjectDecl) (inner : ComponentType) → Contains (out-ComponentType component).objects object
      → (out-ObjectDecl object).inner ≡ Some inner → IsSized inner)
      → IsSized component

-- each of these types keeps its sizes
abbrev pub AreSized : KnownTypes → Type 0
AreSized known = All (λ entry. IsSized entry.1) known
