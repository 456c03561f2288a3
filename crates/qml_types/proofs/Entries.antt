-- Maps with a key more.
use Rattle.std.proofs.Common.{◌≡◌, ◌∙◌, ℕ, nat_eq, Bool, true, false, cond, ◌||◌, if◌then◌else◌, map, List, [], ◌∷◌, ◌++◌, None, is_some, refl, sym, ap, arith}
use Rattle.std.specs.Cmp.Lexicographic.{pointwise}
use Rattle.std.specs.Map.{lookup}
use Rattle.std.proofs.lemmas.List.{map-append}
use Rattle.std.specs.List.{list_any}
use Rattle.std.specs.Prelude.{String}
use Rattle.std.specs.String.{string_bytes, string_eq}
use Rattle.indexmap.specs.IndexMap.{insert_entry}
use Rattle.indexmap.specs.IndexSet.{insert_key}
use Rattle.qml_types.specs.Rules.{among, with_name}
use Rattle.qml_types.specs.declared.features.Feature.{Feature}
use Rattle.qml_types.specs.Features.{Features, meaning, with_feature}
use Rattle.qml_types.specs.Known.{KnownTypes, known_type}
use Rattle.qml_types.specs.declared.component.ComponentType.{ComponentType}

-- a key that is not there goes last
pub insert_absent : {K X : Type 0} (eq : K → K → Bool) (es : List (K × X)) (k : K) (v : X) → is_some (lookup (eq k) es) ≡ false →
    insert_entry eq es k v ≡ es ++ (k, v) ∷ []
insert_absent eq [] k v absent = refl
insert_absent {K} {X} eq (e ∷ es) k v absent = by (eq k e.0) refl (λ none. insert_absent eq es k v none)
  where
    by : (b : Bool) → eq k e.0 ≡ b → (is_some (lookup (eq k) es) ≡ false → insert_entry eq es k v ≡ es ++ (k, v) ∷ []) →
        insert_entry eq (e ∷ es) k v ≡ (e ∷ es) ++ (k, v) ∷ []
    by true is rest = let no : true ≡ false = rw is at absent in absurd cc
    by false is rest =
        let none : is_some (lookup (eq k) es) ≡ false = rw is at absent in
        rw is (ap (λ more. e ∷ more) (rest none))

pub new_feature : (features : Features) (name : List ℕ) (feature : Feature) → is_some (meaning name features) ≡ false →
    insert_entry (pointwise nat_eq) features name feature ≡ with_feature features (name, feature)
unfolding with_feature
new_feature features name feature absent = rw absent (insert_absent (pointwise nat_eq) features name feature absent)

pub new_type : (known : KnownTypes) (name : List ℕ) (component : ComponentType) → known_type known name ≡ None →
    insert_entry (pointwise nat_eq) known name component ≡ known ++ (name, component) ∷ []
new_type known name component none = insert_absent (pointwise nat_eq) known name component (ap is_some none)

-- ---- texts that were given
pub texts_among : {Z : Type 0} (keys : List (String Z)) (text : String Z) → list_any (string_eq text) keys ≡ among (map string_bytes keys) (string_bytes text)
texts_among [] text = refl
texts_among (key ∷ keys) text = ap (λ b. string_eq text key || b) (texts_among keys text)

with_text : {Z : Type 0} (keys : List (String Z)) (text : String Z) (b : Bool) →
    map string_bytes (if b then keys else keys ++ text ∷ []) ≡ (if b then map string_bytes keys else map string_bytes keys ++ (string_bytes text ∷ []))
with_text keys text true = refl
with_text keys text false = map-append string_bytes keys (text ∷ [])

pub texts_with : {Z : Type 0} (keys : List (String Z)) (text : String Z) →
    map string_bytes (insert_key string_eq keys text) ≡ with_name (map string_bytes keys) (string_bytes text)
texts_with keys text =
    with_text keys text (list_any (string_eq text) keys)
    ∙ ap (λ b. if b then map string_bytes keys else map string_bytes keys ++ (string_bytes text ∷ [])) (texts_among keys text)
