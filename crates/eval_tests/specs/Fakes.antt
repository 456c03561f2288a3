-- What the names of the store stand for.
use Rattle.std.specs.Prelude.{ℕ, nat_lt, ◌==◌, Bool, List, [], ◌∷◌, Option, None, Some, option_map, unwrap_or, codes, bytes_eq, slice_get, if◌then◌else◌}
use Rattle.qml_ast.specs.declared.place.Place.{Place}
use Rattle.qml_ast.specs.declared.place.Side.TheVariants.{Shown}
use Rattle.expr_eval.specs.Meanings.{Meanings, Function, Arities}
use Rattle.expr_eval.specs.Senses.{entry_named}
use Rattle.expr_eval.specs.declared.found.Found.{Found}
use Rattle.expr_eval.specs.declared.found.Found.TheVariants as found
use Rattle.expr_eval.specs.declared.found.GlobalName.TheVariants.{Qt, Math, Console, Loader}
use Rattle.expr_eval.specs.declared.found.GroupName.{GroupName}
use Rattle.expr_eval.specs.declared.found.GroupName.TheVariants.{Anchors}
use Rattle.eval_tests.specs.declared.fake.Fake.{Fake}
use Rattle.eval_tests.specs.declared.fake.Returned.{Returned}

abbrev pub at : ℕ → Found
at slot = found.Place (record { serial = 5; slot = slot; side = Shown })

abbrev pub places : List (List ℕ × Found)
places = (codes "n", at 0) ∷ (codes "s", at 1) ∷ (codes "b", at 2) ∷ (codes "col", at 3) ∷ (codes "o", at 4) ∷ (codes "nul", at 5) ∷ (codes "line", at 6) ∷ (codes "later", at 7) ∷ []

abbrev pub things : List (List ℕ × Found)
things = (codes "other", found.Object 5) ∷ (codes "anchors", found.Group 5 Anchors) ∷ (codes "finished", found.Signal 5 0) ∷ (codes "twice", found.Method 5 0) ∷ (codes "down", found.Method 5 1) ∷ (codes "free", found.Method 5 2) ∷ (codes "start", found.Method 5 9) ∷ (codes "lost", found.Method 5 7) ∷ (codes "muted", found.Signal 5 1) ∷ (codes "Qt", found.Global Qt) ∷ (codes "Math", found.Global Math) ∷ (codes "console", found.Global Console) ∷ (codes "Loader", found.Global Loader) ∷ []

abbrev pub member_named : Option GroupName → List ℕ → Found
member_named None name = unwrap_or (entry_named name places) found.None
member_named (Some group) name = if bytes_eq name (codes "fill") then at 4 else found.None

abbrev pub function_of : Returned → Function
function_of returned = record { frame = record { context = 1; scope = 5 }; params = returned.params; body = returned.body }

abbrev pub fake_means : Fake → Meanings
fake_means fake = record {
  look = λ frame name. unwrap_or (entry_named name places) (unwrap_or (entry_named name things) found.None);
  member = λ of group name. member_named group name;
  read = λ place. unwrap_or (slice_get fake.values place.slot) fake.null;
  method = λ of method. option_map function_of (slice_get fake.methods method);
}

abbrev pub fake_clean : Fake → Place → Bool
fake_clean fake place = nat_lt place.slot fake.clean

-- `twice`, `down` and `free` take one argument, `start` none, and `finished` two
abbrev pub fake_arities : Arities
fake_arities = record {
  method = λ of method. if nat_lt method 3 then Some 1 else if method == 9 then Some 0 else None;
  signal = λ of signal. if signal == 0 then Some 2 else None;
}
