-- The types that a document names and the engine has not.
use Rattle.std.specs.Prelude.{ℕ, Bool, ◌||◌, is_some, List, [], ◌∷◌, ◌++◌, fold, map, if◌then◌else◌}
use Rattle.type_table.specs.Names.{built_in_named}
use Rattle.qml_ast.specs.declared.document.Document.{Document}
use Rattle.qml_types.specs.declared.mention.Mention.{Mention}
use Rattle.qml_types.specs.Readings.{reading_of}
use Rattle.qml_types.specs.Rules.{among}

-- the mentions, with this one last, unless the type is built in or was mentioned before
unfoldable pub with_mention : List Mention → Mention → List Mention
with_mention mentions mention =
    if is_some (built_in_named mention.name) || among (map (λ m. m.name) mentions) mention.name then mentions else mentions ++ (mention ∷ [])

-- The types that a document names and the engine has not, each with its first place, in the order of the text: as
-- the type of an object, as the kind of a property or as the kind of a signal's parameter.
unfoldable pub mentions_of : Document → List Mention
mentions_of document = fold with_mention [] (reading_of document.root).types
