-- What an object's members declare, but for the objects in it.
use Rattle.std.specs.Prelude.{List}
use Rattle.std.specs.List.{flat_map}
use Rattle.qml_types.specs.Known.{KnownTypes}
use Rattle.qml_types.specs.Parts.{Part}
use Rattle.qml_types.specs.Placed.{slots_in, signals_in, methods_in, inits_in, handlers_in, ids_in, first_of_all}
use Rattle.qml_types.specs.declared.content.Behaviour.{Behaviour}
use Rattle.qml_types.specs.declared.content.Content.{Content}
use Rattle.qml_types.specs.declared.content.Interface.{Interface}

abbrev pub interface_in : KnownTypes → List Part → Interface
interface_in known parts = record {
  slots = flat_map (slots_in known) parts;
  signals = flat_map (signals_in known) parts;
  methods = flat_map methods_in parts;
}

abbrev pub behaviour_in : List Part → Behaviour
behaviour_in parts = record { inits = flat_map inits_in parts; handlers = flat_map handlers_in parts }

abbrev pub content_in : KnownTypes → List Part → Content
content_in known parts = record {
  id = first_of_all (flat_map ids_in parts);
  interface = interface_in known parts;
  behaviour = behaviour_in parts;
}
