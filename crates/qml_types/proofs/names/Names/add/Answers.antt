use Rattle.std.proofs.Common.{◌∙◌, not, map, ap}
use Rattle.std.specs.String.{string_bytes}
use Rattle.qml_types.specs.Rules.{among, with_name}
use Rattle.qml_types.proofs.Entries.{texts_among, texts_with}
use Rattle.qml_types.proofs.names.Names.add.Goals as goal

pub returns-clause-fresh : goal.returns-clause-fresh
returns-clause-fresh c =
    let keys = c.self.inside.texts.keys in
    c.in_ok-fresh.ensures.added
    ∙ ap not (texts_among keys c.in_ok-text.text ∙ ap (among (map string_bytes keys)) c.in_ok-text.ensures.ok
    ∙ ap (λ names. among names c.args.name.now) c.self.view_is)

pub returns-clause-added : goal.returns-clause-added
returns-clause-added c =
    let keys = c.self.inside.texts.keys in
    ap (map string_bytes) c.in_ok-fresh.ensures.keys
    ∙ texts_with keys c.in_ok-text.text ∙ ap (with_name (map string_bytes keys)) c.in_ok-text.ensures.ok
    ∙ ap (λ names. with_name names c.args.name.now) c.self.view_is
