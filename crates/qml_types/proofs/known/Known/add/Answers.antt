use Rattle.std.proofs.Common.{◌≡◌, ◌++◌, ◌∷◌, [], sym, subst}
use Rattle.std.proofs.lemmas.List.Elements.{All-push}
use Rattle.qml_types.specs.Sized.{AreSized, IsSized}
use Rattle.qml_types.proofs.Entries.{new_type}
use Rattle.qml_types.proofs.known.Known.add.Goals as goal

pub returns-clause-added : goal.returns-clause-added
returns-clause-added c =
    let added = new_type c.args.self.now c.args.name c.args.component c.requires.new in
    cc (added, c.in_ok-insert.ensures.entries, c.in_ok-known.ensures)

pub invariant_of-self-2 : goal.invariant_of-self-2
invariant_of-self-2 c =
    let before = c.self.inside.types.entries in
    let added = new_type c.args.self.now c.args.name c.args.component c.requires.new in
    let is : c.insert.new.self.entries ≡ before ++ (c.args.name, c.args.component) ∷ [] = cc (added, c.self.view_is, c.in_ok-insert.ensures.entries, c.in_ok-known.ensures) in
    subst AreSized (sym is) (All-push (λ e. IsSized e.1) before (c.args.name, c.args.component) c.self.invariant c.requires.sized)
