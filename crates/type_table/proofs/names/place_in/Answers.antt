use Rattle.std.proofs.Common.{sym, ◌∙◌, nat_eq}
use Rattle.std.specs.Cmp.Lexicographic.{pointwise}
use Rattle.type_table.proofs.Places.{position-map}
use Rattle.type_table.proofs.names.place_in.Goals as goal

pub returns-in-Some : goal.returns-in-Some
returns-in-Some c = c.in-Some.ensures ∙ sym (position-map (λ n. pointwise nat_eq n c.args.name.now) (λ n. n.now) c.args.names.now)

pub returns-in-None : goal.returns-in-None
returns-in-None c = c.in-None.ensures ∙ sym (position-map (λ n. pointwise nat_eq n c.args.name.now) (λ n. n.now) c.args.names.now)
