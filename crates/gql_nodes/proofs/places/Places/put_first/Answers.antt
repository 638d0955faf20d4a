use Rattle.std.proofs.Common.{sym, ap, ◌∙◌}
use Rattle.gql_nodes.specs.Names as spec
use Rattle.gql_nodes.proofs.FirstPlaces.{put_first, kept_first}
use Rattle.gql_nodes.proofs.places.Places.put_first.Goals as goal

pub returns-in_ok-put-in-None : goal.returns-in_ok-put-in-None
returns-in_ok-put-in-None c other =
    ap (λ es. spec.place_in es other) c.in_ok-put-in-None.ensures
    ∙ put_first c.args.self.now c.args.name.now other c.args.place (sym c.find.ensures ∙ c.in-None.is)

pub returns-in-Some : goal.returns-in-Some
returns-in-Some c other = kept_first c.args.self.now c.args.name.now other c.args.place c.in-Some.field-0 (sym c.find.ensures ∙ c.in-Some.is)
