use Rattle.std.proofs.Common.{◌≡◌, true, rules}
use Rattle.gql_nodes.specs.Listed.{views}
use Rattle.gql_validate.specs.Merged as spec
use Rattle.gql_validate.proofs.Spreading.{led_already}
use Rattle.gql_validate.proofs.spoiled.put_led.Goals as goal

pub returns-then-contains : goal.returns-then-contains
returns-then-contains c =
    let e : spec.stands c.args.spoiled.now.keys c.args.p ≡ true = search rules in
    led_already (views c.args.graph.now.nodes.now) c.args.graph.now.tables c.args.spoiled.now.keys c.args.p e
