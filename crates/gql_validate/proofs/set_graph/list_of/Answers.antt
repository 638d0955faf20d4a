use Rattle.std.proofs.Common.{◌≡◌, ◌∷◌, ◌++◌, [], Some, rules}
use Rattle.std.specs.Prelude.{slice_get}
use Rattle.gql_validate.proofs.Spreading.{next_listed}
use Rattle.gql_validate.proofs.set_graph.list_of.Goals as goal

pub loop-at-preserved : goal.loop-at-preserved
loop-at-preserved c =
    let there : slice_get c.args.found.now.keys c.loop-at.at ≡ Some c.in-Some.p.now = search rules in
    let put : c.push.new.self.items ≡ c.loop-at.list.items ++ c.in-Some.p.now ∷ [] = search rules in
    next_listed c.args.found.now.keys c.loop-at.list.items c.push.new.self.items c.loop-at.at c.in-Some.p.now there put c.loop-at.invariant
