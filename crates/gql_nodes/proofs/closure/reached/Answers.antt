use Rattle.std.proofs.Common.{◌≡◌, ◌≤◌, length, Some, None, [], ap, ◌∙◌, rules}
use Rattle.std.specs.Prelude.{slice_get}
use Rattle.indexmap.specs.IndexSet.{insert_all as with_all}
use Rattle.gql_nodes.proofs.Closures.{begins, grows, ends, past}
use Rattle.gql_nodes.proofs.closure.reached.Goals as goal

pub loop-at-init : goal.loop-at-init
loop-at-init g c =
    let eq = g.G.Node.PartialEq.eq in
    let e : c.insert_each.new.found.keys ≡ with_all eq c.new-found.result.keys c.args.first.now = search rules in
    let empty : c.new-found.result.keys ≡ [] = search rules in
    begins _ g.met.G.Graph.tells _ _ _ (e ∙ ap (λ l. with_all eq l c.args.first.now) empty)

pub returns-in_default : goal.returns-in_default
returns-in_default g c =
    let e : slice_get c.loop-at.found.keys c.loop-at.at ≡ None = search rules in
    ends _ g.met.G.Graph.tells _ _ _ _ c.loop-at.invariant (past _ _ e)

pub loop-at-preserved : goal.loop-at-preserved
loop-at-preserved g c =
    let eq = g.G.Node.PartialEq.eq in
    let e : slice_get c.loop-at.found.keys c.loop-at.at ≡ Some c.in-Some.met.now = search rules in
    let put : c.insert_each-in-loop-at.new.found.keys ≡ with_all eq c.loop-at.found.keys c.as_slice.result.now = search rules in
    let due : c.as_slice.result.now ≡ g.G.Graph.steps c.args.graph.now c.in-Some.met.now = search rules in
    grows _ g.met.G.Graph.tells _ _ _ _ _ _ c.loop-at.invariant e (put ∙ ap (λ l. with_all eq c.loop-at.found.keys l) due)

pub returns : goal.returns
returns g c =
    let short : length c.loop-at.found.keys ≤ c.loop-at.at = search rules in
    ends _ g.met.G.Graph.tells _ _ _ _ c.loop-at.invariant short
