use Rattle.std.proofs.Common.{◌≡◌, ◌+◌, rules}
use Rattle.explain_text.proofs.Nodes.{nodes_counted}
use Rattle.explain_text.proofs.fetches.+count.Goals as goal

pub count_nodes-returns : goal.count_nodes-returns
count_nodes-returns t c =
    let itself : c.in_ok-own.own ≡ c.args.before + 1 = search rules in
    nodes_counted c.args.fetch.now _ _ _ _ itself c.as_slice.ensures c.in_ok-count.ensures
