use Rattle.std.proofs.Common.{◌≡◌, [], length, sym, subst, ◌∙◌, rules}
use Rattle.gql_nodes.specs.Listed.{views}
use Rattle.gql_validate.specs.Merged as spec
use Rattle.gql_validate.proofs.Least.{answer, no_answer}
use Rattle.gql_validate.proofs.Placed.{nil_of}
use Rattle.gql_validate.proofs.field_selection_merging.least_by_pairs.Goals as goal

pub returns-then-len-eq0 : goal.returns-then-len-eq0
returns-then-len-eq0 c =
    let put : c.put_clashes.new.spoiled.keys ≡ spec.put_clashes (views c.args.nodes.now) c.in_ok-tables.tables [] c.in_ok-found.found.items = search rules in
    let none : length c.put_clashes.new.spoiled.keys ≡ 0 = sym c.len.ensures.len ∙ c.if-len-eq0.true in
    no_answer (views c.args.nodes.now) c.in_ok-tables.tables c.in_ok-tables.ensures c.in_ok-found.found.items c.in_ok-found.ensures (sym put ∙ nil_of c.put_clashes.new.spoiled.keys none)

pub returns : goal.returns
returns c =
    let put : c.put_clashes.new.spoiled.keys ≡ spec.put_clashes (views c.args.nodes.now) c.in_ok-tables.tables [] c.in_ok-found.found.items = search rules in
    let same : c.as_slice-2.result.now ≡ c.in_ok-found.found.items = search rules in
    answer (views c.args.nodes.now) c.in_ok-tables.tables c.in_ok-tables.ensures c.in_ok-found.found.items c.in_ok-found.ensures c.put_clashes.new.spoiled.keys c.in_ok-made.made put
    (subst (λ l. spec.IsLeastFrom (views c.args.nodes.now) c.in_ok-tables.tables l c.put_clashes.new.spoiled.keys c.in_ok-made.made) same c.in_ok-made.ensures)
