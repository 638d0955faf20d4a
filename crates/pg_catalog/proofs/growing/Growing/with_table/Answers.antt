use Rattle.std.proofs.Common.{rules}
use Rattle.pg_catalog.proofs.Indexes.{table_free, columns_differ, with_table, table_added}
use Rattle.pg_catalog.proofs.growing.Growing.with_table.Goals as goal

pub of-requires : goal.of-requires
of-requires c = columns_differ _ _ c.self.view_is _ _ _ c.self.invariant c.args.part.now c.requires c.as_slice-4.result.now (search rules)

pub push-requires : goal.push-requires
push-requires c = table_free _ _ c.self.view_is _ _ _ c.self.invariant c.args.part.now c.requires

pub indexed-requires : goal.indexed-requires
indexed-requires c =
    with_table _ _ c.self.view_is _ _ _ c.self.invariant c.args.part.now (record { name = c.know_text.ensures; columns = search rules }) c.requires _ (search rules) _ (search rules) _ (search rules)

pub returns : goal.returns
returns c = table_added _ _ c.self.view_is _ _ _ c.self.invariant c.args.part.now _ (search rules) c.indexed.result c.indexed.ensures
