use Rattle.std.proofs.Common.{rules}
use Rattle.row_tables.proofs.Parts.{with_table_is}
use Rattle.row_tables.proofs.set.TableSet.with_table.Goals as goal

pub returns : goal.returns
returns c =
    with_table_is c.args.self.now c.self.inside.tables.items _ c.args.at _ c.args.table (search rules) (search rules) c.requires.place c.requires.kept c.in_ok-tables-2.ensures
