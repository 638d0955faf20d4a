use Rattle.std.proofs.Common.{List, map, sym, subst}
use Rattle.pg_base.specs.Lists.{AreDistinct}
use Rattle.pg_base.specs.declared.table_def.ColumnDef.{ColumnDef}
use Rattle.pg_catalog.specs.Names.{column_names}
use Rattle.ddl_reader.proofs.Apart.{Each-at}
use Rattle.ddl_reader.proofs.known.names_in.Goals as goal

pub names_of-requires : goal.names_of-requires
names_of-requires c =
    let apart = Each-at (λ t. AreDistinct (column_names t)) c.args.tables.now c.loop-table.table-index c.table-item.result c.loop-table-test.true c.table-item.is c.requires in
    subst (λ (l : List ColumnDef). AreDistinct (map (λ column. column.name) l)) (sym c.as_slice.ensures) apart
