use Rattle.std.proofs.Common.{sym, subst}
use Rattle.pg_base.specs.Catalog.{CatalogParts}
use Rattle.pg_base.specs.Lists.{Each}
use Rattle.ddl_reader.specs.Rows.{IsRowOf}
use Rattle.ddl_reader.proofs.ResolvedRows.{rows_of}
use Rattle.ddl_reader.proofs.reading.script_of.Goals as goal

pub returns-clause-rows : goal.returns-clause-rows
returns-clause-rows c =
    let made = c.in_ok-made in
    subst (λ (d : CatalogParts). Each (IsRowOf d) made.made) (sym c.finish.ensures)
    (rows_of c.args.catalog c.args.inserts.now made.ensures.fault c.args.rows made.made made.ensures.rows)
