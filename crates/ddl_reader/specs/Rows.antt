-- Rows as they are written, over a catalog.
use Rattle.std.specs.Prelude.{◌≡◌, ◌<◌, length, Some, slice_get}
use Rattle.pg_base.specs.Lists.{Each, AreDistinct}
use Rattle.pg_base.specs.Catalog.{CatalogParts}
use Rattle.pg_base.specs.declared.table_def.TableDef.{TableDef}
use Rattle.ddl_reader.specs.declared.script.RowText.{RowText}

-- the row's table and columns are those of the catalog, and it names no column twice
pub record IsRowOf (c : CatalogParts) (row : RowText) : Type 0 where
  pub table : TableDef
  pub stands : slice_get c.tables row.table ≡ Some table
  pub columns : Each (λ at. at < length table.columns) row.columns
  pub distinct : AreDistinct row.columns
