-- What the reader keeps of an INSERT once its names are looked up.
use Rattle.std.specs.Prelude.{◌≡◌, ℕ, min, List, length, Option, None, Some, option_map, slice_get}
use Rattle.pg_base.specs.Catalog.{CatalogParts}
use Rattle.pg_base.specs.declared.table_def.TableDef.{TableDef}
use Rattle.pg_catalog.specs.Names.{place_of, places_of, table_names, column_names}
use Rattle.ddl_reader.specs.declared.inserts.InsertPlace.{InsertPlace}
use Rattle.ddl_reader.specs.declared.resolving.Destination.{Destination}
use Rattle.ddl_reader.specs.declared.script.RowText.{RowText}
use Rattle.ddl_reader.specs.declared.statement.Row.{Row}
use Rattle.ddl_reader.specs.declared.statement.InsertStatement.{InsertStatement}
use Rattle.ddl_reader.specs.Compact.{below}

-- the table at the place, and the INSERT's columns there
abbrev pub destination : ℕ → TableDef → InsertStatement → Destination
destination place t i = record {
  table = place;
  width = length t.columns;
  columns = option_map (places_of (column_names t)) i.columns;
}

pub record IsDestination (c : CatalogParts) (i : InsertStatement) (d : Destination) : Type 0 where
  pub table : TableDef
  pub place : ℕ
  pub named : place_of (table_names c) i.table.text ≡ Some place
  pub stands : slice_get c.tables place ≡ Some table
  pub is : d ≡ destination place table i

-- the places of a row's columns
abbrev pub columns_by : Option (List ℕ) → ℕ → ℕ → List ℕ
columns_by None width values = below (min values width)
columns_by (Some places) width values = places

abbrev pub columns_into : Destination → ℕ → List ℕ
columns_into d values = columns_by d.columns d.width values

abbrev pub row_into : Destination → Row → RowText
row_into d row = record {
  pos = row.pos;
  table = d.table;
  columns = columns_into d (length row.cells);
  cells = row.cells;
}

-- the row goes to the destination of its INSERT's first one
pub record IsRowInto (places : List InsertPlace) (destinations : List Destination) (row : Row) (made : RowText)
    : Type 0 where
  pub place : InsertPlace
  pub destination : Destination
  pub written : slice_get places row.insert ≡ Some place
  pub stands : slice_get destinations place.first ≡ Some destination
  pub is : made ≡ row_into destination row
