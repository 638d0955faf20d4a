-- The rows of all tables, with the columns of the keys and the identities, and what a change makes of them.
use Rattle.std.specs.Prelude.{◌≡◌, ℕ, ◌≤◌, List, [], ◌∷◌, map, set, length, slice_get, slice_index_or, Option, None, Some}
use Rattle.pg_base.specs.declared.cell.Cell.{Cell}
use Rattle.pg_base.specs.declared.table_def.TableDef.{TableDef}
use Rattle.pg_base.specs.Lists.{Each, EachPair}
use Rattle.pg_base.specs.Catalog.{CatalogParts}
use Rattle.rel_model.specs.declared.tables.Row.{Row}
use Rattle.rel_model.specs.declared.tables.TableRows.{TableRows}
use Rattle.rel_model.specs.declared.tables.Tables.{Tables}
use Rattle.rel_model.specs.Tables.{AreNumbered, IsUniqueIn}
use Rattle.row_tables.specs.declared.columns.KeptColumns.{KeptColumns}
use Rattle.row_tables.specs.Rows.{row_by, put, left_out, next_above, all_raised}

-- one table
pub record TableParts : Type 0 where
  pub list : TableRows
  pub kept : KeptColumns

-- all tables, and what is kept of the catalog for each
pub record SetParts : Type 0 where
  pub tables : Tables
  pub kept : List KeptColumns

-- what is kept of a table of the catalog
abbrev pub kept_columns : TableDef → KeptColumns
kept_columns t = record { keys = map (λ k. k.columns) t.keys; identities = map (λ c. c.identity) t.columns }

-- the set of these tables and the catalog
abbrev pub set_of : CatalogParts → Tables → SetParts
set_of c tables = record { tables = tables; kept = map kept_columns c.tables }

-- lists with what is kept of their tables
abbrev pub parts_of : List TableDef → List TableRows → List TableParts
parts_of (t ∷ ts) (list ∷ lists) = record { list = list; kept = kept_columns t } ∷ parts_of ts lists
parts_of _ _ = []

-- the set is one of this catalog
abbrev pub IsSetOf : CatalogParts → SetParts → Type 0
IsSetOf c s = s.kept ≡ map kept_columns c.tables

-- a list of rows with the numbers, columns and keys of a table
pub record IsListOf (t : TableDef) (list : TableRows) : Type 0 where
  pub next : 1 ≤ list.next_number
  pub numbers : AreNumbered 1 list.next_number list.rows
  pub counters : length list.counters ≡ length t.columns
  pub cells : Each (λ r. length r.cells ≡ length t.columns) list.rows
  pub keys : Each (λ k. IsUniqueIn list.rows k.columns) t.keys

-- one list for each table of the catalog
abbrev pub AreListsOf : CatalogParts → Tables → Type 0
AreListsOf c tables = EachPair IsListOf c.tables tables.lists

-- a table of a set, an empty one where there is none
abbrev pub list_at : SetParts → ℕ → TableRows
list_at s table = slice_index_or s.tables.lists table (record { rows = []; next_number = 1; counters = [] })

abbrev pub kept_at : SetParts → ℕ → KeptColumns
kept_at s table = slice_index_or s.kept table (record { keys = []; identities = [] })

-- the columns of a key, none where there is no such key
abbrev pub key_at : KeptColumns → ℕ → List ℕ
key_at kept key = slice_index_or kept.keys key []

abbrev pub found_with : Option (List ℕ) → List Cell → List Row → Option Row
found_with None cells rows = None
found_with (Some places) cells rows = row_by places cells rows

-- the row of a table with these cells in a key's columns
abbrev pub row_with_key : SetParts → ℕ → ℕ → List Cell → Option Row
row_with_key s table key cells = found_with (slice_get (kept_at s table).keys key) cells (list_at s table).rows

-- a table with a row in place of the one with its number, or last
abbrev pub list_with : KeptColumns → Row → TableRows → TableRows
list_with kept row list = record {
  rows = put row list.rows;
  next_number = next_above list.next_number row.number;
  counters = all_raised kept.identities list.counters row.cells;
}

-- a table without the row of a number
abbrev pub list_without : ℕ → TableRows → TableRows
list_without number list = record {
  rows = left_out number list.rows;
  next_number = list.next_number;
  counters = list.counters;
}

-- the tables with one list in another's place
abbrev pub tables_with : SetParts → ℕ → TableRows → Tables
tables_with s table list = record { lists = set s.tables.lists table list }

-- what a table keeps true
pub record IsKept (p : TableParts) : Type 0 where
  pub next : 1 ≤ p.list.next_number
  pub numbers : AreNumbered 1 p.list.next_number p.list.rows
  pub counters : length p.list.counters ≡ length p.kept.identities
