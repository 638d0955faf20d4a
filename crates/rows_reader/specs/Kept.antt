-- What is kept beside the tables so far.
use Rattle.std.specs.Prelude.{◌≡◌, ℕ, ◌+◌, List, [], ◌∷◌, ◌++◌, length, if◌then◌else◌}
use Rattle.pg_base.specs.Lists.{Each, EachPair}
use Rattle.pg_base.specs.Catalog.{CatalogParts}
use Rattle.pg_base.specs.declared.cell.Cell.{Cell}
use Rattle.pg_base.specs.declared.table_def.TableDef.{TableDef}
use Rattle.rel_model.specs.declared.tables.Row.{Row}
use Rattle.rel_model.specs.declared.tables.TableRows.{TableRows}
use Rattle.rel_model.specs.Tables.{cells_at}
use Rattle.rows_reader.specs.declared.key.KeyCells.{KeyCells}
use Rattle.rows_reader.specs.declared.key.KeyCells.TheVariants as cells_of
use Rattle.rows_reader.specs.Keys.{stands, keys_at}

-- the cells of a key
abbrev pub cells_in : KeyCells → List Cell
cells_in (cells_of.One value) = value ∷ []
cells_in (cells_of.Several cells) = cells.items

-- columns, and the cells that rows have in them
pub record Index : Type 0 where
  pub places : List ℕ
  pub keys : List (List Cell)

-- looking up in the index is looking up in the rows
abbrev pub IsIndexOf : List Row → Index → Type 0
IsIndexOf rows index = (key : List Cell) → stands index.keys key ≡ stands (keys_at index.places rows) key

-- the index with the cells of one row more
abbrev pub with_key : List (List Cell) → List Cell → List (List Cell)
with_key keys key = if stands keys key then keys else keys ++ key ∷ []

abbrev pub grown : List Cell → Index → Index
grown cells index =
    record { places = index.places; keys = with_key index.keys (cells_at index.places cells) }

-- a list so far of a table of this width, with its indexes
pub record IsKept (list : TableRows) (kept : List Index) : Type 0 where
  pub next : list.next_number ≡ length list.rows + 1
  pub indexes : Each (IsIndexOf list.rows) kept

abbrev pub HasCounters : TableDef → TableRows → Type 0
HasCounters t list = length list.counters ≡ length t.columns

-- the lists so far of a catalog's tables, with their indexes
pub record AreKept (c : CatalogParts) (lists : List TableRows) (indexes : List (List Index)) : Type 0 where
  pub counters : EachPair HasCounters c.tables lists
  pub kept : EachPair IsKept lists indexes
