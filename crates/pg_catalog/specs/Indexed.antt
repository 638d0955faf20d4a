-- What a growing catalog keeps beside the catalog so far.
use Rattle.std.specs.Prelude.{◌≡◌, ℕ, List, map}
use Rattle.pg_base.specs.Catalog.{CatalogParts, IsValidCatalog}
use Rattle.pg_catalog.specs.Names.{enum_names, table_names, column_names}

-- the catalog is valid, and the lists of names are those of its enums, of its tables, and of each table's columns
pub record IsIndexed (c : CatalogParts) (of_enums of_tables : List (List ℕ)) (of_columns : List (List (List ℕ)))
    : Type 0 where
  pub valid : IsValidCatalog c
  pub enums : of_enums ≡ enum_names c
  pub tables : of_tables ≡ table_names c
  pub columns : of_columns ≡ map column_names c.tables
