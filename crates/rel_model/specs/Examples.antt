-- Examples of tables: some that are valid for a catalog, and some that aren't.
use Rattle.std.specs.Prelude.{ℕ, ℤ, pos, neg_ℤ, Bool, true, false, List, [], ◌∷◌, None, codes}
use Rattle.pg_base.specs.Catalog.{CatalogParts}
use Rattle.pg_base.specs.Tags.{no_tags}
use Rattle.pg_base.specs.declared.cell.Cell.{Cell}
use Rattle.pg_base.specs.declared.cell.Cell.TheVariants.{Null, Int, Bool as Truth, Text, EnumCase}
use Rattle.pg_base.specs.declared.kind.Kind.{Kind}
use Rattle.pg_base.specs.declared.kind.Kind.TheVariants as kind
use Rattle.pg_base.specs.declared.enum_def.EnumDef.{EnumDef}
use Rattle.pg_base.specs.declared.table_def.ColumnDef.{ColumnDef}
use Rattle.pg_base.specs.declared.table_def.KeyDef.{KeyDef}
use Rattle.pg_base.specs.declared.table_def.LinkDef.{LinkDef}
use Rattle.pg_base.specs.declared.table_def.TableDef.{TableDef}
use Rattle.rel_model.specs.declared.tables.Row.{Row}
use Rattle.rel_model.specs.declared.tables.Tables.{Tables}

-- ---- a catalog: an enum, towns with two keys, and homes that refer to the towns' longer key in another order

abbrev column : List ℕ → Kind → Bool → Bool → ColumnDef
column name k not_null identity =
    record { name = name; kind = k; not_null = not_null; default = None; identity = identity; tags = no_tags }

abbrev key : List ℕ → List ℕ → Bool → KeyDef
key name columns primary = record { name = name; columns = columns; primary = primary; tags = no_tags }

abbrev mood : EnumDef
mood = record { name = codes "mood"; cases = codes "sad" ∷ codes "glad" ∷ []; tags = no_tags }

abbrev town : TableDef
town = record {
  name = codes "town";
  columns =
      column (codes "id") kind.Int true true
      ∷ column (codes "code") (kind.Varchar 2) false false
      ∷ column (codes "feel") (kind.Enum 0) false false
      ∷ [];
  keys =
      key (codes "town_pkey") (0 ∷ []) true
      ∷ key (codes "town_both") (0 ∷ 1 ∷ []) false
      ∷ key (codes "town_code") (1 ∷ []) false
      ∷ [];
  links = [];
  tags = no_tags;
}

abbrev to_town : LinkDef
to_town = record {
  name = codes "home_town";
  columns = 1 ∷ 2 ∷ [];
  target = 0;
  target_columns = 1 ∷ 0 ∷ [];
  tags = no_tags;
}

abbrev home : TableDef
home = record {
  name = codes "home";
  columns =
      column (codes "id") kind.BigInt false false
      ∷ column (codes "code") kind.Text false false
      ∷ column (codes "town") kind.Int false false
      ∷ [];
  keys = [];
  links = to_town ∷ [];
  tags = no_tags;
}

abbrev pub catalog : CatalogParts
catalog = record { enums = mood ∷ []; tables = town ∷ home ∷ [] }

-- ---- rows

abbrev row : ℕ → Cell → Cell → Cell → Row
row number first second third = record { number = number; cells = first ∷ second ∷ third ∷ [] }

abbrev counted : ℤ → List ℤ
counted last = last ∷ pos 0 ∷ pos 0 ∷ []

-- towns and homes with these rows, where the next town has a number and the towns' identity a last value
abbrev tables_of : List Row → ℕ → ℤ → List Row → Tables
tables_of towns next last homes = record {
  lists =
      record { rows = towns; next_number = next; counters = counted last }
      ∷ record { rows = homes; next_number = 9; counters = counted (pos 0) }
      ∷ [];
}

-- towns alone
abbrev towns_of : List Row → Tables
towns_of towns = tables_of towns 9 (pos 2) []

abbrev some_town : Row
some_town = row 1 (Int (pos 1)) (Text (codes "ab")) (EnumCase 1)

-- ---- valid

abbrev pub no_rows : Tables
no_rows = tables_of [] 1 (pos 0) []

-- numbers with a gap, an enum's last case, nulls, a link in another order than its key's, and one with a null
abbrev pub linked : Tables
linked =
    tables_of (some_town ∷ row 3 (Int (pos 2)) Null Null ∷ []) 4 (pos 2)
    (row 1 (Int (pos 7)) (Text (codes "ab")) (Int (pos 1)) ∷ row 2 (Int (pos 8)) (Text (codes "zz")) Null ∷ [])

-- two characters in four bytes
abbrev pub two_characters : Tables
two_characters = towns_of (row 1 (Int (pos 1)) (Text (195 ∷ 169 ∷ 195 ∷ 169 ∷ [])) Null ∷ [])

-- two rows that have a null in a key
abbrev pub nulls_in_key : Tables
nulls_in_key = towns_of (row 1 (Int (pos 1)) Null Null ∷ row 2 (Int (pos 2)) Null Null ∷ [])

-- the greatest identity value of an integer column, and the last row number
abbrev pub greatest_counts : Tables
greatest_counts =
    tables_of (row 18446744073709551614 (Int (pos 1)) Null Null ∷ []) 18446744073709551615 (pos 2147483647) []

-- ---- not valid

abbrev pub null_where_none_may_be : Tables
null_where_none_may_be = towns_of (row 1 Null Null Null ∷ [])

abbrev pub three_characters : Tables
three_characters = towns_of (row 1 (Int (pos 1)) (Text (codes "abc")) Null ∷ [])

abbrev pub no_text : Tables
no_text = towns_of (row 1 (Int (pos 1)) (Text (255 ∷ [])) Null ∷ [])

abbrev pub case_past_the_last : Tables
case_past_the_last = towns_of (row 1 (Int (pos 1)) Null (EnumCase 2) ∷ [])

abbrev pub truth_as_integer : Tables
truth_as_integer = towns_of (row 1 (Truth true) Null Null ∷ [])

abbrev pub equal_keys : Tables
equal_keys = towns_of (row 1 (Int (pos 1)) Null Null ∷ row 2 (Int (pos 1)) Null Null ∷ [])

abbrev pub link_to_no_row : Tables
link_to_no_row =
    tables_of (some_town ∷ []) 2 (pos 1) (row 1 (Int (pos 7)) (Text (codes "ab")) (Int (pos 2)) ∷ [])

abbrev pub numbers_that_fall : Tables
numbers_that_fall = towns_of (row 2 (Int (pos 1)) Null Null ∷ row 1 (Int (pos 2)) Null Null ∷ [])

abbrev pub next_number_taken : Tables
next_number_taken = tables_of (some_town ∷ []) 1 (pos 1) []

abbrev pub next_number_past_the_greatest : Tables
next_number_past_the_greatest = tables_of [] 18446744073709551616 (pos 0) []

abbrev pub counter_below_0 : Tables
counter_below_0 = tables_of [] 1 (neg_ℤ (pos 1)) []

abbrev pub counter_past_the_greatest : Tables
counter_past_the_greatest = tables_of [] 1 (pos 2147483648) []

abbrev pub no_homes : Tables
no_homes = record { lists = record { rows = []; next_number = 1; counters = counted (pos 0) } ∷ [] }
