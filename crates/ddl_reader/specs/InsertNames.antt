-- The names of INSERTs, looked up in the whole catalog.
use Rattle.std.specs.Prelude.{ℕ, not, List, [], ◌∷◌, Option, Some, None, option_map, find}
use Rattle.std.specs.Option.{option_or}
use Rattle.pg_base.specs.Catalog.{CatalogParts}
use Rattle.pg_base.specs.declared.table_def.TableDef.{TableDef}
use Rattle.pg_catalog.specs.Names.{table_of, column_names, stands, first_double}
use Rattle.ddl_reader.specs.declared.fault.ScriptFault.{ScriptFault}
use Rattle.ddl_reader.specs.declared.fault.ScriptFault.TheVariants as fault
use Rattle.ddl_reader.specs.declared.statement.InsertStatement.{InsertStatement}

abbrev pub named_columns : Option (List (List ℕ)) → List (List ℕ)
named_columns None = []
named_columns (Some names) = names

abbrev pub columns_of : InsertStatement → List (List ℕ)
columns_of i = named_columns i.columns

-- a fault of the catalog at the INSERT's table
abbrev pub insert_fault : ℕ → InsertStatement → List ℕ → ScriptFault
insert_fault which i name = fault.Catalog (record { which = which; pos = i.table.pos; name = name })

-- 2: a column is named twice
abbrev pub double_column : InsertStatement → Option ScriptFault
double_column i = option_map (insert_fault 2 i) (first_double (columns_of i))

-- 4: the table has no such column
abbrev pub unknown_column : InsertStatement → TableDef → Option ScriptFault
unknown_column i t = option_map (insert_fault 4 i) (find (λ name. not (stands (column_names t) name)) (columns_of i))

-- 3: no table has the name
abbrev pub unknown_in : InsertStatement → Option TableDef → Option ScriptFault
unknown_in i None = Some (insert_fault 3 i i.table.text)
unknown_in i (Some t) = unknown_column i t

abbrev pub unknown_name : CatalogParts → InsertStatement → Option ScriptFault
unknown_name c i = unknown_in i (table_of c i.table.text)

-- the fault of an INSERT's names, of the least number
abbrev pub names_fault : CatalogParts → InsertStatement → Option ScriptFault
names_fault c i = option_or (double_column i) (unknown_name c i)

-- the first INSERT's that has one
abbrev pub first_fault : CatalogParts → List InsertStatement → Option ScriptFault
first_fault c [] = None
first_fault c (i ∷ inserts) = option_or (names_fault c i) (first_fault c inserts)
