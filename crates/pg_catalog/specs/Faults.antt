-- The faults of a part in the catalog so far: one definition for each number, which gives the name at fault.
use Rattle.std.specs.Prelude.{ℕ, ◌+◌, Bool, false, not, ◌||◌, ◌&&◌, ◌==◌, nat_le, nat_lt, is_some, List, ◌∷◌, map, length, Option, None, Some, if◌then◌else◌, find, option_and_then, option_map}
use Rattle.std.specs.List.{list_any}
use Rattle.std.specs.Option.{option_or}
use Rattle.pg_base.specs.Limits.{most_tables, most_enums, most_columns, most_cases, most_constraints, most_key_columns}
use Rattle.pg_base.specs.Catalog.{CatalogParts, names, constraint_names}
use Rattle.pg_base.specs.declared.pos.Pos.{Pos}
use Rattle.pg_base.specs.declared.table_def.TableDef.{TableDef}
use Rattle.pg_catalog.specs.declared.fault.CatalogFault.{CatalogFault}
use Rattle.pg_catalog.specs.declared.part.Part.{Part}
use Rattle.pg_catalog.specs.declared.part.Part.TheVariants as part
use Rattle.pg_catalog.specs.declared.part.EnumPart.{EnumPart}
use Rattle.pg_catalog.specs.declared.part.TablePart.{TablePart}
use Rattle.pg_catalog.specs.declared.part.LinkPart.{LinkPart}
use Rattle.pg_catalog.specs.Names.{column_names, table_of, stands, first_double, is_long, places_of}
use Rattle.pg_catalog.specs.Columns.{is_sound}
use Rattle.pg_catalog.specs.Constraints.{key_name, link_name, target_places, are_key, are_comparable}

-- the name, where the test holds
abbrev pub when : Bool → List ℕ → Option (List ℕ)
when test name = if test then Some name else None

-- 1: a table or an enum has the name already
abbrev pub double_name : CatalogParts → Part → Option (List ℕ)
double_name c (part.Enum e) = when (stands (names c) e.name) e.name
double_name c (part.Table t) = when (stands (names c) t.name) t.name
double_name c (part.Key k) = None
double_name c (part.Link l) = None
double_name c (part.Comment m) = None

-- the first name that the list has twice, if there is a list
abbrev pub double_in : Option (List (List ℕ)) → Option (List ℕ)
double_in names = option_and_then first_double names

-- 2: a table has two columns of one name, or a key or a link names one column twice
abbrev pub double_column : CatalogParts → Part → Option (List ℕ)
double_column c (part.Enum e) = None
double_column c (part.Table t) = first_double (map (λ column. column.name) t.columns)
double_column c (part.Key k) = first_double k.columns
double_column c (part.Link l) = option_or (first_double l.columns) (double_in l.target_columns)
double_column c (part.Comment m) = None

-- no table has the name
abbrev pub unknown : CatalogParts → List ℕ → Option (List ℕ)
unknown c name = when (not (is_some (table_of c name))) name

-- 3: the table of a key or a link stands nowhere before, or the target of a link
abbrev pub unknown_table : CatalogParts → Part → Option (List ℕ)
unknown_table c (part.Enum e) = None
unknown_table c (part.Table t) = None
unknown_table c (part.Key k) = unknown c k.table
unknown_table c (part.Link l) = option_or (unknown c l.table) (unknown c l.target)
unknown_table c (part.Comment m) = None

-- the first of the columns that the table hasn't
abbrev pub first_unknown : List (List ℕ) → TableDef → Option (List ℕ)
first_unknown columns t = find (λ column. not (stands (column_names t) column)) columns

-- the first of the columns that the table of the name hasn't, if there is such a table
abbrev pub unknown_of : CatalogParts → List ℕ → List (List ℕ) → Option (List ℕ)
unknown_of c table columns = option_and_then (first_unknown columns) (table_of c table)

-- 4: a key or a link names a column that its table hasn't, or that the target hasn't
abbrev pub unknown_column : CatalogParts → Part → Option (List ℕ)
unknown_column c (part.Enum e) = None
unknown_column c (part.Table t) = None
unknown_column c (part.Key k) = unknown_of c k.table k.columns
unknown_column c (part.Link l) =
    option_or (unknown_of c l.table l.columns) (option_and_then (unknown_of c l.target) l.target_columns)
unknown_column c (part.Comment m) = None

-- the key would be a second primary one
abbrev pub is_second : Bool → TableDef → Bool
is_second primary t = primary && list_any (λ key. key.primary) t.keys

-- 5: the table has a primary key already
abbrev pub second_primary : CatalogParts → Part → Option (List ℕ)
second_primary c (part.Enum e) = None
second_primary c (part.Table t) = None
second_primary c (part.Key k) =
    option_and_then (λ t. when (is_second k.primary t) k.table) (table_of c k.table)
second_primary c (part.Link l) = None
second_primary c (part.Comment m) = None

-- as many columns as these places, which are those of a key
abbrev pub meets_key : ℕ → TableDef → Option (List ℕ) → Bool
meets_key count target None = false
meets_key count target (Some places) = (count == length places) && are_key target places

-- the columns that the link names, or those of the primary key, are those of a key of the target
abbrev pub finds_key : LinkPart → TableDef → Bool
finds_key l target = meets_key (length l.columns) target (target_places target l.target_columns)

-- 6: the referenced columns are those of no primary or unique key, in any order, or are more or fewer than the link's
abbrev pub no_key : CatalogParts → Part → Option (List ℕ)
no_key c (part.Enum e) = None
no_key c (part.Table t) = None
no_key c (part.Key k) = None
no_key c (part.Link l) =
    option_and_then (λ target. when (not (finds_key l target)) (link_name l)) (table_of c l.target)
no_key c (part.Comment m) = None

-- each column's kind is that of its target
abbrev pub meets_kinds : TableDef → TableDef → LinkPart → Option (List ℕ) → Bool
meets_kinds t target l None = false
meets_kinds t target l (Some places) = are_comparable t target (places_of (column_names t) l.columns) places

abbrev pub finds_kinds : LinkPart → TableDef → TableDef → Bool
finds_kinds l t target = meets_kinds t target l (target_places target l.target_columns)

-- 7: a column's kind, DEFAULT and identity don't go together, or a link's column and its target differ in kind
abbrev pub bad_type : CatalogParts → Part → Option (List ℕ)
bad_type c (part.Enum e) = None
bad_type c (part.Table t) =
    option_map (λ column. column.name) (find (λ column. not (is_sound c.enums column)) t.columns)
bad_type c (part.Key k) = None
bad_type c (part.Link l) =
    option_and_then (λ t.
    option_and_then (λ target. when (not (finds_kinds l t target)) (link_name l)) (table_of c l.target))
    (table_of c l.table)
bad_type c (part.Comment m) = None

-- a key or a link of the table has the name already
abbrev pub clash : CatalogParts → List ℕ → List ℕ → Option (List ℕ)
clash c table name = option_and_then (λ t. when (stands (constraint_names t) name) name) (table_of c table)

-- 8: a key or a link of the table has the name already
abbrev pub double_constraint : CatalogParts → Part → Option (List ℕ)
double_constraint c (part.Enum e) = None
double_constraint c (part.Table t) = None
double_constraint c (part.Key k) = clash c k.table (key_name k)
double_constraint c (part.Link l) = clash c l.table (link_name l)
double_constraint c (part.Comment m) = None

-- 9: the name of what is added is longer than 63 bytes, or that of a column of a table
abbrev pub long_name : CatalogParts → Part → Option (List ℕ)
long_name c (part.Enum e) = when (is_long e.name) e.name
long_name c (part.Table t) = find is_long (t.name ∷ map (λ column. column.name) t.columns)
long_name c (part.Key k) = when (is_long (key_name k)) (key_name k)
long_name c (part.Link l) = when (is_long (link_name l)) (link_name l)
long_name c (part.Comment m) = None

-- a key or a link more than the table may have, or more columns than those may have
abbrev pub is_past_constraints : TableDef → List (List ℕ) → Bool
is_past_constraints t columns =
    nat_le most_constraints (length t.keys + length t.links) || nat_lt most_key_columns (length columns)

abbrev pub past_constraints : CatalogParts → List ℕ → List (List ℕ) → Option (List ℕ)
past_constraints c table columns = option_and_then (λ t. when (is_past_constraints t columns) table) (table_of c table)

-- an enum more than there may be, or more cases than one may have
abbrev pub is_past_enums : CatalogParts → EnumPart → Bool
is_past_enums c e = nat_le most_enums (length c.enums) || nat_lt most_cases (length e.cases)

-- a table more than there may be, or more columns than one may have
abbrev pub is_past_tables : CatalogParts → TablePart → Bool
is_past_tables c t = nat_le most_tables (length c.tables) || nat_lt most_columns (length t.columns)

-- 10: a limit of tables, enums, columns, cases, constraints or columns of a constraint is passed
abbrev pub past_limit : CatalogParts → Part → Option (List ℕ)
past_limit c (part.Enum e) = when (is_past_enums c e) e.name
past_limit c (part.Table t) = when (is_past_tables c t) t.name
past_limit c (part.Key k) = past_constraints c k.table k.columns
past_limit c (part.Link l) = past_constraints c l.table l.columns
past_limit c (part.Comment m) = None

abbrev pub pos_of : Part → Pos
pos_of (part.Enum e) = e.pos
pos_of (part.Table t) = t.pos
pos_of (part.Key k) = k.pos
pos_of (part.Link l) = l.pos
pos_of (part.Comment m) = m.pos

-- the fault of the number at the name, else the next
abbrev pub else_next : Pos → ℕ → Option (List ℕ) → Option CatalogFault → Option CatalogFault
else_next place which None next = next
else_next place which (Some name) next = Some (record { which = which; pos = place; name = name })

-- the fault of the part, of the least number
unfoldable pub fault_of : CatalogParts → Part → Option CatalogFault
fault_of c p =
    else_next (pos_of p) 1 (double_name c p) (else_next (pos_of p) 2 (double_column c p) (
    else_next (pos_of p) 3 (unknown_table c p) (else_next (pos_of p) 4 (unknown_column c p) (
    else_next (pos_of p) 5 (second_primary c p) (else_next (pos_of p) 6 (no_key c p) (
    else_next (pos_of p) 7 (bad_type c p) (else_next (pos_of p) 8 (double_constraint c p) (
    else_next (pos_of p) 9 (long_name c p) (else_next (pos_of p) 10 (past_limit c p) None)))))))))
