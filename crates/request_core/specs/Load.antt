-- What a script gives: a catalog with its schema, and the opening rows; or its first fault, that of the script before
-- that of the schema, and that before those of the rows.
use Rattle.std.specs.Prelude.{◌≡◌, ℕ, List, Option, Some, None, Ok, Err, ⊤}
use Rattle.pg_base.specs.Base.{BaseParts}
use Rattle.pg_base.specs.SchemaOf.{schema_of}
use Rattle.pg_base.specs.SchemaFaults.{build_fault}
use Rattle.pg_base.specs.Lists.{Each}
use Rattle.pg_base.specs.declared.build_fault.BuildFault.{BuildFault}
use Rattle.rel_model.specs.Tables.{AreValidTables}
use Rattle.rel_model.specs.declared.tables.Tables.{Tables}
use Rattle.ddl_reader.specs.declared.script.Script.{Script}
use Rattle.ddl_reader.specs.Script.{IsScript, IsScriptFault}
use Rattle.ddl_reader.specs.Rows.{IsRowOf}
use Rattle.rows_reader.specs.declared.fault.RowsFault.{RowsFault}
use Rattle.rows_reader.specs.Loaded.{rows_of}
use Rattle.request_core.specs.declared.loading.LoadFault.{LoadFault}
use Rattle.request_core.specs.declared.loading.LoadFault.TheVariants as load
use Rattle.request_core.specs.declared.loading.LoadError.{LoadError}
use Rattle.request_core.specs.declared.loading.LoadError.TheVariants as error

-- the bytes are a script that gives this
pub record Loads (bytes : List ℕ) (base : BaseParts) (tables : Tables) : Type 0 where
  pub script : Script
  pub reads : IsScript bytes script
  pub faultless : build_fault script.catalog ≡ None
  pub based : base ≡ record { catalog = script.catalog; schema = schema_of script.catalog }
  pub rows : rows_of script.catalog script.rows ≡ Ok tables

-- a base whose schema has no fault, with tables that are valid for its catalog
pub record IsUsable (base : BaseParts) (tables : Tables) : Type 0 where
  pub faultless : build_fault base.catalog ≡ None
  pub valid : AreValidTables base.catalog tables

-- the names of the schema have a fault
pub record HasSchemaFault (bytes : List ℕ) (fault : BuildFault) : Type 0 where
  pub script : Script
  pub reads : IsScript bytes script
  pub fails : build_fault script.catalog ≡ Some fault

-- a row has a fault
pub record HasRowsFault (bytes : List ℕ) (fault : RowsFault) : Type 0 where
  pub script : Script
  pub reads : IsScript bytes script
  pub faultless : build_fault script.catalog ≡ None
  pub fails : rows_of script.catalog script.rows ≡ Err fault

-- the bytes give nothing, by this fault
abbrev pub IsLoadFault : List ℕ → LoadFault → Type 0
IsLoadFault bytes (load.Script fault) = IsScriptFault bytes fault
IsLoadFault bytes (load.Schema fault) = HasSchemaFault bytes fault
IsLoadFault bytes (load.Rows fault) = HasRowsFault bytes fault

-- ---- what the parts of loading ensure

-- each row is one of the catalog
abbrev pub HasFitRows : Script → Type 0
HasFitRows script = Each (IsRowOf script.catalog) script.rows

abbrev pub IsLoadErrorOf : List ℕ → LoadError → Type 0
IsLoadErrorOf bytes (error.Fault fault) = IsLoadFault bytes fault
IsLoadErrorOf bytes error.Memory = ⊤

-- a fault of the text
abbrev pub IsTextFault : List ℕ → LoadFault → Type 0
IsTextFault bytes (load.Script fault) = IsScriptFault bytes fault
IsTextFault bytes (load.Schema fault) = ⊥
IsTextFault bytes (load.Rows fault) = ⊥

abbrev pub IsErrorOf : List ℕ → LoadError → Type 0
IsErrorOf bytes (error.Fault fault) = IsTextFault bytes fault
IsErrorOf bytes error.Memory = ⊤

-- a fault of the schema
abbrev pub IsNameFault : Script → LoadFault → Type 0
IsNameFault script (load.Script fault) = ⊥
IsNameFault script (load.Schema fault) = build_fault script.catalog ≡ Some fault
IsNameFault script (load.Rows fault) = ⊥

abbrev pub IsSchemaErrorOf : Script → LoadError → Type 0
IsSchemaErrorOf script (error.Fault fault) = IsNameFault script fault
IsSchemaErrorOf script error.Memory = ⊤

-- a fault of the rows
abbrev pub IsRowFault : Script → LoadFault → Type 0
IsRowFault script (load.Script fault) = ⊥
IsRowFault script (load.Schema fault) = ⊥
IsRowFault script (load.Rows fault) = rows_of script.catalog script.rows ≡ Err fault

abbrev pub IsRowsErrorOf : Script → LoadError → Type 0
IsRowsErrorOf script (error.Fault fault) = IsRowFault script fault
IsRowsErrorOf script error.Memory = ⊤
