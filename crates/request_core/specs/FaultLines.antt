-- The line that tells why a script gives nothing.
use Rattle.std.specs.Prelude.{ℕ, pos, List, [], ◌++◌, codes}
use Rattle.json_out.specs.JsonText.{json_int}
use Rattle.pg_base.specs.declared.pos.Pos.{Pos}
use Rattle.ddl_reader.specs.declared.fault.ScriptFault.{ScriptFault}
use Rattle.ddl_reader.specs.declared.fault.ScriptFault.TheVariants as script
use Rattle.rows_reader.specs.declared.fault.RowsFault.{RowsFault}
use Rattle.schema_build.specs.FaultLine.{fault_line}
use Rattle.request_core.specs.declared.loading.LoadFault.{LoadFault}
use Rattle.request_core.specs.declared.loading.LoadFault.TheVariants as load

abbrev pub number : ℕ → List ℕ
number n = json_int (pos n)

-- the line and the column
abbrev pub place : Pos → List ℕ
place at = codes " at " ++ (number at.line ++ (codes ":" ++ number at.column))

-- what comes before, the place, and a name
abbrev pub placed_name : List ℕ → Pos → List ℕ → List ℕ
placed_name opening at name = opening ++ (place at ++ (codes ": " ++ name))

-- what kind of fault it is, and its number
abbrev pub kind : List ℕ → ℕ → List ℕ
kind opening which = opening ++ number which

abbrev pub script_line : ScriptFault → List ℕ
script_line (script.Lexical f) = kind (codes "script fault 1.") f.which ++ place f.pos
script_line (script.Syntax at) = codes "script fault 2" ++ place at
script_line (script.UnsupportedType at name) = placed_name (codes "script fault 3") at name
script_line (script.UnsupportedClause at word) = placed_name (codes "script fault 4") at word
script_line (script.Catalog f) = kind (codes "script fault 5.") f.which ++ placed_name [] f.pos f.name
script_line (script.NothingToComment at name) = placed_name (codes "script fault 6") at name
script_line script.Memory = []

abbrev pub rows_line : RowsFault → List ℕ
rows_line f = kind (codes "rows fault ") f.which ++ placed_name [] f.pos f.name

-- without a line feed
abbrev pub line_of : LoadFault → List ℕ
line_of (load.Script f) = script_line f
line_of (load.Schema f) = fault_line f
line_of (load.Rows f) = rows_line f
